use Rattle.std.proofs.Common.{ap, length, refl, subst, sym, ◌∙◌}
use Rattle.scan_bits.specs.Words.{packed}
use Rattle.xvc_frame.specs.Frames.{tdi_bits}
use Rattle.client_session.specs.declared.input.Input.TheVariants.{Xvc}
use Rattle.client_session.specs.declared.input.Work.TheVariants.{Sampled, Shifted}
use Rattle.client_session.specs.Desks.{StopsAt}
use Rattle.client_session.specs.Messaging.{frame_of}
use Rattle.client_session.proofs.Messaging.{all_left, packs, pauses}
use Rattle.client_session.proofs.progress.Progress.end_shift.Goals as goal

pub returns-in-None-clause-went : goal.returns-in-None-clause-went
returns-in-None-clause-went c = λ layout grant given turn bytes stops.
    let stopped = c.requires.stopped in
    let new = record c.args.self.now { input = Xvc (record { frame = c.clear_spare.new.self; work = Shifted }); pending = length c.tdo_bytes.result.now } in
    let reply = c.clear_spare.ensures.reply ∙ ap (λ input. packed (tdi_bits (frame_of input))) (sym c.in-Xvc.is) in
    packs layout c.args.self.now new c.args.cycles grant given turn stopped.replied stopped.unused stopped.held
    (record { tap = refl; protocol = sym stopped.replied.protocol; uses_trst = refl; vector = refl; tck = refl; trst = refl }) refl refl
    (all_left new (packed (tdi_bits (frame_of c.args.self.now.input))) reply (ap length (c.tdo_bytes.ensures ∙ reply)))
    bytes (subst (λ stop. StopsAt stop layout (frame_of c.args.self.now.input) c.args.self.now.tap c.args.cycles grant turn) c.in-None.is stops)

pub returns-in-Some-clause-went : goal.returns-in-Some-clause-went
returns-in-Some-clause-went c = λ layout grant given turn bytes stops.
    let stopped = c.requires.stopped in
    pauses layout c.args.self.now (record c.args.self.now { input = Xvc (record { frame = c.in-Xvc.messages.frame; work = Sampled c.args.cycles c.in-Some.at }) }) c.args.cycles c.in-Some.at grant given turn stopped.replied stopped.unused
    (record { tap = refl; protocol = sym stopped.replied.protocol; uses_trst = refl; vector = refl; tck = refl; trst = refl }) refl refl (sym (ap frame_of c.in-Xvc.is)) stopped.replied.pending
    bytes (subst (λ stop. StopsAt stop layout (frame_of c.args.self.now.input) c.args.self.now.tap c.args.cycles grant turn) c.in-Some.is stops)
