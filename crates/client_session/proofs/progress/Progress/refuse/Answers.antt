use Rattle.std.proofs.Common.{◌≡◌, [], ap, arith, length, ◌∙◌}
use Rattle.client_session.specs.Stores.{held_unused, unused_of}
use Rattle.client_session.specs.Messaging.{frame_of}
use Rattle.client_session.proofs.Messaging.{ends_so, place_within, used_reply, xvc_unused}
use Rattle.client_session.proofs.progress.Progress.refuse.Goals as goal

pub overflow_add-place : goal.overflow_add-place
overflow_add-place c =
    let taken = c.requires.taken in
    let place = place_within c.args.self.now.vector (frame_of c.args.self.now.input).held c.args.at c.args.cause taken.told in
    let same : length (unused_of c.args.self.now.input) ≡ length (frame_of c.args.self.now.input).held = ap length (xvc_unused c.args.self.now.input taken.replied.protocol ∙ ap (λ w. held_unused w (frame_of c.args.self.now.input)) taken.work) in
    omega (arith, place, same, taken.replied.taken, taken.replied.few)

pub returns-clause-went : goal.returns-clause-went
returns-clause-went c = λ grant given turn shows.
    let taken = c.requires.taken in
    ends_so c.args.self.now grant given turn taken.replied taken.work shows c.use_bytes.new.self c.args.at c.args.cause taken.told c.use_bytes.ensures.lines
    (used_reply c.use_bytes.new.self [] (c.use_bytes.ensures.lines.protocol ∙ taken.replied.protocol) c.use_bytes.ensures.work (c.use_bytes.ensures.said ∙ taken.replied.said) c.use_bytes.ensures.pending)
