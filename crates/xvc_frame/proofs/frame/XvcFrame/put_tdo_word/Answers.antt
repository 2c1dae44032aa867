use Rattle.std.proofs.Common.{◌≡◌, arith, ap, sym, ◌∙◌, subst, List, ℕ, ◌+◌, ◌*◌, ◌/◌, ◌++◌, take, drop, length}
use Rattle.scan_bits.specs.Words.{bits_of, unpacked}
use Rattle.xvc_frame.specs.Messages.{IsFramed}
use Rattle.xvc_frame.specs.Messages.Message.{Shift}
use Rattle.xvc_frame.specs.Frames.{HasRoom, FrameState, tms_bits, tdi_bits, replaced}
use Rattle.xvc_frame.proofs.Rooms.{restored}
use Rattle.xvc_frame.proofs.Replies.{put_room, put_framed}
use Rattle.xvc_frame.proofs.frame.XvcFrame.put_tdo_word.Goals as goal

pub invariant_of-self : goal.invariant_of-self
invariant_of-self c =
    let within = rw (← c.self.view_is) at c.requires.within in
    let start = 8 * (c.self.inside.count / 2 + 5) + c.args.at in
    let same : length c.write_bits.new.bytes ≡ length c.self.inside.bytes.items = omega (arith, ap length c.deref_mut.ensures.value) in
    let kept : take c.self.inside.bytes.len (c.write_bits.new.bytes ++ drop (length c.write_bits.new.bytes) c.self.inside.bytes.items) ≡ c.write_bits.new.bytes
    = restored c.write_bits.new.bytes c.self.inside.bytes.items c.deref_mut.result.now c.self.inside.bytes.len c.write_bits.auto.bytes c.deref_mut.ensures.value c.deref_mut.ensures.len in
    subst (λ (s : List ℕ). HasRoom c.self.inside.vector s c.self.inside.count) (sym kept)
    (put_room c.self.inside.vector c.self.inside.count c.self.inside.bytes.items c.self.invariant c.write_bits.new.bytes c.args.at c.args.width c.args.value c.requires.some within same
    (c.write_bits.ensures.bits ∙ ap (λ (b : List ℕ). replaced (unpacked b) start (bits_of c.args.width c.args.value)) c.deref_mut.ensures.value)
    (c.write_bits.ensures.before ∙ ap (take (start / 8)) c.deref_mut.ensures.value))

pub returns-clause-held : goal.returns-clause-held
returns-clause-held c =
    let within = rw (← c.self.view_is) at c.requires.within in
    let start = 8 * (c.self.inside.count / 2 + 5) + c.args.at in
    let same : length c.write_bits.new.bytes ≡ length c.self.inside.bytes.items = omega (arith, ap length c.deref_mut.ensures.value) in
    let kept : take c.self.inside.bytes.len (c.write_bits.new.bytes ++ drop (length c.write_bits.new.bytes) c.self.inside.bytes.items) ≡ c.write_bits.new.bytes
    = restored c.write_bits.new.bytes c.self.inside.bytes.items c.deref_mut.result.now c.self.inside.bytes.len c.write_bits.auto.bytes c.deref_mut.ensures.value c.deref_mut.ensures.len in
    subst (λ (f : FrameState). IsFramed f.vector (Shift (tms_bits f) (replaced (tdi_bits f) c.args.at (bits_of c.args.width c.args.value)))
    (take c.self.inside.count (take c.self.inside.bytes.len (c.write_bits.new.bytes ++ drop (length c.write_bits.new.bytes) c.self.inside.bytes.items)))) c.self.view_is
    (subst (λ (s : List ℕ). IsFramed c.self.inside.vector (Shift (tms_bits (record { vector = c.self.inside.vector; held = take c.self.inside.count c.self.inside.bytes.items }))
    (replaced (tdi_bits (record { vector = c.self.inside.vector; held = take c.self.inside.count c.self.inside.bytes.items })) c.args.at (bits_of c.args.width c.args.value))) (take c.self.inside.count s)) (sym kept)
    (put_framed c.self.inside.vector c.self.inside.count c.self.inside.bytes.items c.self.invariant c.write_bits.new.bytes c.args.at c.args.width c.args.value c.requires.some within same
    (c.write_bits.ensures.bits ∙ ap (λ (b : List ℕ). replaced (unpacked b) start (bits_of c.args.width c.args.value)) c.deref_mut.ensures.value)
    (c.write_bits.ensures.before ∙ ap (take (start / 8)) c.deref_mut.ensures.value)))
