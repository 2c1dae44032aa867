use Rattle.std.proofs.Common.{◌≡◌, arith, ap, sym, ◌∙◌, subst, List, ℕ, ◌+◌, ◌-◌, ◌*◌, ◌/◌, ◌++◌, take, drop, length}
use Rattle.scan_bits.specs.Words.{bits_of, number_of_bytes, packed, unpacked}
use Rattle.xvc_frame.specs.Messages.{IsFramed}
use Rattle.xvc_frame.specs.Messages.Message.{Shift}
use Rattle.xvc_frame.specs.Frames.{HasRoom, FrameState, tms_bits, tdi_bits, reply_bytes, replaced}
use Rattle.xvc_frame.proofs.Rooms.{restored}
use Rattle.xvc_frame.proofs.Replies.{spare_room, spare_framed, spare_reply}
use Rattle.xvc_frame.proofs.frame.XvcFrame.clear_spare.Goals as goal

pub invariant_of-self : goal.invariant_of-self
invariant_of-self c =
    let shift = rw (← c.self.view_is) at c.requires in
    let start = c.self.inside.count / 2 + 5 in
    let cycles = c.number_at-cycles.result in
    let same : length c.write_bits.new.bytes ≡ length c.self.inside.bytes.items = omega (arith, ap length c.deref_mut.ensures.value) in
    let kept : take c.self.inside.bytes.len (c.write_bits.new.bytes ++ drop (length c.write_bits.new.bytes) c.self.inside.bytes.items) ≡ c.write_bits.new.bytes
    = restored c.write_bits.new.bytes c.self.inside.bytes.items c.deref_mut.result.now c.self.inside.bytes.len c.write_bits.auto.bytes c.deref_mut.ensures.value c.deref_mut.ensures.len in
    subst (λ (s : List ℕ). HasRoom c.self.inside.vector s c.self.inside.count) (sym kept)
    (spare_room c.self.inside.vector c.self.inside.count c.self.inside.bytes.items c.self.invariant shift c.write_bits.new.bytes cycles
    (c.number_at-cycles.ensures ∙ ap (λ (b : List ℕ). number_of_bytes (take 4 (drop 6 b))) c.deref.ensures.value) same
    (c.write_bits.ensures.bits ∙ ap (λ (b : List ℕ). replaced (unpacked b) (8 * start + cycles) (bits_of (8 * (c.self.inside.count - start) - cycles) 0)) c.deref_mut.ensures.value)
    (c.write_bits.ensures.before ∙ ap (take ((8 * start + cycles) / 8)) c.deref_mut.ensures.value))

pub returns-clause-held : goal.returns-clause-held
returns-clause-held c =
    let shift = rw (← c.self.view_is) at c.requires in
    let start = c.self.inside.count / 2 + 5 in
    let cycles = c.number_at-cycles.result in
    let same : length c.write_bits.new.bytes ≡ length c.self.inside.bytes.items = omega (arith, ap length c.deref_mut.ensures.value) in
    let kept : take c.self.inside.bytes.len (c.write_bits.new.bytes ++ drop (length c.write_bits.new.bytes) c.self.inside.bytes.items) ≡ c.write_bits.new.bytes
    = restored c.write_bits.new.bytes c.self.inside.bytes.items c.deref_mut.result.now c.self.inside.bytes.len c.write_bits.auto.bytes c.deref_mut.ensures.value c.deref_mut.ensures.len in
    subst (λ (f : FrameState). IsFramed f.vector (Shift (tms_bits f) (tdi_bits f)) (take c.self.inside.count (take c.self.inside.bytes.len (c.write_bits.new.bytes ++ drop (length c.write_bits.new.bytes) c.self.inside.bytes.items)))) c.self.view_is
    (subst (λ (s : List ℕ). IsFramed c.self.inside.vector (Shift (tms_bits (record { vector = c.self.inside.vector; held = take c.self.inside.count c.self.inside.bytes.items }))
    (tdi_bits (record { vector = c.self.inside.vector; held = take c.self.inside.count c.self.inside.bytes.items }))) (take c.self.inside.count s)) (sym kept)
    (spare_framed c.self.inside.vector c.self.inside.count c.self.inside.bytes.items c.self.invariant shift c.write_bits.new.bytes cycles
    (c.number_at-cycles.ensures ∙ ap (λ (b : List ℕ). number_of_bytes (take 4 (drop 6 b))) c.deref.ensures.value) same
    (c.write_bits.ensures.bits ∙ ap (λ (b : List ℕ). replaced (unpacked b) (8 * start + cycles) (bits_of (8 * (c.self.inside.count - start) - cycles) 0)) c.deref_mut.ensures.value)
    (c.write_bits.ensures.before ∙ ap (take ((8 * start + cycles) / 8)) c.deref_mut.ensures.value)))

pub returns-clause-reply : goal.returns-clause-reply
returns-clause-reply c =
    let shift = rw (← c.self.view_is) at c.requires in
    let start = c.self.inside.count / 2 + 5 in
    let cycles = c.number_at-cycles.result in
    let same : length c.write_bits.new.bytes ≡ length c.self.inside.bytes.items = omega (arith, ap length c.deref_mut.ensures.value) in
    let kept : take c.self.inside.bytes.len (c.write_bits.new.bytes ++ drop (length c.write_bits.new.bytes) c.self.inside.bytes.items) ≡ c.write_bits.new.bytes
    = restored c.write_bits.new.bytes c.self.inside.bytes.items c.deref_mut.result.now c.self.inside.bytes.len c.write_bits.auto.bytes c.deref_mut.ensures.value c.deref_mut.ensures.len in
    ap (λ (s : List ℕ). reply_bytes (record { vector = c.self.inside.vector; held = take c.self.inside.count s })) kept
    ∙ spare_reply c.self.inside.vector c.self.inside.count c.self.inside.bytes.items c.self.invariant shift c.write_bits.new.bytes cycles
    (c.number_at-cycles.ensures ∙ ap (λ (b : List ℕ). number_of_bytes (take 4 (drop 6 b))) c.deref.ensures.value) same
    (c.write_bits.ensures.bits ∙ ap (λ (b : List ℕ). replaced (unpacked b) (8 * start + cycles) (bits_of (8 * (c.self.inside.count - start) - cycles) 0)) c.deref_mut.ensures.value)
    (c.write_bits.ensures.before ∙ ap (take ((8 * start + cycles) / 8)) c.deref_mut.ensures.value)
    c.write_bits.ensures.bytes
    ∙ ap (λ (f : FrameState). packed (tdi_bits f)) c.self.view_is
