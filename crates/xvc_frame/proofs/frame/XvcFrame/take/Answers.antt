use Rattle.std.proofs.Common.{◌≡◌, arith, ap, sym, ◌∙◌, subst, List, ℕ, ◌+◌, ◌++◌, take, drop, length}
use Rattle.xvc_frame.specs.Frames.{HasRoom, EndsAtFront}
use Rattle.xvc_frame.proofs.Rooms.{restored, taken_fits, taken_ends, taken_room}
use Rattle.xvc_frame.proofs.frame.XvcFrame.take.Goals as goal

pub put-requires : goal.put-requires
put-requires c =
    let wanted = rw (← c.self.view_is) at c.requires.wanted in
    omega (arith, taken_fits c.self.inside.vector c.self.inside.count c.self.inside.bytes.items c.args.piece.now c.self.invariant wanted, ap length c.deref_mut.ensures.value, c.self.invariant.room)

pub step_of-requires-clause-ends : goal.step_of-requires-clause-ends
step_of-requires-clause-ends c =
    let wanted = rw (← c.self.view_is) at c.requires.wanted in
    let open' = rw (← c.self.view_is) at c.requires.open in
    let kept : c.deref.result.now ≡ c.put.new.bytes
    = c.deref.ensures.value ∙ restored c.put.new.bytes c.self.inside.bytes.items c.deref_mut.result.now c.self.inside.bytes.len c.put.auto.bytes c.deref_mut.ensures.value c.deref_mut.ensures.len in
    let taken : take (c.self.inside.count + length c.args.piece.now) c.put.new.bytes ≡ take c.self.inside.count c.self.inside.bytes.items ++ c.args.piece.now
    = c.put.ensures.taken ∙ ap (λ (s : List ℕ). take c.self.inside.count s ++ c.args.piece.now) c.deref_mut.ensures.value in
    subst (λ (s : List ℕ). EndsAtFront c.self.inside.vector (take (c.self.inside.count + length c.args.piece.now) s)) (sym kept)
    (taken_ends c.self.inside.vector c.self.inside.count c.self.inside.bytes.items c.args.piece.now c.self.invariant open'.0 wanted c.put.new.bytes c.put.ensures.bytes taken)

pub invariant_of-self : goal.invariant_of-self
invariant_of-self c =
    let wanted = rw (← c.self.view_is) at c.requires.wanted in
    let open' = rw (← c.self.view_is) at c.requires.open in
    let kept : take c.self.inside.bytes.len (c.put.new.bytes ++ drop (length c.put.new.bytes) c.self.inside.bytes.items) ≡ c.put.new.bytes
    = restored c.put.new.bytes c.self.inside.bytes.items c.deref_mut.result.now c.self.inside.bytes.len c.put.auto.bytes c.deref_mut.ensures.value c.deref_mut.ensures.len in
    let taken : take (c.self.inside.count + length c.args.piece.now) c.put.new.bytes ≡ take c.self.inside.count c.self.inside.bytes.items ++ c.args.piece.now
    = c.put.ensures.taken ∙ ap (λ (s : List ℕ). take c.self.inside.count s ++ c.args.piece.now) c.deref_mut.ensures.value in
    subst (λ (s : List ℕ). HasRoom c.self.inside.vector s (c.self.inside.count + length c.args.piece.now)) (sym kept)
    (taken_room c.self.inside.vector c.self.inside.count c.self.inside.bytes.items c.args.piece.now c.self.invariant open'.0 wanted c.put.new.bytes c.put.ensures.bytes taken (omega (arith, ap length c.deref_mut.ensures.value)))
