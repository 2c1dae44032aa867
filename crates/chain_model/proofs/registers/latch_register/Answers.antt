use Rattle.std.proofs.Common.{◌≡◌, ◌≤◌, refl, sym, ◌∙◌, true, arith, rules}
use Rattle.part_model.specs.Parts.{has_latch, numbered}
use Rattle.chain_model.specs.DataStages.{stage_bits}
use Rattle.chain_model.proofs.Latches.{latched_named, latch_length, latch_room, latches_kept, content_latched}
use Rattle.chain_model.proofs.registers.latch_register.Goals as goal

pub update_latch-requires-clause-long : goal.update_latch-requires-clause-long
update_latch-requires-clause-long c latch =
    let has : has_latch (numbered c.args.register) ≡ true = search rules in
    let le : 4 ≤ c.args.register = latched_named c.args.register has (λ e. omega (arith, e, c.if-register-eq-BOUNDARY.false)) in
    c.requires.long ∙ sym (latch_length c.args.part.now c.args.named.now c.args.register latch c.requires.latches.lengths le c.requires.there)

pub update_latch-requires-clause-room : goal.update_latch-requires-clause-room
update_latch-requires-clause-room c latch =
    let has : has_latch (numbered c.args.register) ≡ true = search rules in
    let le : 4 ≤ c.args.register = latched_named c.args.register has (λ e. omega (arith, e, c.if-register-eq-BOUNDARY.false)) in
    latch_room c.args.part.now c.args.named.now c.args.register _ latch c.requires.latches.rooms le c.requires.there c.requires.long

pub returns-else-register-eq-BOUNDARY-clause-latches : goal.returns-else-register-eq-BOUNDARY-clause-latches
returns-else-register-eq-BOUNDARY-clause-latches c =
    let has : has_latch (numbered c.args.register) ≡ true = search rules in
    let le : 4 ≤ c.args.register = latched_named c.args.register has (λ e. omega (arith, e, c.if-register-eq-BOUNDARY.false)) in
    rw (c.update_latch.ensures.latched c.args.pins.now)
    (latches_kept c.args.part.now c.args.boundary.now c.args.named.now c.args.register (stage_bits c.args.stage.now c.args.pins.now c.args.named.now) c.args.pins.now _ c.requires.latches le c.requires.there c.requires.long refl)

pub returns-else-register-eq-BOUNDARY-clause-latched : goal.returns-else-register-eq-BOUNDARY-clause-latched
returns-else-register-eq-BOUNDARY-clause-latched c captures updates =
    let has : has_latch (numbered c.args.register) ≡ true = search rules in
    let le : 4 ≤ c.args.register = latched_named c.args.register has (λ e. omega (arith, e, c.if-register-eq-BOUNDARY.false)) in
    rw (c.update_latch.ensures.latched c.args.pins.now)
    (content_latched c.args.pins.now.bits c.args.boundary.now.bits c.args.named.now captures updates c.args.register (stage_bits c.args.stage.now c.args.pins.now c.args.named.now) c.args.pins.now _ le refl)
