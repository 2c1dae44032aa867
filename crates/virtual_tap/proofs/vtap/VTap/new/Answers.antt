use Rattle.std.proofs.Common.{◌≡◌, ◌∙◌, ap, sym, arith, map}
use Rattle.chain_model.specs.Chains.{Placed}
use Rattle.grant_table.specs.Layouts.{group_of}
use Rattle.scan_share.specs.PrivateChains.{entries_at, nets_within}
use Rattle.scan_bits.specs.BitLists.{BitList}
use Rattle.scan_share.proofs.Kept.{entries_map}
use Rattle.virtual_tap.specs.Instructions.{at_power_up, parts_of}
use Rattle.virtual_tap.specs.Taps.{longest_scan}
use Rattle.virtual_tap.proofs.Keeping.{tap_powered, entries_some}
use Rattle.virtual_tap.proofs.Moving.{parts_powered, stands_new}
use Rattle.virtual_tap.proofs.vtap.VTap.new.Goals as goal

pub returns-clause-parts : goal.returns-clause-parts
returns-clause-parts c =
    ap parts_of c.in_ok-instructions.ensures.registers ∙ parts_powered (entries_at c.args.layout.now.parts c.group.result.now) ∙ ap (entries_at c.args.layout.now.parts) c.group.ensures.is

pub invariant_of-result : goal.invariant_of-result
invariant_of-result c =
    let parts = entries_at c.args.layout.now.parts c.group.result.now in
    let room : c.in_ok-register.register.room ≡ c.longest.result = ap (λ (list : BitList). list.room) c.in_ok-register.ensures in
    let most : c.longest.result ≡ longest_scan parts = c.longest.ensures.is ∙ ap (λ group. longest_scan (entries_at c.args.layout.now.parts group)) (sym c.group.ensures.is) in
    tap_powered c.args.grant parts c.in_ok-instructions.instructions c.in_ok-register.register c.in_ok-instructions.ensures.registers c.in_ok-instructions.ensures.codes c.in_ok-instructions.ensures.plans
    (entries_some c.args.layout.now.parts c.group.result.now c.group.ensures.some.0 c.group.ensures.within) (omega (arith, room, most))

pub returns-clause-powered : goal.returns-clause-powered
returns-clause-powered c boards are =
    let group = group_of c.args.layout.now.grants c.args.grant in
    let same = ap (entries_at c.args.layout.now.parts) c.group.ensures.is ∙ sym (entries_map (λ (board : Placed). board.part) boards group ∙ ap (λ all. entries_at all group) are) in
    stands_new c.in_ok-instructions.instructions (entries_at boards group) (nets_within group c.args.layout.now.nets) c.in_ok-register.register.bits
    (c.in_ok-instructions.ensures.registers ∙ ap (map at_power_up) same) c.in_ok-instructions.ensures.codes
