use Rattle.grant_table.specs.Layouts.{group_of}
use Rattle.scan_share.specs.Views.{codes_for}
use Rattle.scan_share.proofs.Scanned.{updates_rest}
use Rattle.scan_share.proofs.states.Open.update.Goals as goal

pub update_for-updated-requires-clause-open : goal.update_for-updated-requires-clause-open
update_for-updated-requires-clause-open g c = record {
  loaded = c.self.inside.line.loaded.items;
  loaded_is = rw (← c.self.view_is) at c.requires.loaded;
  open_is = c.self.invariant.1;
}

pub invariant_of-result : goal.invariant_of-result
invariant_of-result g c = (
  c.in-Ok.ensures.devices,
  updates_rest c.args.layout.now (group_of c.args.layout.now.grants c.args.grant) (codes_for c.args.layout.now c.args.grant c.args.codes.now) c.args.bits.now.bits c.self.inside.line.loaded.items
      (g.C.Cable.chain c.self.inside.line.cable) (g.C.Cable.chain c.update_for-updated.new.cable) c.self.invariant.1 c.in-Ok.ensures.updated,
)
