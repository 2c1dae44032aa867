use Rattle.std.proofs.Common.{refl}
use Rattle.scan_share.specs.PlaceMasks.{places_in}
use Rattle.scan_share.proofs.Loading.{own_loaded}
use Rattle.scan_share.proofs.states.Parked.capture.Goals as goal

pub returns-clause-told : goal.returns-clause-told
returns-clause-told g c = (
  refl,
  own_loaded c.args.layout.now c.args.grant c.args.codes.now c.members.result.now c.capture_for-captured.new.loaded.items (places_in c.mask_of.result)
      c.members.ensures.parts c.members.ensures.is c.members.ensures.rising c.members.ensures.within c.members.ensures.few c.requires.codes c.capture_for-captured.ensures.loaded c.mask_of.ensures,
)
