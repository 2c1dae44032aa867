use Rattle.share_top.proofs.SessionLaws.{setup_sound}
use Rattle.share_top.proofs.pipe.sound.Goals as goal

pub returns : goal.returns
returns c = setup_sound c.args.setup.now c.requires c.devices-devices.ensures.parts
