use Rattle.std.proofs.Common.{ap, ◌∙◌, subst, List, Bool}
use Rattle.xvc_frame.specs.Messages.{IsFramed}
use Rattle.xvc_frame.specs.Messages.Message.{Shift}
use Rattle.xvc_frame.specs.Frames.{tms_bits, tdi_bits, replaced}
use Rattle.xvc_frame.proofs.Replies.{one_bit, replaced_one}
use Rattle.xvc_frame.proofs.frame.XvcFrame.put_tdo.Goals as goal

pub returns-clause-held : goal.returns-clause-held
returns-clause-held c =
    subst (λ (tdi : List Bool). IsFramed c.args.self.now.vector (Shift (tms_bits c.args.self.now) tdi) c.put_tdo_word.new.self.held)
    (ap (replaced (tdi_bits c.args.self.now) c.args.at) (one_bit c.args.bit c.from.result c.from.ensures) ∙ replaced_one (tdi_bits c.args.self.now) c.args.at c.args.bit c.requires)
    c.put_tdo_word.ensures.held
