use Rattle.std.proofs.Common.{ap, ◌∙◌, List, ℕ, ◌+◌, ◌-◌, ◌/◌, take, drop}
use Rattle.xvc_frame.specs.Frames.{reply_bytes}
use Rattle.xvc_frame.proofs.Vectors.{shift_held}
use Rattle.xvc_frame.proofs.Replies.{reply_is}
use Rattle.xvc_frame.proofs.frame.XvcFrame.tdo_bytes.Goals as goal

pub returns : goal.returns
returns c =
    let shift = rw (← c.self.view_is) at c.requires in
    let start = c.self.inside.count / 2 + 5 in
    ap (λ (b : List ℕ). take (c.self.inside.count - start) (drop start b)) c.deref.ensures.value
    ∙ reply_is c.self.inside.vector c.self.inside.count c.self.inside.bytes.items c.self.invariant (shift_held c.self.inside.vector (take c.self.inside.count c.self.inside.bytes.items) c.self.invariant.ends shift)
    ∙ ap reply_bytes c.self.view_is
