use Rattle.std.proofs.Common.{◌≡◌, ◌++◌, ◌∷◌, [], ap, append_assoc, arith, codes, length, length-append, ◌∙◌}
use Rattle.std.specs.Fmt.{decimal}
use Rattle.client_session.specs.Acts.{info}
use Rattle.client_session.proofs.Messaging.{few_digits, info_acts, says, used_reply}
use Rattle.client_session.proofs.progress.Progress.reply_info.Goals as goal

pub push-requires-2 : goal.push-requires-2
push-requires-2 c =
    let first : c.push.new.said.items ≡ codes "xvcServer_v1.0:" = c.push.ensures ∙ ap (λ said. said ++ codes "xvcServer_v1.0:") c.requires.taken.replied.said in
    let text : c.as_bytes.result.now ≡ decimal c.args.self.now.vector = c.as_bytes.ensures.value ∙ c.format.ensures.text in
    omega (arith, ap length first, ap length text, few_digits c.args.self.now.vector c.requires.taken.replied.most)

pub push-requires-3 : goal.push-requires-3
push-requires-3 c =
    let first : c.push.new.said.items ≡ codes "xvcServer_v1.0:" = c.push.ensures ∙ ap (λ said. said ++ codes "xvcServer_v1.0:") c.requires.taken.replied.said in
    let text : c.as_bytes.result.now ≡ decimal c.args.self.now.vector = c.as_bytes.ensures.value ∙ c.format.ensures.text in
    omega (arith, ap length c.push-2.ensures, length-append c.push.new.said.items c.as_bytes.result.now, ap length first, ap length text, few_digits c.args.self.now.vector c.requires.taken.replied.most)

pub returns-clause-went : goal.returns-clause-went
returns-clause-went c = λ layout grant given turn shows.
    let taken = c.requires.taken in
    let first : c.push.new.said.items ≡ codes "xvcServer_v1.0:" = c.push.ensures ∙ ap (λ said. said ++ codes "xvcServer_v1.0:") taken.replied.said in
    let text : c.as_bytes.result.now ≡ decimal c.args.self.now.vector = c.as_bytes.ensures.value ∙ c.format.ensures.text in
    let all : c.use_bytes.new.self.said.items ≡ info c.args.self.now.vector =
    c.use_bytes.ensures.said ∙ c.push-3.ensures ∙ ap (λ said. said ++ 10 ∷ []) (c.push-2.ensures ∙ (λ i. first i ++ text i)) ∙ append_assoc (codes "xvcServer_v1.0:") (decimal c.args.self.now.vector) (10 ∷ []) in
    let lines = c.use_bytes.ensures.lines in
    says c.args.self.now grant given turn taken.replied taken.work shows layout taken.told.message taken.told.is_framed c.use_bytes.new.self (info c.args.self.now.vector)
    (info_acts c.args.self.now.vector taken.told.message taken.told.said_is)
    (record { tap = lines.tap; protocol = lines.protocol; uses_trst = lines.uses_trst; vector = lines.vector; tck = lines.tck; trst = lines.trst })
    c.use_bytes.ensures.bytes.used c.use_bytes.ensures.work c.use_bytes.ensures.held
    (used_reply c.use_bytes.new.self (info c.args.self.now.vector) (lines.protocol ∙ taken.replied.protocol) c.use_bytes.ensures.work all c.use_bytes.ensures.pending)
