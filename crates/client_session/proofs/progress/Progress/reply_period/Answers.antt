use Rattle.std.proofs.Common.{◌≡◌, ◌++◌, ◌∙◌}
use Rattle.scan_bits.specs.Words.{bytes_of}
use Rattle.xvc_frame.proofs.BitWords.{to_four}
use Rattle.client_session.proofs.Messaging.{period_acts, says, used_reply}
use Rattle.client_session.proofs.progress.Progress.reply_period.Goals as goal

pub returns-clause-went : goal.returns-clause-went
returns-clause-went c = λ layout grant given turn shows.
    let taken = c.requires.taken in
    let four : c.to_le_bytes.result ≡ bytes_of 4 c.args.period = c.to_le_bytes.ensures ∙ to_four c.args.period in
    let all : c.use_bytes.new.self.said.items ≡ bytes_of 4 c.args.period =
    c.use_bytes.ensures.said ∙ c.push.ensures ∙ (λ i. taken.replied.said i ++ four i) in
    let lines = c.use_bytes.ensures.lines in
    says c.args.self.now grant given turn taken.replied taken.work shows layout taken.told.message taken.told.is_framed c.use_bytes.new.self (bytes_of 4 c.args.period)
    (period_acts c.args.self.now.vector c.args.period taken.told.message taken.told.said_is)
    (record { tap = lines.tap; protocol = lines.protocol; uses_trst = lines.uses_trst; vector = lines.vector; tck = lines.tck; trst = lines.trst })
    c.use_bytes.ensures.bytes.used c.use_bytes.ensures.work c.use_bytes.ensures.held
    (used_reply c.use_bytes.new.self (bytes_of 4 c.args.period) (lines.protocol ∙ taken.replied.protocol) c.use_bytes.ensures.work all c.use_bytes.ensures.pending)
