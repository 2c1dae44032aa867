use Rattle.std.proofs.Common.{◌∙◌}
use Rattle.scan_bits.specs.Words.{bytes_of}
use Rattle.xvc_frame.specs.Messages.{settck_word}
use Rattle.xvc_frame.proofs.BitWords.{to_four}
use Rattle.xvc_frame.proofs.Encodings.{appended}
use Rattle.xvc_frame.proofs.encode.encode_word.Goals as goal

pub returns-in-SetTck-clause-ok : goal.returns-in-SetTck-clause-ok
returns-in-SetTck-clause-ok c =
    rw c.in-SetTck.is
    (appended c.args.out.now.items c.reserve.new.self.items c.append-in-SetTck.new.out.items c.append-in-SetTck-2.new.out.items settck_word c.to_le_bytes.result (bytes_of 4 c.in-SetTck.period)
    c.append-in-SetTck-2.ensures.items c.append-in-SetTck.ensures.items c.reserve.ensures.items (c.to_le_bytes.ensures ∙ to_four c.in-SetTck.period))
