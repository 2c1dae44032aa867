use Rattle.xvc_frame.proofs.Encodings.{encoded_is_message, encoded_shift_is, message_is_encoded}
use Rattle.xvc_frame.proofs.laws.encodings_are_read_back.Goals as goal

pub returns-clause-encoded : goal.returns-clause-encoded
returns-clause-encoded c = encoded_is_message

pub returns-clause-shift : goal.returns-clause-shift
returns-clause-shift c = encoded_shift_is

pub returns-clause-parts : goal.returns-clause-parts
returns-clause-parts c = message_is_encoded
