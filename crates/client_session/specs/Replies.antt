-- What a message of Xilinx Virtual Cable 1.0 is answered, and what it makes of the chain.
use Rattle.std.specs.Prelude.{ℕ, List}
use Rattle.scan_bits.specs.Words.{bytes_of, packed}
use Rattle.chain_model.specs.Chains.{ChainState}
use Rattle.chain_model.specs.Cycles.{after_cycles, answers, clocks}
use Rattle.xvc_frame.specs.Messages.{Message}
use Rattle.xvc_frame.specs.Messages.Message.{GetInfo, SetTck, Shift}
use Rattle.client_session.specs.Acts.{info}

-- the reply to a message over a chain: of a `shift:` TDO before the rise of each cycle, in bytes (XVC 1.0)
abbrev pub reply_to : ℕ → Message → ChainState → List ℕ
reply_to vector GetInfo chain = info vector
reply_to vector (SetTck period) chain = bytes_of 4 period
reply_to vector (Shift tms tdi) chain = packed (answers (clocks tms tdi) chain)

-- the chain after a message: only a `shift:` makes cycles
abbrev pub after_message : Message → ChainState → ChainState
after_message GetInfo chain = chain
after_message (SetTck period) chain = chain
after_message (Shift tms tdi) chain = after_cycles (clocks tms tdi) chain
