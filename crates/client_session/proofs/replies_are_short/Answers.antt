use Rattle.client_session.proofs.Replies.{messages_short, letters_short}
use Rattle.client_session.proofs.replies_are_short.Goals as goal

pub returns : goal.returns
returns c = record { messages = messages_short; letters = letters_short }
