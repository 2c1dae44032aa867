use Rattle.std.proofs.Common.{◌≡◌, ◌∙◌, List, subst, sym, true}
use Rattle.wire_port.specs.Offers.{ScriptLine, lines_open_once}
use Rattle.wire_port.specs.Format.{IsScript}
use Rattle.wire_port.proofs.Texts.{is_script, script_opens_once, refuses}
use Rattle.wire_port.proofs.read.read_script.Goals as goal

pub from_lines-requires : goal.from_lines-requires
from_lines-requires c = subst (λ (lines : List ScriptLine). lines_open_once lines ≡ true) (sym c.into_lines.ensures) (script_opens_once _ _ (is_script _ _ c.if-bytes-gt-LONGEST.false c.in-Ok.ensures))

pub returns-in-Ok-clause-ok : goal.returns-in-Ok-clause-ok
returns-in-Ok-clause-ok c = subst (IsScript c.args.bytes.now) (sym (c.from_lines.ensures ∙ c.into_lines.ensures)) (is_script _ _ c.if-bytes-gt-LONGEST.false c.in-Ok.ensures)

pub returns-in-Err-clause-refused : goal.returns-in-Err-clause-refused
returns-in-Err-clause-refused c = refuses _ _ c.if-bytes-gt-LONGEST.false c.in-Err.ensures
