-- How sessions ended.
use Rattle.std.specs.Prelude.{ℕ, List, ◌++◌, codes}
use Rattle.std.specs.Fmt.{decimal}
use Rattle.client_session.specs.declared.End.{End}
use Rattle.client_session.specs.declared.End.TheVariants.{Quit, Refused, Gone, Cut, Long}

-- how a session ended, with the place in its bytes
abbrev pub end_text : End → List ℕ
end_text (Quit at) = codes "quit " ++ decimal at
end_text (Gone at) = codes "gone " ++ decimal at
end_text (Cut at) = codes "cut " ++ decimal at
end_text (Long at) = codes "long " ++ decimal at
end_text (Refused at cause) = codes "refused " ++ decimal at ++ codes " " ++ decimal cause
