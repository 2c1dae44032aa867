-- The lines of sessions that ended, one after another.
use Rattle.std.proofs.Common.{◌≡◌, ℕ, zero, suc, ◌<◌, ◌+◌, List, [], ◌∷◌, ◌++◌, map, drop, length, get_or, ap, arith}
use Rattle.std.proofs.lemmas.List.{drop_more}
use Rattle.session_table.specs.declared.Ended.{Ended}
use Rattle.session_table.specs.Shown.{EachFew, session_end}
use Rattle.hub_server.specs.Told.{ended_line, ended_lines}

pub few_at : (ended : List Ended) (at : ℕ) (default : Ended) → at < length ended → EachFew ended → (get_or ended at default).grant < 16
few_at [] at default lt few = absurd (omega (arith, lt))
few_at (one ∷ more) zero default lt few = few.0
few_at (one ∷ more) (suc at) default lt few = few_at more at default (omega (arith, lt)) few.1

pub told_more : (ended : List Ended) (at : ℕ) (default : Ended) → at < length ended → ended_lines (map session_end (drop at ended)) ≡ ended_line (session_end (get_or ended at default)) ++ ended_lines (map session_end (drop (at + 1) ended))
told_more ended at default lt = ap (λ list. ended_lines (map session_end list)) (drop_more ended at default lt)
