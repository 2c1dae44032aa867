-- A played script still fits its memory.
use Rattle.std.proofs.Common.{◌≡◌, ◌≤◌, ◌<◌, ◌+◌, ℕ, List, [], ◌∷◌, inl, inr, length, map, drop, min, ap, ◌∙◌, sym, refl, subst, arith, length-drop, Vec, vec_len, vec_capacity}
use Rattle.std.proofs.lemmas.List.{drop-drop, nil_from_length}
use Rattle.std.proofs.lemmas.Bool.{cases_lt}
use Rattle.wire_port.specs.Offers.{ScriptLine}
use Rattle.wire_port.specs.Played.{lines_behind}
use Rattle.std.specs.declared.alloc.Global.{Global}
use Rattle.wire_port.specs.declared.script.Line.{Line}
use Rattle.wire_port.specs.Links.{LinkView, LogView}
use Rattle.wire_port.specs.Scripts.{line_of}
use Rattle.wire_port.specs.Slots.{SlotsView, after_change, changed_link}
use Rattle.wire_port.specs.Playing.{IsPlay, FitsPlay}

-- after a change of one connection, and of the steps
pub fits_changed : (lines : Vec Line Global) (played : ℕ) (log now then : LogView) (slots after : SlotsView) (opened : Vec (ℕ × ℕ) Global) (ports : Vec ℕ Global) (conn : ℕ) (change : LinkView → LinkView)
    → FitsPlay lines played log slots opened ports → now ≡ then → after ≡ after_change conn change slots
    → IsPlay (map line_of (drop played lines.items)) then (changed_link conn change slots.links) slots.waiting opened.items → FitsPlay lines played now after opened ports
fits_changed lines played log now then slots after opened ports conn change fits now_is after_is play = record {
  some = fits.some;
  play =
      subst (λ (s : SlotsView). IsPlay (map line_of (drop played lines.items)) now s.links s.waiting opened.items) (sym after_is)
      (subst (λ (l : LogView). IsPlay (map line_of (drop played lines.items)) l (changed_link conn change slots.links) slots.waiting opened.items) (sym now_is) play);
  opened_memory = subst (λ (s : SlotsView). vec_len opened + length s.waiting ≤ vec_capacity opened) (sym after_is) fits.opened_memory;
  ports_memory = fits.ports_memory;
}

lines_less : (lines : List Line) → lines_behind (map line_of lines) ≡ map line_of (drop 1 lines)
lines_less [] = refl
lines_less (line ∷ lines) = refl

-- one more line was played, or all were
pub one_more_played : (lines : List Line) (played count next : ℕ) → count ≡ length lines → played ≤ count → next ≡ min count (played + 1) → map line_of (drop next lines) ≡ lines_behind (map line_of (drop played lines))
one_more_played lines played count next all some is = ap (map line_of) go ∙ sym (lines_less (drop played lines))
  where
    ended : count ≤ played → drop next lines ≡ drop 1 (drop played lines)
    ended none =
        nil_from_length (drop next lines) (omega (arith, length-drop next lines, all, some, is, none))
        ∙ sym (nil_from_length (drop 1 (drop played lines)) (omega (arith, length-drop 1 (drop played lines), length-drop played lines, all, none)))

    more : played < count → drop next lines ≡ drop 1 (drop played lines)
    more left = ap (λ (n : ℕ). drop n lines) (omega_next left) ∙ sym (drop-drop 1 played lines)
      where
        omega_next : played < count → next ≡ played + 1
        omega_next below = omega (arith, is, below)

    go : drop next lines ≡ drop 1 (drop played lines)
    go = elim (cases_lt played count) [ inl left ↦ more left | inr none ↦ ended none ]

pub fits_next : (lines : Vec Line Global) (played next : ℕ) (log now : LogView) (slots after : SlotsView) (opened then : Vec (ℕ × ℕ) Global) (ports : Vec ℕ Global) → FitsPlay lines played log slots opened ports
    → next ≤ vec_len lines → map line_of (drop next lines.items) ≡ lines_behind (map line_of (drop played lines.items)) → IsPlay (lines_behind (map line_of (drop played lines.items))) now after.links after.waiting then.items
    → vec_len then + length after.waiting ≤ vec_capacity then → FitsPlay lines next now after then ports
fits_next lines played next log now slots after opened then ports fits some are play memory = record {
  some = some;
  play = subst (λ (l : List ScriptLine). IsPlay l now after.links after.waiting then.items) (sym are) play;
  opened_memory = memory;
  ports_memory = fits.ports_memory;
}
