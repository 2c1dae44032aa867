-- What becomes of a connection, line by line.
use Rattle.std.proofs.Common.{◌≡◌, ◌≢◌, ◌<◌, ℕ, Bool, true, false, List, [], ◌∷◌, ◌++◌, length, nat_eq, get_or, set, get_or-set_same, get_or-set_other, ap, ◌∙◌, sym, refl, arith, eqb-true, eq-eqb, replicate}
use Rattle.std.proofs.lemmas.List.{get_or-replicate, length-set, length-replicate}
use Rattle.wire_port.specs.declared.script.Stand.{Stand}
use Rattle.wire_port.specs.declared.script.Stand.TheVariants.{Unopened}
use Rattle.wire_port.specs.Offers.{ScriptLine}
use Rattle.wire_port.specs.Offers.ScriptLine.{Open, Send, Drop, Room}
use Rattle.wire_port.specs.Scripts.{conn_of, next_stand, stand_from, stand_after}
use Rattle.wire_port.specs.Reading.{Tracks}

pub stand_append : (conn : ℕ) (stand : Stand) (lines : List ScriptLine) (line : ScriptLine) → stand_from conn stand (lines ++ line ∷ []) ≡ next_stand conn (stand_from conn stand lines) line
stand_append conn stand [] line = refl
stand_append conn stand (other ∷ lines) line = stand_append conn (next_stand conn stand other) lines line

apart : (a b : ℕ) → a ≢ b → nat_eq a b ≡ false
apart a b ne = go (nat_eq a b) refl
  where
    go : (t : Bool) → nat_eq a b ≡ t → t ≡ false
    go true is = absurd (ne (eqb-true a b is))
    go false is = refl

-- a line on another connection changes nothing
pub other_stand : (conn : ℕ) (stand : Stand) (line : ScriptLine) → conn_of line ≢ conn → next_stand conn stand line ≡ stand
other_stand conn stand (Open other port) ne = rw (apart other conn ne) refl
other_stand conn stand (Send other bytes) ne = refl
other_stand conn stand (Drop other) ne = rw (apart other conn ne) refl
other_stand conn stand (Room other room) ne = refl

pub tracked_none : (stands : List Stand) → stands ≡ replicate 65536 Unopened → Tracks stands []
tracked_none stands is = record {
  all = ap length is ∙ length-replicate 65536 Unopened;
  each = λ conn default below. ap (λ (all : List Stand). get_or all conn default) is ∙ get_or-replicate 65536 conn Unopened default below;
}

pub tracked : (stands : List Stand) (lines : List ScriptLine) (line : ScriptLine) (conn : ℕ) (stand now : Stand) → Tracks stands lines → conn ≡ conn_of line → conn < 65536
    → stand ≡ get_or stands conn stand → now ≡ next_stand (conn_of line) stand line → Tracks (set stands conn now) (lines ++ line ∷ [])
tracked stands lines line conn stand now tracks conn_is below stand_is now_is = record {
  all = length-set stands conn now ∙ tracks.all;
  each = λ other default within. each other default within;
}
  where
    here : stand ≡ stand_after conn lines
    here = stand_is ∙ tracks.each conn stand below

    same : (other : ℕ) (default : Stand) → other ≡ conn → get_or (set stands conn now) other default ≡ stand_after other (lines ++ line ∷ [])
    same other default is =
        ap (λ (n : ℕ). get_or (set stands conn now) n default) is
        ∙ get_or-set_same stands conn now default (omega (arith, below, tracks.all))
        ∙ now_is ∙ (λ i. next_stand (sym conn_is i) (here i) line) ∙ sym (stand_append conn Unopened lines line)
        ∙ ap (λ (n : ℕ). stand_after n (lines ++ line ∷ [])) (sym is)

    apart_from : (other : ℕ) (default : Stand) → other < 65536 → other ≢ conn → get_or (set stands conn now) other default ≡ stand_after other (lines ++ line ∷ [])
    apart_from other default within ne =
        get_or-set_other stands conn other now default ne ∙ tracks.each other default within
        ∙ sym (other_stand other (stand_after other lines) line (λ is. ne (sym is ∙ sym conn_is))) ∙ sym (stand_append other Unopened lines line)

    by : (other : ℕ) (default : Stand) → other < 65536 → (t : Bool) → nat_eq other conn ≡ t → get_or (set stands conn now) other default ≡ stand_after other (lines ++ line ∷ [])
    by other default within true is = same other default (eqb-true other conn is)
    by other default within false is = apart_from other default within (λ same. absurd (cc (sym is ∙ ap (λ (n : ℕ). nat_eq n conn) same ∙ eq-eqb conn conn refl)))

    each : (other : ℕ) (default : Stand) → other < 65536 → get_or (set stands conn now) other default ≡ stand_after other (lines ++ line ∷ [])
    each other default within = by other default within (nat_eq other conn) refl
