-- The steps that marks are.
use Rattle.std.proofs.Common.{◌≡◌, ◌+◌, ◌-◌, ◌≤◌, ◌<◌, ℕ, List, [], ◌∷◌, ◌++◌, length, take, drop, ap, ◌∙◌, sym, refl, arith, Vec, vec_len, vec_capacity, length-append, length-drop}
use Rattle.std.proofs.lemmas.List.{append-nil, take-append-le, drop-append-le, take_all}
use Rattle.std.specs.declared.alloc.Global.{Global}
use Rattle.wire_port.specs.declared.log.Mark.{Mark}
use Rattle.wire_port.specs.declared.log.Mark.TheVariants as mark
use Rattle.wire_port.specs.Steps.{Step}
use Rattle.wire_port.specs.Steps.Step.{Opened, Took, Gone, Shut}
use Rattle.wire_port.specs.Links.{steps_of, bytes_of, logged, logged_bytes}
use Rattle.wire_port.specs.Playing.{FitsLog}

pub steps_append : (marks rest : List Mark) (bytes more : List ℕ) → bytes_of marks ≡ length bytes → steps_of (marks ++ rest) (bytes ++ more) ≡ steps_of marks bytes ++ steps_of rest more
steps_append [] rest [] more all = refl
steps_append [] rest (byte ∷ bytes) more all = absurd (omega (arith, all))
steps_append (mark.Opened conn port ∷ marks) rest bytes more all = ap (λ (steps : List Step). Opened conn port ∷ steps) (steps_append marks rest bytes more all)
steps_append (mark.Gone conn ∷ marks) rest bytes more all = ap (λ (steps : List Step). Gone conn ∷ steps) (steps_append marks rest bytes more all)
steps_append (mark.Shut conn ∷ marks) rest bytes more all = ap (λ (steps : List Step). Shut conn ∷ steps) (steps_append marks rest bytes more all)
steps_append (mark.Took conn count ∷ marks) rest bytes more all =
    let few : count ≤ length bytes = omega (arith, all) in
    let left : bytes_of marks ≡ length (drop count bytes) = omega (arith, all, length-drop count bytes) in
    (λ i. Took conn (take-append-le count bytes more few i) ∷ steps_of (marks ++ rest) (drop-append-le count bytes more few i))
    ∙ ap (λ (steps : List Step). Took conn (take count bytes) ∷ steps) (steps_append marks rest (drop count bytes) more left)

bytes_append : (marks rest : List Mark) → bytes_of (marks ++ rest) ≡ bytes_of marks + bytes_of rest
bytes_append [] rest = omega arith
bytes_append (mark.Opened conn port ∷ marks) rest = bytes_append marks rest
bytes_append (mark.Gone conn ∷ marks) rest = bytes_append marks rest
bytes_append (mark.Shut conn ∷ marks) rest = bytes_append marks rest
bytes_append (mark.Took conn count ∷ marks) rest = omega (arith, bytes_append marks rest)

-- one mark more, and the bytes that it is about
pub fits_more : (marks new : Vec Mark Global) (bytes now : Vec ℕ Global) (room byte_room : ℕ) (m : Mark) (piece : List ℕ) → FitsLog marks bytes room byte_room → 0 < room - vec_len marks
    → new.items ≡ marks.items ++ m ∷ [] → vec_len new ≡ vec_len marks + 1 → vec_capacity marks ≤ vec_capacity new
    → now.items ≡ bytes.items ++ piece → vec_len now ≡ vec_len bytes + length piece → vec_capacity bytes ≤ vec_capacity now → length piece ≤ byte_room - vec_len bytes → bytes_of (m ∷ []) ≡ length piece
    → FitsLog new now room byte_room
fits_more marks new bytes now room byte_room m piece fits some items len capacity bytes_are bytes_len byte_capacity few about =
    let counts : bytes_of marks.items + bytes_of (m ∷ []) ≡ length (bytes.items ++ piece) = omega (arith, fits.all, about, length-append bytes.items piece) in record {
      all = ap bytes_of items ∙ bytes_append marks.items (m ∷ []) ∙ counts ∙ ap (λ (all : List ℕ). length all) (sym bytes_are);
      within = omega (arith, some, len, fits.within);
      bytes_within = omega (arith, few, bytes_len, fits.bytes_within);
      memory = omega (arith, fits.memory, capacity);
      byte_memory = omega (arith, fits.byte_memory, byte_capacity);
    }

pub mark_logged : (marks new : Vec Mark Global) (bytes : Vec ℕ Global) (room byte_room : ℕ) (m : Mark) (step : Step) → FitsLog marks bytes room byte_room
    → new.items ≡ marks.items ++ m ∷ [] → vec_len new ≡ vec_len marks + 1 → steps_of (m ∷ []) [] ≡ step ∷ []
    → record { steps = steps_of new.items bytes.items; left = room - vec_len new; bytes_left = byte_room - vec_len bytes } ≡ logged step (record { steps = steps_of marks.items bytes.items; left = room - vec_len marks; bytes_left = byte_room - vec_len bytes })
mark_logged marks new bytes room byte_room m step fits items len is =
    let steps : steps_of new.items bytes.items ≡ steps_of marks.items bytes.items ++ step ∷ [] =
    (λ i. steps_of (items i) (sym (append-nil bytes.items) i)) ∙ steps_append marks.items (m ∷ []) bytes.items [] fits.all ∙ ap (λ (more : List Step). steps_of marks.items bytes.items ++ more) is in
    let left : room - vec_len new ≡ room - vec_len marks - 1 = omega (arith, len) in
    λ i. record { steps = steps i; left = left i; bytes_left = byte_room - vec_len bytes }

pub took_logged : (marks new : Vec Mark Global) (bytes now : Vec ℕ Global) (room byte_room conn : ℕ) (piece : List ℕ) → FitsLog marks bytes room byte_room
    → new.items ≡ marks.items ++ mark.Took conn (length piece) ∷ [] → vec_len new ≡ vec_len marks + 1 → now.items ≡ bytes.items ++ piece → vec_len now ≡ vec_len bytes + length piece
    → record { steps = steps_of new.items now.items; left = room - vec_len new; bytes_left = byte_room - vec_len now } ≡ logged_bytes conn piece (record { steps = steps_of marks.items bytes.items; left = room - vec_len marks; bytes_left = byte_room - vec_len bytes })
took_logged marks new bytes now room byte_room conn piece fits items len bytes_are bytes_len =
    let steps : steps_of new.items now.items ≡ steps_of marks.items bytes.items ++ Took conn piece ∷ [] =
    (λ i. steps_of (items i) (bytes_are i)) ∙ steps_append marks.items (mark.Took conn (length piece) ∷ []) bytes.items piece fits.all
    ∙ ap (λ (taken : List ℕ). steps_of marks.items bytes.items ++ Took conn taken ∷ []) (take_all (length piece) piece (omega arith)) in
    let left : room - vec_len new ≡ room - vec_len marks - 1 = omega (arith, len) in
    let bytes_left : byte_room - vec_len now ≡ byte_room - vec_len bytes - length piece = omega (arith, bytes_len) in
    λ i. record { steps = steps i; left = left i; bytes_left = bytes_left i }

-- one mark more that is about no bytes
pub fits_marked : (marks new : Vec Mark Global) (bytes : Vec ℕ Global) (room byte_room : ℕ) (m : Mark) → FitsLog marks bytes room byte_room → 0 < room - vec_len marks
    → new.items ≡ marks.items ++ m ∷ [] → vec_len new ≡ vec_len marks + 1 → vec_capacity marks ≤ vec_capacity new → bytes_of (m ∷ []) ≡ 0 → FitsLog new bytes room byte_room
fits_marked marks new bytes room byte_room m fits some items len capacity about =
    fits_more marks new bytes bytes room byte_room m [] fits some items len capacity (sym (append-nil bytes.items)) (omega arith) (omega arith) (omega arith) about
