-- Parts of a scan that follow one another, over a cable that may tell its chain.
use Rattle.std.proofs.Common.{◌≡◌, ◌+◌, ℕ, Bool, true, false, List, [], ◌∷◌, ◌++◌, length, ap, sym, subst, ◌∙◌, arith, append_assoc, Some, None, ◌%◌, replicate}
use Rattle.std.specs.Prelude.{◌==◌}
use Rattle.std.proofs.lemmas.List.{length-replicate}
use Rattle.std.specs.declared.option.Option.{Option}
use Rattle.base_types.specs.Tellings.{Both, TakesFirst}
use Rattle.base_types.proofs.TellingLaws.{both_joined, takings_joined}
use Rattle.scan_bits.specs.Words.{bits_of}
use Rattle.chain_model.specs.Chains.{ChainState}
use Rattle.chain_model.specs.Cycles.{Clock, after_calls, answers, clocks_of}
use Rattle.chain_model.specs.Cables.{Clocked}
use Rattle.chain_model.proofs.Calls.{after_calls-append}
use Rattle.scan_walks.specs.Walks.{with_tms, shift_in, calls_for}
use Rattle.scan_walks.specs.ReadOuts.{ShiftsIn, TakesSome, ReadsOut}
use Rattle.scan_share.specs.Walks.{load_walk, capture_walk, shift_out, write_walk}
use Rattle.scan_share.specs.Parts.{Makes, Reads, TakesAny}

-- calls and then more
pub makes_then : (calls more : ℕ) (first second : List Clock) (a b c : Option ChainState) → Makes calls first a b → Makes more second b c → Makes (calls + more) (first ++ second) a c
makes_then calls more first second a b c =
    both_joined (λ x y. y ≡ after_calls calls first x) (λ y z. z ≡ after_calls more second y) (λ x z. z ≡ after_calls (calls + more) (first ++ second) x)
    (λ x y z one two. two ∙ ap (after_calls more second) one ∙ after_calls-append calls more first second x) a b c

pub clocked_makes : (clocks : List Clock) (a b : Option ChainState) (word : ℕ) → Clocked a b clocks word → Makes 1 clocks a b
clocked_makes clocks None None word is = tt
clocked_makes clocks None (Some b) word is = absurd is
clocked_makes clocks (Some a) None word is = absurd is
clocked_makes clocks (Some a) (Some b) word is = is.0

pub shifts_make : (bits : List Bool) (count : ℕ) (a b : Option ChainState) → length bits ≡ count → ShiftsIn a b bits → Makes (calls_for count) (shift_in bits) a b
shifts_make bits count a b is shifts = subst (λ n. Makes (calls_for n) (shift_in bits) a b) is shifts

as_many : (calls more : ℕ) (clocks : List Clock) (a b : Option ChainState) → calls ≡ more → Makes calls clocks a b → Makes more clocks a b
as_many calls more clocks a b is makes = subst (λ n. Makes n clocks a b) is makes

abbrev to_shift : List Clock
to_shift = with_tms true ∷ with_tms true ∷ with_tms false ∷ with_tms false ∷ []

-- an instruction scan, and on to Shift-DR
pub loaded : (bits : List Bool) (count first last : ℕ) (a b c d : Option ChainState) → length bits ≡ count
    → Clocked a b (clocks_of 4 3 0) first → ShiftsIn b c bits → Clocked c d (clocks_of 4 3 0) last → Makes (calls_for count + 2) (load_walk bits ++ capture_walk) a d
loaded bits count first last a b c d long one shifts two =
    let both : Makes (1 + calls_for count) (to_shift ++ shift_in bits) a c = makes_then 1 (calls_for count) to_shift (shift_in bits) a b c (clocked_makes to_shift a b first one) (shifts_make bits count b c long shifts) in
    let all : Makes ((1 + calls_for count) + 1) ((to_shift ++ shift_in bits) ++ to_shift) a d = makes_then (1 + calls_for count) 1 (to_shift ++ shift_in bits) to_shift a c d both (clocked_makes to_shift c d last two) in
    let clocks : (to_shift ++ shift_in bits) ++ to_shift ≡ load_walk bits ++ capture_walk =
    ap (λ (l : List Clock). with_tms true ∷ with_tms true ∷ with_tms false ∷ with_tms false ∷ l) (sym (append_assoc (shift_in bits) (with_tms true ∷ []) capture_walk)) in
    subst (λ l. Makes (calls_for count + 2) l a d) clocks (as_many ((1 + calls_for count) + 1) (calls_for count + 2) ((to_shift ++ shift_in bits) ++ to_shift) a d (omega arith) all)

-- a write, and on to Run-Test/Idle
pub wrote : (bits : List Bool) (count first last : ℕ) (a b c d : Option ChainState) → length bits ≡ count
    → Clocked a b (clocks_of 2 1 0) first → ShiftsIn b c bits → Clocked c d (clocks_of 2 1 0) last → Makes (calls_for count + 2) (write_walk bits) a d
wrote bits count first last a b c d long one shifts two =
    let way = with_tms true ∷ with_tms false ∷ [] in
    let both : Makes (1 + calls_for count) ((with_tms true ∷ with_tms false ∷ []) ++ shift_in bits) a c =
    makes_then 1 (calls_for count) (with_tms true ∷ with_tms false ∷ []) (shift_in bits) a b c (clocked_makes (with_tms true ∷ with_tms false ∷ []) a b first one) (shifts_make bits count b c long shifts) in
    let all : Makes ((1 + calls_for count) + 1) (((with_tms true ∷ with_tms false ∷ []) ++ shift_in bits) ++ with_tms true ∷ with_tms false ∷ []) a d =
    makes_then (1 + calls_for count) 1 ((with_tms true ∷ with_tms false ∷ []) ++ shift_in bits) (with_tms true ∷ with_tms false ∷ []) a c d both (clocked_makes (with_tms true ∷ with_tms false ∷ []) c d last two) in
    as_many ((1 + calls_for count) + 1) (calls_for count + 2) (write_walk bits) a d (omega arith) all

-- answers that were taken
pub took : (bits : List Bool) (a b : Option (List Bool)) → TakesFirst a b bits → TakesAny a b
took bits a b is = record { taken = bits; is = is }

pub took_more : (bits : List Bool) (count : ℕ) (a b c d : Option (List Bool)) (last : List Bool) → TakesFirst a b bits → TakesSome b c count → TakesFirst c d last → TakesAny a d
took_more bits count a b c d last one some two = record {
  taken = (bits ++ some.taken) ++ last;
  is = takings_joined a c d (bits ++ some.taken) last (takings_joined a b c bits some.taken one some.is) two;
}

both_first : {X : Type 0} (P : X → Type 0) (a b c : Option X) (Q : X → X → Type 0) → Both a b (λ x y. P x) → Both b c Q → Both a c (λ x z. P x)
both_first P None None None Q one two = tt
both_first P None None (Some c) Q one two = absurd two
both_first P None (Some b) c Q one two = absurd one
both_first P (Some a) None c Q one two = absurd one
both_first P (Some a) (Some b) None Q one two = absurd two
both_first P (Some a) (Some b) (Some c) Q one two = one

-- a read-out, and on to Pause-DR
pub reads : (a b c : Option ChainState) (x y z : Option (List Bool)) (holds holds_after : List Bool → List Bool) (count word : ℕ)
    → ReadsOut a b x y holds holds_after count → Clocked b c (clocks_of 1 0 0) word → TakesFirst y z (bits_of 1 word) → Reads a c x z holds holds_after count
reads a b c x y z holds holds_after count word read clocked taken = record {
  out = read.out;
  last = (word % 2) == 1;
  counted = read.counted;
  held = read.held;
  made = makes_then (calls_for count) 1 (shift_out count) (with_tms false ∷ []) a b c (shifts_make (replicate count false) count a b (length-replicate count false) read.shifted) (clocked_makes (with_tms false ∷ []) b c word clocked);
  answered = both_first (λ old. read.out ≡ answers (shift_out count) old) a b c (λ old new. new ≡ after_calls 1 (with_tms false ∷ []) old) read.answered (clocked_makes (with_tms false ∷ []) b c word clocked);
  taken = takings_joined x y z read.out (bits_of 1 word) read.taken taken;
}
