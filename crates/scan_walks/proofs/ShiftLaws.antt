-- Shifts in several calls, over a cable that may tell its chain.
use Rattle.std.proofs.Common.{◌≡◌, ◌≤◌, ◌<◌, ◌+◌, ◌-◌, ◌^◌, ℕ, Bool, false, List, [], ◌++◌, length, take, drop, replicate, refl, ap, sym, ◌∙◌, arith, subst, append_assoc, length-append, length-drop}
use Rattle.std.specs.declared.option.Option.{Option}
use Rattle.std.specs.declared.option.Option.TheVariants.{None, Some}
use Rattle.std.proofs.lemmas.List.{length-replicate, drop-replicate}
use Rattle.base_types.specs.Tellings.{Both, TakesFirst}
use Rattle.base_types.proofs.TellingLaws.{both_joined, takings_joined}
use Rattle.scan_bits.specs.Words.{bits_of, number_of}
use Rattle.scan_bits.proofs.WordLaws.{length-bits_of, bits_of-number_of}
use Rattle.chain_model.specs.Chains.{ChainState}
use Rattle.chain_model.specs.Cycles.{clocks_of, after_call, after_calls, answers}
use Rattle.chain_model.specs.Cables.{Clocked}
use Rattle.chain_model.proofs.Calls.{after_calls-append, answers-calls, length-answers}
use Rattle.chain_model.proofs.WordRun.{length-clocks_of}
use Rattle.scan_walks.specs.Walks.{shift_in, calls_for}
use Rattle.scan_walks.specs.ReadOuts.{ShiftsIn, TakesSome, ReadsOut}
use Rattle.scan_walks.proofs.Runs.{run, last_run, calls_after, last_call, zeros}

-- what is left to shift leads where all of it leads
pub record LeadsOn (bits left : List Bool) (old new : ChainState) : Type 0 where
  pub is : after_calls (calls_for (length left)) (shift_in left) new ≡ after_calls (calls_for (length bits)) (shift_in bits) old

-- and its answers are the last ones of all
pub record AnswersOn (bits left out : List Bool) (old new : ChainState) : Type 0 where
  pub is : out ++ answers (shift_in left) new ≡ answers (shift_in bits) old

pub both_begun : {X : Type 0} (P : X → X → Type 0) → ((x : X) → P x x) → (told : Option X) → Both told told P
both_begun P same None = tt
both_begun P same (Some x) = same x

pub leads_begun : (bits : List Bool) (told : Option ChainState) → Both told told (LeadsOn bits bits)
leads_begun bits told = both_begun (LeadsOn bits bits) (λ x. record { is = refl }) told

pub answers_begun : (bits : List Bool) (told : Option ChainState) → Both told told (AnswersOn bits bits [])
answers_begun bits told = both_begun (AnswersOn bits bits []) (λ x. record { is = refl }) told

pub taking_begun : (told : Option (List Bool)) → TakesFirst told told []
taking_begun told = both_begun (λ (a b : List Bool). a ≡ [] ++ b) (λ x. refl) told

-- one call more
pub leads_on : (bits left : List Bool) (n word answer : ℕ) (a b c : Option ChainState) → n ≡ 64 → n < length left → word ≡ number_of (take n left)
    → Both a b (LeadsOn bits left) → Clocked b c (clocks_of n 0 word) answer → Both a c (LeadsOn bits (drop n left))
leads_on bits left n word answer a b c most lt is =
    let rest = drop n left in
    let calls : 1 + calls_for (length rest) ≡ calls_for (length left) = calls_after (length left) (length rest) (omega (arith, lt, most)) (length-drop n left ∙ ap (λ k. length left - k) most) in
    both_joined (LeadsOn bits left) (λ old new. (new ≡ after_call (clocks_of n 0 word) old) × (answer ≡ number_of (answers (clocks_of n 0 word) old))) (LeadsOn bits rest)
    (λ old middle new first second. record {
      is = ap (after_calls (calls_for (length rest)) (shift_in rest)) second.0
          ∙ after_calls-append 1 (calls_for (length rest)) (clocks_of n 0 word) (shift_in rest) middle
          ∙ (λ i. after_calls (calls i) (sym (run left n word lt is) i) middle) ∙ first.is;
    }) a b c

-- the last call
pub led : (bits left : List Bool) (n tms word answer : ℕ) (a b c : Option ChainState) → 1 ≤ n → n ≤ 64 → length left ≡ n → tms ≡ 2 ^ (n - 1) → word ≡ number_of (take n left)
    → Both a b (LeadsOn bits left) → Clocked b c (clocks_of n tms word) answer → ShiftsIn a c bits
led bits left n tms word answer a b c some few size power is =
    let cycles : clocks_of n tms word ≡ shift_in left = ap (λ t. clocks_of n t word) power ∙ sym (last_run left n word some size is) in
    let calls : 1 ≡ calls_for (length left) = last_call n some few ∙ ap calls_for (sym size) in
    both_joined (LeadsOn bits left) (λ old new. (new ≡ after_call (clocks_of n tms word) old) × (answer ≡ number_of (answers (clocks_of n tms word) old)))
    (λ old new. new ≡ after_calls (calls_for (length bits)) (shift_in bits) old)
    (λ old middle new first second. second.0 ∙ (λ i. after_calls (calls i) (cycles i) middle) ∙ first.is) a b c

answer_bits : (n tms word answer : ℕ) (chain : ChainState) → answer ≡ number_of (answers (clocks_of n tms word) chain) → bits_of n answer ≡ answers (clocks_of n tms word) chain
answer_bits n tms word answer chain is =
    let size : length (answers (clocks_of n tms word) chain) ≡ n = length-answers (clocks_of n tms word) chain ∙ sym (length-clocks_of n tms word) in
    (λ i. bits_of (sym size i) (is i)) ∙ bits_of-number_of (answers (clocks_of n tms word) chain)

pub answers_on : (bits left out : List Bool) (n word answer : ℕ) (a b c : Option ChainState) → n < length left → word ≡ number_of (take n left)
    → Both a b (AnswersOn bits left out) → Clocked b c (clocks_of n 0 word) answer → Both a c (AnswersOn bits (drop n left) (out ++ bits_of n answer))
answers_on bits left out n word answer a b c lt is =
    let rest = drop n left in
    let cycles = clocks_of n 0 word in
    both_joined (AnswersOn bits left out) (λ old new. (new ≡ after_call cycles old) × (answer ≡ number_of (answers cycles old))) (AnswersOn bits rest (out ++ bits_of n answer))
    (λ old middle new first second. record {
      is = append_assoc out (bits_of n answer) (answers (shift_in rest) new)
          ∙ (λ i. out ++ (answer_bits n 0 word answer middle second.1 i ++ answers (shift_in rest) (second.0 i)))
          ∙ ap (λ q. out ++ q) (sym (answers-calls 1 cycles (shift_in rest) middle))
          ∙ ap (λ q. out ++ answers q middle) (sym (run left n word lt is)) ∙ first.is;
    }) a b c

pub answered : (bits left out : List Bool) (n tms word answer : ℕ) (a b c : Option ChainState) → 1 ≤ n → length left ≡ n → tms ≡ 2 ^ (n - 1) → word ≡ number_of (take n left)
    → Both a b (AnswersOn bits left out) → Clocked b c (clocks_of n tms word) answer → Both a c (λ old new. out ++ bits_of n answer ≡ answers (shift_in bits) old)
answered bits left out n tms word answer a b c some size power is =
    let cycles : clocks_of n tms word ≡ shift_in left = ap (λ t. clocks_of n t word) power ∙ sym (last_run left n word some size is) in
    both_joined (AnswersOn bits left out) (λ old new. (new ≡ after_call (clocks_of n tms word) old) × (answer ≡ number_of (answers (clocks_of n tms word) old)))
    (λ old new. out ++ bits_of n answer ≡ answers (shift_in bits) old)
    (λ old middle new first second. ap (λ q. out ++ q) (answer_bits n tms word answer middle second.1 ∙ ap (λ q. answers q middle) cycles) ∙ first.is) a b c

-- answers that are let go
pub takes_on : (done n all word : ℕ) (a b c : Option (List Bool)) → all ≡ done + n → TakesSome a b done → TakesFirst b c (bits_of n word) → TakesSome a c all
takes_on done n all word a b c sum first second = record {
  taken = first.taken ++ bits_of n word;
  counted = omega (arith, length-append first.taken (bits_of n word), first.counted, length-bits_of n word, sum);
  is = takings_joined a b c first.taken (bits_of n word) first.is second;
}

-- what a sink holds, while some bits are left to read
pub record ReadsOn (before now : Option ChainState) (ahead ahead_now : Option (List Bool)) (holds holds_now : List Bool → List Bool) (count left : ℕ) : Type 0 where
  pub out : List Bool
  pub counted : length out + left ≡ count
  pub held : (more : List Bool) → holds_now more ≡ holds (out ++ more)
  pub leads : Both before now (LeadsOn (replicate count false) (replicate left false))
  pub answers : Both before now (AnswersOn (replicate count false) (replicate left false) out)
  pub taken : TakesFirst ahead ahead_now out

pub reading_begun : (chain : Option ChainState) (ahead : Option (List Bool)) (holds : List Bool → List Bool) (count : ℕ) → ReadsOn chain chain ahead ahead holds holds count count
reading_begun chain ahead holds count = record {
  out = [];
  counted = omega arith;
  held = λ more. refl;
  leads = leads_begun (replicate count false) chain;
  answers = answers_begun (replicate count false) chain;
  taken = taking_begun ahead;
}

pub reading_on : (count left n rest answer : ℕ) (a b c : Option ChainState) (x y z : Option (List Bool)) (holds now then : List Bool → List Bool) → n ≡ 64 → n < left → rest ≡ left - n
    → ((more : List Bool) → then more ≡ now (bits_of n answer ++ more)) → TakesFirst y z (bits_of n answer) → Clocked b c (clocks_of n 0 0) answer → ReadsOn a b x y holds now count left → ReadsOn a c x z holds then count rest
reading_on count left n rest answer a b c x y z holds now then most lt rest_is put take call was =
    let all = replicate count false in
    let size : length (replicate left false) ≡ left = length-replicate left false in
    let dropped : drop n (replicate left false) ≡ replicate rest false = drop-replicate n left false ∙ ap (λ k. replicate k false) (sym rest_is) in
    let on : Both a c (LeadsOn all (drop n (replicate left false)))
    = leads_on all (replicate left false) n 0 answer a b c most (omega (arith, lt, size)) (zeros n left (omega (arith, lt))) was.leads call in
    let said : Both a c (AnswersOn all (drop n (replicate left false)) (was.out ++ bits_of n answer))
    = answers_on all (replicate left false) was.out n 0 answer a b c (omega (arith, lt, size)) (zeros n left (omega (arith, lt))) was.answers call in
    record {
      out = was.out ++ bits_of n answer;
      counted = omega (arith, length-append was.out (bits_of n answer), length-bits_of n answer, was.counted, rest_is, lt);
      held = λ more. put more ∙ was.held (bits_of n answer ++ more) ∙ ap holds (sym (append_assoc was.out (bits_of n answer) more));
      leads = subst (λ q. Both a c (LeadsOn all q)) dropped on;
      answers = subst (λ q. Both a c (AnswersOn all q (was.out ++ bits_of n answer))) dropped said;
      taken = takings_joined x y z was.out (bits_of n answer) was.taken take;
    }

pub read_out : (count left tms answer : ℕ) (a b c : Option ChainState) (x y z : Option (List Bool)) (holds now then : List Bool → List Bool) → 1 ≤ left → left ≤ 64 → tms ≡ 2 ^ (left - 1)
    → ((more : List Bool) → then more ≡ now (bits_of left answer ++ more)) → TakesFirst y z (bits_of left answer) → Clocked b c (clocks_of left tms 0) answer → ReadsOn a b x y holds now count left → ReadsOut a c x z holds then count
read_out count left tms answer a b c x y z holds now then some few power put take call was =
    let all = replicate count false in
    let size : length (replicate left false) ≡ left = length-replicate left false in
    record {
      out = was.out ++ bits_of left answer;
      counted = omega (arith, length-append was.out (bits_of left answer), length-bits_of left answer, was.counted);
      held = λ more. put more ∙ was.held (bits_of left answer ++ more) ∙ ap holds (sym (append_assoc was.out (bits_of left answer) more));
      shifted = led all (replicate left false) left tms 0 answer a b c some few size power (zeros left left (omega arith)) was.leads call;
      answered = answered all (replicate left false) was.out left tms 0 answer a b c some size power (zeros left left (omega arith)) was.answers call;
      taken = takings_joined x y z was.out (bits_of left answer) was.taken take;
    }
