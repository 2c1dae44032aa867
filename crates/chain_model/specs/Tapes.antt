-- Benches that fail where they are to.
use Rattle.std.specs.Prelude.{ℕ, Bool, true, false, ◌||◌, nat_lt, if◌then◌else◌, List, length, drop}
use Rattle.std.specs.declared.option.Option.{Option}
use Rattle.std.specs.declared.option.Option.TheVariants.{None}
use Rattle.base_types.specs.Counts.{raised}
use Rattle.base_types.specs.Calls.{CallPlan, after_call, fails_at}

-- what a bench tells until a call failed, and nothing from then on
abbrev pub until_broken : {X : Type 0} → Bool → Option X → Option X
until_broken true told = None
until_broken false told = told

-- whether the next call fails before the inner bench is asked: it is listed, or a call failed before
abbrev pub call_fails : Bool → CallPlan → Bool
call_fails broken calls = fails_at calls.fails (raised calls.made 1) || broken

-- how many calls failed so, after the next
abbrev pub own_faults : Bool → CallPlan → ℕ → ℕ
own_faults broken calls faults = if call_fails broken calls then raised faults 1 else faults

-- answers that are ahead, the calls that are to fail, and how many failed
pub record TapeView : Type 0 where
  pub left : List Bool
  pub calls : CallPlan
  pub faults : ℕ

-- whether the next call of so many cycles fails: it is listed, or there are too few answers
abbrev pub tape_fails : TapeView → ℕ → Bool
tape_fails tape n = fails_at tape.calls.fails (raised tape.calls.made 1) || nat_lt (length tape.left) n

-- the tape after a call that failed, and after one that took so many answers
abbrev pub after_failed : TapeView → TapeView
after_failed tape = record tape { calls = after_call tape.calls; faults = raised tape.faults 1 }

abbrev pub after_taken : TapeView → ℕ → TapeView
after_taken tape n = record tape { left = drop n tape.left; calls = after_call tape.calls }
