-- Named bytes, and what one load of them does.
use Rattle.std.specs.Prelude.{ℕ, ◌≡◌, ◌≤◌, ◌++◌, List, [], ◌∷◌, map, take, if◌then◌else◌, IfSome, Result, Ok, Err, String, Vec, string_bytes}
use Rattle.std.specs.Option.{option_map}
use Rattle.std.specs.declared.alloc.Global.{Global}
use Rattle.std.specs.Str.{bytes_eq}
use Rattle.std.specs.declared.option.Option.{Option}
use Rattle.std.specs.declared.option.Option.TheVariants.{None, Some}
use Rattle.base_types.specs.Counts.{raised, Rose}
use Rattle.base_types.specs.Calls.{CallPlan, after_call, fails_at}
use Rattle.ports.specs.declared.shelf.Load.{Load}
use Rattle.ports.specs.declared.shelf.LoadFault.{LoadFault}
use Rattle.ports.specs.declared.shelf.LoadFault.TheVariants.{Memory, Absent, Fault}

-- a name and its bytes
pub record NamedBytes : Type 0 where
  pub name : List ℕ
  pub bytes : List ℕ

-- the names and bytes of these entries
abbrev pub entries_of : List (String Global × Vec ℕ Global) → List NamedBytes
entries_of entries = map (λ entry. record { name = string_bytes entry.0; bytes = entry.1.items }) entries

-- the bytes of a name: those of the first entry that has it
abbrev pub named : List NamedBytes → List ℕ → Option (List ℕ)
named [] name = None
named (file ∷ files) name = if bytes_eq file.name name then Some file.bytes else named files name

-- what a load answers, with its bytes as a list
abbrev pub seen : {A : Type 0} → (A → List ℕ) → Result A LoadFault → Result (List ℕ) LoadFault
seen items (Ok bytes) = Ok (items bytes)
seen items (Err fault) = Err fault

-- where the files are told, these are the first bytes of that name
abbrev pub GivesFront : Option (List NamedBytes) → List ℕ → ℕ → List ℕ → Type 0
GivesFront files name most bytes = IfSome files (λ told. option_map (take most) (named told name) ≡ Some bytes)

-- where the files are told, only a name that is not among them is absent
abbrev pub RefusesName : Option (List NamedBytes) → List ℕ → LoadFault → Type 0
RefusesName files name Absent = IfSome files (λ told. named told name ≡ None)
RefusesName files name _ = Unit {0}

-- the bytes of an answer, if it has any
abbrev pub bytes_answered : Result (List ℕ) LoadFault → Option (List ℕ)
bytes_answered (Ok bytes) = Some bytes
bytes_answered (Err _) = None

-- the loads after one more
abbrev pub after_load : List Load → List ℕ → Result (List ℕ) LoadFault → List Load
after_load loads name (Err Memory) = loads
after_load loads name answer = loads ++ record { name = name; answer = bytes_answered answer } ∷ []

-- the count of faults rises where the load fails, and stays otherwise
abbrev pub Counts : ℕ → ℕ → Result (List ℕ) LoadFault → Type 0
Counts before now (Err Fault) = Rose before now
Counts before now _ = now ≡ before

-- a load answers `Fault` only where the count rose, and leaves the count as it is otherwise; no count falls
pub record HasLoadCause (before now : ℕ) (answer : Result (List ℕ) LoadFault) : Type 0 where
  pub later : before ≤ now
  pub counts : Counts before now answer

-- ---- a shelf in memory

-- the files, the loads that were made and that are to fail, and how many failed
pub record MemShelfView : Type 0 where
  pub files : List NamedBytes
  pub calls : CallPlan
  pub loads : List Load
  pub faults : ℕ

-- the answer where there is no such name
abbrev pub front_of : ℕ → Option (List ℕ) → Result (List ℕ) LoadFault
front_of most None = Err Absent
front_of most (Some bytes) = Ok (take most bytes)

-- what the next load answers where there is memory
abbrev pub answer_of : MemShelfView → List ℕ → ℕ → Result (List ℕ) LoadFault
answer_of s name most = if fails_at s.calls.fails (raised s.calls.made 1) then Err Fault else front_of most (named s.files name)

-- the faults after an answer
abbrev pub after_fault : ℕ → Result (List ℕ) LoadFault → ℕ
after_fault faults (Err Fault) = raised faults 1
after_fault faults _ = faults

-- the shelf after a load with this answer
abbrev pub after_mem_load : MemShelfView → List ℕ → Result (List ℕ) LoadFault → MemShelfView
after_mem_load s name answer = record s { calls = after_call s.calls; loads = after_load s.loads name answer; faults = after_fault s.faults answer }

-- the answer is this, unless memory is wanting
abbrev pub AnswersAs : Result (List ℕ) LoadFault → Result (List ℕ) LoadFault → Type 0
AnswersAs (Err Memory) expected = Unit {0}
AnswersAs answer expected = answer ≡ expected
