-- What an answer of a chain of readings means.
use Rattle.std.proofs.Common.{◌≡◌, Bool, true, false, if◌then◌else◌, Result, Ok, Err, refl, subst}
use Rattle.setup_document.specs.Keys.{DocumentFault, and_then}

-- what a value means, and what a fault means
abbrev pub Means : {A : Type 0} → (A → Type 0) → (DocumentFault → Type 0) → Result A DocumentFault → Type 0
Means good bad (Ok x) = good x
Means good bad (Err fault) = bad fault

pub chained : {A B : Type 0} (said : A → Type 0) (good : B → Type 0) (bad : DocumentFault → Type 0) (first : Result A DocumentFault) (more : A → Result B DocumentFault)
    → Means said bad first → ((x : A) → said x → Means good bad (more x)) → Means good bad (and_then first more)
chained said good bad (Ok x) more one each = each x one
chained said good bad (Err fault) more one each = one

pub changed : {A : Type 0} (said good : A → Type 0) (told bad : DocumentFault → Type 0) (r : Result A DocumentFault)
    → ((x : A) → said x → good x) → ((fault : DocumentFault) → told fault → bad fault) → Means said told r → Means good bad r
changed said good told bad (Ok x) keeps tells is = keeps x is
changed said good told bad (Err fault) keeps tells is = tells fault is

pub tested : {A : Type 0} (good : A → Type 0) (bad : DocumentFault → Type 0) (test : Bool) (x y : Result A DocumentFault)
    → (test ≡ true → Means good bad x) → (test ≡ false → Means good bad y) → Means good bad (if test then x else y)
tested good bad true x y one other = one refl
tested good bad false x y one other = other refl

pub said_by : {A : Type 0} (good : A → Type 0) (bad : DocumentFault → Type 0) (r : Result A DocumentFault) (x : A) → r ≡ Ok x → Means good bad r → good x
said_by good bad r x is means = subst (Means good bad) is means

pub refused_by : {A : Type 0} (good : A → Type 0) (bad : DocumentFault → Type 0) (r : Result A DocumentFault) (fault : DocumentFault) → r ≡ Err fault → Means good bad r → bad fault
refused_by good bad r fault is means = subst (Means good bad) is means
