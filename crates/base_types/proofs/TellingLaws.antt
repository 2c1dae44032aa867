-- What two calls that follow one another do to what an object tells.
use Rattle.std.proofs.Common.{◌≡◌, ◌++◌, ◌∙◌, List, ap, sym, append_assoc}
use Rattle.std.specs.declared.option.Option.{Option}
use Rattle.std.specs.declared.option.Option.TheVariants.{None, Some}
use Rattle.base_types.specs.Tellings.{Told, Both, TakesFirst}

pub both_joined : {X : Type 0} (P Q R : X → X → Type 0) → ((old between new : X) → P old between → Q between new → R old new)
    → (old between new : Option X) → Both old between P → Both between new Q → Both old new R
both_joined P Q R join None None None first second = tt
both_joined P Q R join None None (Some new) first second = absurd second
both_joined P Q R join None (Some between) new first second = absurd first
both_joined P Q R join (Some old) None new first second = absurd first
both_joined P Q R join (Some old) (Some between) None first second = absurd second
both_joined P Q R join (Some old) (Some between) (Some new) first second = join old between new first second

pub takings_joined : {X : Type 0} (old between new : Option (List X)) (first second : List X)
    → TakesFirst old between first → TakesFirst between new second → TakesFirst old new (first ++ second)
takings_joined old between new first second =
    both_joined (λ a b. a ≡ first ++ b) (λ b c. b ≡ second ++ c) (λ a c. a ≡ (first ++ second) ++ c)
    (λ a b c is rest. is ∙ ap (λ l. first ++ l) rest ∙ sym (append_assoc first second c)) old between new

pub told_carried : {X : Type 0} (P Q : X → Type 0) (R : X → X → Type 0) → ((old new : X) → P old → R old new → Q new)
    → (old new : Option X) → Told old P → Both old new R → Told new Q
told_carried P Q R carry old None told call = tt
told_carried P Q R carry None (Some new) told call = absurd call
told_carried P Q R carry (Some old) (Some new) told call = carry old new told call
