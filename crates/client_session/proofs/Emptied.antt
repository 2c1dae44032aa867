-- Bytes that are forgotten.
use Rattle.std.proofs.Common.{◌≡◌, ◌≤◌, ◌-◌, ℕ, List, [], drop, length, length-drop, refl, ap, arith}
use Rattle.client_session.specs.declared.input.Input.{Input}
use Rattle.client_session.specs.declared.input.Input.TheVariants.{Xvc, Bitbang}
use Rattle.client_session.specs.declared.input.Work.{Work}
use Rattle.client_session.specs.declared.input.Work.TheVariants.{Taking, Shifting, Sampled, Shifted}
use Rattle.grant_table.specs.declared.Protocol.TheVariants as protocols
use Rattle.client_session.specs.Stores.{AwaitsBytes, HasRoomToSay, IsBetween, IsSilent, protocol_of, unused_of}

silent : (work : Work) → IsSilent work []
silent Taking = tt
silent Shifted = tt
silent (Shifting cycles at) = refl
silent (Sampled cycles at) = refl

-- where no letter is kept and nothing is said, there is room
pub nothing_said : (input : Input) → unused_of input ≡ [] → HasRoomToSay input []
nothing_said (Xvc messages) none = silent messages.work
nothing_said (Bitbang letters) none = omega (arith, ap length none)

between_says : (work : Work) (said : List ℕ) → IsBetween work → IsSilent work said
between_says Taking said between = tt
between_says Shifted said between = tt
between_says (Shifting cycles at) said between = absurd between
between_says (Sampled cycles at) said between = absurd between

-- where the letters are forgotten, what was said stays
pub room_left : (old new : Input) (said : List ℕ) → protocol_of new ≡ protocol_of old → unused_of new ≡ [] → AwaitsBytes new → HasRoomToSay old said → HasRoomToSay new said
room_left old (Xvc messages) said same none awaits room = between_says messages.work said awaits
room_left (Bitbang one) (Bitbang letters) said same none awaits room = omega (arith, room, ap length none)
room_left (Xvc one) (Bitbang letters) said same none awaits room = absurd (let q : protocols.Bitbang ≡ protocols.Xvc = same in cc)

-- a reply that stays
pub reply_kept : (old new : List ℕ) (pending : ℕ) → new ≡ old → drop (length new - pending) new ≡ drop (length old - pending) old
reply_kept old new pending same = λ i. drop (length (same i) - pending) (same i)

-- nothing is left to give
pub none_left : (replied : List ℕ) (pending : ℕ) → pending ≤ length replied → drop (length replied - pending) replied ≡ [] → pending ≡ 0
none_left replied pending le none = omega (arith, le, length-drop (length replied - pending) replied, ap length none)
