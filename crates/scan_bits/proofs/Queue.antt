-- A row of shifts as a queue.
use Rattle.std.proofs.Common.{◌≡◌, ◌≤◌, suc, Bool, List, [], ◌∷◌, ◌++◌, length, take, drop, refl, ap, sym, ◌∙◌, append_assoc, arith, length-append}
use Rattle.std.proofs.lemmas.List.{take-append-le, drop-append-le, append-nil}
use Rattle.scan_bits.specs.Registers.{lowest_or, shifted, shifted_all, shifted_out, joined, shifted_stages}

-- a shift through a register that has one before it
pub shifted-append : (front back : List Bool) (tdi : Bool) → shifted (front ++ back) tdi ≡ shifted front (lowest_or tdi back) ++ shifted back tdi
shifted-append [] back tdi = refl
shifted-append (bit ∷ bits) [] tdi = ap (λ q. q ++ tdi ∷ []) (append-nil bits) ∙ sym (append-nil (bits ++ tdi ∷ []))
shifted-append (bit ∷ bits) (b ∷ back) tdi = append_assoc bits (b ∷ back) (tdi ∷ []) ∙ sym (append_assoc bits (b ∷ []) (back ++ tdi ∷ []))

pub joined-shifted : (stages : List (List Bool)) (tdi : Bool) → joined (shifted_stages tdi stages) ≡ shifted (joined stages) tdi
joined-shifted [] tdi = refl
joined-shifted (stage ∷ stages) tdi = ap (λ q. q ++ shifted stage tdi) (joined-shifted stages (lowest_or tdi stage)) ∙ sym (shifted-append (joined stages) stage tdi)

-- a shift keeps the length
pub length-shifted : (register : List Bool) (tdi : Bool) → length (shifted register tdi) ≡ length register
length-shifted [] tdi = refl
length-shifted (bit ∷ bits) tdi = omega (arith, length-append bits (tdi ∷ []))

-- the register and what comes in as one stream: the first bits leave, and the others stay
pub stream_out : (register bits : List Bool) → shifted_out register bits ≡ take (length bits) (register ++ bits)
stream_out register [] = refl
stream_out [] (tdi ∷ more) = ap (λ q. tdi ∷ q) (stream_out [] more)
stream_out (bit ∷ bits) (tdi ∷ more) =
    ap (λ q. bit ∷ q) (stream_out (bits ++ tdi ∷ []) more ∙ ap (take (length more)) (append_assoc bits (tdi ∷ []) more))

pub stream_rest : (register bits : List Bool) → shifted_all register bits ≡ drop (length bits) (register ++ bits)
stream_rest register [] = sym (append-nil register)
stream_rest [] (tdi ∷ more) = stream_rest [] more
stream_rest (bit ∷ bits) (tdi ∷ more) = stream_rest (bits ++ tdi ∷ []) more ∙ ap (drop (length more)) (append_assoc bits (tdi ∷ []) more)

-- where no more come in than the register has, only bits of the register leave
pub queue_out : (register bits : List Bool) → length bits ≤ length register → shifted_out register bits ≡ take (length bits) register
queue_out register bits fits = stream_out register bits ∙ take-append-le (length bits) register bits fits

pub queue_rest : (register bits : List Bool) → length bits ≤ length register → shifted_all register bits ≡ drop (length bits) register ++ bits
queue_rest register bits fits = stream_rest register bits ∙ drop-append-le (length bits) register bits fits

pub length-shifted_all : (register bits : List Bool) → length (shifted_all register bits) ≡ length register
length-shifted_all register [] = refl
length-shifted_all register (tdi ∷ more) = length-shifted_all (shifted register tdi) more ∙ length-shifted register tdi

pub length-shifted_out : (register bits : List Bool) → length (shifted_out register bits) ≡ length bits
length-shifted_out register [] = refl
length-shifted_out register (tdi ∷ more) = ap suc (length-shifted_out (shifted register tdi) more)

-- two rows of shifts are one
pub shifted_all-append : (register first then : List Bool) → shifted_all register (first ++ then) ≡ shifted_all (shifted_all register first) then
shifted_all-append register [] then = refl
shifted_all-append register (tdi ∷ more) then = shifted_all-append (shifted register tdi) more then

pub shifted_out-append : (register first then : List Bool) → shifted_out register (first ++ then) ≡ shifted_out register first ++ shifted_out (shifted_all register first) then
shifted_out-append register [] then = refl
shifted_out-append register (tdi ∷ more) then = ap (λ q. lowest_or tdi register ∷ q) (shifted_out-append (shifted register tdi) more then)
