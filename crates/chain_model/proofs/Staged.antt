-- The bits of a data stage: what is left of the register that was captured, and what came in.
use Rattle.std.proofs.Common.{◌≡◌, ◌≤◌, ◌<◌, ◌+◌, ◌-◌, ◌*◌, ◌/◌, ◌%◌, ◌^◌, bit_or, ℕ, Bool, false, List, get_or, [], ◌++◌, length, take, drop, refl, sym, ◌∙◌, ap, subst, arith, append_assoc, length-append, length-drop, take-append-drop}
use Rattle.std.proofs.lemmas.List.{drop_all, drop-drop, drop-take, take-take, length-take-le, take-append-le, drop-append-le, append-nil, get_or_append_left, get_or-append_right, get_or-drop, get_or_default}
use Rattle.scan_bits.specs.Words.{bits_of, number_of}
use Rattle.scan_bits.specs.Registers.{bit_at, shifted_all, shifted_out}
use Rattle.scan_bits.proofs.Queue.{stream_out, stream_rest, queue_rest, shifted_all-append, shifted_out-append}
use Rattle.scan_bits.proofs.WordLaws.{length-bits_of, bits_of-number_of, bits_of-append, bits_of-cat}
use Rattle.scan_bits.specs.BitLists.{BitList}
use Rattle.chain_model.specs.declared.data_stage.DataStage.{DataStage}
use Rattle.chain_model.specs.declared.data_stage.Source.{Source}
use Rattle.chain_model.specs.declared.data_stage.Source.TheVariants.{Pins, Latch}
use Rattle.chain_model.specs.DataStages.{source_in, IsThere, last, staged, stage_bits, held_stage, Stands, IsStanding}
use Rattle.chain_model.proofs.WordRun.{or_part}

length-last : (count : ℕ) (bits : List Bool) → count ≤ length bits → length (last count bits) ≡ count
length-last count bits le = omega (arith, length-drop (length bits - count) bits, le)

-- nothing is left of the register
pub none_left : (bits came : List Bool) (left : ℕ) → left ≡ 0 → last left bits ++ came ≡ came
none_left bits came left is = ap (λ (front : List Bool). front ++ came) (drop_all (length bits - left) bits (omega (arith, is)))

-- the whole of it is
pub all_left : (bits : List Bool) (left : ℕ) → left ≡ length bits → last left bits ++ [] ≡ bits
all_left bits left is = let e : length bits - left ≡ 0 = omega (arith, is) in append-nil (last left bits) ∙ ap (λ (n : ℕ). drop n bits) e

-- fewer of the last bits
drop-last : (count n : ℕ) (bits : List Bool) → n ≤ count → count ≤ length bits → drop n (last count bits) ≡ last (count - n) bits
drop-last count n bits few le =
    let e : length bits - count + n ≡ length bits - (count - n) = omega (arith, few, le) in drop-drop n (length bits - count) bits ∙ ap (λ (k : ℕ). drop k bits) e

-- a word of the bits of a list
bits_read : (bits : List Bool) (n word : ℕ) → n ≤ length bits → word ≡ number_of (take n bits) → bits_of n word ≡ take n bits
bits_read bits n word le is =
    let long : length (take n bits) ≡ n = length-take-le n bits le in
    (λ i. bits_of (sym long i) (is i)) ∙ bits_of-number_of (take n bits)

-- shifts while bits of the register are left
pub captured_out : (source came : List Bool) (left n tdi word place : ℕ) → n ≤ left → left ≤ length source → place ≡ length source → word ≡ number_of (take n (drop (place - left) source))
    → bits_of n word ≡ shifted_out (last left source ++ came) (bits_of n tdi)
captured_out source came left n tdi word place few le place_is is =
    let bits = bits_of n tdi in
    let long : n ≤ length (last left source) = omega (arith, few, length-last left source le) in
    let more : n ≤ length (last left source ++ came) = omega (arith, long, length-append (last left source) came) in
    bits_read (last left source) n word long (is ∙ ap (λ (k : ℕ). number_of (take n (drop (k - left) source))) place_is)
    ∙ sym (stream_out (last left source ++ came) bits ∙ ap (λ (k : ℕ). take k ((last left source ++ came) ++ bits)) (length-bits_of n tdi)
    ∙ take-append-le n (last left source ++ came) bits more ∙ take-append-le n (last left source) came long)

pub captured_rest : (source came : List Bool) (left n tdi : ℕ) → n ≤ left → left ≤ length source → last (left - n) source ++ (came ++ bits_of n tdi) ≡ shifted_all (last left source ++ came) (bits_of n tdi)
captured_rest source came left n tdi few le =
    let bits = bits_of n tdi in
    let long : n ≤ length (last left source) = omega (arith, few, length-last left source le) in
    sym (stream_rest (last left source ++ came) bits ∙ (λ i. drop (length-bits_of n tdi i) (append_assoc (last left source) came bits i))
    ∙ drop-append-le n (last left source) (came ++ bits) long ∙ ap (λ (front : List Bool). front ++ (came ++ bits)) (drop-last left n source few le))

-- the bits of two words in one
pub joined_bits : (count low more high : ℕ) → low < 2 ^ count → high < 2 ^ more → count + more ≤ 64 → bits_of (count + more) (bit_or low (high * 2 ^ count % 18446744073709551616)) ≡ bits_of count low ++ bits_of more high
joined_bits count low more high low_small high_small few =
    let e : low + 2 ^ count * high ≡ high * 2 ^ count + low = omega arith in
    ap (bits_of (count + more)) (or_part low high count more low_small high_small few ∙ e) ∙ bits_of-cat count more low high low_small

-- shifts in two parts
split_bits : (n count tdi : ℕ) → count ≤ n → bits_of count tdi ++ bits_of (n - count) (tdi / 2 ^ count) ≡ bits_of n tdi
split_bits n count tdi le = let e : count + (n - count) ≡ n = omega (arith, le) in sym (bits_of-append count (n - count) tdi) ∙ ap (λ (k : ℕ). bits_of k tdi) e

pub split_out : (old middle : List Bool) (n count tdi low high word : ℕ) → count ≤ n → middle ≡ shifted_all old (bits_of count tdi) → bits_of count low ≡ shifted_out old (bits_of count tdi)
    → bits_of (n - count) high ≡ shifted_out middle (bits_of (n - count) (tdi / 2 ^ count)) → bits_of (count + (n - count)) word ≡ bits_of count low ++ bits_of (n - count) high
    → bits_of n word ≡ shifted_out old (bits_of n tdi)
split_out old middle n count tdi low high word le middle_is low_is high_is is =
    let more = bits_of (n - count) (tdi / 2 ^ count) in
    let e : n ≡ count + (n - count) = omega (arith, le) in
    ap (λ (k : ℕ). bits_of k word) e ∙ is
    ∙ (λ i. low_is i ++ (high_is ∙ ap (λ (register : List Bool). shifted_out register more) middle_is) i)
    ∙ sym (shifted_out-append old (bits_of count tdi) more) ∙ ap (shifted_out old) (split_bits n count tdi le)

pub split_rest : (old middle new : List Bool) (n count tdi : ℕ) → count ≤ n → middle ≡ shifted_all old (bits_of count tdi) → new ≡ shifted_all middle (bits_of (n - count) (tdi / 2 ^ count))
    → new ≡ shifted_all old (bits_of n tdi)
split_rest old middle new n count tdi le middle_is is =
    let more = bits_of (n - count) (tdi / 2 ^ count) in
    is ∙ ap (λ (register : List Bool). shifted_all register more) middle_is
    ∙ sym (shifted_all-append old (bits_of count tdi) more) ∙ ap (shifted_all old) (split_bits n count tdi le)

-- a word more of what is left is behind what came in
pub word_taken : (source came new end : List Bool) (left n word place : ℕ) → n ≤ left → left ≤ length source → place ≡ length source → word ≡ number_of (take n (drop (place - left) source))
    → new ≡ came ++ bits_of n word → came ++ last left source ≡ end → new ++ last (left - n) source ≡ end
word_taken source came new end left n word place few le place_is is new_is all =
    let long : n ≤ length (last left source) = omega (arith, few, length-last left source le) in
    let read : bits_of n word ≡ take n (last left source) = bits_read (last left source) n word long (is ∙ ap (λ (k : ℕ). number_of (take n (drop (k - left) source))) place_is) in
    ap (λ (bits : List Bool). bits ++ last (left - n) source) new_is
    ∙ append_assoc came (bits_of n word) (last (left - n) source)
    ∙ (λ i. came ++ (read i ++ sym (drop-last left n source few le) i))
    ∙ ap (λ (bits : List Bool). came ++ bits) (take-append-drop n (last left source)) ∙ all

-- bits that turn by a word more
take-split : (n m : ℕ) (bits : List Bool) → take n bits ++ take m (drop n bits) ≡ take (n + m) bits
take-split n m bits =
    (λ i. sym (take-take n (n + m) bits (omega arith)) i ++ sym (drop-take n m bits) i) ∙ take-append-drop n (take (n + m) bits)

pub word_turned : (bits new end : List Bool) (left n word : ℕ) → n ≤ left → left ≤ length bits → word ≡ number_of (take n (drop 0 bits)) → new ≡ shifted_all bits (bits_of n word)
    → drop left bits ++ take left bits ≡ end → drop (left - n) new ++ take (left - n) new ≡ end
word_turned bits new end left n word few le is new_is all =
    let e : n + (left - n) ≡ left = omega (arith, few) in
    let read : bits_of n word ≡ take n bits = bits_read bits n word (omega (arith, few, le)) is in
    let long : length (take n bits) ≡ n = length-take-le n bits (omega (arith, few, le)) in
    let turned : new ≡ drop n bits ++ take n bits
    = new_is ∙ ap (shifted_all bits) read ∙ queue_rest bits (take n bits) (omega (arith, long, few, le)) ∙ ap (λ (k : ℕ). drop k bits ++ take n bits) long in
    let fits : left - n ≤ length (drop n bits) = omega (arith, length-drop n bits, few, le) in
    let behind : drop (left - n) new ≡ drop left bits ++ take n bits
    = ap (drop (left - n)) turned ∙ drop-append-le (left - n) (drop n bits) (take n bits) fits
    ∙ ap (λ (front : List Bool). front ++ take n bits) (drop-drop (left - n) n bits ∙ ap (λ (k : ℕ). drop k bits) e) in
    let front : take (left - n) new ≡ take (left - n) (drop n bits) = ap (take (left - n)) turned ∙ take-append-le (left - n) (drop n bits) (take n bits) fits in
    (λ i. behind i ++ front i) ∙ append_assoc (drop left bits) (take n bits) (take (left - n) (drop n bits))
    ∙ ap (λ (rest : List Bool). drop left bits ++ rest) (take-split n (left - n) bits ∙ ap (λ (k : ℕ). take k bits) e) ∙ all

-- bits that are shifted in by a word more
pub word_shifted : (register bits new end : List Bool) (at n word : ℕ) → at + n ≤ length bits → word ≡ number_of (take n (drop at bits)) → new ≡ shifted_all register (bits_of n word)
    → shifted_all register (drop at bits) ≡ end → shifted_all new (drop (at + n) bits) ≡ end
word_shifted register bits new end at n word le is new_is all =
    let read : bits_of n word ≡ take n (drop at bits) = bits_read (drop at bits) n word (omega (arith, length-drop at bits, le)) is in
    (λ i. shifted_all ((new_is ∙ ap (shifted_all register) read) i) (sym (drop-drop n at bits) i))
    ∙ sym (shifted_all-append register (take n (drop at bits)) (drop n (drop at bits)))
    ∙ ap (shifted_all register) (take-append-drop n (drop at bits)) ∙ all

-- where as many came in as left the register, they are shifted into it
pub behind : (source came : List Bool) (left : ℕ) → left + length came ≡ length source → last left source ++ came ≡ shifted_all source came
behind source came left is =
    let e : length source - left ≡ length came = omega (arith, is) in ap (λ (k : ℕ). drop k source ++ came) e ∙ sym (queue_rest source came (omega (arith, is)))

-- as many bits as the register has are all that is left of it
pub all_came : (source came : List Bool) → length came ≡ length source → shifted_all source came ≡ came
all_came source came is = sym (behind source came 0 (omega (arith, is))) ∙ none_left source came 0 (omega arith)

pub length-staged : (source came : List Bool) (left : ℕ) → left ≤ length source → length (last left source ++ came) ≡ left + length came
length-staged source came left le = omega (arith, length-append (last left source) came, length-last left source le)

-- the stage after shifts, whose captured register still stands
pub captured_stands : (old new : DataStage) (source : List Bool) (n tdi : ℕ) → n ≤ old.left → Stands old source → new.left ≡ old.left - n
    → new.came ≡ record old.came { bits = old.came.bits ++ bits_of n tdi } → Stands new source
captured_stands old new source n tdi few stands left_is came_is =
    let long : length new.came.bits ≡ length old.came.bits + n
    = ap (λ (came : BitList). length came.bits) came_is ∙ length-append old.came.bits (bits_of n tdi) ∙ ap (λ (k : ℕ). length old.came.bits + k) (length-bits_of n tdi) in
    let room : new.came.room ≡ old.came.room = ap (λ (came : BitList). came.room) came_is in
    record { left = omega (arith, left_is, stands.left); room = omega (arith, left_is, few, long, room, stands.room) }

pub held_stands : (old new : DataStage) (source bits : List Bool) → new.left ≡ 0 → length bits ≡ length old.came.bits → Stands old source → new.came ≡ record old.came { bits = bits } → Stands new source
held_stands old new source bits left_is long stands came_is =
    let all : length new.came.bits ≡ length old.came.bits = ap (λ (came : BitList). length came.bits) came_is ∙ long in
    let room : new.came.room ≡ old.came.room = ap (λ (came : BitList). came.room) came_is in
    record { left = omega (arith, left_is); room = omega (arith, left_is, all, room, stands.room) }

-- the bit at a cell of a register that so many bits were shifted into
pub bit_kept : (source came : List Bool) (at : ℕ) → length came ≤ length source → at < length source - length came → bit_at source (length came + at) ≡ bit_at (shifted_all source came) at
bit_kept source came at le lt =
    sym (ap (λ (bits : List Bool). bit_at bits at) (queue_rest source came le)
    ∙ get_or_append_left (drop (length came) source) came false at (omega (arith, length-drop (length came) source, lt)) ∙ get_or-drop (length came) source at false)

pub bit_came : (source came : List Bool) (at : ℕ) → length came ≤ length source → length source - length came ≤ at → bit_at came (at - (length source - length came)) ≡ bit_at (shifted_all source came) at
bit_came source came at le ge =
    sym (ap (λ (bits : List Bool). bit_at bits at) (queue_rest source came le)
    ∙ get_or-append_right (drop (length came) source) came (length source - length came) at false (length-drop (length came) source) ge)

-- ---- the captured register at Update-DR

-- the register that was captured, where it is as long as the stage
behind_source : (stage : DataStage) (pins source : BitList) (named : List BitList) → IsStanding stage pins named → source_in stage.source pins named ≡ source
    → length (stage_bits stage pins named) ≡ length source.bits → shifted_all source.bits stage.came.bits ≡ stage_bits stage pins named
behind_source stage pins source named standing is long =
    let le : stage.left ≤ length source.bits = omega (arith, standing.stands.left, ap (λ (s : BitList). length s.bits) is) in
    let same : staged stage source.bits ≡ stage_bits stage pins named = ap (λ (s : BitList). staged stage s.bits) (sym is) in
    let all : stage.left + length stage.came.bits ≡ length source.bits = sym (length-staged source.bits stage.came.bits stage.left le) ∙ ap (λ (bits : List Bool). length bits) same ∙ long in
    sym (behind source.bits stage.came.bits stage.left all) ∙ same

pub boundary_behind : (stage : DataStage) (pins : BitList) (named : List BitList) (new : List Bool) → IsStanding stage pins named → stage.source ≡ Pins → length (stage_bits stage pins named) ≡ length pins.bits
    → new ≡ stage.came.bits → shifted_all pins.bits new ≡ stage_bits stage pins named
boundary_behind stage pins named new standing is long new_is =
    ap (shifted_all pins.bits) new_is ∙ behind_source stage pins pins named standing (ap (λ (source : Source). source_in source pins named) is) long

pub boundary_settled : (pins bits new : List Bool) → length bits ≡ length pins → new ≡ bits → shifted_all pins new ≡ bits
boundary_settled pins bits new long is = ap (shifted_all pins) is ∙ all_came pins bits long

pub latch_behind : (stage : DataStage) (pins latch default new : BitList) (named : List BitList) (at : ℕ) → IsStanding stage pins named → stage.source ≡ Latch at → at < length named
    → length (stage_bits stage pins named) ≡ length (get_or named at latch).bits → new ≡ record (get_or named at default) { bits = shifted_all (get_or named at default).bits stage.came.bits }
    → new ≡ record (get_or named at latch) { bits = stage_bits stage pins named }
latch_behind stage pins latch default new named at standing is there long new_is =
    let same : get_or named at default ≡ get_or named at latch = get_or_default named at default latch there in
    let source : source_in stage.source pins named ≡ get_or named at latch = ap (λ (s : Source). source_in s pins named) is ∙ get_or_default named at pins latch there in
    let bits : shifted_all (get_or named at latch).bits stage.came.bits ≡ stage_bits stage pins named = behind_source stage pins (get_or named at latch) named standing source long in
    new_is ∙ (λ i. record (same i) { bits = shifted_all (same i).bits stage.came.bits }) ∙ (λ i. record (get_or named at latch) { bits = bits i })

-- ---- a stage after Capture-DR

-- one that stands by itself
pub held_bits : (stage : DataStage) (bits : List Bool) (room : ℕ) (pins : BitList) (named : List BitList) → stage ≡ held_stage bits room → stage_bits stage pins named ≡ bits
held_bits stage bits room pins named is = ap (λ (s : DataStage). stage_bits s pins named) is ∙ none_left pins.bits bits 0 refl

pub held_there : (stage : DataStage) (bits : List Bool) (room : ℕ) (pins : BitList) (named : List BitList) → stage ≡ held_stage bits room → length bits ≤ room → IsStanding stage pins named
held_there stage bits room pins named is fits = subst (λ (s : DataStage). IsStanding s pins named) (sym is) (record { there = tt; stands = record { left = omega arith; room = omega (arith, fits) } })

-- one of which all bits are left in a register
pub captured_bits : (stage : DataStage) (source : Source) (n room : ℕ) (pins register : BitList) (named : List BitList) → stage ≡ record { source = source; left = n; came = record { bits = []; room = room } }
    → source_in source pins named ≡ register → n ≡ length register.bits → stage_bits stage pins named ≡ register.bits
captured_bits stage source n room pins register named is register_is long =
    ap (λ (s : DataStage). stage_bits s pins named) is ∙ ap (λ (r : BitList). last n r.bits ++ []) register_is ∙ all_left register.bits n long

pub captured_there : (stage : DataStage) (source : Source) (n room : ℕ) (pins register : BitList) (named : List BitList) → stage ≡ record { source = source; left = n; came = record { bits = []; room = room } }
    → source_in source pins named ≡ register → n ≡ length register.bits → n ≤ room → IsThere source named → IsStanding stage pins named
captured_there stage source n room pins register named is register_is long fits there =
    subst (λ (s : DataStage). IsStanding s pins named) (sym is)
    (record { there = there; stands = record { left = omega (arith, long, ap (λ (r : BitList). length r.bits) register_is); room = omega (arith, fits) } })
