-- The latches of a device, by register number.
use Rattle.std.proofs.Common.{◌≡◌, ◌≤◌, ◌<◌, ◌+◌, ◌-◌, ℕ, zero, suc, max, Bool, true, false, List, [], ◌∷◌, ◌++◌, length, map, take, drop, replicate, get_or, slice_set, refl, sym, ◌∙◌, ap, subst, arith, append_assoc}
use Rattle.std.specs.List.{slice_index_or}
use Rattle.std.specs.Option.{option_map, unwrap_or}
use Rattle.std.specs.declared.option.Option.{Option}
use Rattle.std.specs.declared.option.Option.TheVariants.{None, Some}
use Rattle.std.proofs.lemmas.List.{map-set, take_all, length-replicate, length-map}
use Rattle.std.proofs.Math.Seq.{map-set_same}
use Rattle.scan_bits.specs.BitLists.{BitList}
use Rattle.scan_bits.specs.Words.{bits_of, number_of}
use Rattle.scan_bits.specs.Registers.{bit_at, shifted_all}
use Rattle.scan_bits.proofs.WordLaws.{length-bits_of, bits_of-number_of, bits_of-zero}
use Rattle.part_model.specs.Parts.{DeviceType, NamedRegister, Register, numbered, named_length, length_of, longest_named, has_latch, register_count}
use Rattle.part_model.specs.Parts.Register.{Bypass, Boundary, Idcode, Usercode, Named}
use Rattle.part_model.specs.Plans.{IsPart, code_refusal}
use Rattle.part_model.proofs.ResetLaws.{coded, first_none}
use Rattle.chain_model.specs.Chains.{ChainState, Content, DeviceState, Placed, latch_of, captured_by, code_or_zeros, zero_latches, powered_device}
use Rattle.chain_model.specs.Cycles.{latched}
use Rattle.chain_model.specs.declared.data_stage.DataStage.{DataStage}
use Rattle.chain_model.specs.DataStages.{held_stage}
use Rattle.chain_model.specs.Devices.{bits_in, zero_latch, latch_lengths, latch_rooms, named_lengths, stage_room, content_of, HasLatches, Sizes}
use Rattle.chain_model.proofs.Staged.{all_came, held_there}

pub numbered_named : (reg : ℕ) → 4 ≤ reg → numbered reg ≡ Named (reg - 4)
numbered_named zero le = absurd (omega (arith, le))
numbered_named (suc zero) le = absurd (omega (arith, le))
numbered_named (suc (suc zero)) le = absurd (omega (arith, le))
numbered_named (suc (suc (suc zero))) le = absurd (omega (arith, le))
numbered_named (suc (suc (suc (suc at)))) le = let e : at ≡ suc (suc (suc (suc at))) - 4 = omega arith in ap (λ (n : ℕ). Named n) e

-- a latch that is not the boundary register's is a named one's
pub latched_named : (reg : ℕ) → has_latch (numbered reg) ≡ true → (reg ≡ 1 → ⊥) → 4 ≤ reg
latched_named zero has other = absurd (cc has)
latched_named (suc zero) has other = absurd (other refl)
latched_named (suc (suc zero)) has other = absurd (cc has)
latched_named (suc (suc (suc zero))) has other = absurd (cc has)
latched_named (suc (suc (suc (suc at)))) has other = omega arith

measured_at : (f : BitList → ℕ) (registers : List NamedRegister) (latches : List BitList) (k : ℕ) (d : BitList) → map f latches ≡ named_lengths registers → k < length registers → f (get_or latches k d) ≡ named_length registers k
measured_at f [] latches k d is lt = absurd (omega (arith, lt))
measured_at f (register ∷ registers) [] k d is lt = absurd (cc is)
measured_at f (register ∷ registers) (latch ∷ latches) zero d is lt = cc is
measured_at f (register ∷ registers) (latch ∷ latches) (suc k) d is lt = measured_at f registers latches k d (cc is) (omega (arith, lt))

length_named : (part : DeviceType) (reg : ℕ) → 4 ≤ reg → length_of part (numbered reg) ≡ named_length part.named (reg - 4)
length_named part reg le = ap (length_of part) (numbered_named reg le)

pub latch_room : (part : DeviceType) (latches : List BitList) (reg n : ℕ) (d : BitList) → latch_rooms latches ≡ named_lengths part.named → 4 ≤ reg → reg < register_count part → n ≡ length_of part (numbered reg)
    → n ≤ (get_or latches (reg - 4) d).room
latch_room part latches reg n d rooms le lt is =
    let at = measured_at (λ (latch : BitList). latch.room) part.named latches (reg - 4) d rooms (omega (arith, lt, le)) in
    omega (arith, at, is, length_named part reg le)

pub latch_length : (part : DeviceType) (latches : List BitList) (reg : ℕ) (d : BitList) → latch_lengths latches ≡ named_lengths part.named → 4 ≤ reg → reg < register_count part
    → length (get_or latches (reg - 4) d).bits ≡ length_of part (numbered reg)
latch_length part latches reg d lengths le lt =
    measured_at (λ (latch : BitList). length latch.bits) part.named latches (reg - 4) d lengths (omega (arith, lt, le)) ∙ sym (length_named part reg le)

pub latches_kept : (part : DeviceType) (boundary : BitList) (named : List BitList) (reg : ℕ) (stage : List Bool) (d v : BitList) → HasLatches part boundary named → 4 ≤ reg → reg < register_count part
    → length stage ≡ length_of part (numbered reg) → v ≡ record (get_or named (reg - 4) d) { bits = stage } → HasLatches part boundary (slice_set named (reg - 4) v)
latches_kept part boundary named reg stage d v has le lt long is = record {
  boundary_length = has.boundary_length;
  boundary_room = has.boundary_room;
  lengths = map-set_same (λ (latch : BitList). length latch.bits) named (reg - 4) v d (ap (λ (latch : BitList). length latch.bits) is ∙ long ∙ sym (latch_length part named reg d has.lengths le lt)) ∙ has.lengths;
  rooms = map-set_same (λ (latch : BitList). latch.room) named (reg - 4) v d (ap (λ (latch : BitList). latch.room) is) ∙ has.rooms;
}

pub content_latched : (pins boundary : List Bool) (named : List BitList) (captures updates reg : ℕ) (stage : List Bool) (d v : BitList) → 4 ≤ reg → v ≡ record (get_or named (reg - 4) d) { bits = stage }
    → content_of pins boundary (slice_set named (reg - 4) v) captures updates ≡ latched (numbered reg) stage (content_of pins boundary named captures updates)
content_latched pins boundary named captures updates reg stage d v le is =
    let put : map bits_in (slice_set named (reg - 4) v) ≡ slice_set (map bits_in named) (reg - 4) stage
    = map-set bits_in named (reg - 4) v ∙ ap (λ (latch : BitList). slice_set (map bits_in named) (reg - 4) latch.bits) is in
    (λ i. record (content_of pins boundary named captures updates) { named = put i })
    ∙ ap (λ (register : Register). latched register stage (content_of pins boundary named captures updates)) (sym (numbered_named reg le))

past : (named : List BitList) (k : ℕ) → length named ≤ k → slice_index_or (map bits_in named) k [] ≡ []
past [] k le = refl
past (x ∷ named) zero le = absurd (omega (arith, le))
past (x ∷ named) (suc k) le = past named k (omega (arith, le))

pub latch_past : (content : Content) (named : List BitList) (reg at : ℕ) → content.named ≡ map bits_in named → 4 ≤ reg → length named ≤ reg - 4 → false ≡ bit_at (latch_of content (numbered reg)) at
latch_past content named reg at is le out =
    ap (λ (bits : List Bool). bit_at bits at) (sym (past named (reg - 4) out) ∙ ap (λ (l : List (List Bool)). slice_index_or l (reg - 4) []) (sym is))
    ∙ ap (λ (register : Register). bit_at (latch_of content register) at) (sym (numbered_named reg le))

-- what is captured
pub latch_captured : (content : Content) (named : List BitList) (reg : ℕ) (d : BitList) → content.named ≡ map bits_in named → 4 ≤ reg → reg - 4 < length named
    → (get_or named (reg - 4) d).bits ≡ latch_of content (numbered reg)
latch_captured content named reg d is le lt =
    indexed named (reg - 4) d lt ∙ ap (λ (l : List (List Bool)). slice_index_or l (reg - 4) []) (sym is) ∙ ap (λ (register : Register). latch_of content register) (sym (numbered_named reg le))
  where
    indexed : (named : List BitList) (k : ℕ) (d : BitList) → k < length named → (get_or named k d).bits ≡ slice_index_or (map bits_in named) k []
    indexed [] k d lt = absurd (omega (arith, lt))
    indexed (x ∷ named) zero d lt = refl
    indexed (x ∷ named) (suc k) d lt = indexed named k d (omega (arith, lt))

pub captured_named : (chain : ChainState) (place : ℕ) (device : DeviceState) (reg : ℕ) → 4 ≤ reg → latch_of device.content (numbered reg) ≡ captured_by chain place device (numbered reg)
captured_named chain place device reg le =
    ap (λ (register : Register). latch_of device.content register) (numbered_named reg le) ∙ sym (ap (λ (register : Register). captured_by chain place device register) (numbered_named reg le))

pub count_named : (registers : List NamedRegister) (latches : List BitList) → latch_lengths latches ≡ named_lengths registers → length latches ≡ length registers
count_named registers latches is =
    sym (length-map latches (λ (latch : BitList). length latch.bits)) ∙ ap length is ∙ length-map registers (λ (register : NamedRegister). register.length)

pub code_captured : (code : Option ℕ) (given : Option (List Bool)) (word : ℕ) → option_map (bits_of 32) code ≡ given → word ≡ unwrap_or code 0 → bits_of 32 word ≡ code_or_zeros given
code_captured None given word is word_is = ap (bits_of 32) word_is ∙ ap code_or_zeros is
code_captured (Some code) given word is word_is = ap (bits_of 32) word_is ∙ ap code_or_zeros is

-- a latch of zeros more
zeros_at : (registers : List NamedRegister) (k : ℕ) → k < length registers
    → map zero_latch (drop k registers) ≡ record { bits = replicate (named_length registers k) false; room = named_length registers k } ∷ map zero_latch (drop (suc k) registers)
zeros_at [] k lt = absurd (omega (arith, lt))
zeros_at (register ∷ registers) zero lt = refl
zeros_at (register ∷ registers) (suc k) lt = zeros_at registers k (omega (arith, lt))

pub next_latch : (part : DeviceType) (latches pushed all : List BitList) (reg count : ℕ) (z : BitList) → 4 ≤ reg → reg < register_count part → count ≡ length_of part (numbered reg)
    → z ≡ record { bits = replicate count false; room = count } → pushed ≡ latches ++ z ∷ [] → latches ++ map zero_latch (drop (reg - 4) part.named) ≡ all
    → pushed ++ map zero_latch (drop (reg + 1 - 4) part.named) ≡ all
next_latch part latches pushed all reg count z le lt count_is z_is pushed_is is =
    let more : reg + 1 - 4 ≡ suc (reg - 4) = omega (arith, le) in
    let n : count ≡ named_length part.named (reg - 4) = count_is ∙ length_named part reg le in
    let first : z ≡ record { bits = replicate (named_length part.named (reg - 4)) false; room = named_length part.named (reg - 4) } = z_is ∙ (λ i. record { bits = replicate (n i) false; room = n i }) in
    ap (λ (k : ℕ). pushed ++ map zero_latch (drop k part.named)) more
    ∙ ap (λ (l : List BitList). l ++ map zero_latch (drop (suc (reg - 4)) part.named)) pushed_is
    ∙ append_assoc latches (z ∷ []) (map zero_latch (drop (suc (reg - 4)) part.named))
    ∙ ap (λ (l : List BitList). latches ++ l) ((λ i. first i ∷ map zero_latch (drop (suc (reg - 4)) part.named)) ∙ sym (zeros_at part.named (reg - 4) (omega (arith, le, lt))))
    ∙ is

zero_lengths : (registers : List NamedRegister) → latch_lengths (map zero_latch registers) ≡ named_lengths registers
zero_lengths [] = refl
zero_lengths (register ∷ registers) = λ i. length-replicate register.length false i ∷ zero_lengths registers i

zero_rooms : (registers : List NamedRegister) → latch_rooms (map zero_latch registers) ≡ named_lengths registers
zero_rooms [] = refl
zero_rooms (register ∷ registers) = ap (λ (l : List ℕ). register.length ∷ l) (zero_rooms registers)

-- the room of the data stage
longest_at : (registers : List NamedRegister) (k : ℕ) → named_length registers k ≤ max 1 (longest_named registers)
longest_at [] k = omega arith
longest_at (register ∷ registers) zero = omega arith
longest_at (register ∷ registers) (suc k) = omega (arith, longest_at registers k)

pub stage_holds : (part : DeviceType) (register : Register) → length_of part register ≤ stage_room part
stage_holds part Bypass = omega arith
stage_holds part Boundary = omega arith
stage_holds part Idcode = omega arith
stage_holds part Usercode = omega arith
stage_holds part (Named at) = omega (arith, longest_at part.named at)

-- ---- the device as it is seen

pub recaptured : (part : DeviceType) (ir : BitList) (dr : DataStage) (pins boundary cleared new : BitList) (named : List BitList) (n v : ℕ) → Sizes part ir dr pins boundary named
    → cleared ≡ record { bits = []; room = ir.room } → n ≡ part.ir_length → new ≡ record cleared { bits = cleared.bits ++ bits_of n v } → Sizes part new dr pins boundary named
recaptured part ir dr pins boundary cleared new named n v sizes cleared_is n_is is =
    let new_is : new ≡ record { bits = bits_of n v; room = ir.room } = is ∙ (λ i. record { bits = (cleared_is i).bits ++ bits_of n v; room = (cleared_is i).room }) in
    record {
      ir_few = sizes.ir_few;
      ir_length = ap (λ (list : BitList). length list.bits) new_is ∙ length-bits_of n v ∙ n_is;
      ir_room = ap (λ (list : BitList). list.room) new_is ∙ sizes.ir_room;
      dr_room = sizes.dr_room;
      standing = sizes.standing;
      pins_length = sizes.pins_length;
      latches = sizes.latches;
    }

pub cleared_stage : (part : DeviceType) (ir : BitList) (dr new : DataStage) (pins boundary : BitList) (named : List BitList) → Sizes part ir dr pins boundary named → new ≡ held_stage [] dr.came.room → Sizes part ir new pins boundary named
cleared_stage part ir dr new pins boundary named sizes is = record {
  ir_few = sizes.ir_few;
  ir_length = sizes.ir_length;
  ir_room = sizes.ir_room;
  dr_room = ap (λ (stage : DataStage). stage.came.room) is ∙ sizes.dr_room;
  standing = held_there new [] dr.came.room pins named is (omega arith);
  pins_length = sizes.pins_length;
  latches = sizes.latches;
}

abbrev pub seen : DeviceType → List Bool → List Bool → List Bool → Content → DeviceState
seen part code ir dr content = record { part = part; code = code; ir_stage = ir; dr_stage = dr; content = content }

pub seen_as : (part : DeviceType) (content : Content) (code code' ir ir' dr dr' : List Bool) → code ≡ code' → ir ≡ ir' → dr ≡ dr' → seen part code ir dr content ≡ seen part code' ir' dr' content
seen_as part content code code' ir ir' dr dr' code_is ir_is dr_is = λ i. seen part (code_is i) (ir_is i) (dr_is i) content

pub code_read : (bits : List Bool) (n len word : ℕ) → n ≡ len → length bits ≡ len → word ≡ number_of (take n (drop 0 bits)) → bits_of len word ≡ bits
code_read bits n len word n_is long is =
    let all : take n bits ≡ bits = take_all n bits (omega (arith, n_is, long)) in
    (λ i. bits_of (sym long i) ((is ∙ ap number_of all) i)) ∙ bits_of-number_of bits

pub zeros_put : (cleared new : BitList) (n len room : ℕ) → cleared ≡ record { bits = []; room = room } → n ≡ len → new ≡ record cleared { bits = cleared.bits ++ bits_of n 0 } → new.bits ≡ replicate len false
zeros_put cleared new n len room cleared_is n_is is =
    ap bits_in is ∙ (λ i. (cleared_is i).bits ++ bits_of (n_is i) 0) ∙ bits_of-zero len

-- a device type has at most 64 instruction bits
pub few_bits : (part : DeviceType) → IsPart part → part.ir_length ≤ 64
few_bits part is =
    let first = first_none (code_refusal is.plan) _ is.accepted in
    subst (λ (p : DeviceType). p.ir_length ≤ 64) (sym is.made) (coded is.plan first.0).most

pub zeros_fit : (part : DeviceType) (boundary : BitList) (named : List BitList) → boundary ≡ record { bits = replicate part.boundary_length false; room = part.boundary_length }
    → named ≡ map zero_latch part.named → HasLatches part boundary named
zeros_fit part boundary named boundary_is named_is = record {
  boundary_length = omega (arith, ap (λ (list : BitList). length list.bits) boundary_is, length-replicate part.boundary_length false);
  boundary_room = ap (λ (list : BitList). list.room) boundary_is;
  lengths = ap latch_lengths named_is ∙ zero_lengths part.named;
  rooms = ap latch_rooms named_is ∙ zero_rooms part.named;
}

zero_bits : (registers : List NamedRegister) → map bits_in (map zero_latch registers) ≡ zero_latches registers
zero_bits [] = refl
zero_bits (register ∷ registers) = ap (λ (l : List (List Bool)). replicate register.length false ∷ l) (zero_bits registers)

pub powered_seen : (part : DeviceType) (placed : Placed) (code pins dr : List Bool) (ir boundary : BitList) (named : List BitList) → part ≡ placed.part → code ≡ part.reset_code
    → ir.bits ≡ replicate part.ir_length false → dr ≡ [] → pins ≡ placed.pins → length pins ≡ part.boundary_length → boundary.bits ≡ replicate part.boundary_length false → named ≡ map zero_latch part.named
    → seen part code ir.bits dr (content_of pins boundary.bits named 0 0) ≡ powered_device placed
powered_seen part placed code pins dr ir boundary named part_is code_is ir_is dr_is pins_are long boundary_is named_is =
    let latches : map bits_in named ≡ zero_latches part.named = ap (map bits_in) named_is ∙ zero_bits part.named in
    let zeros : shifted_all pins boundary.bits ≡ replicate part.boundary_length false
    = all_came pins boundary.bits (ap (λ (bits : List Bool). length bits) boundary_is ∙ length-replicate part.boundary_length false ∙ sym long) ∙ boundary_is in
    (λ i. seen part (code_is i) (ir_is i) (dr_is i) (record { pins = pins_are i; boundary = zeros i; named = latches i; captures = 0; updates = 0 }))
    ∙ ap (λ (p : DeviceType). powered_device (record { part = p; pins = placed.pins })) part_is
