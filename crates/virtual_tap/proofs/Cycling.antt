-- Cycles in a row with TMS 0, in Shift-DR and in Shift-IR.
use Rattle.std.proofs.Common.{◌≡◌, ◌≤◌, ◌<◌, ◌+◌, ◌*◌, ◌/◌, ◌%◌, ◌==◌, ℕ, zero, suc, Bool, true, false, List, [], ◌∷◌, ◌++◌, length, map, replicate, refl, sym, ap, subst, ◌∙◌, arith, Some, None, is_some, length-append}
use Rattle.std.specs.declared.option.Option.{Option}
use Rattle.std.specs.Option.{unwrap_or}
use Rattle.tap_states.specs.declared.Tap.{Tap}
use Rattle.tap_states.specs.declared.Tap.TheVariants.{ShiftDr, ShiftIr}
use Rattle.tap_states.specs.States.{is_shift, next}
use Rattle.scan_bits.specs.BitLists.{BitList}
use Rattle.scan_bits.specs.Words.{bits_of, number_of, bit_value}
use Rattle.scan_bits.specs.Registers.{joined, lowest_or, shifted, shifted_all, shifted_out, shifted_stages}
use Rattle.scan_bits.proofs.Queue.{joined-shifted, shifted-append}
use Rattle.scan_bits.proofs.WordLaws.{length-bits_of, bit_value-lt}
use Rattle.part_model.specs.Parts.{DeviceType}
use Rattle.part_model.specs.Plans.{IsPart, code_refusal}
use Rattle.part_model.proofs.ResetLaws.{coded, first_none}
use Rattle.chain_model.specs.Chains.{ChainState, DeviceState}
use Rattle.chain_model.specs.Cycles.{Clock, rise, cycle, after_cycles, answers, clocks_of, shifted_dr, shifted_ir}
use Rattle.std.specs.List.{sum_by}
use Rattle.scan_share.specs.Scans.{types_of, widths_during}
use Rattle.virtual_tap.specs.Views.{StandsFor, EachLength, HasRegister}
use Rattle.virtual_tap.specs.Instructions.{InstructionState, GroupInstructions, ArePlans, shifted_through, out_of, parts_of, stages_of, risen}
use Rattle.virtual_tap.specs.Taps.{bits_shown, turned, risen_register, tdo_shown, tap_of, row_register, row_instructions, shown_out, shifting, IsTap, KeepsTap, room_of, longest_scan}
use Rattle.virtual_tap.proofs.Loaded.{parts_shifted}
use Rattle.virtual_tap.proofs.Keeping.{parts_risen, shifted_fit, turned_fits, turned_there, turned_room}
use Rattle.virtual_tap.proofs.Moving.{view_of, never, moves_rise, moves_fall}

-- ---- rows of shifts

-- through two registers
out_append : (front back bits : List Bool) → shifted_out (front ++ back) bits ≡ shifted_out front (shifted_out back bits)
out_append front back [] = refl
out_append front back (bit ∷ bits) =
    let first : lowest_or bit (front ++ back) ≡ lowest_or (lowest_or bit back) front = lowest_append front in
    let rest = ap (λ register. shifted_out register bits) (shifted-append front back bit) ∙ out_append (shifted front (lowest_or bit back)) (shifted back bit) bits in
    λ i. first i ∷ rest i
  where
    lowest_append : (front : List Bool) → lowest_or bit (front ++ back) ≡ lowest_or (lowest_or bit back) front
    lowest_append [] = refl
    lowest_append (x ∷ front) = refl

empty_out : (bits : List Bool) → shifted_out [] bits ≡ bits
empty_out [] = refl
empty_out (bit ∷ bits) = ap (λ rest. bit ∷ rest) (empty_out bits)

pub out_joined : (bits : List Bool) (rs : List InstructionState) → out_of bits rs ≡ shifted_out (joined (stages_of rs)) bits
out_joined bits [] = sym (empty_out bits)
out_joined bits (r ∷ rs) = out_joined (shifted_out r.stage bits) rs ∙ sym (out_append (joined (stages_of rs)) r.stage bits)

-- where a register has a bit, that one is shown
pub shown_shifted : (register bits : List Bool) → 1 ≤ length register → shifted_out register bits ≡ shown_out register bits
shown_shifted register [] some = refl
shown_shifted [] (bit ∷ bits) some = absurd (omega (arith, some))
shown_shifted (x ∷ register) (bit ∷ bits) some = ap (λ rest. x ∷ rest) (shown_shifted (register ++ bit ∷ []) bits (omega (arith, length-append register (bit ∷ []))))

pub shown_empty : (bits : List Bool) → shown_out [] bits ≡ replicate (length bits) true
shown_empty [] = refl
shown_empty (bit ∷ bits) = ap (λ rest. true ∷ rest) (shown_empty bits)

-- what the data register shows, by what it is
pub out_none : (register : Option BitList) (n tdi word : ℕ) → register ≡ None → word ≡ number_of (replicate n true) → word ≡ number_of (shown_out (unwrap_or (bits_shown register) []) (bits_of n tdi))
out_none None n tdi word none is = is ∙ ap (λ k. number_of (replicate k true)) (sym (length-bits_of n tdi)) ∙ ap number_of (sym (shown_empty (bits_of n tdi)))
out_none (Some list) n tdi word none is = absurd (let q : Some list ≡ None = none in cc)

pub out_empty : (register : Option BitList) (list : BitList) (n tdi word : ℕ) → register ≡ Some list → length list.bits ≡ 0 → word ≡ number_of (replicate n true) → word ≡ number_of (shown_out (unwrap_or (bits_shown register) []) (bits_of n tdi))
out_empty register list n tdi word found none is =
    out_none None n tdi word refl is ∙ ap (λ bits. number_of (shown_out bits (bits_of n tdi))) (sym (empty list.bits none)) ∙ ap (λ r. number_of (shown_out (unwrap_or (bits_shown r) []) (bits_of n tdi))) (sym found)
  where
    empty : (bits : List Bool) → length bits ≡ 0 → bits ≡ []
    empty [] none = refl
    empty (bit ∷ bits) none = absurd (omega (arith, none))

pub out_some : (register : Option BitList) (list : BitList) (n tdi word : ℕ) → register ≡ Some list → 1 ≤ length list.bits → word ≡ number_of (shifted_out list.bits (bits_of n tdi))
    → word ≡ number_of (shown_out (unwrap_or (bits_shown register) []) (bits_of n tdi))
out_some register list n tdi word found some is = is ∙ ap number_of (shown_shifted list.bits (bits_of n tdi) some) ∙ ap (λ r. number_of (shown_out (unwrap_or (bits_shown r) []) (bits_of n tdi))) (sym found)

pub empty_stays : (register : Option BitList) (list : BitList) (bits : List Bool) → register ≡ Some list → length list.bits ≡ 0 → Some list ≡ turned true bits register
empty_stays register list bits found none = ap (λ left. Some (record { bits = left; room = list.room })) (sym (empty list.bits bits none)) ∙ ap (turned true bits) (sym found)
  where
    empty : (register bits : List Bool) → length register ≡ 0 → shifted_all register bits ≡ register
    empty [] [] none = refl
    empty [] (bit ∷ bits) none = empty [] bits none
    empty (x ∷ register) bits none = absurd (omega (arith, none))

pub out_instructions : (rs : List InstructionState) (n tdi word : ℕ) → 1 ≤ length (joined (stages_of rs)) → word ≡ number_of (out_of (bits_of n tdi) rs) → word ≡ number_of (shown_out (joined (stages_of rs)) (bits_of n tdi))
out_instructions rs n tdi word some is = is ∙ ap number_of (out_joined (bits_of n tdi) rs ∙ shown_shifted (joined (stages_of rs)) (bits_of n tdi) some)

-- one shift, and then a row of them
through_more : (bit : Bool) (bits : List Bool) (rs : List InstructionState) → shifted_through bits (shifted_through (bit ∷ []) rs) ≡ shifted_through (bit ∷ bits) rs
through_more bit bits [] = refl
through_more bit bits (r ∷ rs) = ap (λ rest. record { part = r.part; stage = shifted_all r.stage (bit ∷ bits) } ∷ rest) (through_more (lowest_or bit r.stage) (shifted_out (shifted r.stage bit) bits) rs)

turned_more : (is_open bit : Bool) (bits : List Bool) (register : Option BitList) → turned is_open bits (turned is_open (bit ∷ []) register) ≡ turned is_open (bit ∷ bits) register
turned_more false bit bits register = refl
turned_more true bit bits None = refl
turned_more true bit bits (Some list) = refl

stages_through : (bit : Bool) (rs : List InstructionState) → stages_of (shifted_through (bit ∷ []) rs) ≡ shifted_stages bit (stages_of rs)
stages_through bit [] = refl
stages_through bit (r ∷ rs) = ap (λ rest. shifted r.stage bit ∷ rest) (stages_through (lowest_or bit r.stage) rs)

row_more_register : (state : Tap) (is_open bit : Bool) (bits : List Bool) (register : Option BitList) → is_shift state ≡ true
    → row_register state is_open bits (risen_register state is_open bit register) ≡ row_register state is_open (bit ∷ bits) register
row_more_register ShiftDr is_open bit bits register shifts = turned_more is_open bit bits register
row_more_register ShiftIr is_open bit bits register shifts = refl
row_more_register _ is_open bit bits register shifts = never shifts

row_more_instructions : (state : Tap) (bit : Bool) (bits : List Bool) (rs : List InstructionState) → is_shift state ≡ true → row_instructions state bits (risen state bit rs) ≡ row_instructions state (bit ∷ bits) rs
row_more_instructions ShiftDr bit bits rs shifts = refl
row_more_instructions ShiftIr bit bits rs shifts = through_more bit bits rs
row_more_instructions _ bit bits rs shifts = never shifts

-- the register that shifts, after one shift
shifting_more : (state : Tap) (is_open bit : Bool) (register : Option BitList) (rs : List InstructionState) → is_shift state ≡ true
    → shifting state is_open (risen_register state is_open bit register) (risen state bit rs) ≡ shifted (shifting state is_open register rs) bit
shifting_more ShiftDr false bit register rs shifts = refl
shifting_more ShiftDr true bit None rs shifts = refl
shifting_more ShiftDr true bit (Some list) rs shifts = refl
shifting_more ShiftIr is_open bit register rs shifts = ap joined (stages_through bit rs) ∙ joined-shifted (stages_of rs) bit
shifting_more _ is_open bit register rs shifts = never shifts

tdo_shifting : (state : Tap) (is_open : Bool) (register : Option BitList) (rs : List InstructionState) → is_shift state ≡ true → tdo_shown state is_open (bits_shown register) (stages_of rs) ≡ lowest_or true (shifting state is_open register rs)
tdo_shifting ShiftDr is_open register rs shifts = refl
tdo_shifting ShiftIr is_open register rs shifts = refl
tdo_shifting _ is_open register rs shifts = never shifts

-- ---- cycles

-- cycles with TMS 0
abbrev pub still : List Bool → List Clock
still [] = []
still (bit ∷ bits) = record { tms = false; tdi = bit } ∷ still bits

clocks_still : (n tdi : ℕ) → clocks_of n 0 tdi ≡ still (bits_of n tdi)
clocks_still zero tdi = refl
clocks_still (suc n) tdi = ap (λ rest. record { tms = false; tdi = tdi % 2 == 1 } ∷ rest) (clocks_still n (tdi / 2))

types_dr : (tdi : Bool) (ds : List DeviceState) → map (λ device. device.part) (shifted_dr tdi ds) ≡ map (λ device. device.part) ds
types_dr tdi [] = refl
types_dr tdi (d ∷ ds) = ap (λ rest. d.part ∷ rest) (types_dr (lowest_or tdi d.dr_stage) ds)

types_ir : (tdi : Bool) (ds : List DeviceState) → map (λ device. device.part) (shifted_ir tdi ds) ≡ map (λ device. device.part) ds
types_ir tdi [] = refl
types_ir tdi (d ∷ ds) = ap (λ rest. d.part ∷ rest) (types_ir (lowest_or tdi d.ir_stage) ds)

-- a rise in a state that shifts keeps the device types
types_rise : (state : Tap) (chain : ChainState) (tms tdi : Bool) → is_shift state ≡ true → types_of (rise (record chain { state = state }) tms tdi) ≡ types_of chain
types_rise ShiftDr chain tms tdi shifts = types_dr tdi chain.devices
types_rise ShiftIr chain tms tdi shifts = types_ir tdi chain.devices
types_rise _ chain tms tdi shifts = never shifts

types_cycle : (state : Tap) (chain : ChainState) (bit : Bool) → is_shift state ≡ true → types_of (cycle (record chain { state = state }) (record { tms = false; tdi = bit })) ≡ types_of chain
types_cycle ShiftDr chain bit shifts = types_dr bit chain.devices
types_cycle ShiftIr chain bit shifts = types_ir bit chain.devices
types_cycle _ chain bit shifts = never shifts

-- a chain in the state that the view shows
in_state : (chain : ChainState) (state : Tap) → state ≡ chain.state → record chain { state = state } ≡ chain
in_state chain state is = λ i. record chain { state = is i }

-- what is shown after shifts in a state
abbrev pub shown_after : Tap → Bool → GroupInstructions → List InstructionState → Option BitList → ChainState → Type 0
shown_after state is_open g registers register chain = StandsFor (view_of state (tdo_shown state is_open (bits_shown register) (stages_of registers)) is_open (record g { registers = registers }) register) chain

one_cycle : (state : Tap) (tdo is_open : Bool) (g : GroupInstructions) (register : Option BitList) (chain : ChainState) (bit : Bool) → is_shift state ≡ true → types_of chain ≡ parts_of g.registers
    → StandsFor (view_of state tdo is_open g register) chain → shown_after state is_open g (risen state bit g.registers) (risen_register state is_open bit register) (cycle chain (record { tms = false; tdi = bit }))
one_cycle ShiftDr tdo is_open g register chain bit shifts parts s =
    let types = subst (λ c. types_of (rise c false bit) ≡ types_of chain) (in_state chain ShiftDr s.state) (types_rise ShiftDr chain false bit refl) in
    moves_fall ShiftDr tdo is_open g (turned is_open (bit ∷ []) register) refl (rise chain false bit) (types ∙ parts) (moves_rise ShiftDr tdo is_open g register false bit refl chain parts s)
one_cycle ShiftIr tdo is_open g register chain bit shifts parts s =
    let types = subst (λ c. types_of (rise c false bit) ≡ types_of chain) (in_state chain ShiftIr s.state) (types_rise ShiftIr chain false bit refl) in
    moves_fall ShiftIr tdo is_open (record g { registers = shifted_through (bit ∷ []) g.registers }) register refl (rise chain false bit) (types ∙ parts ∙ sym (parts_shifted (bit ∷ []) g.registers))
    (moves_rise ShiftIr tdo is_open g register false bit refl chain parts s)
one_cycle _ tdo is_open g register chain bit shifts parts s = never shifts

types_stay : (state : Tap) (chain : ChainState) (bit : Bool) (rs : List InstructionState) → is_shift state ≡ true → state ≡ chain.state → types_of chain ≡ parts_of rs → types_of (cycle chain (record { tms = false; tdi = bit })) ≡ parts_of (risen state bit rs)
types_stay state chain bit rs shifts is parts =
    subst (λ c. types_of (cycle c (record { tms = false; tdi = bit })) ≡ types_of chain) (in_state chain state is) (types_cycle state chain bit shifts) ∙ parts ∙ sym (parts_risen state bit rs)

row_one_register : (state : Tap) (is_open bit : Bool) (register : Option BitList) → is_shift state ≡ true → risen_register state is_open bit register ≡ row_register state is_open (bit ∷ []) register
row_one_register ShiftDr is_open bit register shifts = refl
row_one_register ShiftIr is_open bit register shifts = refl
row_one_register _ is_open bit register shifts = never shifts

row_one_instructions : (state : Tap) (bit : Bool) (rs : List InstructionState) → is_shift state ≡ true → risen state bit rs ≡ row_instructions state (bit ∷ []) rs
row_one_instructions ShiftDr bit rs shifts = refl
row_one_instructions ShiftIr bit rs shifts = refl
row_one_instructions _ bit rs shifts = never shifts

both : (state : Tap) (is_open : Bool) (g : GroupInstructions) (rs rs' : List InstructionState) (register register' : Option BitList) (chain : ChainState) → rs ≡ rs' → register ≡ register' → shown_after state is_open g rs register chain → shown_after state is_open g rs' register' chain
both state is_open g rs rs' register register' chain same same' shown =
    subst (λ r. shown_after state is_open g rs' r chain) same' (subst (λ all. shown_after state is_open g all register chain) same shown)

row_cycles : (bit : Bool) (bits : List Bool) (state : Tap) (tdo is_open : Bool) (g : GroupInstructions) (register : Option BitList) (chain : ChainState) → is_shift state ≡ true → types_of chain ≡ parts_of g.registers
    → StandsFor (view_of state tdo is_open g register) chain
    → shown_after state is_open g (row_instructions state (bit ∷ bits) g.registers) (row_register state is_open (bit ∷ bits) register) (after_cycles (still (bit ∷ bits)) chain)
row_cycles bit [] state tdo is_open g register chain shifts parts s =
    both state is_open g (risen state bit g.registers) (row_instructions state (bit ∷ []) g.registers) (risen_register state is_open bit register) (row_register state is_open (bit ∷ []) register) (cycle chain (record { tms = false; tdi = bit }))
    (row_one_instructions state bit g.registers shifts) (row_one_register state is_open bit register shifts) (one_cycle state tdo is_open g register chain bit shifts parts s)
row_cycles bit (next ∷ bits) state tdo is_open g register chain shifts parts s =
    let rs = risen state bit g.registers in
    let now = risen_register state is_open bit register in
    let after = cycle chain (record { tms = false; tdi = bit }) in
    both state is_open g (row_instructions state (next ∷ bits) rs) (row_instructions state (bit ∷ next ∷ bits) g.registers) (row_register state is_open (next ∷ bits) now) (row_register state is_open (bit ∷ next ∷ bits) register)
    (after_cycles (still (next ∷ bits)) after)
    (row_more_instructions state bit (next ∷ bits) g.registers shifts) (row_more_register state is_open bit (next ∷ bits) register shifts)
    (row_cycles next bits state (tdo_shown state is_open (bits_shown now) (stages_of rs)) is_open (record g { registers = rs }) now after shifts (types_stay state chain bit g.registers shifts s.state parts)
    (one_cycle state tdo is_open g register chain bit shifts parts s))

-- ---- TDO

row_answers : (bits : List Bool) (state : Tap) (tdo is_open : Bool) (g : GroupInstructions) (register : Option BitList) (chain : ChainState) → is_shift state ≡ true → types_of chain ≡ parts_of g.registers
    → StandsFor (view_of state tdo is_open g register) chain → tdo ≡ lowest_or true (shifting state is_open register g.registers) → answers (still bits) chain ≡ shown_out (shifting state is_open register g.registers) bits
row_answers [] state tdo is_open g register chain shifts parts s shown = refl
row_answers (bit ∷ bits) state tdo is_open g register chain shifts parts s shown =
    let rs = risen state bit g.registers in
    let now = risen_register state is_open bit register in
    let first = sym s.tdo ∙ shown in
    let rest =
    row_answers bits state (tdo_shown state is_open (bits_shown now) (stages_of rs)) is_open (record g { registers = rs }) now (cycle chain (record { tms = false; tdi = bit })) shifts
    (types_stay state chain bit g.registers shifts s.state parts) (one_cycle state tdo is_open g register chain bit shifts parts s) (tdo_shifting state is_open now rs shifts)
    ∙ ap (λ left. shown_out left bits) (shifting_more state is_open bit register g.registers shifts) in
    λ i. first i ∷ rest i

-- the first answer is TDO as it stands
first_answers : (bit : Bool) (bits : List Bool) (state : Tap) (tdo is_open : Bool) (g : GroupInstructions) (register : Option BitList) (chain : ChainState) → is_shift state ≡ true
    → types_of chain ≡ parts_of g.registers → StandsFor (view_of state tdo is_open g register) chain → answers (still (bit ∷ bits)) chain ≡ tdo ∷ shown_out (shifted (shifting state is_open register g.registers) bit) bits
first_answers bit bits state tdo is_open g register chain shifts parts s =
    let rs = risen state bit g.registers in
    let now = risen_register state is_open bit register in
    let rest =
    row_answers bits state (tdo_shown state is_open (bits_shown now) (stages_of rs)) is_open (record g { registers = rs }) now (cycle chain (record { tms = false; tdi = bit })) shifts
    (types_stay state chain bit g.registers shifts s.state parts) (one_cycle state tdo is_open g register chain bit shifts parts s) (tdo_shifting state is_open now rs shifts)
    ∙ ap (λ left. shown_out left bits) (shifting_more state is_open bit register g.registers shifts) in
    λ i. sym s.tdo i ∷ rest i

-- ---- by words

pub moves_row : (n tdi : ℕ) (state : Tap) (tdo is_open : Bool) (g : GroupInstructions) (register : Option BitList) (chain : ChainState) → 1 ≤ n → is_shift state ≡ true → types_of chain ≡ parts_of g.registers
    → StandsFor (view_of state tdo is_open g register) chain
    → shown_after state is_open g (row_instructions state (bits_of n tdi) g.registers) (row_register state is_open (bits_of n tdi) register) (after_cycles (clocks_of n 0 tdi) chain)
moves_row zero tdi state tdo is_open g register chain some shifts parts s = absurd (omega (arith, some))
moves_row (suc n) tdi state tdo is_open g register chain some shifts parts s =
    subst (λ cycles. shown_after state is_open g (row_instructions state (bits_of (suc n) tdi) g.registers) (row_register state is_open (bits_of (suc n) tdi) register) (after_cycles cycles chain)) (sym (clocks_still (suc n) tdi))
    (row_cycles (tdi % 2 == 1) (bits_of n (tdi / 2)) state tdo is_open g register chain shifts parts s)

replaced : (first tdo : Bool) (rest word v : ℕ) → word ≡ bit_value first + 2 * rest → v ≡ bit_value tdo → word / 2 * 2 + v ≡ bit_value tdo + 2 * rest
replaced first tdo rest word v is v_is = omega (arith, is, v_is, bit_value-lt first)

pub answers_row : (n tdi : ℕ) (state : Tap) (tdo is_open : Bool) (g : GroupInstructions) (register : Option BitList) (chain : ChainState) (word v : ℕ) → 1 ≤ n → is_shift state ≡ true
    → types_of chain ≡ parts_of g.registers → StandsFor (view_of state tdo is_open g register) chain → word ≡ number_of (shown_out (shifting state is_open register g.registers) (bits_of n tdi)) → v ≡ bit_value tdo
    → word / 2 * 2 + v ≡ number_of (answers (clocks_of n 0 tdi) chain)
answers_row zero tdi state tdo is_open g register chain word v some shifts parts s is v_is = absurd (omega (arith, some))
answers_row (suc n) tdi state tdo is_open g register chain word v some shifts parts s is v_is =
    let bit = tdi % 2 == 1 in
    let stage = shifting state is_open register g.registers in
    replaced (lowest_or true stage) tdo (number_of (shown_out (shifted stage bit) (bits_of n (tdi / 2)))) word v is v_is
    ∙ ap number_of (sym (first_answers bit (bits_of n (tdi / 2)) state tdo is_open g register chain shifts parts s))
    ∙ ap (λ cycles. number_of (answers cycles chain)) (sym (clocks_still (suc n) tdi))

-- ---- what always holds

some_bits : (part : DeviceType) → IsPart part → 1 ≤ part.ir_length
some_bits part is =
    let first = first_none (code_refusal is.plan) _ is.accepted in
    subst (λ (p : DeviceType). 1 ≤ p.ir_length) (sym is.made) (omega (arith, (coded is.plan first.0).some))

pub joined_some : (rs : List InstructionState) → 0 < length (parts_of rs) → ArePlans (parts_of rs) → EachLength (parts_of rs) (stages_of rs) → 1 ≤ length (joined (stages_of rs))
joined_some [] some plans fit = absurd (omega (arith, some))
joined_some (r ∷ rs) some plans fit = omega (arith, length-append (joined (stages_of rs)) r.stage, fit.0, some_bits r.part plans.0)

parts_row : (state : Tap) (bits : List Bool) (rs : List InstructionState) → parts_of (row_instructions state bits rs) ≡ parts_of rs
parts_row ShiftIr bits rs = parts_shifted bits rs
parts_row _ bits rs = refl

stages_row : (state : Tap) (bits : List Bool) (rs : List InstructionState) → EachLength (parts_of rs) (stages_of rs) → EachLength (parts_of (row_instructions state bits rs)) (stages_of (row_instructions state bits rs))
stages_row ShiftIr bits rs fit = shifted_fit bits rs fit
stages_row _ bits rs fit = fit

fits_row : (state : Tap) (is_open : Bool) (count : ℕ) (bits : List Bool) (register : Option BitList) → HasRegister is_open count (bits_shown register) → HasRegister is_open count (bits_shown (row_register state is_open bits register))
fits_row ShiftDr is_open count bits register has = turned_fits is_open count bits register has
fits_row _ is_open count bits register has = has

there_row : (state : Tap) (is_open : Bool) (bits : List Bool) (register : Option BitList) → is_some (bits_shown (row_register state is_open bits register)) ≡ is_some (bits_shown register)
there_row ShiftDr is_open bits register = turned_there is_open bits register
there_row _ is_open bits register = refl

room_row : (state : Tap) (is_open : Bool) (bits : List Bool) (register : Option BitList) → room_of (row_register state is_open bits register) ≡ room_of register
room_row ShiftDr is_open bits register = turned_room is_open bits register
room_row _ is_open bits register = refl

pub kept_row : (grant : ℕ) (state : Tap) (tdo now is_open : Bool) (g : GroupInstructions) (register : Option BitList) (bits : List Bool)
    → KeepsTap (tap_of grant state tdo is_open g register) (tap_of grant state now is_open (record g { registers = row_instructions state bits g.registers }) (row_register state is_open bits register))
kept_row grant state tdo now is_open g register bits = record { grant = refl; parts = parts_row state bits g.registers; there = there_row state is_open bits register; room = room_row state is_open bits register }

pub tap_row : (grant : ℕ) (state : Tap) (tdo now is_open : Bool) (g : GroupInstructions) (register : Option BitList) (bits : List Bool) → IsTap (tap_of grant state tdo is_open g register)
    → IsTap (tap_of grant state now is_open (record g { registers = row_instructions state bits g.registers }) (row_register state is_open bits register))
tap_row grant state tdo now is_open g register bits is =
    let same = sym (parts_row state bits g.registers) in
    record {
      view = record {
        codes_fit = subst (λ parts. EachLength parts g.codes) same is.view.codes_fit;
        stages_fit = stages_row state bits g.registers is.view.stages_fit;
        register_fits =
            fits_row state is_open (sum_by (λ width. width) (widths_during (parts_of (row_instructions state bits g.registers)) g.codes)) bits register
            (subst (λ parts. HasRegister is_open (sum_by (λ width. width) (widths_during parts g.codes)) (bits_shown register)) same is.view.register_fits);
      };
      timed = is.timed;
      roomy = λ there. subst (λ room. longest_scan (parts_of (row_instructions state bits g.registers)) ≤ room) (sym (room_row state is_open bits register))
          (subst (λ parts. longest_scan parts ≤ room_of register) same (is.roomy (sym (there_row state is_open bits register) ∙ there)));
      some = subst (λ parts. 0 < length parts) same is.some;
      plans = subst ArePlans same is.plans;
    }
