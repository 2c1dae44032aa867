-- What a start and an abandon do to what a cable tells.
use Rattle.std.proofs.Common.{◌≡◌, ◌≤◌, ℕ, false, List, [], ◌∷◌, length, map, refl, ap, sym, subst, ◌∙◌, arith, Some, None}
use Rattle.std.specs.declared.option.Option.{Option}
use Rattle.std.proofs.lemmas.List.{length-map}
use Rattle.base_types.specs.Counts.{raised}
use Rattle.base_types.specs.Tellings.{Told, Both}
use Rattle.tap_states.specs.declared.Tap.TheVariants.{TestLogicReset}
use Rattle.scan_bits.specs.Words.{number_of}
use Rattle.part_model.specs.Parts.{DeviceType}
use Rattle.chain_model.specs.Chains.{ChainState, reset}
use Rattle.chain_model.specs.Cycles.{after_call, clocks_of}
use Rattle.chain_model.specs.Cables.{Clocked, HasDevice}
use Rattle.grant_table.specs.Kept.{AllParts}
use Rattle.grant_table.specs.Layouts.{LayoutShape}
use Rattle.scan_share.specs.Scans.{IsWhole, Starts, Abandons}
use Rattle.scan_share.specs.Codes.{reset_word}
use Rattle.scan_share.specs.Views.{RestsWith, AsksAtMost}
use Rattle.scan_share.proofs.Whole.{start_rests, reset_abandons}

-- a whole chain of a layout has a device
pub whole_devices : (layout : LayoutShape) (chain : Option ChainState) → 1 ≤ length layout.parts → Told chain (IsWhole layout) → Told chain HasDevice
whole_devices layout None some whole = tt
whole_devices layout (Some chain) some whole = omega (arith, some, ap length whole.parts_are, length-map chain.devices (λ device. device.part))

reset_words : (parts : List DeviceType) → map reset_word parts ≡ map number_of (map (λ part. part.reset_code) parts)
reset_words [] = refl
reset_words (part ∷ parts) = ap (λ rest. reset_word part ∷ rest) (reset_words parts)

pub started : (layout : LayoutShape) (old new : Option ChainState) (word : ℕ) → AllParts layout.parts → Told old (IsWhole layout)
    → Told old (λ chain. (chain.state ≡ TestLogicReset) × (chain.scan_open ≡ false)) → Clocked old new (clocks_of 6 31 0) word → Both old new (Starts layout)
started layout None None word parts whole state clocked = tt
started layout None (Some new) word parts whole state clocked = absurd clocked
started layout (Some old) None word parts whole state clocked = absurd clocked
started layout (Some old) (Some new) word parts whole state clocked =
    subst (Starts layout old) (sym clocked.0) (start_rests layout 1 old parts whole state.0 state.1)

pub starts_whole : (layout : LayoutShape) (old new : Option ChainState) → Both old new (Starts layout) → Told new (IsWhole layout)
starts_whole layout old None is = tt
starts_whole layout None (Some new) is = absurd is
starts_whole layout (Some old) (Some new) is = is.whole

pub starts_rest : (layout : LayoutShape) (old new : Option ChainState) (loaded : List ℕ) → loaded ≡ map reset_word layout.parts → Both old new (Starts layout) → Told new (RestsWith loaded)
starts_rest layout old None loaded are is = tt
starts_rest layout None (Some new) loaded are is = absurd is
starts_rest layout (Some old) (Some new) loaded are is =
    record { codes_are = are ∙ reset_words layout.parts ∙ ap (map number_of) (sym is.codes_are); parked = is.parked }

pub abandoned : (layout : LayoutShape) (old between new : Option ChainState) (word : ℕ) → AllParts layout.parts → Told old (IsWhole layout)
    → Both old between (λ a b. b ≡ reset a) → Clocked between new (clocks_of 1 0 0) word → Both old new (Abandons layout)
abandoned layout None None None word parts whole first clocked = tt
abandoned layout None None (Some new) word parts whole first clocked = absurd clocked
abandoned layout None (Some between) new word parts whole first clocked = absurd first
abandoned layout (Some old) None new word parts whole first clocked = absurd first
abandoned layout (Some old) (Some between) None word parts whole first clocked = absurd clocked
abandoned layout (Some old) (Some between) (Some new) word parts whole first clocked =
    subst (Abandons layout old) (sym (clocked.0 ∙ ap (after_call (clocks_of 1 0 0)) first)) (reset_abandons layout 1 old parts whole)

pub abandons_asked : (old between new : Option ChainState) (word : ℕ) → Both old between (λ a b. b ≡ reset a) → Clocked between new (clocks_of 1 0 0) word → Both old new (AsksAtMost 1)
abandons_asked None None None word first clocked = tt
abandons_asked None None (Some new) word first clocked = absurd clocked
abandons_asked None (Some between) new word first clocked = absurd first
abandons_asked (Some old) None new word first clocked = absurd first
abandons_asked (Some old) (Some between) None word first clocked = absurd clocked
abandons_asked (Some old) (Some between) (Some new) word first clocked =
    let is : new.asked ≡ raised old.asked 1 = ap (λ c. c.asked) (clocked.0 ∙ ap (after_call (clocks_of 1 0 0)) first) in omega (arith, is)

pub abandons_whole : (layout : LayoutShape) (old new : Option ChainState) → Both old new (Abandons layout) → Told new (IsWhole layout)
abandons_whole layout old None is = tt
abandons_whole layout None (Some new) is = absurd is
abandons_whole layout (Some old) (Some new) is = is.whole

pub abandons_rest : (layout : LayoutShape) (old new : Option ChainState) (loaded : List ℕ) → loaded ≡ map reset_word layout.parts → Both old new (Abandons layout) → Told new (RestsWith loaded)
abandons_rest layout old None loaded are is = tt
abandons_rest layout None (Some new) loaded are is = absurd is
abandons_rest layout (Some old) (Some new) loaded are is =
    record { codes_are = are ∙ reset_words layout.parts ∙ ap (map number_of) (sym is.codes_are); parked = is.parked }
