-- The registers of a group are no longer than the longest of its devices.
use Rattle.std.proofs.Common.{◌≡◌, ◌≤◌, ℕ, List, [], ◌∷◌, arith, refl, Some, None}
use Rattle.std.specs.Prelude.{slice_get}
use Rattle.std.specs.List.{sum_by, cons_option}
use Rattle.std.specs.declared.option.Option.{Option}
use Rattle.std.proofs.lemmas.List.Sums.{sum_by-cons}
use Rattle.scan_bits.specs.Words.{bits_of}
use Rattle.part_model.specs.Parts.{DeviceType, width, longest}
use Rattle.part_model.specs.Sound.{IsSoundPart}
use Rattle.part_model.proofs.Accepted.{part_is_sound}
use Rattle.grant_table.specs.Layouts.{LayoutShape, group_of, longest_of}
use Rattle.grant_table.specs.Kept.{AllParts}
use Rattle.scan_share.specs.PrivateChains.{entries_at}
use Rattle.scan_share.specs.Scans.{codes_of, widths_during}
use Rattle.scan_share.specs.Views.{own_width}

-- the widths of these devices' registers under any codes are at most their longest ones
abbrev WidthsFit : List DeviceType → Type 0
WidthsFit parts = (codes : List ℕ) → sum_by (λ w. w) (widths_during parts (codes_of parts codes)) ≤ sum_by longest parts

one_fits : (part : DeviceType) (parts : List DeviceType) → IsSoundPart part → WidthsFit parts → WidthsFit (part ∷ parts)
one_fits part parts sound fit [] = omega arith
one_fits part parts sound fit (code ∷ codes) =
    omega (
      arith,
      sum_by-cons (λ w. w) (width part (bits_of part.ir_length code)) (widths_during parts (codes_of parts codes)),
      sum_by-cons longest part parts,
      (sound.width_range (bits_of part.ir_length code)).1,
      fit codes,
    )

maybe_fits : (part : Option DeviceType) (parts : List DeviceType) → ((p : DeviceType) → part ≡ Some p → IsSoundPart p) → WidthsFit parts → WidthsFit (cons_option part parts)
maybe_fits None parts sound fit = fit
maybe_fits (Some part) parts sound fit = one_fits part parts (sound part refl) fit

entries_fit : (parts : List DeviceType) → AllParts parts → (group : List ℕ) → WidthsFit (entries_at parts group)
entries_fit parts all [] = λ codes. omega arith
entries_fit parts all (place ∷ group) = maybe_fits (slice_get parts place) (entries_at parts group) (λ p is. part_is_sound p (all place p is)) (entries_fit parts all group)

pub own_widths : (layout : LayoutShape) (grant : ℕ) (codes : List ℕ) → AllParts layout.parts → own_width layout grant codes ≤ longest_of layout (group_of layout.grants grant)
own_widths layout grant codes all = entries_fit layout.parts all (group_of layout.grants grant) codes
