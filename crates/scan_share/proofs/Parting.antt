-- A device fits where its part does and its lists have their lengths.
use Rattle.std.proofs.Common.{◌≡◌, ◌<◌, ℕ, zero, suc, Bool, List, [], ◌∷◌, length, map, ap, arith}
use Rattle.std.specs.List.{slice_index_or}
use Rattle.part_model.specs.Parts.{DeviceType, NamedRegister, named_length}
use Rattle.chain_model.specs.Chains.{Content}
use Rattle.scan_share.proofs.Facts.{FitsDevice, PartFits}

abbrev first_of : List ℕ → ℕ
first_of [] = 0
first_of (n ∷ ns) = n

abbrev rest_of : List ℕ → List ℕ
rest_of [] = []
rest_of (n ∷ ns) = ns

named_fit : (latches : List (List Bool)) (registers : List NamedRegister) → map length latches ≡ map (λ register. register.length) registers
    → (at : ℕ) → at < length registers → length (slice_index_or latches at []) ≡ named_length registers at
named_fit latches [] same at lt = absurd (omega (arith, lt))
named_fit [] (r ∷ registers) same at lt = absurd (omega (arith, ap length same))
named_fit (l ∷ latches) (r ∷ registers) same zero lt = ap first_of same
named_fit (l ∷ latches) (r ∷ registers) same (suc at) lt = named_fit latches registers (ap rest_of same) at (omega (arith, lt))

pub device_fits : (part : DeviceType) (content : Content) → PartFits part → length content.pins ≡ part.boundary_length
    → map length content.named ≡ map (λ register. register.length) part.named → FitsDevice part content
device_fits part content fit pins named = record {
  some = fit.some;
  captures = fit.captures;
  pins = pins;
  idcode = fit.idcode;
  usercode = fit.usercode;
  wide = fit.wide;
  named = λ code at is. named_fit content.named part.named named at (fit.in_range code at is);
}
