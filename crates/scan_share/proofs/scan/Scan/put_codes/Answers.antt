use Rattle.std.proofs.Common.{◌≡◌, ◌∙◌, ◌++◌, List, ℕ, arith, ap, sym, subst, length, map}
use Rattle.std.proofs.lemmas.List.{length-map}
use Rattle.grant_table.specs.Layouts.{bypass_word}
use Rattle.scan_share.specs.Codes.{put_at}
use Rattle.scan_share.specs.Rows.{ScanView}
use Rattle.scan_share.proofs.PutCodes.{words_put, refill_all, length-put}
use Rattle.scan_share.proofs.Splits.{scan_coded}
use Rattle.scan_share.proofs.scan.Scan.put_codes.Goals as goal

pub put_own-requires-clause-within : goal.put_own-requires-clause-within
put_own-requires-clause-within c =
    let items : c.as_mut_slice.result.now ≡ map bypass_word c.self.inside.layout.now.parts
    = c.as_mut_slice.ensures.value ∙ c.in-Ok.ensures.ok ∙ ap (λ (done : List ℕ). done ++ c.bypass_codes.result.now) c.clear.ensures ∙ c.bypass_codes.ensures in
    λ k d lt. omega (arith, c.self.invariant.within k d lt, ap length items, length-map c.self.inside.layout.now.parts bypass_word)

pub put_own-requires-clause-counted : goal.put_own-requires-clause-counted
put_own-requires-clause-counted c = subst (λ (v : ScanView). length v.codes ≡ length v.group) (sym c.self.view_is) (scan_coded c.args.self.now c.devices-devices.ensures.scan)

pub returns : goal.returns
returns c =
    let items : c.as_mut_slice.result.now ≡ map bypass_word c.self.inside.layout.now.parts
    = c.as_mut_slice.ensures.value ∙ c.in-Ok.ensures.ok ∙ ap (λ (done : List ℕ). done ++ c.bypass_codes.result.now) c.clear.ensures ∙ c.bypass_codes.ensures in
    refill_all c.try_extend_from_slice.new.self.items c.put_own.new.codes
    (ap length c.put_own.ensures ∙ length-put c.self.inside.group.now c.self.inside.codes.now c.as_mut_slice.result.now ∙ ap length c.as_mut_slice.ensures.value)
    ∙ c.put_own.ensures ∙ ap (put_at c.self.inside.group.now c.self.inside.codes.now) items
    ∙ ap (λ (v : ScanView). put_at v.group v.codes (map bypass_word v.layout.parts)) c.self.view_is ∙ words_put c.args.self.now c.devices-devices.ensures.scan
