use Rattle.std.proofs.Common.{subst, sym, ap, ◌∙◌, List, ℕ, Ok, Err}
use Rattle.ports.specs.Shelves.{GivesFront, RefusesName, after_load}
use Rattle.share_top.proofs.SetupLaws.{refused_over, found_over, absent_over, listed_absent, listed_fault, listed_more}
use Rattle.share_top.proofs.setup.load_setup.Goals as goal

pub returns-in-Err-Absent-clause-refused : goal.returns-in-Err-Absent-clause-refused
returns-in-Err-Absent-clause-refused g c = absent_over (g.S.Shelf.files c.args.shelf.now) c.args.name.now (subst (RefusesName (g.S.Shelf.files c.args.shelf.now) c.args.name.now) c.in-Err-Absent.field-0-is c.in-Err-Absent.ensures.refused)

pub returns-in-Ok-read_setup-clause-found : goal.returns-in-Ok-read_setup-clause-found
returns-in-Ok-read_setup-clause-found g c =
    found_over c.in-Ok-read_setup.setup (g.S.Shelf.files c.args.shelf.now) (g.S.Shelf.files c.load.new.self) c.args.name.now c.deref.result.now
    (subst (λ (b : List ℕ). GivesFront (g.S.Shelf.files c.args.shelf.now) c.args.name.now 1048577 b) (sym c.deref.ensures.value) c.in-Ok.ensures.given) c.in-Ok.ensures.files c.in-Ok-read_setup.ensures.ok

pub returns-clause-refused : goal.returns-clause-refused
returns-clause-refused g c =
    refused_over c.in-Err.refusal (g.S.Shelf.files c.args.shelf.now) (g.S.Shelf.files c.load.new.self) c.args.name.now c.deref.result.now
    (subst (λ (b : List ℕ). GivesFront (g.S.Shelf.files c.args.shelf.now) c.args.name.now 1048577 b) (sym c.deref.ensures.value) c.in-Ok.ensures.given) c.in-Ok.ensures.files c.in-Err.ensures.refused

pub returns-in-Err-Absent-clause-loads : goal.returns-in-Err-Absent-clause-loads
returns-in-Err-Absent-clause-loads g c =
    listed_absent _ _ _ (c.in-Err-Absent.ensures.loads ∙ ap (λ fault. after_load (g.S.Shelf.loads c.args.shelf.now) c.args.name.now (Err fault)) c.in-Err-Absent.field-0-is)

pub returns-in-Err-Fault-clause-loads : goal.returns-in-Err-Fault-clause-loads
returns-in-Err-Fault-clause-loads g c =
    listed_fault _ _ _ (c.in-Err-Fault.ensures.loads ∙ ap (λ fault. after_load (g.S.Shelf.loads c.args.shelf.now) c.args.name.now (Err fault)) c.in-Err-Fault.field-0-is)

pub returns-in-Ok-read_setup-clause-loads : goal.returns-in-Ok-read_setup-clause-loads
returns-in-Ok-read_setup-clause-loads g c =
    listed_more _ (g.S.Shelf.loads c.load.new.self) _ _ c.deref.result.now
    (c.in-Ok.ensures.loads ∙ ap (λ (bytes : List ℕ). after_load (g.S.Shelf.loads c.args.shelf.now) c.args.name.now (Ok bytes)) (sym c.deref.ensures.value)) c.in-Ok-read_setup.ensures.first

pub returns-clause-loads : goal.returns-clause-loads
returns-clause-loads g c =
    listed_more _ (g.S.Shelf.loads c.load.new.self) _ _ c.deref.result.now
    (c.in-Ok.ensures.loads ∙ ap (λ (bytes : List ℕ). after_load (g.S.Shelf.loads c.args.shelf.now) c.args.name.now (Ok bytes)) (sym c.deref.ensures.value)) c.in-Err.ensures.first
