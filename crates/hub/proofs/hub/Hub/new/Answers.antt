use Rattle.std.proofs.Common.{[], ap, length, subst, sym, ◌∙◌}
use Rattle.plays.specs.Plays.{start}
use Rattle.session_table.specs.Tables.{StandsOn}
use Rattle.hub.proofs.Openings.{begins}
use Rattle.hub.proofs.Started.{begun_hub}
use Rattle.hub.proofs.hub.Hub.new.Goals as goal

pub invariant_of-result : goal.invariant_of-result
invariant_of-result g c = begun_hub c.in-Ok-new.table.hub c.args.layout c.in-Ok.gone.items c.in-Ok-vec.buffer.items c.in-Ok-new.ensures.layout.0 c.in-Ok-new.ensures.seats c.in-Ok-new.ensures.free c.in-Ok-new.ensures.ready
    (sym c.in-Ok.gone.ok.0 ∙ c.in-Ok.ensures.len ∙ c.grants.ensures.is) (sym c.in-Ok-vec.buffer.ok.0 ∙ c.in-Ok-vec.ensures.len)

pub returns-in-Ok-new-clause-begins : goal.returns-in-Ok-new-clause-begins
returns-in-Ok-new-clause-begins g c = λ setting wire fresh is none. begins setting c.in-Ok-new.table.hub (g.C.Cable.chain c.in-Ok-new.table.cable) wire c.in-Ok-new.ensures.free (c.in-Ok-new.ensures.seats ∙ ap (λ layout. length layout.grants) (sym c.in-Ok-new.ensures.layout.0))
    (subst (λ cable. StandsOn setting c.in-Ok-new.table.hub (λ grant. []) (g.C.Cable.chain cable) (start setting)) (sym c.in-Ok-new.ensures.cable) (c.in-Ok-new.ensures.stands setting fresh)) is none
