use Rattle.std.proofs.Common.{◌≡◌, ◌++◌, ◌+◌, ◌-◌, arith, false, replicate, subst, sym}
use Rattle.session_table.proofs.Starting.{one_more}
use Rattle.session_table.proofs.seats.none_ready.Goals as goal

pub loop-preserved : goal.loop-preserved
loop-preserved c = (
  subst (λ xs. xs ++ replicate (c.args.count - (c.loop.counter + 1)) false ≡ replicate c.args.count false) (sym c.push_reserved.ensures.items)
      (one_more c.loop.ready.items (replicate c.args.count false) c.args.count c.loop.counter (omega arith) c.loop.invariant.0),
  omega arith,
  omega arith,
)
