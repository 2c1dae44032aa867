-- The grants of the sessions that ended are below 16.
use Rattle.std.proofs.Common.{◌≡◌, Bool, true, false, List, [], ◌∷◌, map, sym}
use Rattle.std.specs.declared.option.Option.{Option}
use Rattle.chain_model.specs.Chains.{ChainState}
use Rattle.chain_token.specs.Waiting.{IsQueue}
use Rattle.plays.proofs.Lists.{false_true}
use Rattle.session_table.specs.declared.Ended.{Ended}
use Rattle.session_table.specs.declared.seats.Seats.{Seats}
use Rattle.session_table.specs.declared.table.Slot.{Slot}
use Rattle.session_table.specs.declared.table.Slot.TheVariants.{Out, Free, Broken}
use Rattle.session_table.specs.Fits.{SlotServes}
use Rattle.session_table.specs.Shown.{EachFew, is_broken, is_out}

each_few : (ended : List Ended) → IsQueue (map (λ one. one.grant) ended) → EachFew ended
each_few [] queue = tt
each_few (one ∷ more) queue = (queue.0, each_few more queue.2)

-- while the cable has not failed
pub few_ended : {C : Type 0} (seats : Seats) (slot : Slot C) (chain : C → Option ChainState) (trst : C → Bool) → is_out slot ≡ false → is_broken slot ≡ false → SlotServes seats slot chain trst → EachFew seats.ended.items
few_ended seats Out chain trst there fit serves = false_true (sym there)
few_ended seats (Broken broken) chain trst there fit serves = false_true (sym fit)
few_ended seats (Free desk) chain trst there fit serves = each_few seats.ended.items serves.fits.once
