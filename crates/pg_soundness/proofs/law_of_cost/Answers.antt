use Rattle.pg_soundness.proofs.ChargingWalks.{walks_charge_the_cost}
use Rattle.pg_soundness.proofs.law_of_cost.Goals as goal

pub returns : goal.returns
returns c = walks_charge_the_cost
