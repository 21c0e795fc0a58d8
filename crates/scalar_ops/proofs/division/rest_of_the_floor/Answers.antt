-- By the signs, from the rest of the quotient that is cut off.
use Rattle.scalar_ops.proofs.Rounding.{floor_mod-IsRest}
use Rattle.scalar_ops.proofs.division.rest_of_the_floor.Goals as goal

pub returns : goal.returns
returns c = floor_mod-IsRest
