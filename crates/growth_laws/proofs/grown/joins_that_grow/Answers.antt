use Rattle.growth_laws.proofs.GrownJoins.{grown_on_the_left, grown_on_the_right, grown_on_both}
use Rattle.growth_laws.proofs.grown.joins_that_grow.Goals as goal

pub returns : goal.returns
returns c = record { left = grown_on_the_left; right = grown_on_the_right; both = grown_on_both }
