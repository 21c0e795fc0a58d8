use Rattle.collector.proofs.Ranks.{not_before_itself, goes_further, one_goes}
use Rattle.collector.proofs.laws.ratios_are_ordered.Goals as goal

pub returns : goal.returns
returns c = record { one_way = not_before_itself; further = goes_further; total = one_goes }
