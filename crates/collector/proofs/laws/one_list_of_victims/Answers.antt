use Rattle.collector.proofs.Existence.{at_least_one}
use Rattle.collector.proofs.Taking.{at_most_one}
use Rattle.collector.proofs.laws.one_list_of_victims.Goals as goal

pub returns : goal.returns
returns c = record { some = at_least_one; one = at_most_one }
