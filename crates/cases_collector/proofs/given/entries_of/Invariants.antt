-- All so far can be ranked.
use Rattle.std.specs.List.{All}
use Rattle.collector.specs.Ratio.{CanBeRanked}
use Rattle.cases_collector.proofs.given.entries_of.Given as goal

abbrev pub invariant-loop-part : goal.invariant-loop-part
invariant-loop-part l = All (CanBeRanked l.now) l.entries.items
