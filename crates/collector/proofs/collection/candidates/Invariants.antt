-- Those of the entries so far that may go.
use Rattle.std.proofs.Common.{◌≡◌, map, take}
use Rattle.std.specs.List.{filter}
use Rattle.collector.specs.Candidates.{standing}
use Rattle.collector.specs.Standing.{standing_of, may_go}
use Rattle.collector.proofs.collection.candidates.Given as goal

abbrev pub invariant-loop-entry : goal.invariant-loop-entry
invariant-loop-entry l =
    map standing l.candidates.items ≡ map (standing_of l.now) (filter (may_go (record { now = l.now; pinned = l.held; lease = l.lease })) (take l.entry-index l.entries))
