-- The ids so far, and what is left of the others.
use Rattle.std.proofs.Common.{◌≡◌, map, drop, ◌++◌}
use Rattle.collector.specs.Standing.{first_enough}
use Rattle.collector.proofs.collection.first_ids.Given as goal

abbrev pub invariant-loop-candidate : goal.invariant-loop-candidate
invariant-loop-candidate l =
    l.ids.items ++ map (λ c. c.id) (first_enough (λ c. c.size) l.left (drop l.candidate-index l.candidates))
    ≡ map (λ c. c.id) (first_enough (λ c. c.size) l.fn.reclaim l.candidates)
