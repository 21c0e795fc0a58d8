-- The count, and the items so far.
use Rattle.std.proofs.Common.{◌≡◌, ◌++◌, take}
use Rattle.std.specs.List.{flat_map}
use Rattle.plan_spelling.specs.Spelling.{agg_spelling}
use Rattle.plan_spelling.proofs.spelling.put_aggs.Given as goal

abbrev pub invariant-loop-agg : goal.invariant-loop-agg
invariant-loop-agg l = l.out.items ≡ l.initial.out.items ++ flat_map agg_spelling (take l.agg-index l.aggs)
