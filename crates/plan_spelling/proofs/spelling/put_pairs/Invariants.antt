-- The count, and the items so far.
use Rattle.std.proofs.Common.{◌≡◌, ◌++◌, take}
use Rattle.std.specs.List.{flat_map}
use Rattle.plan_spelling.specs.Spelling.{pair_spelling}
use Rattle.plan_spelling.proofs.spelling.put_pairs.Given as goal

abbrev pub invariant-loop-pair : goal.invariant-loop-pair
invariant-loop-pair l = l.out.items ≡ l.initial.out.items ++ flat_map pair_spelling (take l.pair-index l.pairs)
