-- The count, and the items so far.
use Rattle.std.proofs.Common.{◌≡◌, ◌++◌, take}
use Rattle.std.specs.List.{flat_map}
use Rattle.plan_spelling.specs.Spelling.{key_spelling}
use Rattle.plan_spelling.proofs.spelling.put_keys.Given as goal

abbrev pub invariant-loop-key : goal.invariant-loop-key
invariant-loop-key l = l.out.items ≡ l.initial.out.items ++ flat_map key_spelling (take l.key-index l.keys)
