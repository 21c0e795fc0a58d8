-- What is kept at the places so far.
use Rattle.std.proofs.Common.{◌≡◌, ◌++◌, ◌∷◌, length}
use Rattle.std.specs.List.{AllByRecursion}
use Rattle.std.specs.Vec.Iter.{into_iter_items, into_iter_len}
use Rattle.made_places.specs.Picking.{places_said}
use Rattle.executor.specs.Outcomes.{KeepEach, IsKeptFrom}
use Rattle.executor.proofs.keeping.kept_at_each.Given as goal

abbrev pub invariant-loop-place : goal.invariant-loop-place
invariant-loop-place l = record {
  whole : l.yielded ++ into_iter_items l.place-iterator ≡ l.fn.places.items;
  left : into_iter_len l.place-iterator ≡ length (into_iter_items l.place-iterator);
  kept : KeepEach (l.own ∷ l.found) (places_said l.yielded) l.kept.items;
  of_places : AllByRecursion (IsKeptFrom (places_said l.fn.places.items)) l.kept.items;
}
