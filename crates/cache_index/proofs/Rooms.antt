-- Room for fewer ids.
use Rattle.std.proofs.Common.{ℕ, ◌≤◌, Option, None, Some, IfSome, arith}
use Rattle.std.proofs.lemmas.List.Elements.{All-weaker}
use Rattle.cache_index.specs.declared.lists.IdLists.{IdLists}
use Rattle.cache_index.specs.Lists.{Ids, HasPlaces, IsSpare, HasRoom}

fewer : (less more : ℕ) (o : Option Ids) → less ≤ more → IfSome o (HasPlaces more) → IfSome o (HasPlaces less)
fewer less more None few has = tt
fewer less more (Some ids) few has = omega (arith, few, has)

pub room-fewer : (less more : ℕ) (index : IdLists) → less ≤ more → HasRoom more index → HasRoom less index
room-fewer less more index few has = record {
  digests = (let all = has.digests in omega (arith, few, all));
  places = λ digest. fewer less more _ few (has.places digest);
  lists = (let all = has.lists in omega (arith, few, all));
  each = All-weaker (IsSpare more) (IsSpare less) (λ ids is. (is.0, (let all = is.1 in omega (arith, few, all)))) index.spare.items has.each;
}
