use Rattle.std.proofs.Common.{◌∷◌, List, subst}
use Rattle.std.specs.List.{AllByRecursion}
use Rattle.std.specs.Result.{IfOk}
use Rattle.growth_laws.specs.MadePlaces.{Place}
use Rattle.executor.specs.Outcomes.{KeepEach, IsKeptFrom}
use Rattle.executor.proofs.keeping.kept_places.Goals as goal

pub returns-clause-each : goal.returns-clause-each
returns-clause-each c = subst (λ (places : List Place). IfOk c.kept_at_each.result (λ kept. KeepEach (c.args.own.now ∷ c.args.found.now) places kept.items)) c.in_ok-places.ensures c.kept_at_each.ensures.each

pub returns-clause-places : goal.returns-clause-places
returns-clause-places c = subst (λ (places : List Place). IfOk c.kept_at_each.result (λ kept. AllByRecursion (IsKeptFrom places) kept.items)) c.in_ok-places.ensures c.kept_at_each.ensures.places
