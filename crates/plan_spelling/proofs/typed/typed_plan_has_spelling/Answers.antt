-- By the typing, and the types of the leaves' streams.
use Rattle.std.proofs.Common.{◌^◌, ◌<◌, ℕ, subst}
use Rattle.std.specs.List.{AllByRecursion}
use Rattle.plan_spelling.proofs.TypedPlans.{typed_spelled}
use Rattle.plan_spelling.proofs.typed.typed_plan_has_spelling.Goals as goal

pub returns : goal.returns
returns c = typed_spelled c.args.typed.now c.leaves.ensures.typed (subst (AllByRecursion (λ (stream : ℕ). stream < 2 ^ 32)) c.leaves.ensures.leaves c.read_streams.ensures)
