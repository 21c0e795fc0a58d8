-- By the type of each.
use Rattle.std.proofs.Common.{arith}
use Rattle.plan_spelling.proofs.TypedPlans.{each_number}
use Rattle.plan_spelling.proofs.typed.read_streams.Goals as goal

pub returns : goal.returns
returns c = each_number c.args.streams.now (λ i. omega (arith, c.type_inv.streams i))
