-- The parts of a plan.
use Rattle.std.specs.Prelude.{List, [], ◌∷◌, ◌++◌}
use Rattle.plan_core.specs.PlainPlan.{PlainPlan, Scan, Filter, Project, Distinct, Group, Join, Concat, Order}

-- the plan itself and the parts of its inputs, each behind the plan that it is a part of
abbrev pub parts : PlainPlan → List PlainPlan
parts (Scan stream) = Scan stream ∷ []
parts (Filter p a) = Filter p a ∷ parts p
parts (Project p es) = Project p es ∷ parts p
parts (Distinct p) = Distinct p ∷ parts p
parts (Group p keys aggs) = Group p keys aggs ∷ parts p
parts (Join p q on) = Join p q on ∷ (parts p ++ parts q)
parts (Concat p q) = Concat p q ∷ (parts p ++ parts q)
parts (Order p keys) = Order p keys ∷ parts p
