-- The parts of a normal plan are normal.
use Rattle.std.proofs.Common.{List, [], ◌∷◌, ◌++◌, None}
use Rattle.std.specs.List.{All}
use Rattle.std.proofs.lemmas.List.Elements.{All-nil, All-cons, All-append}
use Rattle.plan_core.specs.PlainPlan.{PlainPlan, Scan, Filter, Project, Distinct, Group, Join, Concat, Order}
use Rattle.plan_core.specs.PlanTyping.{Kinds}
use Rattle.plan_canon.specs.Normal.{IsNormal}
use Rattle.plan_canon.specs.Parts.{parts}
use Rattle.plan_canon.specs.PlanRules.{plan_step}
use Rattle.plan_canon.proofs.Reached.{nowhere}

module _ (schemas : List Kinds) where
  -- a plan and the parts below it
  with_it : (whole : PlainPlan) (below : List PlainPlan) → IsNormal schemas whole → All (IsNormal schemas) below
      → All (IsNormal schemas) (whole ∷ below)
  with_it whole below n ns = All-cons (IsNormal schemas) whole below n ns

  both_below : (ps qs : List PlainPlan) → All (IsNormal schemas) ps → All (IsNormal schemas) qs → All (IsNormal schemas) (ps ++ qs)
  both_below ps qs n m = All-append (IsNormal schemas) ps qs n m

  pub parts_normal : (p : PlainPlan) → IsNormal schemas p → All (IsNormal schemas) (parts p)
  parts_normal (Scan stream) n = with_it (Scan stream) [] n (All-nil (IsNormal schemas))
  parts_normal (Filter p a) n =
      with_it (Filter p a) (parts p) n (parts_normal p (nowhere (λ x. Filter x a) (plan_step schemas p) _ n).0)
  parts_normal (Project p es) n =
      with_it (Project p es) (parts p) n (parts_normal p (nowhere (λ x. Project x es) (plan_step schemas p) _ n).0)
  parts_normal (Distinct p) n = with_it (Distinct p) (parts p) n (parts_normal p (nowhere Distinct (plan_step schemas p) None n).0)
  parts_normal (Group p keys aggs) n =
      with_it (Group p keys aggs) (parts p) n (parts_normal p (nowhere (λ x. Group x keys aggs) (plan_step schemas p) None n).0)
  parts_normal (Join p q on) n =
      let left = nowhere (λ x. Join x q on) (plan_step schemas p) _ n in
      let right = nowhere (λ y. Join p y on) (plan_step schemas q) None left.1 in
      with_it (Join p q on) (parts p ++ parts q) n (both_below (parts p) (parts q) (parts_normal p left.0) (parts_normal q right.0))
  parts_normal (Concat p q) n =
      let left = nowhere (λ x. Concat x q) (plan_step schemas p) _ n in
      let right = nowhere (Concat p) (plan_step schemas q) None left.1 in
      with_it (Concat p q) (parts p ++ parts q) n (both_below (parts p) (parts q) (parts_normal p left.0) (parts_normal q right.0))
  parts_normal (Order p keys) n = with_it (Order p keys) (parts p) n (parts_normal p (nowhere (λ x. Order x keys) (plan_step schemas p) None n).0)
