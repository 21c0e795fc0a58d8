-- What the parts of a rewriting answer, as marks.
use Rattle.std.proofs.Common.{◌≡◌, ap, ◌∙◌, Bool, ◌&&◌, ◌==◌, List, [], ◌∷◌}
use Rattle.std.specs.Prelude.{IsTrue, ◌↔◌}
use Rattle.std.specs.Bool.{Decides}
use Rattle.std.specs.Cmp.Lexicographic.{pointwise_decides}
use Rattle.std.specs.List.{list_any}
use Rattle.std.proofs.Math.Bool.{or-false}
use Rattle.std.proofs.lemmas.Bool.Decides.{same_from_decides, Decides-and, Decides-eqb}
use Rattle.rows_core.specs.declared.cut.Cut.{Cut}
use Rattle.plan_core.specs.PlainPlan.{PlainPlan, plan_of}
use Rattle.estimator.specs.Cuts.{Cuts}
use Rattle.rewrite_core.specs.declared.rewriting.Delta.{Delta}
use Rattle.rewrite_core.specs.declared.rewriting.Rewriting.{Rewriting}
use Rattle.rewrite_core.specs.PlainRewriting.{PlainWay, Node, rewriting_of, delta_of}
use Rattle.growth_laws.specs.MadePlaces.{place, places, same_cuts, is_made_at, standing_of, standing_of_delta}
use Rattle.made_places.specs.Marks.{marks}
use Rattle.made_places.proofs.MarkedWays.{tree_marks, delta_marks}

-- ---- the tree at the root

pub cut_decides : (a b : Cut) → Decides ((a.from == b.from) && (a.to == b.to)) (a ≡ b)
cut_decides a b =
    let both = Decides-and (a.from == b.from) (a.to == b.to) (Decides-eqb a.from b.from) (Decides-eqb a.to b.to) in (
      (λ is. let ends = both.0 is in λ i. record { from = ends.0 i; to = ends.1 i }),
      (λ is. both.1 (ap (λ (c : Cut). c.from) is, ap (λ (c : Cut). c.to) is)),
    )

-- the tree at the root is at the place's own cut exactly if the two are the same
pub own_is : (p : PlainPlan) (cuts at : Cuts) (way : PlainWay) (own : Bool) → (IsTrue own ↔ (cuts ≡ at)) → list_any (is_made_at (place p at)) (Node p cuts way ∷ []) ≡ own
own_is p cuts at way own is = or-false (same_cuts cuts at) ∙ same_from_decides (same_cuts cuts at) own (pointwise_decides cut_decides cuts at) is

-- ---- the parts

pub tree_found : (v w : Rewriting) (found : List Bool) (x y : Cuts) → v ≡ w → found ≡ marks (places (plan_of v.plan) x) (standing_of (rewriting_of v)) → x ≡ y → found ≡ tree_marks (rewriting_of w) y
tree_found v w found x y same is at = is ∙ (λ i. tree_marks (rewriting_of (same i)) (at i))

pub delta_found : (v w : Delta) (found : List Bool) (x y : Cuts) → v ≡ w → found ≡ marks (places (plan_of v.plan) x) (standing_of_delta (delta_of v)) → x ≡ y → found ≡ delta_marks (delta_of w) y
delta_found v w found x y same is at = is ∙ (λ i. delta_marks (delta_of (same i)) (at i))
