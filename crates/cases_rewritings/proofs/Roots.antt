-- A well-formed tree is one of its own plan and cut.
use Rattle.std.proofs.Common.{◌≡◌, refl, sym, subst}
use Rattle.plan_core.specs.PlainPlan.{PlainPlan}
use Rattle.estimator.specs.Cuts.{Cuts}
use Rattle.rewrite_core.specs.IsRewriting.{IsRewriting, IsWay, whichever}
use Rattle.rewrite_core.specs.PlainRewriting.{Node, PlainWay}

pub own_root : (p q : PlainPlan) (d c : Cuts) (way : PlainWay) → IsRewriting whichever q c (Node p d way) → IsRewriting whichever p d (Node p d way)
own_root p q d c way h = (refl, refl, subst (λ x. IsWay whichever x d way) (sym h.0) (subst (λ y. IsWay whichever q y way) (sym h.1) h.2))
