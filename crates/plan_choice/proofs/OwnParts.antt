-- A rewriting of a plan at a cut is one of the plan and the cut that it has itself.
use Rattle.std.proofs.Common.{refl, sym}
use Rattle.plan_core.specs.PlainPlan.{PlainPlan}
use Rattle.estimator.specs.Bytes.{Lengths, IsCutOf}
use Rattle.estimator.specs.Cuts.{Cuts}
use Rattle.rewrite_core.specs.IsRewriting.{Naming, IsRewriting, IsWay}
use Rattle.rewrite_core.specs.PlainRewriting.{Node, PlainWay}
use Rattle.growth_laws.proofs.PieceResults.{subst_both}

module _ (names : Naming) (q p : PlainPlan) (c cuts : Cuts) (way : PlainWay) (is : IsRewriting names q c (Node p cuts way)) where
  pub own_rewriting : IsRewriting names p cuts (Node p cuts way)
  own_rewriting = (refl, refl, subst_both (λ q c. IsWay names q c way) q p c cuts (sym is.0) (sym is.1) is.2)

  pub own_cuts : (lengths : Lengths) → IsCutOf lengths q c → IsCutOf lengths p cuts
  own_cuts lengths are = subst_both (IsCutOf lengths) q p c cuts (sym is.0) (sym is.1) are
