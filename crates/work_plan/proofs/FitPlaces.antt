-- The places of a fit plan are fit, and so are those at which a rewriting makes what is kept.
use Rattle.std.proofs.Common.{Bool, true, false, cond, ◌&&◌, List, [], ◌∷◌, ◌++◌}
use Rattle.std.specs.List.{AllByRecursion, list_any}
use Rattle.plan_core.specs.PlainPlan.{PlainPlan, Scan, Filter, Project, Distinct, Group, Join, Concat, Order}
use Rattle.plan_laws.proofs.ValidPlans.{all-append}
use Rattle.estimator.specs.Cuts.{Cuts}
use Rattle.rewrite_core.specs.IsRewriting.{lefts, rights}
use Rattle.rewrite_core.specs.PlainRewriting.{PlainRewriting}
use Rattle.growth_laws.specs.MadePlaces.{Place, place, places, Standing, standing_of, is_made_at, counts_below, counts_at_root, made_from, made_places}
use Rattle.catalog_types.specs.declared.snapshot.StreamState.{StreamState}
use Rattle.work_plan.specs.Fitting.{IsFit}
use Rattle.work_plan.proofs.FitParts.{of-filter, of-project, of-distinct, of-group, of-order, left-of-join, right-of-join, left-of-concat, right-of-concat}

module _ (streams : List StreamState) where
  abbrev IsFitAt : Place → Type 0
  IsFitAt at = IsFit streams at.plan at.cuts

  abbrev AreFit : List Place → Type 0
  AreFit ats = AllByRecursion (λ (at : Place). IsFit streams at.plan at.cuts) ats

  with-root : (below : List Place) (root : Place) → AreFit below → IsFitAt root → AreFit (below ++ root ∷ [])
  with-root below root fit is = all-append IsFitAt below (root ∷ []) fit (is, tt)

  pub places-fit : (plan : PlainPlan) (c : Cuts) → IsFit streams plan c → AreFit (places plan c)
  places-fit (Scan stream) c fit = (fit, tt)
  places-fit (Filter child test) c fit = with-root (places child c) (place (Filter child test) c) (places-fit child c (of-filter streams child test c fit)) fit
  places-fit (Project child columns) c fit = with-root (places child c) (place (Project child columns) c) (places-fit child c (of-project streams child columns c fit)) fit
  places-fit (Distinct child) c fit = with-root (places child c) (place (Distinct child) c) (places-fit child c (of-distinct streams child c fit)) fit
  places-fit (Group child keys aggs) c fit = with-root (places child c) (place (Group child keys aggs) c) (places-fit child c (of-group streams child keys aggs c fit)) fit
  places-fit (Order child keys) c fit = with-root (places child c) (place (Order child keys) c) (places-fit child c (of-order streams child keys c fit)) fit
  places-fit (Join left right on) c fit =
      all-append IsFitAt (places left (lefts left c)) (places right (rights left c) ++ place (Join left right on) c ∷ []) (places-fit left (lefts left c) (left-of-join streams left right on c fit))
      (with-root (places right (rights left c)) (place (Join left right on) c) (places-fit right (rights left c) (right-of-join streams left right on c fit)) fit)
  places-fit (Concat left right) c fit =
      all-append IsFitAt (places left (lefts left c)) (places right (rights left c) ++ place (Concat left right) c ∷ []) (places-fit left (lefts left c) (left-of-concat streams left right c fit))
      (with-root (places right (rights left c)) (place (Concat left right) c) (places-fit right (rights left c) (right-of-concat streams left right c fit)) fit)

  -- ---- the made ones are among them

  chosen : (b : Bool) (at : Place) (others : List Place) → IsFitAt at → AreFit others → AreFit (cond b (at ∷ others) others)
  chosen true at others is fit = (is, fit)
  chosen false at others is fit = fit

  made-fit : (ats : List Place) (standing : Standing) → AreFit ats → AreFit (made_from ats standing)
  made-fit (at ∷ []) (trees ∷ []) fit = chosen (counts_at_root at.plan && list_any (is_made_at at) trees) at [] fit.0 tt
  made-fit (at ∷ next ∷ others) (trees ∷ standing) fit =
      chosen (counts_below at.plan && list_any (is_made_at at) trees) at (made_from (next ∷ others) standing) fit.0 (made-fit (next ∷ others) standing fit.1)
  made-fit _ _ fit = tt

  pub made-places-fit : (plan : PlainPlan) (c : Cuts) (r : PlainRewriting) → IsFit streams plan c → AreFit (made_places plan c r)
  made-places-fit plan c r fit = made-fit (places plan c) (standing_of r) (places-fit plan c fit)
