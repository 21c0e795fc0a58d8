-- A rewriting over sound entries is well formed.
use Rattle.std.proofs.Common.{◌≡◌, ◌≢◌}
use Rattle.plan_core.specs.PlainPlan.{PlainPlan}
use Rattle.plan_core.specs.PlainPlan as plan
use Rattle.estimator.specs.Cuts.{Cuts, AreIntervals}
use Rattle.rewrite_core.specs.declared.rewriting.Hit.{Hit}
use Rattle.rewrite_core.specs.Entries.{Entries, AreSound, IsEarlier}
use Rattle.rewrite_core.specs.PlainRewriting.{PlainRewriting, Node, PlainWay, Scan, One, Two, Read, Tail, LeftGrew, RightGrew, BothGrew, PlainDelta, Change, PlainDeltaWay, Unchanged, NewRows, OfChild, OfDistinct, OfJoin}
use Rattle.rewrite_core.specs.IsRewriting.{IsRewriting, IsWay, IsDelta, IsDeltaWay, among, whichever, OfOne, OfTwo, OfSides, OfTail, OfDeltaTail, OfDistinctChild, lefts, rights}

-- ---- what follows of a plan's inputs

one_map : (P Q : PlainPlan → Type 0) → ((x : PlainPlan) → P x → Q x) → (q : PlainPlan) → OfOne P q → OfOne Q q
one_map P Q f (plan.Filter child test) p = f child p
one_map P Q f (plan.Project child columns) p = f child p
one_map P Q f (plan.Distinct child) p = f child p
one_map P Q f (plan.Group child keys aggs) p = f child p
one_map P Q f (plan.Order child keys) p = f child p
one_map P Q f _ p = absurd p

two_map : (P Q : PlainPlan → PlainPlan → Type 0) → ((x y : PlainPlan) → P x y → Q x y) → (q : PlainPlan) → OfTwo P q → OfTwo Q q
two_map P Q f (plan.Join l r on) p = f l r p
two_map P Q f (plan.Concat l r) p = f l r p
two_map P Q f _ p = absurd p

sides_map : (P Q : PlainPlan → PlainPlan → Type 0) → ((x y : PlainPlan) → P x y → Q x y) → (q : PlainPlan) → OfSides P q → OfSides Q q
sides_map P Q f (plan.Join l r on) p = f l r p
sides_map P Q f _ p = absurd p

tail_map : (P Q : PlainPlan → Cuts → Cuts → Type 0) → ((x : PlainPlan) (o n : Cuts) → P x o n → Q x o n) → (q : PlainPlan) (old new : Cuts) → OfTail P q old new → OfTail Q q old new
tail_map P Q f (plan.Filter child test) old new p = f child old new p
tail_map P Q f (plan.Project child columns) old new p = f child old new p
tail_map P Q f (plan.Distinct child) old new p = f child old new p
tail_map P Q f (plan.Group child keys aggs) old new p = f child old new p
tail_map P Q f (plan.Order child keys) old new p = f child old new p
tail_map P Q f (plan.Concat l r) old new p = (p.0, f r (rights l old) (rights l new) p.1)
tail_map P Q f _ old new p = absurd p

delta_tail_map : (P Q : PlainPlan → Cuts → Cuts → Type 0) → ((x : PlainPlan) (o n : Cuts) → P x o n → Q x o n) → (q : PlainPlan) (old new : Cuts) → OfDeltaTail P q old new
    → OfDeltaTail Q q old new
delta_tail_map P Q f (plan.Filter child test) old new p = f child old new p
delta_tail_map P Q f (plan.Project child columns) old new p = f child old new p
delta_tail_map P Q f (plan.Concat l r) old new p = (p.0, f r (rights l old) (rights l new) p.1)
delta_tail_map P Q f _ old new p = absurd p

distinct_map : (P Q : PlainPlan → Type 0) → ((x : PlainPlan) → P x → Q x) → (q : PlainPlan) → OfDistinctChild P q → OfDistinctChild Q q
distinct_map P Q f (plan.Distinct child) p = f child p
distinct_map P Q f _ p = absurd p

-- ---- trees

module _ (entries : Entries) (sound : AreSound entries) where
  earlier_formed : (q : PlainPlan) (c : Cuts) (hit : Hit) → IsEarlier entries q c hit → (hit.cuts ≢ c) × AreIntervals hit.cuts
  earlier_formed q c hit h = (h.candidate.other, sound.intervals _ h.candidate.kept)

  mutual
    pub formed : (q : PlainPlan) (c : Cuts) (r : PlainRewriting) → IsRewriting (among entries) q c r → IsRewriting whichever q c r
    formed q c (Node p cs way) h = (h.0, h.1, way_formed q c way h.2)

    way_formed : (q : PlainPlan) (c : Cuts) (way : PlainWay) → IsWay (among entries) q c way → IsWay whichever q c way
    way_formed q c Scan h = h
    way_formed q c (One r) h = one_map (λ x. IsRewriting (among entries) x c r) (λ x. IsRewriting whichever x c r) (λ x m. formed x c r m) q h
    way_formed q c (Two a b) h =
        two_map (λ x y. IsRewriting (among entries) x (lefts x c) a × IsRewriting (among entries) y (rights x c) b)
        (λ x y. IsRewriting whichever x (lefts x c) a × IsRewriting whichever y (rights x c) b) (λ x y m. (formed x (lefts x c) a m.0, formed y (rights x c) b m.1)) q h
    way_formed q c (Read hit) h = h.here
    way_formed q c (Tail hit d) h =
        (earlier_formed q c hit h.0, tail_map (λ x o n. IsDelta (among entries) x o n d) (λ x o n. IsDelta whichever x o n d) (λ x o n m. delta_formed x o n d m) q hit.cuts c h.1)
    way_formed q c (LeftGrew hit d r) h = (
      earlier_formed q c hit h.0,
      sides_map (λ x y. (rights x hit.cuts ≡ rights x c) × IsDelta (among entries) x (lefts x hit.cuts) (lefts x c) d × IsRewriting (among entries) y (rights x c) r)
          (λ x y. (rights x hit.cuts ≡ rights x c) × IsDelta whichever x (lefts x hit.cuts) (lefts x c) d × IsRewriting whichever y (rights x c) r)
          (λ x y m. (m.0, delta_formed x (lefts x hit.cuts) (lefts x c) d m.1, formed y (rights x c) r m.2)) q h.1,
    )
    way_formed q c (RightGrew hit l d) h = (
      earlier_formed q c hit h.0,
      sides_map (λ x y. (lefts x hit.cuts ≡ lefts x c) × IsRewriting (among entries) x (lefts x c) l × IsDelta (among entries) y (rights x hit.cuts) (rights x c) d)
          (λ x y. (lefts x hit.cuts ≡ lefts x c) × IsRewriting whichever x (lefts x c) l × IsDelta whichever y (rights x hit.cuts) (rights x c) d)
          (λ x y m. (m.0, formed x (lefts x c) l m.1, delta_formed y (rights x hit.cuts) (rights x c) d m.2)) q h.1,
    )
    way_formed q c (BothGrew hit l d e r) h = (
      earlier_formed q c hit h.0,
      sides_map (λ x y. (lefts x hit.cuts ≢ lefts x c) × (rights x hit.cuts ≢ rights x c) × IsRewriting (among entries) x (lefts x hit.cuts) l
          × IsDelta (among entries) y (rights x hit.cuts) (rights x c) d × IsDelta (among entries) x (lefts x hit.cuts) (lefts x c) e × IsRewriting (among entries) y (rights x c) r)
          (λ x y. (lefts x hit.cuts ≢ lefts x c) × (rights x hit.cuts ≢ rights x c) × IsRewriting whichever x (lefts x hit.cuts) l
          × IsDelta whichever y (rights x hit.cuts) (rights x c) d × IsDelta whichever x (lefts x hit.cuts) (lefts x c) e × IsRewriting whichever y (rights x c) r)
          (λ x y m. (m.0, m.1, formed x (lefts x hit.cuts) l m.2, delta_formed y (rights x hit.cuts) (rights x c) d m.3, delta_formed x (lefts x hit.cuts) (lefts x c) e m.4, formed y (rights x c) r m.5)) q h.1,
    )

    delta_formed : (q : PlainPlan) (old new : Cuts) (d : PlainDelta) → IsDelta (among entries) q old new d → IsDelta whichever q old new d
    delta_formed q old new (Change p o n way) h = (h.0, h.1, h.2, delta_way_formed q old new way h.3)

    delta_way_formed : (q : PlainPlan) (old new : Cuts) (way : PlainDeltaWay) → IsDeltaWay (among entries) q old new way → IsDeltaWay whichever q old new way
    delta_way_formed q old new Unchanged h = h
    delta_way_formed q old new NewRows h = h
    delta_way_formed q old new (OfChild d) h =
        (h.0, delta_tail_map (λ x o n. IsDelta (among entries) x o n d) (λ x o n. IsDelta whichever x o n d) (λ x o n m. delta_formed x o n d m) q old new h.1)
    delta_way_formed q old new (OfDistinct r d) h =
        (h.0, formed q old r h.1, distinct_map (λ x. IsDelta (among entries) x old new d) (λ x. IsDelta whichever x old new d) (λ x m. delta_formed x old new d m) q h.2)
    delta_way_formed q old new (OfJoin d r) h = (
      h.0,
      sides_map (λ x y. (rights x old ≡ rights x new) × IsDelta (among entries) x (lefts x old) (lefts x new) d × IsRewriting (among entries) y (rights x new) r)
          (λ x y. (rights x old ≡ rights x new) × IsDelta whichever x (lefts x old) (lefts x new) d × IsRewriting whichever y (rights x new) r)
          (λ x y m. (m.0, delta_formed x (lefts x old) (lefts x new) d m.1, formed y (rights x new) r m.2)) q h.1,
    )
