-- The cuts of a well-formed rewriting's parts, where the rewriting's own cut is in the streams.
use Rattle.std.proofs.Common.{◌≡◌, ◌≢◌, ℕ, zero, suc, [], ◌∷◌, refl, arith, subst, sym, take, drop}
use Rattle.plan_core.specs.PlainPlan.{PlainPlan, leaves, leaf_count}
use Rattle.plan_core.specs.PlainPlan as plan
use Rattle.rewrite_core.specs.declared.rewriting.Hit.{Hit}
use Rattle.estimator.specs.Cuts.{Cuts, AreIntervals, EndAtOrBefore}
use Rattle.estimator.specs.Bytes.{Lengths, IsCutOf}
use Rattle.rewrite_core.specs.PlainRewriting.{PlainRewriting, Node, PlainWay, Scan, One, Two, Read, Tail, LeftGrew, RightGrew, BothGrew, PlainDelta, Change, PlainDeltaWay, Unchanged, NewRows, OfChild, OfDistinct, OfJoin}
use Rattle.rewrite_core.specs.IsRewriting.{IsRewriting, IsWay, IsDelta, IsDeltaWay, whichever, IsLonger, OfOne, OfTwo, OfSides, OfTail, OfDeltaTail, OfDistinctChild, lefts, rights}
use Rattle.rewriter.specs.Inputs.{HasChild, HasTwo, IsJoin, IsConcat}
use Rattle.rewriter.specs.InStreams.{AreCutsOf, IsInStreams, IsWayInStreams, IsDeltaInStreams, IsDeltaWayInStreams}
use Rattle.rewriter.proofs.Ranges.{child_cut, left_cut, right_cut, child_cuts, left_cuts, right_cuts, two_of_join, two_of_concat, streams_before}

-- ---- what holds of a plan's inputs holds of some inputs

one_elim : (P : PlainPlan → Type 0) (Goal : Type 0) (q : PlainPlan) → ((x : PlainPlan) → HasChild q x → P x → Goal) → OfOne P q → Goal
one_elim P Goal (plan.Filter child test) f p = f child refl p
one_elim P Goal (plan.Project child columns) f p = f child refl p
one_elim P Goal (plan.Distinct child) f p = f child refl p
one_elim P Goal (plan.Group child keys aggs) f p = f child refl p
one_elim P Goal (plan.Order child keys) f p = f child refl p
one_elim P Goal _ f p = absurd p

two_elim : (P : PlainPlan → PlainPlan → Type 0) (Goal : Type 0) (q : PlainPlan) → ((x y : PlainPlan) → HasTwo q x y → P x y → Goal) → OfTwo P q → Goal
two_elim P Goal (plan.Join l r on) f p = f l r (refl, refl) p
two_elim P Goal (plan.Concat l r) f p = f l r (refl, refl) p
two_elim P Goal _ f p = absurd p

sides_elim : (P : PlainPlan → PlainPlan → Type 0) (Goal : Type 0) (q : PlainPlan) → ((x y : PlainPlan) → IsJoin q x y → P x y → Goal) → OfSides P q → Goal
sides_elim P Goal (plan.Join l r on) f p = f l r (refl, refl) p
sides_elim P Goal _ f p = absurd p

tail_elim : (P : PlainPlan → Cuts → Cuts → Type 0) (Goal : Type 0) (q : PlainPlan) (old new : Cuts) → ((x : PlainPlan) → HasChild q x → P x old new → Goal)
    → ((x y : PlainPlan) → IsConcat q x y → lefts x old ≡ lefts x new → P y (rights x old) (rights x new) → Goal) → OfTail P q old new → Goal
tail_elim P Goal (plan.Filter child test) old new f g p = f child refl p
tail_elim P Goal (plan.Project child columns) old new f g p = f child refl p
tail_elim P Goal (plan.Distinct child) old new f g p = f child refl p
tail_elim P Goal (plan.Group child keys aggs) old new f g p = f child refl p
tail_elim P Goal (plan.Order child keys) old new f g p = f child refl p
tail_elim P Goal (plan.Concat l r) old new f g p = g l r (refl, refl) p.0 p.1
tail_elim P Goal _ old new f g p = absurd p

delta_tail_elim : (P : PlainPlan → Cuts → Cuts → Type 0) (Goal : Type 0) (q : PlainPlan) (old new : Cuts) → ((x : PlainPlan) → HasChild q x → P x old new → Goal)
    → ((x y : PlainPlan) → IsConcat q x y → lefts x old ≡ lefts x new → P y (rights x old) (rights x new) → Goal) → OfDeltaTail P q old new → Goal
delta_tail_elim P Goal (plan.Filter child test) old new f g p = f child refl p
delta_tail_elim P Goal (plan.Project child columns) old new f g p = f child refl p
delta_tail_elim P Goal (plan.Concat l r) old new f g p = g l r (refl, refl) p.0 p.1
delta_tail_elim P Goal _ old new f g p = absurd p

distinct_elim : (P : PlainPlan → Type 0) (Goal : Type 0) (q : PlainPlan) → ((x : PlainPlan) → HasChild q x → P x → Goal) → OfDistinctChild P q → Goal
distinct_elim P Goal (plan.Distinct child) f p = f child refl p
distinct_elim P Goal _ f p = absurd p

-- ---- what has a delta ends at or before

ends_at : (cuts : Cuts) → EndAtOrBefore cuts cuts
ends_at [] = tt
ends_at (cut ∷ cuts) = (omega arith, ends_at cuts)

ends_same : (old new : Cuts) → old ≡ new → EndAtOrBefore old new
ends_same old new e = subst (λ c. EndAtOrBefore old c) e (ends_at old)

ends_longer : (old new : Cuts) → IsLonger old new → EndAtOrBefore old new
ends_longer [] new h = absurd h
ends_longer (a ∷ []) [] h = absurd h
ends_longer (a ∷ []) (b ∷ []) h = (omega arith, tt)
ends_longer (a ∷ []) (b ∷ d ∷ bs) h = absurd h
ends_longer (a ∷ b ∷ cs) new h = absurd h

ends_joined : (n : ℕ) (old new : Cuts) → EndAtOrBefore (take n old) (take n new) → EndAtOrBefore (drop n old) (drop n new) → EndAtOrBefore old new
ends_joined zero old new l r = r
ends_joined (suc n) [] [] l r = tt
ends_joined (suc n) [] (b ∷ new) l r = absurd l
ends_joined (suc n) (a ∷ old) [] l r = absurd l
ends_joined (suc n) (a ∷ old) (b ∷ new) l r = (l.0, ends_joined n old new l.1 r)

mutual
  delta_ends : (q : PlainPlan) (old new : Cuts) (d : PlainDelta) → IsDelta whichever q old new d → EndAtOrBefore old new
  delta_ends q old new (Change p o n way) h = delta_way_ends q old new way h.3

  delta_way_ends : (q : PlainPlan) (old new : Cuts) (way : PlainDeltaWay) → IsDeltaWay whichever q old new way → EndAtOrBefore old new
  delta_way_ends q old new Unchanged h = ends_same old new h
  delta_way_ends q old new NewRows h = ends_longer old new h.1
  delta_way_ends q old new (OfChild d) h = delta_tail_elim (λ x o n. IsDelta whichever x o n d) (EndAtOrBefore old new) q old new
      (λ x is k. delta_ends x old new d k)
      (λ x y is same k. ends_joined (leaf_count x) old new (ends_same _ _ same) (delta_ends y (rights x old) (rights x new) d k)) h.1
  delta_way_ends q old new (OfDistinct r d) h = distinct_elim (λ x. IsDelta whichever x old new d) (EndAtOrBefore old new) q
      (λ x is k. delta_ends x old new d k) h.2
  delta_way_ends q old new (OfJoin d r) h = sides_elim (λ x y. (rights x old ≡ rights x new) × IsDelta whichever x (lefts x old) (lefts x new) d
      × IsRewriting whichever y (rights x new) r) (EndAtOrBefore old new) q
      (λ x y is k. ends_joined (leaf_count x) old new (delta_ends x (lefts x old) (lefts x new) d k.1) (ends_same _ _ k.0)) h.1

-- ---- the cuts of the parts

grown_cuts : (l : Lengths) (q : PlainPlan) (c : Cuts) (hit : Hit) → AreIntervals hit.cuts → EndAtOrBefore hit.cuts c → IsCutOf l q c → AreCutsOf l q hit.cuts c
grown_cuts l q c hit i e k = record { before = streams_before l (leaves q) hit.cuts c e i k; after = k; grows = e }

mutual
  pub in_streams : (l : Lengths) (q : PlainPlan) (c : Cuts) (r : PlainRewriting) → IsRewriting whichever q c r → IsCutOf l q c → IsInStreams l r
  in_streams l q c (Node p cs way) h k =
      let there : IsCutOf l q c × IsWayInStreams l q c way = (k, way_in_streams l q c way h.2 k) in
      subst (λ x. IsCutOf l x cs × IsWayInStreams l x cs way) (sym h.0) (subst (λ d. IsCutOf l q d × IsWayInStreams l q d way) (sym h.1) there)

  way_in_streams : (l : Lengths) (q : PlainPlan) (c : Cuts) (way : PlainWay) → IsWay whichever q c way → IsCutOf l q c → IsWayInStreams l q c way
  way_in_streams l q c Scan h k = tt
  way_in_streams l q c (One r) h k = one_elim (λ x. IsRewriting whichever x c r) (IsInStreams l r) q
      (λ x is m. in_streams l x c r m (child_cut l q x c is k)) h
  way_in_streams l q c (Two a b) h k = two_elim (λ x y. IsRewriting whichever x (lefts x c) a × IsRewriting whichever y (rights x c) b)
      (IsInStreams l a × IsInStreams l b) q
      (λ x y is m. (in_streams l x (lefts x c) a m.0 (left_cut l q x y c is k), in_streams l y (rights x c) b m.1 (right_cut l q x y c is k))) h
  way_in_streams l q c (Read hit) h k = tt
  way_in_streams l q c (Tail hit d) h k = tail_elim (λ x o n. IsDelta whichever x o n d) (IsWayInStreams l q c (Tail hit d)) q hit.cuts c
      (λ x is m.
      let cuts = grown_cuts l q c hit h.0.1 (delta_ends x hit.cuts c d m) k in
      (cuts, delta_in_streams l x hit.cuts c d m (child_cuts l q x hit.cuts c is cuts)))
      (λ x y is same m.
      let ends = ends_joined (leaf_count x) hit.cuts c (ends_same _ _ same) (delta_ends y (rights x hit.cuts) (rights x c) d m) in
      let cuts = grown_cuts l q c hit h.0.1 ends k in
      (cuts, delta_in_streams l y (rights x hit.cuts) (rights x c) d m (right_cuts l q x y hit.cuts c (two_of_concat q x y is) cuts))) h.1
  way_in_streams l q c (LeftGrew hit d r) h k = sides_elim (λ x y. (rights x hit.cuts ≡ rights x c) × IsDelta whichever x (lefts x hit.cuts) (lefts x c) d
      × IsRewriting whichever y (rights x c) r) (IsWayInStreams l q c (LeftGrew hit d r)) q
      (λ x y is m.
      let two = two_of_join q x y is in
      let ends = ends_joined (leaf_count x) hit.cuts c (delta_ends x (lefts x hit.cuts) (lefts x c) d m.1) (ends_same _ _ m.0) in
      let cuts = grown_cuts l q c hit h.0.1 ends k in
      (cuts, delta_in_streams l x (lefts x hit.cuts) (lefts x c) d m.1 (left_cuts l q x y hit.cuts c two cuts), in_streams l y (rights x c) r m.2 (right_cut l q x y c two k))) h.1
  way_in_streams l q c (RightGrew hit r d) h k = sides_elim (λ x y. (lefts x hit.cuts ≡ lefts x c) × IsRewriting whichever x (lefts x c) r
      × IsDelta whichever y (rights x hit.cuts) (rights x c) d) (IsWayInStreams l q c (RightGrew hit r d)) q
      (λ x y is m.
      let two = two_of_join q x y is in
      let ends = ends_joined (leaf_count x) hit.cuts c (ends_same _ _ m.0) (delta_ends y (rights x hit.cuts) (rights x c) d m.2) in
      let cuts = grown_cuts l q c hit h.0.1 ends k in
      (cuts, in_streams l x (lefts x c) r m.1 (left_cut l q x y c two k), delta_in_streams l y (rights x hit.cuts) (rights x c) d m.2 (right_cuts l q x y hit.cuts c two cuts))) h.1
  way_in_streams l q c (BothGrew hit r d e s) h k = sides_elim (λ x y. (lefts x hit.cuts ≢ lefts x c) × (rights x hit.cuts ≢ rights x c)
      × IsRewriting whichever x (lefts x hit.cuts) r × IsDelta whichever y (rights x hit.cuts) (rights x c) d
      × IsDelta whichever x (lefts x hit.cuts) (lefts x c) e × IsRewriting whichever y (rights x c) s) (IsWayInStreams l q c (BothGrew hit r d e s)) q
      (λ x y is m.
      let two = two_of_join q x y is in
      let ends = ends_joined (leaf_count x) hit.cuts c (delta_ends x (lefts x hit.cuts) (lefts x c) e m.4) (delta_ends y (rights x hit.cuts) (rights x c) d m.3) in
      let cuts = grown_cuts l q c hit h.0.1 ends k in (
        cuts,
        in_streams l x (lefts x hit.cuts) r m.2 (left_cut l q x y hit.cuts two cuts.before),
        delta_in_streams l y (rights x hit.cuts) (rights x c) d m.3 (right_cuts l q x y hit.cuts c two cuts),
        delta_in_streams l x (lefts x hit.cuts) (lefts x c) e m.4 (left_cuts l q x y hit.cuts c two cuts),
        in_streams l y (rights x c) s m.5 (right_cut l q x y c two k),
      )) h.1

  delta_in_streams : (l : Lengths) (q : PlainPlan) (old new : Cuts) (d : PlainDelta) → IsDelta whichever q old new d → AreCutsOf l q old new → IsDeltaInStreams l d
  delta_in_streams l q old new (Change p o n way) h k =
      let there : AreCutsOf l q old new × IsDeltaWayInStreams l q old new way = (k, delta_way_in_streams l q old new way h.3 k) in
      subst (λ x. AreCutsOf l x o n × IsDeltaWayInStreams l x o n way) (sym h.0)
      (subst (λ a. AreCutsOf l q a n × IsDeltaWayInStreams l q a n way) (sym h.1) (subst (λ b. AreCutsOf l q old b × IsDeltaWayInStreams l q old b way) (sym h.2) there))

  delta_way_in_streams : (l : Lengths) (q : PlainPlan) (old new : Cuts) (way : PlainDeltaWay) → IsDeltaWay whichever q old new way → AreCutsOf l q old new
      → IsDeltaWayInStreams l q old new way
  delta_way_in_streams l q old new Unchanged h k = tt
  delta_way_in_streams l q old new NewRows h k = tt
  delta_way_in_streams l q old new (OfChild d) h k = delta_tail_elim (λ x o n. IsDelta whichever x o n d) (IsDeltaInStreams l d) q old new
      (λ x is m. delta_in_streams l x old new d m (child_cuts l q x old new is k))
      (λ x y is same m. delta_in_streams l y (rights x old) (rights x new) d m (right_cuts l q x y old new (two_of_concat q x y is) k)) h.1
  delta_way_in_streams l q old new (OfDistinct r d) h k = distinct_elim (λ x. IsDelta whichever x old new d) (IsInStreams l r × IsDeltaInStreams l d) q
      (λ x is m. (in_streams l q old r h.1 k.before, delta_in_streams l x old new d m (child_cuts l q x old new is k))) h.2
  delta_way_in_streams l q old new (OfJoin d r) h k = sides_elim (λ x y. (rights x old ≡ rights x new) × IsDelta whichever x (lefts x old) (lefts x new) d
      × IsRewriting whichever y (rights x new) r) (IsDeltaInStreams l d × IsInStreams l r) q
      (λ x y is m.
      let two = two_of_join q x y is in
      (delta_in_streams l x (lefts x old) (lefts x new) d m.1 (left_cuts l q x y old new two k), in_streams l y (rights x new) r m.2 (right_cut l q x y new two k.after))) h.1
