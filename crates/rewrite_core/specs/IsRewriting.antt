-- What is a rewriting of a plan at a cut: computed, read or grown at each place. The rules of growth are this project's
-- own.
use Rattle.std.specs.Prelude.{◌≡◌, ◌≢◌, ◌<◌, [], ◌∷◌, take, drop}
use Rattle.plan_core.specs.PlainPlan.{PlainPlan, leaf_count}
use Rattle.plan_core.specs.PlainPlan as plan
use Rattle.rewrite_core.specs.declared.rewriting.Hit.{Hit}
use Rattle.estimator.specs.Cuts.{Cuts, AreIntervals}
use Rattle.rewrite_core.specs.Entries.{Entries, IsWhole, IsEarlier}
use Rattle.rewrite_core.specs.PlainRewriting.{PlainRewriting, Node, PlainWay, Scan, One, Two, Read, Tail, LeftGrew, RightGrew, BothGrew, PlainDelta, Change, PlainDeltaWay, Unchanged, NewRows, OfChild, OfDistinct, OfJoin}

-- which entries a tree may name for a plan and a cut
pub record Naming : Type 1 where
  pub whole : PlainPlan → Cuts → Hit → Type 0
  pub earlier : PlainPlan → Cuts → Hit → Type 0

-- those of a list of entries
abbrev pub among : Entries → Naming
among entries = record { whole = IsWhole entries; earlier = IsEarlier entries }

-- whichever
abbrev pub whichever : Naming
whichever = record { whole = λ plan cuts hit. hit.cuts ≡ cuts; earlier = λ plan cuts hit. (hit.cuts ≢ cuts) × AreIntervals hit.cuts }

abbrev pub IsScan : PlainPlan → Type 0
IsScan (plan.Scan stream) = Unit {0}
IsScan _ = ⊥

-- what holds of the only child
abbrev pub OfOne : (PlainPlan → Type 0) → PlainPlan → Type 0
OfOne P (plan.Filter child test) = P child
OfOne P (plan.Project child columns) = P child
OfOne P (plan.Distinct child) = P child
OfOne P (plan.Group child keys aggs) = P child
OfOne P (plan.Order child keys) = P child
OfOne P _ = ⊥

-- the intervals of a left child's leaves, and those of the right child's
abbrev pub lefts : PlainPlan → Cuts → Cuts
lefts left cuts = take (leaf_count left) cuts

abbrev pub rights : PlainPlan → Cuts → Cuts
rights left cuts = drop (leaf_count left) cuts

-- what holds of two children
abbrev pub OfTwo : (PlainPlan → PlainPlan → Type 0) → PlainPlan → Type 0
OfTwo P (plan.Join left right on) = P left right
OfTwo P (plan.Concat left right) = P left right
OfTwo P _ = ⊥

abbrev pub OfSides : (PlainPlan → PlainPlan → Type 0) → PlainPlan → Type 0
OfSides P (plan.Join left right on) = P left right
OfSides P _ = ⊥

-- a scan's extents grew
abbrev pub IsLonger : Cuts → Cuts → Type 0
IsLonger (old ∷ []) (new ∷ []) = (old.from ≡ new.from) × (old.to < new.to)
IsLonger _ _ = ⊥

-- what holds of the only child, or of the right one of a concatenation whose left one is unchanged
abbrev pub OfTail : (PlainPlan → Cuts → Cuts → Type 0) → PlainPlan → Cuts → Cuts → Type 0
OfTail P (plan.Filter child test) old new = P child old new
OfTail P (plan.Project child columns) old new = P child old new
OfTail P (plan.Distinct child) old new = P child old new
OfTail P (plan.Group child keys aggs) old new = P child old new
OfTail P (plan.Order child keys) old new = P child old new
OfTail P (plan.Concat left right) old new = (lefts left old ≡ lefts left new) × P right (rights left old) (rights left new)
OfTail P _ old new = ⊥

-- the same where the delta is the operator over the child's delta
abbrev pub OfDeltaTail : (PlainPlan → Cuts → Cuts → Type 0) → PlainPlan → Cuts → Cuts → Type 0
OfDeltaTail P (plan.Filter child test) old new = P child old new
OfDeltaTail P (plan.Project child columns) old new = P child old new
OfDeltaTail P (plan.Concat left right) old new = (lefts left old ≡ lefts left new) × P right (rights left old) (rights left new)
OfDeltaTail P _ old new = ⊥

abbrev pub OfDistinctChild : (PlainPlan → Type 0) → PlainPlan → Type 0
OfDistinctChild P (plan.Distinct child) = P child
OfDistinctChild P _ = ⊥

abbrev mutual
  -- the tree makes the result of this plan at this cut
  pub IsRewriting : Naming → PlainPlan → Cuts → PlainRewriting → Type 0
  IsRewriting names q c (Node p cuts way) = (p ≡ q) × (cuts ≡ c) × IsWay names q c way

  pub IsWay : Naming → PlainPlan → Cuts → PlainWay → Type 0
  IsWay names q c Scan = IsScan q
  IsWay names q c (One r) = OfOne (λ child. IsRewriting names child c r) q
  IsWay names q c (Two l r) = OfTwo (λ left right. IsRewriting names left (lefts left c) l × IsRewriting names right (rights left c) r) q
  IsWay names q c (Read hit) = names.whole q c hit
  IsWay names q c (Tail hit d) = names.earlier q c hit × OfTail (λ child old new. IsDelta names child old new d) q hit.cuts c
  IsWay names q c (LeftGrew hit d r) =
      names.earlier q c hit × OfSides (λ left right. (rights left hit.cuts ≡ rights left c)
      × IsDelta names left (lefts left hit.cuts) (lefts left c) d × IsRewriting names right (rights left c) r) q
  IsWay names q c (RightGrew hit l d) =
      names.earlier q c hit × OfSides (λ left right. (lefts left hit.cuts ≡ lefts left c)
      × IsRewriting names left (lefts left c) l × IsDelta names right (rights left hit.cuts) (rights left c) d) q
  IsWay names q c (BothGrew hit l rd ld r) =
      names.earlier q c hit × OfSides (λ left right. (lefts left hit.cuts ≢ lefts left c) × (rights left hit.cuts ≢ rights left c)
      × IsRewriting names left (lefts left hit.cuts) l × IsDelta names right (rights left hit.cuts) (rights left c) rd
      × IsDelta names left (lefts left hit.cuts) (lefts left c) ld × IsRewriting names right (rights left c) r) q

  -- the tree makes the rows that came from the one cut to the other
  pub IsDelta : Naming → PlainPlan → Cuts → Cuts → PlainDelta → Type 0
  IsDelta names q old new (Change p o n way) = (p ≡ q) × (o ≡ old) × (n ≡ new) × IsDeltaWay names q old new way

  pub IsDeltaWay : Naming → PlainPlan → Cuts → Cuts → PlainDeltaWay → Type 0
  IsDeltaWay names q old new Unchanged = old ≡ new
  IsDeltaWay names q old new NewRows = IsScan q × IsLonger old new
  IsDeltaWay names q old new (OfChild d) = (old ≢ new) × OfDeltaTail (λ child o n. IsDelta names child o n d) q old new
  IsDeltaWay names q old new (OfDistinct r d) =
      (old ≢ new) × IsRewriting names q old r × OfDistinctChild (λ child. IsDelta names child old new d) q
  IsDeltaWay names q old new (OfJoin d r) =
      (old ≢ new) × OfSides (λ left right. (rights left old ≡ rights left new)
      × IsDelta names left (lefts left old) (lefts left new) d × IsRewriting names right (rights left new) r) q
