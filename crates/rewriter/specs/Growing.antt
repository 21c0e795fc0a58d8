-- By which parts a result is computed, an earlier one is grown and a delta is made: of least parts a least tree is made, and without a delta of a part there is no tree.
use Rattle.std.specs.Prelude.{◌≡◌, ◌≤◌, ◌+◌, ℕ}
use Rattle.plan_core.specs.OperatorCount.{operator_count}
use Rattle.plan_core.specs.PlainPlan.{PlainPlan, plan_of}
use Rattle.estimator.specs.Bytes.{Lengths, IsCutOf, whole_bytes, new_bytes}
use Rattle.estimator.specs.Cuts.{Cuts}
use Rattle.rewrite_core.specs.declared.rewriting.Hit.{Hit}
use Rattle.rewrite_core.specs.Entries.{Entries}
use Rattle.rewrite_core.specs.Estimate.{IsLeast, IsLeastDelta}
use Rattle.rewrite_core.specs.IsRewriting.{IsScan, IsLonger, lefts, rights}
use Rattle.rewrite_core.specs.PlainRewriting.{PlainRewriting, Node, PlainWay, One, Two, Tail, LeftGrew, RightGrew, BothGrew, PlainDelta, Change, PlainDeltaWay, OfChild, OfDistinct, OfJoin}
use Rattle.rewriter.specs.declared.parts.BothGrown.{BothGrown}
use Rattle.rewriter.specs.declared.parts.Growth.{Growth}
use Rattle.rewriter.specs.declared.parts.Growth.TheVariants as growth
use Rattle.rewriter.specs.declared.parts.Increase.{Increase}
use Rattle.rewriter.specs.declared.parts.Increase.TheVariants as increase
use Rattle.rewriter.specs.declared.parts.Inputs.{Inputs}
use Rattle.rewriter.specs.declared.parts.Inputs.TheVariants as inputs
use Rattle.rewriter.specs.declared.parts.Part.{Part}
use Rattle.rewriter.specs.declared.parts.Stretch.{Stretch}
use Rattle.rewriter.specs.Forms.{IsComputed, IsGrown, IsLeastOf, HasNone, HasNoDelta}
use Rattle.rewriter.specs.InStreams.{AreCutsOf}
use Rattle.rewriter.specs.Inputs.{IsJoin, IsLower}

-- an input of the plan, from a cut of it to another
pub record IsInputStretch (lengths : Lengths) (q : PlainPlan) (s : Stretch) : Type 0 where
  pub cuts : AreCutsOf lengths (plan_of s.plan.now) s.old.now s.new.now
  pub lower : IsLower (plan_of s.plan.now) q

-- an input of the plan at a cut of it
pub record IsInputPart (lengths : Lengths) (q : PlainPlan) (p : Part) : Type 0 where
  pub cuts : IsCutOf lengths (plan_of p.plan.now) p.cuts.now
  pub lower : IsLower (plan_of p.plan.now) q

-- an input of the plan, or the plan itself, at a cut of it
pub record IsPart (lengths : Lengths) (q : PlainPlan) (p : Part) : Type 0 where
  pub cuts : IsCutOf lengths (plan_of p.plan.now) p.cuts.now
  pub within : operator_count (plan_of p.plan.now) ≤ operator_count q

abbrev pub IsLeastOfPart : Entries → Lengths → Part → PlainRewriting → Type 0
IsLeastOfPart entries lengths p r = IsLeast entries lengths (plan_of p.plan.now) p.cuts.now r

abbrev pub IsLeastOfStretch : Entries → Lengths → Stretch → PlainDelta → Type 0
IsLeastOfStretch entries lengths s d = IsLeastDelta entries lengths (plan_of s.plan.now) s.old.now s.new.now d

-- the bytes under a part
abbrev pub bytes_of_part : Lengths → Part → ℕ
bytes_of_part lengths p = whole_bytes lengths (plan_of p.plan.now) p.cuts.now

-- the new bytes under a stretch
abbrev pub bytes_of_stretch : Lengths → Stretch → ℕ
bytes_of_stretch lengths s = new_bytes lengths (plan_of s.plan.now) s.old.now s.new.now

abbrev pub HasNoneOver : Entries → Stretch → Type 0
HasNoneOver entries s = HasNoDelta entries (plan_of s.plan.now) s.old.now s.new.now

pub record ComputesOne (entries : Entries) (lengths : Lengths) (q : PlainPlan) (c : Cuts) (p : Part) : Type 0 where
  pub input : IsInputPart lengths q p
  pub makes : (r : PlainRewriting) → IsLeastOfPart entries lengths p r → IsLeastOf IsComputed entries lengths q c (Node q c (One r))
  pub bytes : whole_bytes lengths q c ≡ bytes_of_part lengths p

pub record ComputesTwo (entries : Entries) (lengths : Lengths) (q : PlainPlan) (c : Cuts) (x y : Part) : Type 0 where
  pub left : IsInputPart lengths q x
  pub right : IsInputPart lengths q y
  pub makes : (l r : PlainRewriting) → IsLeastOfPart entries lengths x l → IsLeastOfPart entries lengths y r → IsLeastOf IsComputed entries lengths q c (Node q c (Two l r))
  pub bytes : whole_bytes lengths q c ≡ bytes_of_part lengths x + bytes_of_part lengths y

-- the plan is computed of these inputs
abbrev pub Computes : Entries → Lengths → PlainPlan → Cuts → Inputs → Type 0
Computes entries lengths q c inputs.Stream = IsScan q
Computes entries lengths q c (inputs.One p) = ComputesOne entries lengths q c p
Computes entries lengths q c (inputs.Two x y) = ComputesTwo entries lengths q c x y

pub record GrowsByTail (entries : Entries) (lengths : Lengths) (q : PlainPlan) (c : Cuts) (hit : Hit) (s : Stretch) : Type 0 where
  pub stretch : IsInputStretch lengths q s
  pub makes : (d : PlainDelta) → IsLeastOfStretch entries lengths s d → IsLeastOf IsGrown entries lengths q c (Node q c (Tail hit d))
  pub none : HasNoneOver entries s → HasNone IsGrown entries q c
  pub bytes : new_bytes lengths q hit.cuts c ≡ bytes_of_stretch lengths s

-- by a delta of one input and a result of the other one, as a way of this form
pub record GrowsByPair (Way : PlainDelta → PlainRewriting → PlainWay) (entries : Entries) (lengths : Lengths) (q : PlainPlan) (old c : Cuts) (s : Stretch) (p : Part) : Type 0 where
  pub stretch : IsInputStretch lengths q s
  pub part : IsInputPart lengths q p
  pub makes : (d : PlainDelta) (r : PlainRewriting) → IsLeastOfStretch entries lengths s d → IsLeastOfPart entries lengths p r → IsLeastOf IsGrown entries lengths q c (Node q c (Way d r))
  pub none : HasNoneOver entries s → HasNone IsGrown entries q c
  pub bytes : new_bytes lengths q old c ≡ bytes_of_stretch lengths s

-- by the left input before, the deltas of the right and the left input, and the right input
pub record GrowsByBoth (entries : Entries) (lengths : Lengths) (q : PlainPlan) (c : Cuts) (hit : Hit) (b : BothGrown) : Type 0 where
  pub old_left : IsInputPart lengths q b.old_left
  pub right_delta : IsInputStretch lengths q b.right_delta
  pub left_delta : IsInputStretch lengths q b.left_delta
  pub right : IsInputPart lengths q b.right
  pub makes : (l : PlainRewriting) (d e : PlainDelta) (r : PlainRewriting) → IsLeastOfPart entries lengths b.old_left l → IsLeastOfStretch entries lengths b.right_delta d →
      IsLeastOfStretch entries lengths b.left_delta e → IsLeastOfPart entries lengths b.right r → IsLeastOf IsGrown entries lengths q c (Node q c (BothGrew hit l d e r))
  pub none_right : HasNoneOver entries b.right_delta → HasNone IsGrown entries q c
  pub none_left : HasNoneOver entries b.left_delta → HasNone IsGrown entries q c
  pub bytes : new_bytes lengths q hit.cuts c ≡ bytes_of_stretch lengths b.left_delta + bytes_of_stretch lengths b.right_delta

-- a join's inputs, from a cut of it to another
pub record AreJoinInputs (q : PlainPlan) (old new : Cuts) (x y : Stretch) : Type 0 where
  pub join : IsJoin q (plan_of x.plan.now) (plan_of y.plan.now)
  pub left : IsLower (plan_of x.plan.now) q
  pub right : IsLower (plan_of y.plan.now) q
  pub old_lefts : x.old.now ≡ lefts (plan_of x.plan.now) old
  pub new_lefts : x.new.now ≡ lefts (plan_of x.plan.now) new
  pub old_rights : y.old.now ≡ rights (plan_of x.plan.now) old
  pub new_rights : y.new.now ≡ rights (plan_of x.plan.now) new

-- the result is grown by these parts
abbrev pub Grows : Entries → Lengths → PlainPlan → Cuts → Hit → Growth → Type 0
Grows entries lengths q c hit growth.Never = HasNone IsGrown entries q c
Grows entries lengths q c hit (growth.Tail s) = GrowsByTail entries lengths q c hit s
Grows entries lengths q c hit (growth.Left s p) = GrowsByPair (λ d r. LeftGrew hit d r) entries lengths q hit.cuts c s p
Grows entries lengths q c hit (growth.Right p s) = GrowsByPair (λ d r. RightGrew hit r d) entries lengths q hit.cuts c s p
Grows entries lengths q c hit (growth.Both b) = GrowsByBoth entries lengths q c hit b

pub record IncreasesByChild (entries : Entries) (lengths : Lengths) (q : PlainPlan) (old new : Cuts) (s : Stretch) : Type 0 where
  pub stretch : IsInputStretch lengths q s
  pub makes : (d : PlainDelta) → IsLeastOfStretch entries lengths s d → IsLeastDelta entries lengths q old new (Change q old new (OfChild d))
  pub none : HasNoneOver entries s → HasNoDelta entries q old new
  pub bytes : new_bytes lengths q old new ≡ bytes_of_stretch lengths s

-- by a delta of an input and a result, as a way of this form
pub record IncreasesByPair (Way : PlainDelta → PlainRewriting → PlainDeltaWay) (entries : Entries) (lengths : Lengths) (q : PlainPlan) (old new : Cuts) (s : Stretch) (p : Part) : Type 0 where
  pub stretch : IsInputStretch lengths q s
  pub part : IsPart lengths q p
  pub makes : (d : PlainDelta) (r : PlainRewriting) → IsLeastOfStretch entries lengths s d → IsLeastOfPart entries lengths p r → IsLeastDelta entries lengths q old new (Change q old new (Way d r))
  pub none : HasNoneOver entries s → HasNoDelta entries q old new
  pub bytes : new_bytes lengths q old new ≡ bytes_of_stretch lengths s

-- the delta is made of these parts
abbrev pub Increases : Entries → Lengths → PlainPlan → Cuts → Cuts → Increase → Type 0
Increases entries lengths q old new increase.Never = HasNoDelta entries q old new
Increases entries lengths q old new increase.Unchanged = old ≡ new
Increases entries lengths q old new increase.NewRows = IsScan q × IsLonger old new
Increases entries lengths q old new (increase.Child s) = IncreasesByChild entries lengths q old new s
Increases entries lengths q old new (increase.Distinct p s) = IncreasesByPair (λ d r. OfDistinct r d) entries lengths q old new s p
Increases entries lengths q old new (increase.Join s p) = IncreasesByPair (λ d r. OfJoin d r) entries lengths q old new s p
