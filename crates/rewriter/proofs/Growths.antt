-- The parts of a plan make its results.
use Rattle.std.proofs.Common.{◌≡◌, ◌≢◌, ◌+◌, ◌∙◌, sym, subst, ap, arith}
use Rattle.plan_core.specs.OperatorCount.{operator_count}
use Rattle.plan_core.specs.PlainPlan.{PlainPlan, plan_of}
use Rattle.estimator.specs.Bytes.{Lengths, IsCutOf, whole_bytes, new_bytes}
use Rattle.estimator.specs.Cuts.{Cuts}
use Rattle.rewrite_core.specs.declared.rewriting.Hit.{Hit}
use Rattle.rewrite_core.specs.Entries.{Entries, AreSound, IsEarlier}
use Rattle.rewrite_core.specs.Estimate.{IsLeast, IsLeastDelta}
use Rattle.rewrite_core.specs.IsRewriting.{lefts, rights}
use Rattle.rewrite_core.specs.PlainRewriting.{PlainRewriting, LeftGrew, RightGrew, PlainDelta, OfDistinct, OfJoin}
use Rattle.rewriter.specs.declared.parts.Part.{Part}
use Rattle.rewriter.specs.declared.parts.Stretch.{Stretch}
use Rattle.rewriter.specs.Forms.{IsGrown, HasNone, HasNoDelta}
use Rattle.rewriter.specs.Growing.{IsLeastOfStretch, HasNoneOver, IsInputStretch, IsInputPart, ComputesOne, ComputesTwo, AreJoinInputs, GrowsByTail, GrowsByPair, GrowsByBoth, IncreasesByChild, IncreasesByPair}
use Rattle.rewriter.specs.InStreams.{AreCutsOf}
use Rattle.rewriter.specs.Inputs.{HasChild, HasTwo, IsByRow, IsDistinct, IsJoin, IsConcat, IsLower}
use Rattle.rewriter.specs.Stretches.{before, after}
use Rattle.rewriter.proofs.LeastParts as law
use Rattle.rewriter.proofs.PartBytes.{new_along, whole_of_child, whole_of_two, new_of_child, new_of_two, new_of_left, new_of_right}
use Rattle.rewriter.proofs.Ranges.{child_cut, child_cuts, left_cut, right_cut, left_cuts, right_cuts, hit_cuts, two_of_join, two_of_concat, transported}
use Rattle.rewriter.proofs.Shapes.{none_along, no_right}

-- along equal cuts
part_along : (lengths : Lengths) (q : PlainPlan) (p : Part) (c : Cuts) → p.cuts.now ≡ c → IsLower (plan_of p.plan.now) q → IsCutOf lengths (plan_of p.plan.now) c → IsInputPart lengths q p
part_along lengths q p c e lower k = record { cuts = subst (IsCutOf lengths (plan_of p.plan.now)) (sym e) k; lower = lower }

stretch_along : (lengths : Lengths) (q : PlainPlan) (s : Stretch) (o n : Cuts) → s.old.now ≡ o → s.new.now ≡ n → IsLower (plan_of s.plan.now) q → AreCutsOf lengths (plan_of s.plan.now) o n → IsInputStretch lengths q s
stretch_along lengths q s o n e f lower k = record { cuts = transported lengths (plan_of s.plan.now) e f k; lower = lower }

module _ (entries : Entries) (lengths : Lengths) where
  least_along : (x : PlainPlan) (r : PlainRewriting) {a b : Cuts} → a ≡ b → IsLeast entries lengths x a r → IsLeast entries lengths x b r
  least_along x r e = subst (λ c. IsLeast entries lengths x c r) e

  delta_along : (x : PlainPlan) (d : PlainDelta) {o p n m : Cuts} → p ≡ o → m ≡ n → IsLeastDelta entries lengths x p m d → IsLeastDelta entries lengths x o n d
  delta_along x d {o} {p} {n} {m} e f k = subst (λ a. IsLeastDelta entries lengths x a n d) e (subst (λ b. IsLeastDelta entries lengths x p b d) f k)

  pub one_input : (q : PlainPlan) (c : Cuts) (p : Part) → HasChild q (plan_of p.plan.now) → IsLower (plan_of p.plan.now) q → p.cuts.now ≡ c → IsCutOf lengths q c → ComputesOne entries lengths q c p
  one_input q c p h lower e k = record {
    input = part_along lengths q p c e lower (child_cut lengths q (plan_of p.plan.now) c h k);
    makes = λ r l. law.computed_one entries lengths q c (plan_of p.plan.now) r h (least_along (plan_of p.plan.now) r e l);
    bytes = whole_of_child lengths q (plan_of p.plan.now) c h ∙ ap (whole_bytes lengths (plan_of p.plan.now)) (sym e);
  }

  pub two_inputs : (q : PlainPlan) (c : Cuts) (x y : Part) → HasTwo q (plan_of x.plan.now) (plan_of y.plan.now) → IsLower (plan_of x.plan.now) q → IsLower (plan_of y.plan.now) q →
      x.cuts.now ≡ lefts (plan_of x.plan.now) c → y.cuts.now ≡ rights (plan_of x.plan.now) c → IsCutOf lengths q c → ComputesTwo entries lengths q c x y
  two_inputs q c x y h below behind e f k = record {
    left = part_along lengths q x _ e below (left_cut lengths q (plan_of x.plan.now) (plan_of y.plan.now) c h k);
    right = part_along lengths q y _ f behind (right_cut lengths q (plan_of x.plan.now) (plan_of y.plan.now) c h k);
    makes = λ l r m n. law.computed_two entries lengths q c (plan_of x.plan.now) (plan_of y.plan.now) l r h (least_along (plan_of x.plan.now) l e m) (least_along (plan_of y.plan.now) r f n);
    bytes = whole_of_two lengths q (plan_of x.plan.now) (plan_of y.plan.now) c h k ∙ sym (λ i. whole_bytes lengths (plan_of x.plan.now) (e i) + whole_bytes lengths (plan_of y.plan.now) (f i));
  }

module _ (entries : Entries) (lengths : Lengths) (sound : AreSound entries) (q : PlainPlan) (c : Cuts) (hit : Hit) (here : IsEarlier entries q c hit) (k : IsCutOf lengths q c) where
  grows : AreCutsOf lengths q hit.cuts c
  grows = hit_cuts lengths entries q c hit sound here k

  pub tail_of_child : (s : Stretch) → HasChild q (plan_of s.plan.now) → IsLower (plan_of s.plan.now) q → s.old.now ≡ hit.cuts → s.new.now ≡ c → GrowsByTail entries lengths q c hit s
  tail_of_child s h lower e f = record {
    stretch = stretch_along lengths q s _ _ e f lower (child_cuts lengths q (plan_of s.plan.now) hit.cuts c h grows);
    makes = λ d l. law.grown_one entries sound lengths q c hit here (plan_of s.plan.now) d h (delta_along entries lengths (plan_of s.plan.now) d e f l);
    none = λ n. law.grown_one_none entries sound lengths q c hit here (plan_of s.plan.now) h (none_along entries (plan_of s.plan.now) e f n);
    bytes = new_of_child lengths q (plan_of s.plan.now) hit.cuts c h ∙ sym (new_along lengths (plan_of s.plan.now) e f);
  }

  pub tail_of_concat : (x : PlainPlan) (s : Stretch) → IsConcat q x (plan_of s.plan.now) → IsLower (plan_of s.plan.now) q → s.old.now ≡ rights x hit.cuts → s.new.now ≡ rights x c → lefts x hit.cuts ≡ lefts x c → GrowsByTail entries lengths q c hit s
  tail_of_concat x s h lower e f same = record {
    stretch = stretch_along lengths q s _ _ e f lower (right_cuts lengths q x (plan_of s.plan.now) hit.cuts c (two_of_concat q x (plan_of s.plan.now) h) grows);
    makes = λ d l. law.grown_concat entries sound lengths q c hit here x (plan_of s.plan.now) d h same (delta_along entries lengths (plan_of s.plan.now) d e f l);
    none = λ n. law.grown_concat_none entries sound lengths q c hit here x (plan_of s.plan.now) h (λ d _ m. none_along entries (plan_of s.plan.now) e f n d m);
    bytes = new_of_right lengths q x (plan_of s.plan.now) hit.cuts c (two_of_concat q x (plan_of s.plan.now) h) grows same ∙ sym (new_along lengths (plan_of s.plan.now) e f);
  }

  pub no_concat : (x y : PlainPlan) → IsConcat q x y → lefts x hit.cuts ≢ lefts x c → HasNone IsGrown entries q c
  no_concat x y h differ = law.grown_concat_none entries sound lengths q c hit here x y h (λ d same m. differ same)

  module _ (x y : Stretch) (s : AreJoinInputs q hit.cuts c x y) where
    left_stretch : IsInputStretch lengths q x
    left_stretch = stretch_along lengths q x _ _ s.old_lefts s.new_lefts s.left (left_cuts lengths q (plan_of x.plan.now) (plan_of y.plan.now) hit.cuts c (two_of_join q (plan_of x.plan.now) (plan_of y.plan.now) s.join) grows)

    right_stretch : IsInputStretch lengths q y
    right_stretch = stretch_along lengths q y _ _ s.old_rights s.new_rights s.right (right_cuts lengths q (plan_of x.plan.now) (plan_of y.plan.now) hit.cuts c (two_of_join q (plan_of x.plan.now) (plan_of y.plan.now) s.join) grows)

    before_left : IsInputPart lengths q (before x)
    before_left = record { cuts = left_stretch.cuts.before; lower = s.left }

    after_left : IsInputPart lengths q (after x)
    after_left = record { cuts = left_stretch.cuts.after; lower = s.left }

    after_right : IsInputPart lengths q (after y)
    after_right = record { cuts = right_stretch.cuts.after; lower = s.right }

    left_along : new_bytes lengths (plan_of x.plan.now) x.old.now x.new.now ≡ new_bytes lengths (plan_of x.plan.now) (lefts (plan_of x.plan.now) hit.cuts) (lefts (plan_of x.plan.now) c)
    left_along = new_along lengths (plan_of x.plan.now) s.old_lefts s.new_lefts

    right_along : new_bytes lengths (plan_of y.plan.now) y.old.now y.new.now ≡ new_bytes lengths (plan_of y.plan.now) (rights (plan_of x.plan.now) hit.cuts) (rights (plan_of x.plan.now) c)
    right_along = new_along lengths (plan_of y.plan.now) s.old_rights s.new_rights

    two : HasTwo q (plan_of x.plan.now) (plan_of y.plan.now)
    two = two_of_join q (plan_of x.plan.now) (plan_of y.plan.now) s.join

    least_left : (d : PlainDelta) → IsLeastOfStretch entries lengths x d → IsLeastDelta entries lengths (plan_of x.plan.now) (lefts (plan_of x.plan.now) hit.cuts) (lefts (plan_of x.plan.now) c) d
    least_left d l = delta_along entries lengths (plan_of x.plan.now) d s.old_lefts s.new_lefts l

    least_right : (d : PlainDelta) → IsLeastOfStretch entries lengths y d → IsLeastDelta entries lengths (plan_of y.plan.now) (rights (plan_of x.plan.now) hit.cuts) (rights (plan_of x.plan.now) c) d
    least_right d l = delta_along entries lengths (plan_of y.plan.now) d s.old_rights s.new_rights l

    none_left : HasNoneOver entries x → HasNoDelta entries (plan_of x.plan.now) (lefts (plan_of x.plan.now) hit.cuts) (lefts (plan_of x.plan.now) c)
    none_left n = none_along entries (plan_of x.plan.now) s.old_lefts s.new_lefts n

    none_right : HasNoneOver entries y → HasNoDelta entries (plan_of y.plan.now) (rights (plan_of x.plan.now) hit.cuts) (rights (plan_of x.plan.now) c)
    none_right n = none_along entries (plan_of y.plan.now) s.old_rights s.new_rights n

    pub left_grew : y.old.now ≡ y.new.now → GrowsByPair (λ d r. LeftGrew hit d r) entries lengths q hit.cuts c x (after y)
    left_grew same =
        let rights_same : rights (plan_of x.plan.now) hit.cuts ≡ rights (plan_of x.plan.now) c = sym s.old_rights ∙ same ∙ s.new_rights in
        record {
          stretch = left_stretch;
          part = after_right;
          makes = λ d r l m. law.grown_left entries sound lengths q c hit here (plan_of x.plan.now) (plan_of y.plan.now) d r s.join rights_same (least_left d l) (least_along entries lengths (plan_of y.plan.now) r s.new_rights m);
          none = λ n. law.grown_left_none entries sound lengths q c hit here (plan_of x.plan.now) (plan_of y.plan.now) s.join rights_same (none_left n);
          bytes = new_of_left lengths q (plan_of x.plan.now) (plan_of y.plan.now) hit.cuts c two grows rights_same ∙ sym left_along;
        }

    pub right_grew : x.old.now ≡ x.new.now → GrowsByPair (λ d r. RightGrew hit r d) entries lengths q hit.cuts c y (after x)
    right_grew same =
        let lefts_same : lefts (plan_of x.plan.now) hit.cuts ≡ lefts (plan_of x.plan.now) c = sym s.old_lefts ∙ same ∙ s.new_lefts in
        record {
          stretch = right_stretch;
          part = after_left;
          makes = λ d r l m. law.grown_right entries sound lengths q c hit here (plan_of x.plan.now) (plan_of y.plan.now) r d s.join lefts_same (least_along entries lengths (plan_of x.plan.now) r s.new_lefts m) (least_right d l);
          none = λ n. law.grown_right_none entries sound lengths q c hit here (plan_of x.plan.now) (plan_of y.plan.now) s.join lefts_same (none_right n);
          bytes = new_of_right lengths q (plan_of x.plan.now) (plan_of y.plan.now) hit.cuts c two grows lefts_same ∙ sym right_along;
        }

    pub both_grew : x.old.now ≢ x.new.now → y.old.now ≢ y.new.now → GrowsByBoth entries lengths q c hit (record { old_left = before x; right_delta = y; left_delta = x; right = after y })
    both_grew more_left more_right =
        let lefts_differ : lefts (plan_of x.plan.now) hit.cuts ≢ lefts (plan_of x.plan.now) c = λ e. more_left (s.old_lefts ∙ e ∙ sym s.new_lefts) in
        let rights_differ : rights (plan_of x.plan.now) hit.cuts ≢ rights (plan_of x.plan.now) c = λ e. more_right (s.old_rights ∙ e ∙ sym s.new_rights) in
        record {
          old_left = before_left;
          right_delta = right_stretch;
          left_delta = left_stretch;
          right = after_right;
          makes = λ l d e r ll ld le lr. law.grown_both entries sound lengths q c hit here (plan_of x.plan.now) (plan_of y.plan.now) l d e r s.join lefts_differ rights_differ
              (least_along entries lengths (plan_of x.plan.now) l s.old_lefts ll) (least_right d ld) (least_left e le) (least_along entries lengths (plan_of y.plan.now) r s.new_rights lr);
          none_right = λ n. no_right entries sound lengths q c hit here (plan_of x.plan.now) (plan_of y.plan.now) s.join rights_differ (none_right n);
          none_left = λ n. law.grown_both_none entries sound lengths q c hit here (plan_of x.plan.now) (plan_of y.plan.now) s.join lefts_differ rights_differ (λ d e m k. none_left n e k);
          bytes = new_of_two lengths q (plan_of x.plan.now) (plan_of y.plan.now) hit.cuts c two grows ∙ sym (λ i. left_along i + right_along i);
        }

-- ---- deltas

module _ (entries : Entries) (lengths : Lengths) (q : PlainPlan) (old new : Cuts) (differ : old ≢ new) (k : AreCutsOf lengths q old new) where
  pub child_of_row : (s : Stretch) → IsByRow q → HasChild q (plan_of s.plan.now) → IsLower (plan_of s.plan.now) q → s.old.now ≡ old → s.new.now ≡ new → IncreasesByChild entries lengths q old new s
  child_of_row s b h lower e f = record {
    stretch = stretch_along lengths q s _ _ e f lower (child_cuts lengths q (plan_of s.plan.now) old new h k);
    makes = λ d l. law.delta_row entries lengths q old new (plan_of s.plan.now) d b h differ (delta_along entries lengths (plan_of s.plan.now) d e f l);
    none = λ n. law.delta_row_none entries lengths q old new (plan_of s.plan.now) b h differ (none_along entries (plan_of s.plan.now) e f n);
    bytes = new_of_child lengths q (plan_of s.plan.now) old new h ∙ sym (new_along lengths (plan_of s.plan.now) e f);
  }

  pub child_of_distinct : (s : Stretch) (p : Part) → IsDistinct q → HasChild q (plan_of s.plan.now) → IsLower (plan_of s.plan.now) q → s.old.now ≡ old → s.new.now ≡ new → plan_of p.plan.now ≡ q → p.cuts.now ≡ old →
      IncreasesByPair (λ d r. OfDistinct r d) entries lengths q old new s p
  child_of_distinct s p b h lower e f same at = record {
    stretch = stretch_along lengths q s _ _ e f lower (child_cuts lengths q (plan_of s.plan.now) old new h k);
    part = record { cuts = subst (λ x. IsCutOf lengths x p.cuts.now) (sym same) (subst (IsCutOf lengths q) (sym at) k.before); within = let n = ap operator_count same in omega arith };
    makes = λ d r l m. law.delta_distinct entries lengths q old new (plan_of s.plan.now) r d b h differ (subst (λ x. IsLeast entries lengths x old r) same (least_along entries lengths (plan_of p.plan.now) r at m)) (delta_along entries lengths (plan_of s.plan.now) d e f l);
    none = λ n. law.delta_distinct_none entries lengths q old new (plan_of s.plan.now) b h differ (none_along entries (plan_of s.plan.now) e f n);
    bytes = new_of_child lengths q (plan_of s.plan.now) old new h ∙ sym (new_along lengths (plan_of s.plan.now) e f);
  }

  pub child_of_concat : (x : PlainPlan) (s : Stretch) → IsConcat q x (plan_of s.plan.now) → IsLower (plan_of s.plan.now) q → s.old.now ≡ rights x old → s.new.now ≡ rights x new → lefts x old ≡ lefts x new → IncreasesByChild entries lengths q old new s
  child_of_concat x s h lower e f same = record {
    stretch = stretch_along lengths q s _ _ e f lower (right_cuts lengths q x (plan_of s.plan.now) old new (two_of_concat q x (plan_of s.plan.now) h) k);
    makes = λ d l. law.delta_concat entries lengths q old new x (plan_of s.plan.now) d h differ same (delta_along entries lengths (plan_of s.plan.now) d e f l);
    none = λ n. law.delta_concat_none entries lengths q old new x (plan_of s.plan.now) h differ (λ d _ m. none_along entries (plan_of s.plan.now) e f n d m);
    bytes = new_of_right lengths q x (plan_of s.plan.now) old new (two_of_concat q x (plan_of s.plan.now) h) k same ∙ sym (new_along lengths (plan_of s.plan.now) e f);
  }

  pub children_of_join : (s : Stretch) (p : Part) → IsJoin q (plan_of s.plan.now) (plan_of p.plan.now) → IsLower (plan_of s.plan.now) q → IsLower (plan_of p.plan.now) q → s.old.now ≡ lefts (plan_of s.plan.now) old → s.new.now ≡ lefts (plan_of s.plan.now) new →
      p.cuts.now ≡ rights (plan_of s.plan.now) new → rights (plan_of s.plan.now) old ≡ rights (plan_of s.plan.now) new → IncreasesByPair (λ d r. OfJoin d r) entries lengths q old new s p
  children_of_join s p h below behind e f at same =
      let two = two_of_join q (plan_of s.plan.now) (plan_of p.plan.now) h in
      let right = part_along lengths q p _ at behind (right_cut lengths q (plan_of s.plan.now) (plan_of p.plan.now) new two k.after) in
      record {
        stretch = stretch_along lengths q s _ _ e f below (left_cuts lengths q (plan_of s.plan.now) (plan_of p.plan.now) old new two k);
        part = record { cuts = right.cuts; within = omega arith };
        makes = λ d r l m. law.delta_join entries lengths q old new (plan_of s.plan.now) (plan_of p.plan.now) d r h differ same (delta_along entries lengths (plan_of s.plan.now) d e f l) (least_along entries lengths (plan_of p.plan.now) r at m);
        none = λ n. law.delta_join_none entries lengths q old new (plan_of s.plan.now) (plan_of p.plan.now) h differ (λ d _ m. none_along entries (plan_of s.plan.now) e f n d m);
        bytes = new_of_left lengths q (plan_of s.plan.now) (plan_of p.plan.now) old new two k same ∙ sym (new_along lengths (plan_of s.plan.now) e f);
      }
