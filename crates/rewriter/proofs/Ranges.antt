-- The cuts of a plan's parts, and of an earlier entry.
use Rattle.std.proofs.Common.{◌≡◌, ℕ, zero, suc, List, [], ◌∷◌, ◌++◌, length, arith, sym, subst, take, drop}
use Rattle.plan_core.specs.PlainPlan.{PlainPlan, leaves, leaf_count}
use Rattle.plan_core.specs.PlainPlan as plan
use Rattle.rewrite_core.specs.declared.rewriting.Hit.{Hit}
use Rattle.estimator.specs.Cuts.{Cuts, AreIntervals, AreAtOrBefore, EndAtOrBefore}
use Rattle.estimator.specs.Bytes.{Lengths, AreInStreams, IsCutOf}
use Rattle.rewrite_core.specs.Entries.{Entries, AreSound, IsEarlier}
use Rattle.rewrite_core.specs.IsRewriting.{lefts, rights}
use Rattle.rewriter.specs.Inputs.{HasChild, IsJoin, IsConcat, HasTwo}
use Rattle.rewriter.specs.InStreams.{AreCutsOf}
use Rattle.estimator.proofs.Sums.{streams_left, streams_right, streams_length}

pub child_cut : (l : Lengths) (q x : PlainPlan) (c : Cuts) → HasChild q x → IsCutOf l q c → IsCutOf l x c
child_cut l (plan.Filter child test) x c h k = subst (λ y. IsCutOf l y c) h k
child_cut l (plan.Project child columns) x c h k = subst (λ y. IsCutOf l y c) h k
child_cut l (plan.Distinct child) x c h k = subst (λ y. IsCutOf l y c) h k
child_cut l (plan.Group child keys aggs) x c h k = subst (λ y. IsCutOf l y c) h k
child_cut l (plan.Order child keys) x c h k = subst (λ y. IsCutOf l y c) h k
child_cut l _ x c h k = absurd h

pub two_of_join : (q x y : PlainPlan) → IsJoin q x y → HasTwo q x y
two_of_join (plan.Join a b on) x y h = h
two_of_join _ x y h = absurd h

pub two_of_concat : (q x y : PlainPlan) → IsConcat q x y → HasTwo q x y
two_of_concat (plan.Concat a b) x y h = h
two_of_concat _ x y h = absurd h

pub both_leaves : (q x y : PlainPlan) → HasTwo q x y → leaves q ≡ leaves x ++ leaves y
both_leaves (plan.Join a b on) x y h = λ i. leaves (h.0 i) ++ leaves (h.1 i)
both_leaves (plan.Concat a b) x y h = λ i. leaves (h.0 i) ++ leaves (h.1 i)
both_leaves _ x y h = absurd h

pub both_streams : (l : Lengths) (q x y : PlainPlan) (c : Cuts) → HasTwo q x y → IsCutOf l q c → AreInStreams l (leaves x ++ leaves y) c
both_streams l q x y c h k = subst (λ s. AreInStreams l s c) (both_leaves q x y h) k

pub left_cut : (l : Lengths) (q x y : PlainPlan) (c : Cuts) → HasTwo q x y → IsCutOf l q c → IsCutOf l x (lefts x c)
left_cut l q x y c h k = streams_left l (leaves x) (leaves y) c (both_streams l q x y c h k)

pub right_cut : (l : Lengths) (q x y : PlainPlan) (c : Cuts) → HasTwo q x y → IsCutOf l q c → IsCutOf l y (rights x c)
right_cut l q x y c h k = streams_right l (leaves x) (leaves y) c (both_streams l q x y c h k)

pub cut_length : (l : Lengths) (q : PlainPlan) (c : Cuts) → IsCutOf l q c → length c ≡ leaf_count q
cut_length l q c k = streams_length l (leaves q) c k

ends_take : (n : ℕ) (old new : Cuts) → EndAtOrBefore old new → EndAtOrBefore (take n old) (take n new)
ends_take zero old new g = tt
ends_take (suc n) [] [] g = tt
ends_take (suc n) [] (b ∷ new) g = absurd g
ends_take (suc n) (a ∷ old) [] g = absurd g
ends_take (suc n) (a ∷ old) (b ∷ new) g = (g.0, ends_take n old new g.1)

ends_drop : (n : ℕ) (old new : Cuts) → EndAtOrBefore old new → EndAtOrBefore (drop n old) (drop n new)
ends_drop zero old new g = g
ends_drop (suc n) [] [] g = tt
ends_drop (suc n) [] (b ∷ new) g = absurd g
ends_drop (suc n) (a ∷ old) [] g = absurd g
ends_drop (suc n) (a ∷ old) (b ∷ new) g = ends_drop n old new g.1

pub child_cuts : (l : Lengths) (q x : PlainPlan) (old new : Cuts) → HasChild q x → AreCutsOf l q old new → AreCutsOf l x old new
child_cuts l q x old new h k = record {
  before = child_cut l q x old h k.before;
  after = child_cut l q x new h k.after;
  grows = k.grows;
}

pub left_cuts : (l : Lengths) (q x y : PlainPlan) (old new : Cuts) → HasTwo q x y → AreCutsOf l q old new → AreCutsOf l x (lefts x old) (lefts x new)
left_cuts l q x y old new h k = record {
  before = left_cut l q x y old h k.before;
  after = left_cut l q x y new h k.after;
  grows = ends_take (leaf_count x) old new k.grows;
}

pub right_cuts : (l : Lengths) (q x y : PlainPlan) (old new : Cuts) → HasTwo q x y → AreCutsOf l q old new → AreCutsOf l y (rights x old) (rights x new)
right_cuts l q x y old new h k = record {
  before = right_cut l q x y old h k.before;
  after = right_cut l q x y new h k.after;
  grows = ends_drop (leaf_count x) old new k.grows;
}

pub streams_before : (l : Lengths) (xs : List ℕ) (old new : Cuts) → EndAtOrBefore old new → AreIntervals old → AreInStreams l xs new → AreInStreams l xs old
streams_before l [] [] [] b i k = tt
streams_before l [] [] (n ∷ ns) b i k = absurd b
streams_before l [] (o ∷ os) [] b i k = absurd b
streams_before l [] (o ∷ os) (n ∷ ns) b i k = absurd k
streams_before l (x ∷ xs) [] [] b i k = absurd k
streams_before l (x ∷ xs) [] (n ∷ ns) b i k = absurd b
streams_before l (x ∷ xs) (o ∷ os) [] b i k = absurd b
streams_before l (x ∷ xs) (o ∷ os) (n ∷ ns) b i k = (i.0, omega arith, streams_before l xs os ns b.1 i.1 k.2)

ends_before : (old new : Cuts) → AreAtOrBefore old new → EndAtOrBefore old new
ends_before [] [] b = tt
ends_before [] (n ∷ ns) b = absurd b
ends_before (o ∷ os) [] b = absurd b
ends_before (o ∷ os) (n ∷ ns) b = (b.1, ends_before os ns b.2)

pub hit_cuts : (l : Lengths) (entries : Entries) (q : PlainPlan) (c : Cuts) (hit : Hit) → AreSound entries → IsEarlier entries q c hit → IsCutOf l q c → AreCutsOf l q hit.cuts c
hit_cuts l entries q c hit sound h k =
    let intervals = sound.intervals _ h.candidate.kept in
    record {
      before = streams_before l (leaves q) hit.cuts c (ends_before hit.cuts c h.candidate.before) intervals k;
      after = k;
      grows = ends_before hit.cuts c h.candidate.before;
    }

pub transported : (l : Lengths) (x : PlainPlan) {o p n m : Cuts} → p ≡ o → m ≡ n → AreCutsOf l x o n → AreCutsOf l x p m
transported l x {o} {p} {n} {m} e f k = subst (λ a. AreCutsOf l x a m) (sym e) (subst (λ b. AreCutsOf l x o b) (sym f) k)
