-- The bytes under a plan are those under its parts, and an input that is unchanged has no new ones.
use Rattle.std.proofs.Common.{◌≡◌, ℕ, zero, ◌+◌, ◌-◌, List, [], ◌∷◌, refl, sym, ap, ◌∙◌, arith, take, drop}
use Rattle.std.specs.List.{sum, slice_range}
use Rattle.plan_core.specs.PlainPlan.{PlainPlan, leaves, leaf_count}
use Rattle.plan_core.specs.PlainPlan as plan
use Rattle.estimator.specs.Cuts.{Cuts, added_cuts}
use Rattle.estimator.specs.Bytes.{Lengths, lengths_at, leaf_bytes, whole_bytes, new_bytes, IsCutOf}
use Rattle.estimator.proofs.Sums.{bytes_of_sides, added_take, added_drop, added_within}
use Rattle.rewrite_core.specs.IsRewriting.{lefts, rights}
use Rattle.rewriter.specs.Inputs.{HasChild, HasTwo}
use Rattle.rewriter.specs.InStreams.{AreCutsOf}
use Rattle.rewriter.proofs.Ranges.{both_leaves, both_streams}

child_leaves : (q x : PlainPlan) → HasChild q x → leaves q ≡ leaves x
child_leaves (plan.Filter child test) x h = ap leaves h
child_leaves (plan.Project child columns) x h = ap leaves h
child_leaves (plan.Distinct child) x h = ap leaves h
child_leaves (plan.Group child keys aggs) x h = ap leaves h
child_leaves (plan.Order child keys) x h = ap leaves h
child_leaves _ x h = absurd h

nothing_between : (xs : List ℕ) (n : ℕ) → sum (slice_range xs n n) ≡ 0
nothing_between xs n = let e : n - n ≡ zero = omega arith in ap (λ k. sum (take k (drop n xs))) e

none_between : (l : Lengths) (xs : List ℕ) (c : Cuts) → leaf_bytes l xs (added_cuts c c) ≡ 0
none_between l [] [] = refl
none_between l [] (cut ∷ c) = refl
none_between l (x ∷ xs) [] = refl
none_between l (x ∷ xs) (cut ∷ c) =
    let here = nothing_between (lengths_at l x) cut.to in
    let behind = none_between l xs c in λ i. here i + behind i

without_right : (a b c : ℕ) → a ≡ b + c → c ≡ 0 → a ≡ b
without_right a b c e z = omega arith

without_left : (a b c : ℕ) → a ≡ b + c → b ≡ 0 → a ≡ c
without_left a b c e z = omega arith

-- the parts may stand in either order
pub swapped : (a b d w : ℕ) → a + b + d + w ≡ a + d + b + w
swapped a b d w = omega arith

pub swapped_two : (b d w : ℕ) → b + d + w ≡ d + b + w
swapped_two b d w = omega arith

module _ (l : Lengths) where
  pub new_along : (x : PlainPlan) {o p n m : Cuts} → p ≡ o → m ≡ n → new_bytes l x p m ≡ new_bytes l x o n
  new_along x e f = λ i. new_bytes l x (e i) (f i)

  pub none_new : (q : PlainPlan) (o n : Cuts) → o ≡ n → new_bytes l q o n ≡ 0
  none_new q o n e = ap (λ c. new_bytes l q o c) (sym e) ∙ none_between l (leaves q) o

  pub whole_of_child : (q x : PlainPlan) (c : Cuts) → HasChild q x → whole_bytes l q c ≡ whole_bytes l x c
  whole_of_child q x c h = ap (λ xs. leaf_bytes l xs c) (child_leaves q x h)

  pub new_of_child : (q x : PlainPlan) (o n : Cuts) → HasChild q x → new_bytes l q o n ≡ new_bytes l x o n
  new_of_child q x o n h = whole_of_child q x (added_cuts o n) h

  pub whole_of_two : (q x y : PlainPlan) (c : Cuts) → HasTwo q x y → IsCutOf l q c → whole_bytes l q c ≡ whole_bytes l x (lefts x c) + whole_bytes l y (rights x c)
  whole_of_two q x y c h k = ap (λ xs. leaf_bytes l xs c) (both_leaves q x y h) ∙ bytes_of_sides l (leaves x) (leaves y) c (both_streams l q x y c h k)

  module _ (q x y : PlainPlan) (o n : Cuts) (h : HasTwo q x y) (k : AreCutsOf l q o n) where
    pub new_of_two : new_bytes l q o n ≡ new_bytes l x (lefts x o) (lefts x n) + new_bytes l y (rights x o) (rights x n)
    new_of_two =
        let left = added_take (leaf_count x) o n in
        let right = added_drop (leaf_count x) o n in
        whole_of_two q x y (added_cuts o n) h (added_within l (leaves q) o n k.before k.after k.grows)
        ∙ sym (λ i. leaf_bytes l (leaves x) (left i) + leaf_bytes l (leaves y) (right i))

    pub new_of_left : rights x o ≡ rights x n → new_bytes l q o n ≡ new_bytes l x (lefts x o) (lefts x n)
    new_of_left same = without_right _ _ _ new_of_two (none_new y (rights x o) (rights x n) same)

    pub new_of_right : lefts x o ≡ lefts x n → new_bytes l q o n ≡ new_bytes l y (rights x o) (rights x n)
    new_of_right same = without_left _ _ _ new_of_two (none_new x (lefts x o) (lefts x n) same)
