-- A plan has the same typing over more streams, where those of its leaves are the same.
use Rattle.std.proofs.Common.{◌≡◌, refl, sym, ap, ◌∙◌, ℕ, zero, suc, ◌+◌, ◌<◌, ◌≤◌, Bool, true, false, ◌||◌, cond, nat_le, List, [], ◌∷◌, ◌++◌, length, Option, None, Some, Result, Ok, Err, IsOk, slice_get, unwrap_or, length-append, arith}
use Rattle.std.specs.List.{AllByRecursion, find}
use Rattle.std.specs.Option.{option_and_then}
use Rattle.std.proofs.lemmas.Bool.Decides.{nat_tests}
use Rattle.plan_core.specs.declared.refusal.PlanRefusal.{PlanRefusal}
use Rattle.plan_core.specs.declared.refusal.PlanRefusal.TheVariants.{TooMany}
use Rattle.plan_core.specs.ExpressionKind.{of_both}
use Rattle.plan_core.specs.PlainPlan.{PlainPlan, Scan, Filter, Project, Distinct, Group, Join, Concat, Order, leaves}
use Rattle.plan_core.specs.PlanTyping.{Kinds, plan_typing, plan_kinds, has_too_many, absent_stream, present_or, typed_or, is_above_limit, column_count, filter_kinds, project_kinds, group_kinds, join_kinds, concat_kinds, order_kinds}

-- ---- where the leaves' streams are the same

pub sides : {A : Type 0} (P : A → Type 0) (xs ys : List A) → AllByRecursion P (xs ++ ys) → AllByRecursion P xs × AllByRecursion P ys
sides P [] ys all = (tt, all)
sides P (x ∷ xs) ys all = let rest = sides P xs ys all.1 in ((all.0, rest.0), rest.1)

module _ (old new : List Kinds) where
  abbrev AreSame : PlainPlan → Type 0
  AreSame p = AllByRecursion (λ stream. slice_get new stream ≡ slice_get old stream) (leaves p)

  abbrev both : (p q : PlainPlan) → AllByRecursion (λ stream. slice_get new stream ≡ slice_get old stream) (leaves p ++ leaves q) → AreSame p × AreSame q
  both p q same = sides (λ stream. slice_get new stream ≡ slice_get old stream) (leaves p) (leaves q) same

  kinds_same : (p : PlainPlan) → AreSame p → plan_kinds new p ≡ plan_kinds old p
  kinds_same (Scan stream) same = same.0
  kinds_same (Filter p test) same = ap (option_and_then (filter_kinds test)) (kinds_same p same)
  kinds_same (Project p columns) same = ap (option_and_then (project_kinds columns)) (kinds_same p same)
  kinds_same (Distinct p) same = kinds_same p same
  kinds_same (Group p keys aggs) same = ap (option_and_then (group_kinds keys aggs)) (kinds_same p same)
  kinds_same (Join p q on) same = let s = both p q same in λ i. of_both (join_kinds on) (kinds_same p s.0 i) (kinds_same q s.1 i)
  kinds_same (Concat p q) same = let s = both p q same in λ i. of_both concat_kinds (kinds_same p s.0 i) (kinds_same q s.1 i)
  kinds_same (Order p keys) same = ap (option_and_then (order_kinds keys)) (kinds_same p same)

  columns_same : (p : PlainPlan) → AreSame p → column_count new p ≡ column_count old p
  columns_same p same = ap (λ (k : Option Kinds). length (unwrap_or k [])) (kinds_same p same)

  too_many_same : (p : PlainPlan) → AreSame p → has_too_many new p ≡ has_too_many old p
  too_many_same (Scan stream) same = ap is_above_limit (columns_same (Scan stream) same)
  too_many_same (Filter p test) same = too_many_same p same
  too_many_same (Project p columns) same = ap (λ b. is_above_limit (length columns) || b) (too_many_same p same)
  too_many_same (Distinct p) same = too_many_same p same
  too_many_same (Group p keys aggs) same = ap (λ b. is_above_limit (length keys + length aggs) || b) (too_many_same p same)
  too_many_same (Join p q on) same =
      let s = both p q same in
      λ i. ((is_above_limit (columns_same p s.0 i + columns_same q s.1 i) || is_above_limit (length on)) || too_many_same p s.0 i) || too_many_same q s.1 i
  too_many_same (Concat p q) same = let s = both p q same in λ i. too_many_same p s.0 i || too_many_same q s.1 i
  too_many_same (Order p keys) same = ap (λ b. is_above_limit (length keys) || b) (too_many_same p same)

-- ---- where there are more streams

-- the first streams are the same
pub there_still : {A : Type 0} (xs ys : List A) (i : ℕ) → i < length xs → slice_get (xs ++ ys) i ≡ slice_get xs i
there_still [] ys i low = absurd (omega (arith, low))
there_still (x ∷ xs) ys zero low = refl
there_still (x ∷ xs) ys (suc i) low = there_still xs ys i (omega (arith, low))

-- none of these is past the end
pub present : (n : ℕ) (streams : List ℕ) → find (λ stream. nat_le n stream) streams ≡ None → AllByRecursion (λ stream. stream < n) streams
present n [] none = tt
present n (s ∷ streams) none = by (nat_le n s) refl none (present n streams)
  where
    by : (b : Bool) → nat_le n s ≡ b → cond b (Some s) (find (λ stream. nat_le n stream) streams) ≡ None
        → (find (λ stream. nat_le n stream) streams ≡ None → AllByRecursion (λ stream. stream < n) streams) → AllByRecursion (λ stream. stream < n) (s ∷ streams)
    by true e none rest = absurd cc
    by false e none rest = (grind (arith, nat_tests), rest none)

still_present : (n m : ℕ) (streams : List ℕ) → n ≤ m → AllByRecursion (λ stream. stream < n) streams → find (λ stream. nat_le m stream) streams ≡ None
still_present n m [] more all = refl
still_present n m (s ∷ streams) more all = by (nat_le m s) refl (still_present n m streams more all.1)
  where
    by : (b : Bool) → nat_le m s ≡ b → find (λ stream. nat_le m stream) streams ≡ None → cond b (Some s) (find (λ stream. nat_le m stream) streams) ≡ None
    by true e rest = absurd (let low = all.0 in grind (arith, nat_tests))
    by false e rest = rest

all_still : (xs ys : List Kinds) (streams : List ℕ) → AllByRecursion (λ stream. stream < length xs) streams
    → AllByRecursion (λ stream. slice_get (xs ++ ys) stream ≡ slice_get xs stream) streams
all_still xs ys [] all = tt
all_still xs ys (s ∷ streams) all = (there_still xs ys s all.0, all_still xs ys streams all.1)

abbrev answer : Option ℕ → Option Kinds → Bool → Result Kinds PlanRefusal
answer absent kinds many = present_or absent (typed_or kinds (λ k. cond many (Err TooMany) (Ok k)))

no_absent : (absent : Option ℕ) (next : Result Kinds PlanRefusal) → IsOk (present_or absent next) → absent ≡ None
no_absent None next is = refl
no_absent (Some stream) next is = absurd cc

pub typed_still : (schemas more : List Kinds) (p : PlainPlan) → IsOk (plan_typing schemas p) → plan_typing (schemas ++ more) p ≡ plan_typing schemas p
typed_still schemas more p is =
    let none = no_absent (absent_stream schemas p) (typed_or (plan_kinds schemas p) (λ k. cond (has_too_many schemas p) (Err TooMany) (Ok k))) is in
    let low = present (length schemas) (leaves p) none in
    let long = length-append schemas more in
    let still : absent_stream (schemas ++ more) p ≡ None = still_present (length schemas) (length (schemas ++ more)) (leaves p) (omega (arith, long)) low in
    let same = all_still schemas more (leaves p) low in
    λ i. answer ((still ∙ sym none) i) (kinds_same schemas (schemas ++ more) p same i) (too_many_same schemas (schemas ++ more) p same i)
