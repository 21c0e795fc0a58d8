-- The first of equal rows.
use Rattle.std.proofs.Common.{◌≡◌, ◌≢◌, refl, sym, ap, ◌∙◌, subst, ◌⊎◌, inl, inr, Bool, true, false, true≢false, cond, not, ◌||◌, [], ◌∷◌, ◌++◌, arith}
use Rattle.std.specs.List.{filter, list_any, Contains, AllPairs}
use Rattle.std.proofs.lemmas.List.Elements.{filter-append, filter_passes}
use Rattle.std.proofs.lemmas.List.Kept.{AllPairs-cons, AllPairs-filter}
use Rattle.std.proofs.Math.Bool.{or-true}
use Rattle.rows_core.specs.Equality.{row_eq-Decides}
use Rattle.rows_core.specs.Value.{row_eq}
use Rattle.plan_core.specs.Columns.{Row, Rows}
use Rattle.plan_core.specs.Distinct.{distinct_rows}
use Rattle.plan_laws.proofs.Members.{at_front, behind, front_or_behind, kept, was_there}

equal : (a b : Row) → row_eq a b ≡ true → a ≡ b
equal a b h = (row_eq-Decides a b).0 h

equal_back : (a b : Row) → a ≡ b → row_eq a b ≡ true
equal_back a b h = (row_eq-Decides a b).1 h

pub same_test : (p q : Bool) → (p ≡ true → q ≡ true) → (q ≡ true → p ≡ true) → p ≡ q
same_test true q f g = sym (f refl)
same_test false true f g = g refl
same_test false false f g = refl

pub either_way : (a b : Row) → row_eq a b ≡ row_eq b a
either_way a b = same_test _ _ (λ h. equal_back b a (sym (equal a b h))) (λ h. equal_back a b (sym (equal b a h)))

-- the rows other than this one
abbrev pub others_than : Row → Row → Bool
others_than first row = not (row_eq first row)

pub has_no_more : (rows : Rows) (row : Row) → Contains (distinct_rows rows) row → Contains rows row
has_no_more [] row h = h
has_no_more (first ∷ others) row h = by (has_no_more others row) (front_or_behind first _ row h)
  where
    by : (Contains (distinct_rows others) row → Contains others row) → (first ≡ row) ⊎ Contains (filter (others_than first) (distinct_rows others)) row → Contains (first ∷ others) row
    by rest (inl here) = subst (Contains (first ∷ others)) here (at_front first others)
    by rest (inr at) = behind first others row (rest (was_there (others_than first) (distinct_rows others) row at).0)

pub has_all : (rows : Rows) (row : Row) → Contains rows row → Contains (distinct_rows rows) row
has_all [] row h = h
has_all (first ∷ others) row h = by (row_eq first row) refl (has_all others row) (front_or_behind first others row h)
  where
    here : first ≡ row → Contains (distinct_rows (first ∷ others)) row
    here is = subst (Contains (distinct_rows (first ∷ others))) is (at_front first (filter (others_than first) (distinct_rows others)))

    by : (b : Bool) → row_eq first row ≡ b → (Contains others row → Contains (distinct_rows others) row) → (first ≡ row) ⊎ Contains others row → Contains (distinct_rows (first ∷ others)) row
    by b e rest (inl is) = here is
    by true e rest (inr at) = here (equal first row e)
    by false e rest (inr at) = behind first _ row (kept (others_than first) (distinct_rows others) row (rest at) (ap not e))

other_is_different : (first row : Row) → others_than first row ≡ true → first ≢ row
other_is_different first row h is = true≢false (sym h ∙ ap not (equal_back first row is))

pub differ : (rows : Rows) → AllPairs (λ a b. a ≢ b) (distinct_rows rows)
differ [] = λ i j d before within. absurd (omega (arith, within))
differ (first ∷ others) =
    let rest = filter (others_than first) (distinct_rows others) in
    AllPairs-cons (λ a b. a ≢ b) first rest
    (λ k d within. other_is_different first _ (filter_passes (others_than first) (distinct_rows others) k d within))
    (AllPairs-filter (λ a b. a ≢ b) (others_than first) (distinct_rows others) (differ others))

-- the row, where none of these is equal to it
abbrev pub if_new : Rows → Row → Rows
if_new rows row = cond (list_any (row_eq row) rows) [] (row ∷ [])

new_behind : (first : Row) (others : Rows) (row : Row) → filter (others_than first) (if_new others row) ≡ if_new (first ∷ others) row
new_behind first others row = by (list_any (row_eq row) others) (row_eq row first) (either_way first row)
  where
    by : (any q : Bool) → row_eq first row ≡ q → filter (others_than first) (cond any [] (row ∷ [])) ≡ cond (q || any) [] (row ∷ [])
    by true true e = refl
    by true false e = refl
    by false true e = ap (λ b. cond (not b) (row ∷ []) []) e
    by false false e = ap (λ b. cond (not b) (row ∷ []) []) e

pub one_more : (rows : Rows) (row : Row) → distinct_rows (rows ++ row ∷ []) ≡ distinct_rows rows ++ if_new rows row
one_more [] row = refl
one_more (first ∷ others) row =
    let p : Row → Bool = others_than first in
    ap (λ l. first ∷ filter p l) (one_more others row)
    ∙ ap (λ l. first ∷ l) (filter-append p (distinct_rows others) (if_new others row) ∙ ap (λ l. filter p (distinct_rows others) ++ l) (new_behind first others row))

-- ---- the first of equal rows have the same rows

has_it : (row : Row) (rows : Rows) → list_any (row_eq row) rows ≡ true → Contains rows row
has_it row [] is = absurd (cc)
has_it row (first ∷ others) is = by (row_eq row first) refl (has_it row others) is
  where
    by : (b : Bool) → row_eq row first ≡ b → (list_any (row_eq row) others ≡ true → Contains others row) → (b || list_any (row_eq row) others) ≡ true → Contains (first ∷ others) row
    by true e rest h = subst (Contains (first ∷ others)) (sym ((row_eq-Decides row first).0 e)) (at_front first others)
    by false e rest h = behind first others row (rest h)

pub is_there : (row : Row) (rows : Rows) → Contains rows row → list_any (row_eq row) rows ≡ true
is_there row [] at = absurd (omega (arith, at.1))
is_there row (first ∷ others) at = by (is_there row others) (front_or_behind first others row at)
  where
    by : (Contains others row → list_any (row_eq row) others ≡ true) → (first ≡ row) ⊎ Contains others row → (row_eq row first || list_any (row_eq row) others) ≡ true
    by rest (inl here) = ap (λ b. b || list_any (row_eq row) others) ((row_eq-Decides row first).1 (sym here))
    by rest (inr there) = ap (λ b. row_eq row first || b) (rest there) ∙ or-true (row_eq row first)

pub same_members : (row : Row) (rows : Rows) → list_any (row_eq row) (distinct_rows rows) ≡ list_any (row_eq row) rows
same_members row rows =
    same_test _ _ (λ h. is_there row rows (has_no_more rows row (has_it row (distinct_rows rows) h)))
    (λ h. is_there row (distinct_rows rows) (has_all rows row (has_it row rows h)))
