-- A plan with names is bound over more streams as it was, where its names are those of the first ones.
use Rattle.std.proofs.Common.{◌≡◌, refl, sym, ap, ◌∙◌, ℕ, suc, ◌+◌, ◌<◌, Bool, true, false, not, ◌||◌, cond, nat_lt, bytes_eq, List, [], ◌∷◌, ◌++◌, length, map, Option, None, Some, Ok, length-append, arith}
use Rattle.std.proofs.lemmas.Bool.{lt-ltb}
use Rattle.std.specs.Prelude.{position}
use Rattle.std.specs.List.{AllByRecursion, find, list_any, position_or_len}
use Rattle.std.specs.Option.{option_map, option_and_then}
use Rattle.rows_core.specs.declared.schema.Column.{Column}
use Rattle.plan_core.specs.ExpressionKind.{of_both}
use Rattle.plan_core.specs.PlainPlan.{PlainPlan}
use Rattle.plan_text.specs.PlainNamed as named
use Rattle.plan_text.specs.PlainNamed.{PlainTree, From, Where, Select, streams_of}
use Rattle.plan_binder.specs.Binding.{Names, binding, is_there, absent_stream, present_or, plan_or_ill_typed, bound_tree, bound_from, bound_scan, bound_where, bound_select, bound_distinct, bound_group, bound_join, bound_concat, bound_order}
use Rattle.catalog_core.proofs.Typings.{sides, there_still}

-- ---- where the streams of its leaves are the same

module _ (names others : Names) (schemas more : List (List Column)) where
  abbrev AreSame : List (List ℕ) → Type 0
  AreSame streams = AllByRecursion (λ stream. bound_from others more stream ≡ bound_from names schemas stream) streams

  abbrev both : (p q : PlainTree) → AreSame (streams_of p ++ streams_of q) → AreSame (streams_of p) × AreSame (streams_of q)
  both p q same = sides (λ stream. bound_from others more stream ≡ bound_from names schemas stream) (streams_of p) (streams_of q) same

  bound-same : (tree : PlainTree) → AreSame (streams_of tree) → bound_tree others more tree ≡ bound_tree names schemas tree
  bound-same (From stream) same = same.0
  bound-same (Where child test) same = ap (option_and_then (bound_where test)) (bound-same child same)
  bound-same (Select child columns) same = ap (option_and_then (bound_select columns)) (bound-same child same)
  bound-same (named.Distinct child) same = ap (option_map bound_distinct) (bound-same child same)
  bound-same (named.Group child keys results) same = ap (option_and_then (bound_group keys results)) (bound-same child same)
  bound-same (named.Join left right on) same = let s = both left right same in λ i. of_both (bound_join on) (bound-same left s.0 i) (bound-same right s.1 i)
  bound-same (named.Concat left right) same = let s = both left right same in λ i. of_both bound_concat (bound-same left s.0 i) (bound-same right s.1 i)
  bound-same (named.Order child keys) same = ap (option_and_then (bound_order keys)) (bound-same child same)

-- ---- where there are more streams

module _ {A : Type 0} (test : A → Bool) where
  placed-same : (xs ys : List A) → list_any test xs ≡ true → position_or_len test (xs ++ ys) ≡ position_or_len test xs
  placed-same [] ys some = absurd (cc)
  placed-same (x ∷ xs) ys some = by (test x) (placed-same xs ys) some
    where
      by : (b : Bool) → (list_any test xs ≡ true → position_or_len test (xs ++ ys) ≡ position_or_len test xs) → b || list_any test xs ≡ true
          → cond (not b) (1 + position_or_len test (xs ++ ys)) 0 ≡ cond (not b) (1 + position_or_len test xs) 0
      by true rest some = refl
      by false rest some = ap (λ n. 1 + n) (rest some)

  placed-within : (xs : List A) → list_any test xs ≡ true → position_or_len test xs < length xs
  placed-within [] some = absurd (cc)
  placed-within (x ∷ xs) some = by (test x) (placed-within xs) some
    where
      by : (b : Bool) → (list_any test xs ≡ true → position_or_len test xs < length xs) → b || list_any test xs ≡ true
          → cond (not b) (1 + position_or_len test xs) 0 < suc (length xs)
      by true rest some = omega arith
      by false rest some = let low = rest some in omega (arith, low)

  position-within : (xs : List A) → list_any test xs ≡ true → position test xs ≡ Some (position_or_len test xs)
  position-within xs some = ap (λ b. cond b (Some (position_or_len test xs)) None) (lt-ltb (position_or_len test xs) (length xs) (placed-within xs some))

  position-same : (xs ys : List A) → list_any test xs ≡ true → position test (xs ++ ys) ≡ Some (position_or_len test xs)
  position-same xs ys some =
      let low = placed-within xs some in
      let long = length-append xs ys in
      let same = placed-same xs ys some in
      (λ i. cond (nat_lt (same i) (length (xs ++ ys))) (Some (same i)) None)
      ∙ ap (λ b. cond b (Some (position_or_len test xs)) None) (lt-ltb (position_or_len test xs) (length (xs ++ ys)) (omega (arith, low, long)))

from-same : (names others : Names) (schemas more : List (List Column)) (stream : List ℕ) → length names ≡ length schemas → is_there names stream ≡ true
    → bound_from (names ++ others) (schemas ++ more) stream ≡ bound_from names schemas stream
from-same names others schemas more stream as_many some =
    let test : List ℕ → Bool = λ other. bytes_eq other stream in
    let low = placed-within test names some in
    ap (option_and_then (bound_scan (schemas ++ more))) (position-same test names others some)
    ∙ ap (option_map (λ columns. record { plan = Rattle.plan_core.specs.PlainPlan.Scan (position_or_len test names); names = map (λ column. column.name) columns; kinds = Rattle.rows_core.specs.Schema.kinds_of columns })) (there_still schemas more (position_or_len test names) (omega (arith, low, as_many)))
    ∙ ap (option_and_then (bound_scan schemas)) (sym (position-within test names some))

all-from-same : (names others : Names) (schemas more : List (List Column)) → length names ≡ length schemas → (streams : List (List ℕ)) → find (λ stream. not (is_there names stream)) streams ≡ None
    → AreSame names (names ++ others) schemas (schemas ++ more) streams × (find (λ stream. not (is_there (names ++ others) stream)) streams ≡ None)
all-from-same names others schemas more as_many [] none = (tt, refl)
all-from-same names others schemas more as_many (s ∷ streams) none = by (is_there names s) refl (all-from-same names others schemas more as_many streams) none
  where
    any-more : (xs ys : Names) → is_there xs s ≡ true → is_there (xs ++ ys) s ≡ true
    any-more [] ys some = absurd (cc)
    any-more (x ∷ xs) ys some = one (bytes_eq x s) (any-more xs ys) some
      where
        one : (b : Bool) → (is_there xs s ≡ true → is_there (xs ++ ys) s ≡ true) → b || is_there xs s ≡ true → b || is_there (xs ++ ys) s ≡ true
        one true rest some = refl
        one false rest some = rest some

    by : (b : Bool) → is_there names s ≡ b
        → (find (λ stream. not (is_there names stream)) streams ≡ None → AreSame names (names ++ others) schemas (schemas ++ more) streams × (find (λ stream. not (is_there (names ++ others) stream)) streams ≡ None))
        → cond (not b) (Some s) (find (λ stream. not (is_there names stream)) streams) ≡ None
        → AreSame names (names ++ others) schemas (schemas ++ more) (s ∷ streams) × (find (λ stream. not (is_there (names ++ others) stream)) (s ∷ streams) ≡ None)
    by true there rest none =
        let tail = rest none in
        ((from-same names others schemas more s as_many there, tail.0), ap (λ b. cond (not b) (Some s) (find (λ stream. not (is_there (names ++ others) stream)) streams)) (any-more names others there) ∙ tail.1)
    by false there rest none = absurd (cc)

pub bound-still : (names others : Names) (schemas more : List (List Column)) (tree : PlainTree) (plan : PlainPlan) → length names ≡ length schemas
    → binding names schemas tree ≡ Ok plan → binding (names ++ others) (schemas ++ more) tree ≡ Ok plan
bound-still names others schemas more tree plan as_many bound = by (absent_stream names tree) refl bound
  where
    by : (absent : Option (List ℕ)) → absent_stream names tree ≡ absent → present_or absent (plan_or_ill_typed (bound_tree names schemas tree)) ≡ Ok plan
        → binding (names ++ others) (schemas ++ more) tree ≡ Ok plan
    by (Some stream) is bound = absurd (cc)
    by None is bound =
        let same = all-from-same names others schemas more as_many (streams_of tree) is in
        (λ i. present_or (same.1 i) (plan_or_ill_typed (bound-same names (names ++ others) schemas (schemas ++ more) tree same.0 i))) ∙ bound
