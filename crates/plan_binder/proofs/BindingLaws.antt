-- What the binding of operators rests on.
use Prim.Native.Nat.{suc}
use Rattle.std.proofs.Common.{◌≡◌, ◌∙◌, refl, sym, ap, ℕ, ◌+◌, ◌||◌, Bool, true, false, not, cond, nat_lt, List, [], ◌∷◌, length, map, bytes_eq, Option, None, Some, arith}
use Rattle.std.proofs.lemmas.Bool.Decides.{nat_tests}
use Rattle.std.proofs.lemmas.List.{length-map}
use Rattle.std.proofs.lemmas.Simd.{map-map}
use Rattle.std.specs.List.{position, position_or_len}
use Rattle.std.specs.Option.{option_and_then, is_some}
use Rattle.rows_core.specs.declared.kind.Kind as kind
use Rattle.rows_core.specs.declared.kind.Kind.TheVariants.{Int, Text, Bool as Truth}
use Rattle.plan_core.specs.PlanTyping.{all_there, number_kind}
use Rattle.plan_text.specs.declared.plan.NamedColumn.{NamedColumn}
use Rattle.plan_text.specs.PlainNamed.{PlainColumn, expr_of, column_of}
use Rattle.plan_binder.specs.Binding.{Names, Bound, place_of, is_there, bound_expr, kind_or_int, projected, bound_select}

pub number_or_int : (k : Option kind.Kind) → kind_or_int (number_kind k) ≡ Int
number_or_int None = refl
number_or_int (Some Int) = refl
number_or_int (Some Text) = refl
number_or_int (Some Truth) = refl

pub same_names : (names : Names) → map (λ name. name) names ≡ names
same_names [] = refl
same_names (name ∷ names) = ap (λ others. name ∷ others) (same_names names)

-- the columns of a projection, as the code has them
pub select_of_columns : (columns : List NamedColumn) (input : Bound) → bound_select (map column_of columns) input
    ≡ option_and_then (projected input (map (λ column. column.name) columns)) (all_there (map (λ column. bound_expr input.names input.kinds (expr_of column.expr)) columns))
select_of_columns columns input = λ i.
    option_and_then (projected input (map-map (λ (c : PlainColumn). c.name) column_of columns i))
    (all_there (map-map (λ (c : PlainColumn). bound_expr input.names input.kinds c.expr) column_of columns i))

-- places of names in what is lent
place_in : {A : Type 0} (f : A → List ℕ) (xs : List A) (name : List ℕ)
    → position_or_len (λ x. bytes_eq (f x) name) xs ≡ position_or_len (λ other. bytes_eq other name) (map f xs)
place_in f [] name = refl
place_in f (x ∷ xs) name = ap (λ n. cond (not (bytes_eq (f x) name)) (1 + n) 0) (place_in f xs name)

pub place_of_lent : {A : Type 0} (f : A → List ℕ) (xs : List A) (name : List ℕ) → position (λ x. bytes_eq (f x) name) xs ≡ place_of (map f xs) name
place_of_lent f xs name = λ i. cond (nat_lt (place_in f xs name i) (sym (length-map xs f) i)) (Some (place_in f xs name i)) None

-- a name is there where it has a place
place_below : (names : Names) (name : List ℕ) → nat_lt (position_or_len (λ other. bytes_eq other name) names) (length names) ≡ is_there names name
place_below [] name = refl
place_below (first ∷ names) name = by (bytes_eq first name) (position_or_len (λ other. bytes_eq other name) names) (length names) (is_there names name) (place_below names name)
  where
    by : (b : Bool) (at count : ℕ) (there : Bool) → nat_lt at count ≡ there → nat_lt (cond (not b) (1 + at) 0) (suc count) ≡ (b || there)
    by true at count there e = grind (arith, nat_tests)
    by false at count there e = grind (arith, nat_tests)

some_where : {A : Type 0} (b : Bool) (x : A) → is_some (cond b (Some x) None) ≡ b
some_where true x = refl
some_where false x = refl

pub has_place : (names : Names) (name : List ℕ) → is_some (place_of names name) ≡ is_there names name
has_place names name = some_where _ _ ∙ place_below names name
