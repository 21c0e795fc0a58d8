-- The tests of values and of rows are equality, and so is `==`, as their derives give it: what a map or a set with such
-- keys needs.
use Rattle.std.proofs.Common.{◌≡◌, refl, ap, List}
use Rattle.std.proofs.lemmas.Bool.{false≢true}
use Rattle.std.proofs.lemmas.Bool.Decides.{Decides-at, Decides-int_eq, Decides-like}
use Rattle.std.specs.Bool.{Decides}
use Rattle.std.specs.Cmp.{booleans_Decides}
use Rattle.std.specs.Cmp.Lexicographic.{pointwise, pointwise_decides, bytes_decides}
use Rattle.rows_core.specs.declared.value.Value.{Value}
use Rattle.rows_core.specs.declared.value.Value.TheVariants.{Int, Text, Bool}
use Rattle.rows_core.specs.contracts.value.ValuePartialEq.TheImpl as derived
use Rattle.rows_core.specs.Value.{value_eq, row_eq}

pub value_eq-Decides : (a b : Value) → Decides (value_eq a b) (a ≡ b)
value_eq-Decides (Int a) (Int b) = Decides-like _ (λ e. ap Int e) (λ e. cc) (Decides-int_eq a b)
value_eq-Decides (Int a) (Text t) = (λ e. absurd (false≢true e), λ e. cc)
value_eq-Decides (Int a) (Bool y) = (λ e. absurd (false≢true e), λ e. cc)
value_eq-Decides (Text s) (Int b) = (λ e. absurd (false≢true e), λ e. cc)
value_eq-Decides (Text s) (Text t) = Decides-like _ (λ e. ap Text e) (λ e. cc) (bytes_decides s t)
value_eq-Decides (Text s) (Bool y) = (λ e. absurd (false≢true e), λ e. cc)
value_eq-Decides (Bool x) (Int b) = (λ e. absurd (false≢true e), λ e. cc)
value_eq-Decides (Bool x) (Text t) = (λ e. absurd (false≢true e), λ e. cc)
value_eq-Decides (Bool x) (Bool y) = Decides-like _ (λ e. ap Bool e) (λ e. cc) (booleans_Decides x y)

pub row_eq-Decides : (a b : List Value) → Decides (row_eq a b) (a ≡ b)
row_eq-Decides a b = pointwise_decides value_eq-Decides a b

same_value : (a b : Value) → derived.eq-value.it a b ≡ value_eq a b
same_value (Int a) (Int b) = refl
same_value (Int a) (Text t) = refl
same_value (Int a) (Bool y) = refl
same_value (Text s) (Int b) = refl
same_value (Text s) (Text t) = refl
same_value (Text s) (Bool y) = refl
same_value (Bool x) (Int b) = refl
same_value (Bool x) (Text t) = refl
same_value (Bool x) (Bool y) = refl

pub same_value-Decides : (a b : Value) → Decides (derived.eq-value.it a b) (a ≡ b)
same_value-Decides a b = Decides-at _ _ (same_value a b) (value_eq-Decides a b)

pub same_row-Decides : (a b : List Value) → Decides (pointwise derived.eq-value.it a b) (a ≡ b)
same_row-Decides a b = pointwise_decides same_value-Decides a b
