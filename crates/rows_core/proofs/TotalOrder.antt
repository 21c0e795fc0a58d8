-- The order of rows by keys is a total order up to its ties, so that a stable sort by it has one answer.
use Rattle.std.proofs.Common.{◌≡◌, refl, subst, cond, true, false, List, [], ◌∷◌}
use Rattle.std.specs.List.{slice_get}
use Rattle.std.specs.Ordering.{ordering_reverse}
use Rattle.std.specs.declared.cmp.Ordering.{Ordering}
use Rattle.std.specs.declared.cmp.Ordering.TheVariants.{Less, Equal}
use Rattle.std.specs.Cmp.{IsTotalOrder, bool_cmp_total}
use Rattle.std.specs.Cmp.Lexicographic.{options_total}
use Rattle.std.proofs.lemmas.Cmp.{int_cmp_total, nat_list_cmp_total, on_total, then_total, back_total}
use Rattle.rows_core.specs.declared.order.Key.{Key}
use Rattle.rows_core.specs.declared.value.Value.{Value}
use Rattle.rows_core.specs.declared.value.Value.TheVariants.{Int, Text, Bool}
use Rattle.rows_core.specs.Value.{value_cmp}
use Rattle.rows_core.specs.RowOrder.{column_cmp, key_cmp, row_cmp}

value_antisymm : (x y : Value) → value_cmp x y ≡ ordering_reverse (value_cmp y x)
value_antisymm (Int a) (Int b) = int_cmp_total.antisymm a b
value_antisymm (Int a) (Text t) = refl
value_antisymm (Int a) (Bool y) = refl
value_antisymm (Text s) (Int b) = refl
value_antisymm (Text s) (Text t) = nat_list_cmp_total.antisymm s t
value_antisymm (Text s) (Bool y) = refl
value_antisymm (Bool x) (Int b) = refl
value_antisymm (Bool x) (Text t) = refl
value_antisymm (Bool x) (Bool y) = bool_cmp_total.antisymm x y

value_trans : (x y z : Value) → value_cmp x y ≡ Less → value_cmp y z ≡ Less → value_cmp x z ≡ Less
value_trans (Int a) (Int b) (Int c) p q = int_cmp_total.trans a b c p q
value_trans (Int a) (Int b) (Text u) p q = refl
value_trans (Int a) (Int b) (Bool z) p q = refl
value_trans (Int a) (Text t) (Int c) p q = cc
value_trans (Int a) (Text t) (Text u) p q = refl
value_trans (Int a) (Text t) (Bool z) p q = refl
value_trans (Int a) (Bool y) (Int c) p q = cc
value_trans (Int a) (Bool y) (Text u) p q = cc
value_trans (Int a) (Bool y) (Bool z) p q = refl
value_trans (Text s) (Int b) (Int c) p q = cc
value_trans (Text s) (Int b) (Text u) p q = cc
value_trans (Text s) (Int b) (Bool z) p q = cc
value_trans (Text s) (Text t) (Int c) p q = cc
value_trans (Text s) (Text t) (Text u) p q = nat_list_cmp_total.trans s t u p q
value_trans (Text s) (Text t) (Bool z) p q = refl
value_trans (Text s) (Bool y) (Int c) p q = cc
value_trans (Text s) (Bool y) (Text u) p q = cc
value_trans (Text s) (Bool y) (Bool z) p q = refl
value_trans (Bool x) (Int b) (Int c) p q = cc
value_trans (Bool x) (Int b) (Text u) p q = cc
value_trans (Bool x) (Int b) (Bool z) p q = cc
value_trans (Bool x) (Text t) (Int c) p q = cc
value_trans (Bool x) (Text t) (Text u) p q = cc
value_trans (Bool x) (Text t) (Bool z) p q = cc
value_trans (Bool x) (Bool y) (Int c) p q = cc
value_trans (Bool x) (Bool y) (Text u) p q = cc
value_trans (Bool x) (Bool y) (Bool z) p q = bool_cmp_total.trans x y z p q

value_congr : (x y z : Value) → value_cmp x y ≡ Equal → value_cmp x z ≡ value_cmp y z
value_congr (Int a) (Int b) (Int c) p = int_cmp_total.congr a b c p
value_congr (Int a) (Int b) (Text u) p = refl
value_congr (Int a) (Int b) (Bool z) p = refl
value_congr (Int a) (Text t) (Int c) p = cc
value_congr (Int a) (Text t) (Text u) p = cc
value_congr (Int a) (Text t) (Bool z) p = cc
value_congr (Int a) (Bool y) (Int c) p = cc
value_congr (Int a) (Bool y) (Text u) p = cc
value_congr (Int a) (Bool y) (Bool z) p = cc
value_congr (Text s) (Int b) (Int c) p = cc
value_congr (Text s) (Int b) (Text u) p = cc
value_congr (Text s) (Int b) (Bool z) p = cc
value_congr (Text s) (Text t) (Int c) p = refl
value_congr (Text s) (Text t) (Text u) p = nat_list_cmp_total.congr s t u p
value_congr (Text s) (Text t) (Bool z) p = refl
value_congr (Text s) (Bool y) (Int c) p = cc
value_congr (Text s) (Bool y) (Text u) p = cc
value_congr (Text s) (Bool y) (Bool z) p = cc
value_congr (Bool x) (Int b) (Int c) p = cc
value_congr (Bool x) (Int b) (Text u) p = cc
value_congr (Bool x) (Int b) (Bool z) p = cc
value_congr (Bool x) (Text t) (Int c) p = cc
value_congr (Bool x) (Text t) (Text u) p = cc
value_congr (Bool x) (Text t) (Bool z) p = cc
value_congr (Bool x) (Bool y) (Int c) p = refl
value_congr (Bool x) (Bool y) (Text u) p = refl
value_congr (Bool x) (Bool y) (Bool z) p = bool_cmp_total.congr x y z p

pub value_cmp_total : IsTotalOrder value_cmp
value_cmp_total = record { antisymm = value_antisymm; trans = value_trans; congr = value_congr }

reverse_total : {K : Type 0} {R : K → K → Ordering} → IsTotalOrder R → IsTotalOrder (λ x y. ordering_reverse (R x y))
reverse_total o = subst IsTotalOrder (λ i x y. o.antisymm y x i) (back_total o)

pub column_cmp_total : (key : Key) → IsTotalOrder (column_cmp key)
column_cmp_total key = on_total (λ row. slice_get row key.column) (options_total value_cmp_total)

pub key_cmp_total : (key : Key) → IsTotalOrder (key_cmp key)
key_cmp_total key =
    elim key.down as (λ down. IsTotalOrder (λ a b. cond down (ordering_reverse (column_cmp key a b)) (column_cmp key a b)))
    [ true ↦ reverse_total (column_cmp_total key) | false ↦ column_cmp_total key ]

pub row_cmp_total : (keys : List Key) → IsTotalOrder (row_cmp keys)
row_cmp_total [] = record { antisymm = λ x y. refl; trans = λ x y z p q. p; congr = λ x y z p. refl }
row_cmp_total (key ∷ keys) = then_total (key_cmp_total key) (row_cmp_total keys)
