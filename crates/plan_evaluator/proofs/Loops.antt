-- What a loop over rows has given so far, and one row more.
use Rattle.std.proofs.Common.{◌≡◌, refl, sym, ap, ◌∙◌, subst, ℕ, ◌+◌, ◌<◌, Bool, true, false, cond, ◌||◌, List, [], ◌∷◌, ◌++◌, length, get_or, take, drop, append_assoc, ◌⊎◌, inl, inr, ◌↔◌, ℤ, ◌+ℤ◌, arith}
use Rattle.std.specs.List.{Contains}
use Rattle.std.proofs.lemmas.List.{at_drop_more, take_more, map-append}
use Rattle.rows_core.specs.declared.value.Value.{Value}
use Rattle.std.proofs.Math.IntN.{+ℤ_assoc}
use Rattle.plan_core.specs.Aggregate.{number_of, exact_sum, values_of, lesser, greater, least_value, greatest_value}
use Rattle.rows_core.specs.Value.{row_eq}
use Rattle.plan_core.specs.Columns.{Row, Rows, column_of, columns_of}
use Rattle.plan_core.specs.Distinct.{distinct_rows}
use Rattle.plan_core.specs.Group.{keys_of, members_of}
use Rattle.plan_laws.proofs.FirstOfEqual.{if_new, one_more, same_members}

-- F gives of a row and the others what f gives of the row, and then what it gives of the others
pub more : (F : Rows → Rows) (f : Row → Rows) → ((row : Row) (rows : Rows) → F (row ∷ rows) ≡ f row ++ F rows) → (rows sofar next : Rows) (row : Row) (i : ℕ) → i < length rows
    → row ≡ get_or rows i row → F rows ≡ sofar ++ F (drop i rows) → next ≡ sofar ++ f row → F rows ≡ next ++ F (drop (i + 1) rows)
more F f step rows sofar next row i within is before after =
    before ∙ ap (λ l. sofar ++ l) (at_drop_more F rows i row within ∙ ap (λ r. F (r ∷ drop (i + 1) rows)) (sym is) ∙ step row (drop (i + 1) rows))
    ∙ sym (append_assoc sofar (f row) (F (drop (i + 1) rows))) ∙ ap (λ l. l ++ F (drop (i + 1) rows)) (sym after)

-- ---- the rows of a group

abbrev pub if_member : List ℕ → Row → Row → Rows
if_member keys key row = cond (row_eq key (columns_of keys row)) (row ∷ []) []

pub members_step : (keys : List ℕ) (key row : Row) (rows : Rows) → members_of keys (row ∷ rows) key ≡ if_member keys key row ++ members_of keys rows key
members_step keys key row rows = by (row_eq key (columns_of keys row))
  where
    by : (b : Bool) → cond b (row ∷ members_of keys rows key) (members_of keys rows key) ≡ cond b (row ∷ []) [] ++ members_of keys rows key
    by true = refl
    by false = refl

-- ---- the first of equal rows

pub distinct_more : (rows different next : Rows) (row : Row) (i : ℕ) → i < length rows → row ≡ get_or rows i row → different ≡ distinct_rows (take i rows) → next ≡ different ++ if_new different row
    → next ≡ distinct_rows (take (i + 1) rows)
distinct_more rows different next row i within is before after =
    after ∙ ap (λ l. l ++ if_new l row) before
    ∙ ap (λ b. distinct_rows (take i rows) ++ cond b [] (row ∷ [])) (same_members row (take i rows))
    ∙ sym (one_more (take i rows) row) ∙ ap (λ r. distinct_rows (take i rows ++ r ∷ [])) is ∙ ap distinct_rows (sym (take_more rows i row within))

-- ---- the least and the greatest value

pub least_more : (vs : List Value) (v w : Value) → least_value (vs ++ v ∷ w ∷ []) ≡ least_value (vs ++ lesser v w ∷ [])
least_more [] v w = refl
least_more (u ∷ []) v w = refl
least_more (u ∷ t ∷ vs) v w = ap (lesser u) (least_more (t ∷ vs) v w)

pub greatest_more : (vs : List Value) (v w : Value) → greatest_value (vs ++ v ∷ w ∷ []) ≡ greatest_value (vs ++ greater v w ∷ [])
greatest_more [] v w = refl
greatest_more (u ∷ []) v w = refl
greatest_more (u ∷ t ∷ vs) v w = ap (greater u) (greatest_more (t ∷ vs) v w)

-- ---- sums

pub sum_more : (column : ℕ) (rows : Rows) (sofar next number : ℤ) (row : Row) (i : ℕ) → i < length rows → row ≡ get_or rows i row → exact_sum (values_of column rows) ≡ sofar +ℤ exact_sum (values_of column (drop i rows))
    → number ≡ number_of (column_of row column) → next ≡ sofar +ℤ number → exact_sum (values_of column rows) ≡ next +ℤ exact_sum (values_of column (drop (i + 1) rows))
sum_more column rows sofar next number row i within is before read after =
    let rest = exact_sum (values_of column (drop (i + 1) rows)) in
    before ∙ ap (λ s. sofar +ℤ s) (at_drop_more (λ l. exact_sum (values_of column l)) rows i row within ∙ ap (λ r. number_of (column_of r column) +ℤ rest) (sym is) ∙ ap (λ n. n +ℤ rest) (sym read))
    ∙ sym (+ℤ_assoc sofar number rest) ∙ ap (λ s. s +ℤ rest) (sym after)

values_of_last : (column : ℕ) (rows : Rows) (row : Row) → values_of column (rows ++ row ∷ []) ≡ values_of column rows ++ column_of row column ∷ []
values_of_last column rows row = map-append (λ r. column_of r column) rows (row ∷ [])

pub least_step : (column : ℕ) (rest front : Rows) (row : Row) (v w : Value) → rest ≡ front ++ row ∷ [] → v ≡ column_of row column → least_value (values_of column rest ++ w ∷ []) ≡ least_value (values_of column front ++ lesser v w ∷ [])
least_step column rest front row v w is read =
    ap (λ l. least_value (l ++ w ∷ [])) (ap (values_of column) is ∙ values_of_last column front row)
    ∙ ap least_value (append_assoc (values_of column front) (column_of row column ∷ []) (w ∷ []))
    ∙ ap (λ u. least_value (values_of column front ++ u ∷ w ∷ [])) (sym read) ∙ least_more (values_of column front) v w

pub greatest_step : (column : ℕ) (rest front : Rows) (row : Row) (v w : Value) → rest ≡ front ++ row ∷ [] → v ≡ column_of row column → greatest_value (values_of column rest ++ w ∷ []) ≡ greatest_value (values_of column front ++ greater v w ∷ [])
greatest_step column rest front row v w is read =
    ap (λ l. greatest_value (l ++ w ∷ [])) (ap (values_of column) is ∙ values_of_last column front row)
    ∙ ap greatest_value (append_assoc (values_of column front) (column_of row column ∷ []) (w ∷ []))
    ∙ ap (λ u. greatest_value (values_of column front ++ u ∷ w ∷ [])) (sym read) ∙ greatest_more (values_of column front) v w

pub from_last : (f : List Value → Value) (column : ℕ) (rows others : Rows) (row : Row) (v : Value) → rows ≡ others ++ row ∷ [] → v ≡ column_of row column → f (values_of column rows) ≡ f (values_of column others ++ v ∷ [])
from_last f column rows others row v is read = ap f (ap (values_of column) is ∙ values_of_last column others row ∙ ap (λ u. values_of column others ++ u ∷ []) (sym read))

-- ---- groups

-- each group has a row
pub has_member : (keys : List ℕ) (rows : Rows) (key : Row) → ((keys : List ℕ) (rows : Rows) (key : Row) → Contains (keys_of keys rows) key → (row : Row) × Contains rows row × (columns_of keys row ≡ key))
    → ((keys : List ℕ) (rows : Rows) (key row : Row) → Contains (members_of keys rows key) row ↔ (Contains rows row × (columns_of keys row ≡ key)))
    → Contains (keys_of keys rows) key → (members : Rows) → members ≡ members_of keys rows key → 0 < length members
has_member keys rows key no_other members_are at members is =
    let found = no_other keys rows key at in
    let in_group = (members_are keys rows key found.0).1 (found.1, found.2) in
    subst (λ l. 0 < length l) (sym is) (omega (arith, in_group.1))
