-- The right rows of a join by the values that it compares.
use Rattle.std.specs.Prelude.{◌≡◌, ℕ, Bool, List, [], map, Vec}
use Rattle.std.specs.Borrow.{Bor}
use Rattle.std.specs.Cmp.Lexicographic.{pointwise}
use Rattle.std.specs.List.{filter}
use Rattle.std.specs.Option.{option_map_or}
use Rattle.std.specs.declared.alloc.Global.{Global}
use Rattle.indexmap.specs.IndexMap.{IndexMap, get}
use Rattle.rows_core.specs.declared.value.Value.{Value}
use Rattle.rows_core.specs.contracts.value.ValuePartialEq.TheImpl as derived
use Rattle.rows_core.specs.Value.{row_eq}
use Rattle.plan_core.specs.Columns.{Row, Rows, column_of}

-- the values that a join compares, of a left row and of a right one
abbrev pub left_values : List (ℕ × ℕ) → Row → Row
left_values on row = map (λ pair. column_of row pair.0) on

abbrev pub right_values : List (ℕ × ℕ) → Row → Row
right_values on row = map (λ pair. column_of row pair.1) on

-- values that are lent, as a key, and rows that are lent
abbrev pub Key : Type 0
Key = Vec (Bor Value) Global

abbrev pub LentRows : Type 0
LentRows = Vec (Bor Row) Global

abbrev pub lent : {X : Type 0} → Vec (Bor X) Global → List X
lent refs = map (λ r. r.now) refs.items

-- what `==` says of two keys
abbrev pub same_key : Key → Key → Bool
same_key a b = pointwise (λ x y. derived.eq-value.it x.now y.now) a.items b.items

-- the rows that a map has under a key
abbrev pub rows_under : {S : Type 0} → IndexMap Key LentRows S → Key → Rows
rows_under index key = option_map_or lent (get same_key index key) []

-- under each key there are the right rows with its values, in their order
abbrev pub HasRowsByKey : {S : Type 0} → List (ℕ × ℕ) → Rows → IndexMap Key LentRows S → Type 0
HasRowsByKey on rights index = (key : Key) → rows_under index key ≡ filter (λ right. row_eq (right_values on right) (lent key)) rights
