-- The order of rows by keys.
use Rattle.std.specs.Prelude.{List, [], ◌∷◌, slice_get, if◌then◌else◌}
use Rattle.std.specs.Option.{option_cmp}
use Rattle.std.specs.Ordering.{ordering_then, ordering_reverse}
use Rattle.std.specs.declared.cmp.Ordering.{Ordering}
use Rattle.std.specs.declared.cmp.Ordering.TheVariants.{Equal}
use Rattle.rows_core.specs.declared.order.Key.{Key}
use Rattle.rows_core.specs.declared.value.Value.{Value}
use Rattle.rows_core.specs.Value.{value_cmp}

-- the order of the key's column, a row without it first
abbrev pub column_cmp : Key → List Value → List Value → Ordering
column_cmp key a b = option_cmp value_cmp (slice_get a key.column) (slice_get b key.column)

-- reversed where the key is `down`
abbrev pub key_cmp : Key → List Value → List Value → Ordering
key_cmp key a b = if key.down then ordering_reverse (column_cmp key a b) else column_cmp key a b

-- the first key that tells the rows apart decides
abbrev pub row_cmp : List Key → List Value → List Value → Ordering
row_cmp [] a b = Equal
row_cmp (key ∷ keys) a b = ordering_then (key_cmp key a b) (row_cmp keys a b)
