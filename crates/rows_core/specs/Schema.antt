-- What a schema is.
use Rattle.std.specs.Prelude.{Bool, false, ◌||◌, not, ◌<◌, ◌≤◌, List, [], ◌∷◌, length, map, bytes_eq, IsTrue}
use Rattle.std.specs.List.{list_any}
use Rattle.rows_core.specs.declared.kind.Kind.{Kind}
use Rattle.rows_core.specs.declared.schema.Column.{Column}

abbrev pub kinds_of : List Column → List Kind
kinds_of columns = map (λ column. column.kind) columns

-- two columns have one name
abbrev pub has_repeat : List Column → Bool
has_repeat [] = false
has_repeat (first ∷ others) = list_any (λ column. bytes_eq column.name first.name) others || has_repeat others

-- from 1 to 32 columns with different names
abbrev pub IsSchema : List Column → Type 0
IsSchema columns =
    (0 < length columns) × IsTrue (not (has_repeat columns)) × (length columns ≤ 32)
