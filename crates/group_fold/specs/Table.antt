-- Keys and what is kept beside each, as groups.
use Rattle.std.specs.Prelude.{List, map}
use Rattle.row_blob.specs.declared.kept.Acc.{Acc}
use Rattle.row_blob.specs.declared.kept.GroupRow.{GroupRow}
use Rattle.plan_core.specs.Columns.{Row}

abbrev pub groups_in : {V : Type 0} → (V → List Acc) → List (Row × V) → List GroupRow
groups_in items entries = map (λ entry. record { key = entry.0; accs = items entry.1 }) entries
