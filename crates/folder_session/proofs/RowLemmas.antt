-- The rows of an append are of the stream's kinds in the state as in the table.
use Rattle.std.proofs.Common.{◌≡◌, ℕ, List, map, Option, None, Some, IfSome, subst, slice_get}
use Rattle.std.specs.Option.{option_map}
use Rattle.std.proofs.lemmas.Option.{slice_get-map}
use Rattle.rows_core.specs.declared.value.Value.{Value}
use Rattle.rows_core.specs.Schema.{kinds_of}
use Rattle.row_blob.specs.Kept.{IsKept}
use Rattle.row_blob.specs.declared.kept.Kept.TheVariants as kept
use Rattle.row_blob.specs.declared.shape.Shape.TheVariants as shape
use Rattle.catalog_types.specs.declared.snapshot.StreamState.{StreamState}
use Rattle.catalog_core.specs.Table.{Table}
use Rattle.folder.specs.Next.{AreRowsOf}
use Rattle.folder.specs.State.{State, Stream, table, stream_of}

abbrev pub AreKept : List (List Value) → StreamState → Type 0
AreKept rows stream = IsKept (shape.Rows (kinds_of stream.columns)) (kept.Rows rows)

of_some : (rows : List (List Value)) (found : Option Stream) → IfSome (option_map stream_of found) (AreKept rows) → IfSome found (λ stream. IsKept (shape.Rows (kinds_of stream.columns)) (kept.Rows rows))
of_some rows None are = tt
of_some rows (Some stream) are = are

pub are_rows_of : (s : State) (t : Table) → t ≡ table s → (place : ℕ) (rows : List (List Value)) → IfSome (slice_get t.streams place) (AreKept rows) → AreRowsOf s place rows
are_rows_of s t same place rows are =
    let there : IfSome (slice_get (map stream_of s.streams) place) (AreKept rows) = subst (λ (x : Table). IfSome (slice_get x.streams place) (AreKept rows)) same are in
    of_some rows (slice_get s.streams place) (subst (λ o. IfSome o (AreKept rows)) (slice_get-map stream_of s.streams place) there)
