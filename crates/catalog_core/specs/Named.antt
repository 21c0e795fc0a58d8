-- The files that rewritings over the kept results of a table name, and what is known of them.
use Rattle.std.specs.Prelude.{ℕ, ◌<◌, ◌==◌, List, [], length, map, slice_get, unwrap_or, sum_by, IsTrue}
use Rattle.std.specs.List.{find}
use Rattle.std.specs.Option.{option_map}
use Rattle.rows_core.specs.declared.file_ref.FileRef.{FileRef}
use Rattle.estimator.specs.Bytes.{Lengths}
use Rattle.rewrite_core.specs.Files.{FileName, Extent, Result}
use Rattle.catalog_types.specs.declared.snapshot.StreamState.{StreamState}
use Rattle.entry_table.specs.Ids.{is_there}
use Rattle.catalog_core.specs.Programs.{extents_at}
use Rattle.catalog_core.specs.Table.{Table}

-- the lengths of each stream's extents, in bytes
abbrev pub lengths_of : List StreamState → Lengths
lengths_of streams = map (λ stream. map (λ extent. extent.file.len) stream.extents) streams

-- the stream has such an extent, or an entry has the id
abbrev pub HasFile : Table → FileName → Type 0
HasFile t (Extent stream number) = number < length (extents_at t.streams stream)
HasFile t (Result id) = IsTrue (is_there t.entries id)

-- stands for the reference of a file that isn't there
abbrev pub no_file : FileRef
no_file = record { file = 0; len = 0; digest = record { bytes = [] } }

-- the file of each of them
abbrev pub file_at : Table → FileName → FileRef
file_at t (Extent stream number) =
    unwrap_or (option_map (λ extent. extent.file) (slice_get (extents_at t.streams stream) number)) no_file
file_at t (Result id) = unwrap_or (option_map (λ e. e.file) (find (λ e. e.id == id) t.entries)) no_file

-- the machine time of the kept result with this id
abbrev pub machine_at : Table → ℕ → ℕ
machine_at t id = unwrap_or (option_map (λ e. e.machine) (find (λ e. e.id == id) t.entries)) 0

-- the bytes of these files, each as often as it is named
abbrev pub bytes_named : Table → List FileName → ℕ
bytes_named t names = sum_by (λ name. (file_at t name).len) names
