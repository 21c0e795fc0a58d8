-- A change has no more parts than its spelling has bytes.
use Rattle.std.proofs.Common.{◌≡◌, ℕ, ◌+◌, ◌≤◌, List, ◌∷◌, [], ◌++◌, length, Option, Some, None, ap, arith}
use Rattle.std.specs.Int.{w32, to_be_bytes}
use Rattle.std.specs.List.{flat_map, sum_by}
use Rattle.std.proofs.lemmas.List.{length-append}
use Rattle.rows_core.specs.declared.cut.Cut.{Cut}
use Rattle.rows_core.specs.declared.schema.Column.{Column}
use Rattle.byte_formats.specs.Format.{name_spelling}
use Rattle.plan_spelling.specs.Spelling.{counted, plan_spelling}
use Rattle.plan_spelling.proofs.Few.{items_few, sum_few, plan_few}
use Rattle.catalog_types.specs.PlainEntry.{PlainEntry, PlainNewEntry}
use Rattle.catalog_types.specs.declared.change.Change.{Change}
use Rattle.catalog_types.specs.declared.change.Change.TheVariants.{Stream, Append, Work, Collect, Checkpoint}
use Rattle.catalog_types.specs.declared.extent.Extent.{Extent}
use Rattle.catalog_types.specs.declared.program.Program.{Program}
use Rattle.catalog_types.specs.declared.snapshot.StreamState.{StreamState}
use Rattle.record_codec.specs.declared.form.Form.{Form}
use Rattle.record_codec.specs.Parts.{column_parts, program_parts, program_if_parts, new_entry_parts, entry_parts, stream_parts, change_parts}
use Rattle.record_codec.specs.Spelling.{listed, sized_spelling, byte_of_kind, column_spelling, cut_spelling, extent_spelling, program_spelling, program_if_spelling, new_entry_spelling, entry_spelling, uses_spelling, stream_spelling, spelling_in, kept_of}

-- ---- lists

numbers_few : (numbers : List ℕ) → length numbers ≤ length (listed (to_be_bytes w32) numbers)
numbers_few numbers = omega (arith, items_few (to_be_bytes w32) (λ n. omega arith) numbers)

cuts_few : (cuts : List Cut) → 1 + length cuts ≤ length (counted cut_spelling cuts)
cuts_few cuts = omega (arith, items_few cut_spelling (λ cut. omega arith) cuts)

column_few : (column : Column) → column_parts column ≤ length (column_spelling column)
column_few column = omega (arith, length-append (name_spelling column.name) (byte_of_kind column.kind ∷ []))

columns_few : (columns : List Column) → 1 + sum_by column_parts columns ≤ length (counted column_spelling columns)
columns_few columns = omega (arith, sum_few column_parts column_spelling column_few columns)

extents_few : (extents : List Extent) → length extents ≤ length (listed extent_spelling extents)
extents_few extents = omega (arith, items_few extent_spelling (λ e. omega arith) extents)

-- ---- programs, kept results and streams

program_few : (p : Program) → program_parts p ≤ length (program_spelling p)
program_few p =
    omega (arith, length-append (name_spelling p.name) (sized_spelling p.text ++ counted cut_spelling p.cuts), length-append p.text (counted cut_spelling p.cuts), cuts_few p.cuts)

program_if_few : (o : Option Program) → program_if_parts o ≤ length (program_if_spelling o)
program_if_few None = omega arith
program_if_few (Some p) = omega (arith, program_few p)

-- behind the plan and the cuts
abbrev kept_end : PlainNewEntry → List ℕ
kept_end e = to_be_bytes w32 e.file.file ++ (to_be_bytes w32 e.file.len ++ (e.file.digest.bytes ++ to_be_bytes w32 e.machine))

new_entry_few : (e : PlainNewEntry) → new_entry_parts e ≤ length (new_entry_spelling e)
new_entry_few e =
    omega (
      arith,
      length-append (plan_spelling e.plan) (counted cut_spelling e.cuts ++ kept_end e),
      length-append (counted cut_spelling e.cuts) (kept_end e),
      plan_few e.plan,
      cuts_few e.cuts,
    )

entry_few : (e : PlainEntry) → entry_parts e ≤ length (entry_spelling e)
entry_few e = omega (arith, length-append (new_entry_spelling (kept_of e)) (uses_spelling e), new_entry_few (kept_of e))

stream_few : (s : StreamState) → stream_parts s ≤ length (stream_spelling s)
stream_few s =
    omega (
      arith,
      length-append (name_spelling s.name) (counted column_spelling s.columns ++ listed extent_spelling s.extents),
      length-append (counted column_spelling s.columns) (listed extent_spelling s.extents),
      columns_few s.columns,
      extents_few s.extents,
    )

-- ---- changes

pub change_few : (f : Form) (c : Change) → change_parts c ≤ length (spelling_in f c)
change_few f (Stream name columns) = omega (arith, length-append (name_spelling name) (counted column_spelling columns), columns_few columns)
change_few f (Append stream extent) = omega arith
change_few f (Work program reads dropped kept) =
    omega (
      arith,
      length-append (program_if_spelling program) (listed (to_be_bytes w32) reads ++ (listed (to_be_bytes w32) dropped ++ listed new_entry_spelling kept)),
      length-append (listed (to_be_bytes w32) reads) (listed (to_be_bytes w32) dropped ++ listed new_entry_spelling kept),
      length-append (listed (to_be_bytes w32) dropped) (listed new_entry_spelling kept),
      program_if_few program,
      numbers_few reads,
      numbers_few dropped,
      sum_few new_entry_parts new_entry_spelling new_entry_few kept,
    )
change_few f (Collect ids) = omega (arith, numbers_few ids)
change_few f (Checkpoint whole) =
    omega (
      arith,
      length-append (flat_map stream_spelling whole.streams) (listed program_spelling whole.programs ++ listed entry_spelling whole.entries),
      length-append (listed program_spelling whole.programs) (listed entry_spelling whole.entries),
      sum_few stream_parts stream_spelling stream_few whole.streams,
      sum_few program_parts program_spelling program_few whole.programs,
      sum_few entry_parts entry_spelling entry_few whole.entries,
    )

pub few_of : (f : Form) (bytes : List ℕ) (c : Change) → bytes ≡ spelling_in f c → change_parts c ≤ length bytes
few_of f bytes c is = omega (arith, change_few f c, ap length is)
