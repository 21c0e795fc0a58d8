-- How many bytes the spelling of a change has, as changes are written.
use Rattle.std.proofs.Common.{◌≡◌, ℕ, zero, suc, ◌+◌, ◌*◌, ◌^◌, ◌<◌, ◌≤◌, List, [], ◌∷◌, ◌++◌, length, Option, Some, None, refl, sym, ap, ◌∙◌, arith}
use Rattle.std.specs.Int.{w32, w64, to_be_bytes}
use Rattle.std.specs.List.{flat_map, AllByRecursion}
use Rattle.std.proofs.lemmas.List.{length-append}
use Rattle.rows_core.specs.declared.cut.Cut.{Cut}
use Rattle.rows_core.specs.declared.kind.Kind.{Kind}
use Rattle.rows_core.specs.declared.schema.Column.{Column}
use Rattle.rows_core.specs.Name.{IsName}
use Rattle.byte_formats.specs.Format.{name_spelling}
use Rattle.byte_formats.proofs.Names.{name_parts}
use Rattle.plan_spelling.specs.Spelling.{counted, plan_spelling, AreCounted}
use Rattle.catalog_types.specs.PlainEntry.{PlainEntry, PlainNewEntry}
use Rattle.catalog_types.specs.declared.change.Change.{Change}
use Rattle.catalog_types.specs.declared.change.Change.TheVariants.{Stream, Append, Work, Collect, Checkpoint}
use Rattle.catalog_types.specs.declared.extent.Extent.{Extent}
use Rattle.catalog_types.specs.declared.program.Program.{Program}
use Rattle.catalog_types.specs.declared.snapshot.Snapshot.{Snapshot}
use Rattle.catalog_types.specs.declared.snapshot.StreamState.{StreamState}
use Rattle.record_codec.specs.Spelling.{listed, sized_spelling, byte_of_kind, column_spelling, cut_spelling, extent_spelling, program_spelling, program_if_spelling, new_entry_spelling, entry_spelling, uses_spelling, stream_spelling, snapshot_spelling, spelling_in, change_spelling, kept_of, IsNumber, AreListed, IsColumn, IsCut, IsFile, HasExtentSpelling, HasProgramSpelling, HasProgramIfSpelling, HasNewEntrySpelling, HasEntrySpelling, HasStreamSpelling, HasSnapshotSpelling, HasChangeSpelling}
use Rattle.record_codec.specs.declared.form.Form.{Form}
use Rattle.record_codec.specs.Forms.{newest}
use Rattle.record_codec.specs.Limits.{IsShort, AreAtMost, HasShortText, HasShortTextIf, HasShortPlan, KeepsShortPlan, extent_count, IsWithinLimits}

-- ---- items one behind the other

items_len : {A : Type 0} (spell : A → List ℕ) (n : ℕ) → ((a : A) → length (spell a) ≡ n) → (items : List A) → length (flat_map spell items) ≡ n * length items
items_len spell n each [] = omega arith
items_len spell n each (a ∷ items) = omega (arith, length-append (spell a) (flat_map spell items), each a, items_len spell n each items)

-- items that each have at most so many bytes
items_most : {A : Type 0} (spell : A → List ℕ) (n : ℕ) (P : A → Type 0) → ((a : A) → P a → length (spell a) ≤ n) → (items : List A) → AllByRecursion P items → length (flat_map spell items) ≤ n * length items
items_most spell n P each [] all = omega arith
items_most spell n P each (a ∷ items) all = omega (arith, length-append (spell a) (flat_map spell items), each a all.0, items_most spell n P each items all.1)

-- ---- parts

name_len : (name : List ℕ) → IsName name → length (name_spelling name) ≤ 65
name_len name is = let few = (name_parts name is).few in omega arith

column_len : (column : Column) → IsColumn newest column → length (column_spelling column) ≤ 66
column_len column is = omega (arith, length-append (name_spelling column.name) (byte_of_kind column.kind ∷ []), name_len column.name is.0)

columns_len : (columns : List Column) → AreCounted (IsColumn newest) columns → length (counted column_spelling columns) ≤ 1 + 66 * length columns
columns_len columns are = omega (arith, items_most column_spelling 66 (IsColumn newest) column_len columns are.1)

cuts_len : (cuts : List Cut) → length (counted cut_spelling cuts) ≡ 1 + 8 * length cuts
cuts_len cuts = omega (arith, items_len cut_spelling 8 (λ cut. refl) cuts)

numbers_len : (numbers : List ℕ) → length (listed (to_be_bytes w32) numbers) ≡ 4 + 4 * length numbers
numbers_len numbers = omega (arith, items_len (to_be_bytes w32) 4 (λ n. refl) numbers)

extent_len : (e : Extent) → HasExtentSpelling e → length (extent_spelling e) ≡ 44
extent_len e has = let digest = has.0.2 in omega arith

extents_len : (extents : List Extent) → AreListed HasExtentSpelling extents → length (listed extent_spelling extents) ≤ 4 + 44 * length extents
extents_len extents are = omega (arith, items_most extent_spelling 44 HasExtentSpelling (λ e has. omega (arith, extent_len e has)) extents are.1)

program_len : (p : Program) → HasProgramSpelling p → length (program_spelling p) ≤ 70 + length p.text + 8 * length p.cuts
program_len p has =
    omega (arith, length-append (name_spelling p.name) (sized_spelling p.text ++ counted cut_spelling p.cuts), length-append (sized_spelling p.text) (counted cut_spelling p.cuts), name_len p.name has.0, cuts_len p.cuts)

-- behind the plan and the cuts
abbrev kept_end : PlainNewEntry → List ℕ
kept_end e = to_be_bytes w32 e.file.file ++ (to_be_bytes w32 e.file.len ++ (e.file.digest.bytes ++ to_be_bytes w32 e.machine))

new_entry_len : (e : PlainNewEntry) → HasNewEntrySpelling e → length (new_entry_spelling e) ≡ 49 + length (plan_spelling e.plan) + 8 * length e.cuts
new_entry_len e has =
    let digest = has.2.2 in
    omega (
      arith,
      length-append (plan_spelling e.plan) (counted cut_spelling e.cuts ++ kept_end e),
      length-append (counted cut_spelling e.cuts) (kept_end e),
      length-append e.file.digest.bytes (to_be_bytes w32 e.machine),
      cuts_len e.cuts,
    )

entry_len : (e : PlainEntry) → HasEntrySpelling e → length (entry_spelling e) ≡ 65 + length (plan_spelling e.plan) + 8 * length e.cuts
entry_len e has = omega (arith, length-append (new_entry_spelling (kept_of e)) (uses_spelling e), new_entry_len (kept_of e) has.1)

stream_len : (s : StreamState) → HasStreamSpelling newest s → length (stream_spelling s) ≤ 16900 + 44 * length s.extents
stream_len s has =
    let few = has.1.0 in
    omega (
      arith,
      length-append (name_spelling s.name) (counted column_spelling s.columns ++ listed extent_spelling s.extents),
      length-append (counted column_spelling s.columns) (listed extent_spelling s.extents),
      name_len s.name has.0,
      columns_len s.columns has.1,
      extents_len s.extents has.2,
    )

-- ---- lists

streams_len : (streams : List StreamState) → AllByRecursion (HasStreamSpelling newest) streams → length (flat_map stream_spelling streams) ≤ 16900 * length streams + 44 * extent_count streams
streams_len [] all = omega arith
streams_len (s ∷ streams) all = omega (arith, length-append (stream_spelling s) (flat_map stream_spelling streams), stream_len s all.0, streams_len streams all.1)

-- of each of which two things are known
both_all : {A : Type 0} (P Q : A → Type 0) (items : List A) → AllByRecursion P items → AllByRecursion Q items → AllByRecursion (λ a. P a × Q a) items
both_all P Q [] ps qs = tt
both_all P Q (a ∷ items) ps qs = ((ps.0, qs.0), both_all P Q items ps.1 qs.1)

programs_len : (programs : List Program) → AreListed HasProgramSpelling programs → AreAtMost 1024 HasShortText programs → length (listed program_spelling programs) ≤ 4 + 67646 * length programs
programs_len programs are short =
    omega (
      arith,
      items_most program_spelling 67646 (λ p. HasProgramSpelling p × HasShortText p) (λ p is. let few = is.0.2.0 in let text = is.1 in omega (arith, program_len p is.0)) programs
          (both_all HasProgramSpelling HasShortText programs are.1 short.1),
    )

new_entries_len : (entries : List PlainNewEntry) → AreListed HasNewEntrySpelling entries → AreAtMost 4096 HasShortPlan entries → length (listed new_entry_spelling entries) ≤ 4 + 67625 * length entries
new_entries_len entries are short =
    omega (
      arith,
      items_most new_entry_spelling 67625 (λ e. HasNewEntrySpelling e × HasShortPlan e) (λ e is. let few = is.0.1.0 in let plan = is.1 in omega (arith, new_entry_len e is.0)) entries
          (both_all HasNewEntrySpelling HasShortPlan entries are.1 short.1),
    )

entries_len : (entries : List PlainEntry) → AreListed HasEntrySpelling entries → AreAtMost 4096 KeepsShortPlan entries → length (listed entry_spelling entries) ≤ 4 + 67641 * length entries
entries_len entries are short =
    omega (
      arith,
      items_most entry_spelling 67641 (λ e. HasEntrySpelling e × KeepsShortPlan e) (λ e is. let few = is.0.1.1.0 in let plan = is.1 in omega (arith, entry_len e is.0)) entries
          (both_all HasEntrySpelling KeepsShortPlan entries are.1 short.1),
    )

-- ---- changes

pub some_bytes : (f : Form) (c : Change) → 0 < length (spelling_in f c)
some_bytes f (Stream name columns) = omega arith
some_bytes f (Append stream extent) = omega arith
some_bytes f (Work program reads dropped kept) = omega arith
some_bytes f (Collect ids) = omega arith
some_bytes f (Checkpoint whole) = omega arith

pub append_len : (stream : ℕ) (extent : Extent) → HasExtentSpelling extent → length (change_spelling (Append stream extent)) ≡ 49
append_len stream extent has = omega (arith, extent_len extent has)

pub new_stream_len : (name : List ℕ) (columns : List Column) → HasChangeSpelling (Stream name columns) → length (change_spelling (Stream name columns)) ≤ 67 + 66 * length columns
new_stream_len name columns has = omega (arith, length-append (name_spelling name) (counted column_spelling columns), name_len name has.0, columns_len columns has.1)

pub collect_len : (ids : List ℕ) → length (change_spelling (Collect ids)) ≡ 5 + 4 * length ids
collect_len ids = omega (arith, numbers_len ids)

pub stored_len : (p : Program) → HasProgramSpelling p → length (change_spelling (Work (Some p) [] [] [])) ≤ 84 + length p.text + 8 * length p.cuts
stored_len p has = omega (arith, length-append (program_spelling p) (listed (to_be_bytes w32) [] ++ (listed (to_be_bytes w32) [] ++ listed new_entry_spelling [])), program_len p has)

program_if_len : (o : Option Program) → HasProgramIfSpelling o → HasShortTextIf o → length (program_if_spelling o) ≤ 67647
program_if_len None has short = omega arith
program_if_len (Some p) has short = let few = has.2.0 in omega (arith, program_len p has)

work_len : (program : Option Program) (reads dropped : List ℕ) (kept : List PlainNewEntry) → HasChangeSpelling (Work program reads dropped kept) → IsWithinLimits (Work program reads dropped kept)
    → length (change_spelling (Work program reads dropped kept)) ≤ 67660 + 4 * (length reads + length dropped) + 67625 * length kept
work_len program reads dropped kept has short =
    omega (
      arith,
      length-append (program_if_spelling program) (listed (to_be_bytes w32) reads ++ (listed (to_be_bytes w32) dropped ++ listed new_entry_spelling kept)),
      length-append (listed (to_be_bytes w32) reads) (listed (to_be_bytes w32) dropped ++ listed new_entry_spelling kept),
      length-append (listed (to_be_bytes w32) dropped) (listed new_entry_spelling kept),
      program_if_len program has.0 short.0,
      numbers_len reads,
      numbers_len dropped,
      new_entries_len kept has.3 short.3,
    )

checkpoint_len : (s : Snapshot) → HasSnapshotSpelling newest s → IsWithinLimits (Checkpoint s) → length (snapshot_spelling s) ≤ 375167008
checkpoint_len s has short =
    let programs = short.2.0 in
    let entries = short.3.0 in
    let streams = short.0 in
    let extents = short.1 in
    omega (
      arith,
      length-append (flat_map stream_spelling s.streams) (listed program_spelling s.programs ++ listed entry_spelling s.entries),
      length-append (listed program_spelling s.programs) (listed entry_spelling s.entries),
      streams_len s.streams has.3.1,
      programs_len s.programs has.4.0 short.2,
      entries_len s.entries has.5.0 short.3,
    )

-- within the limits of a catalogue
pub within_limits_len : (c : Change) → HasChangeSpelling c → IsWithinLimits c → length (change_spelling c) < 536870912
within_limits_len (Stream name columns) has short = let few = has.1.0 in omega (arith, new_stream_len name columns has)
within_limits_len (Append stream extent) has short = omega (arith, append_len stream extent has.1)
within_limits_len (Work program reads dropped kept) has short = let few = short.1 in let fewer = short.2 in let least = short.3.0 in omega (arith, work_len program reads dropped kept has short)
within_limits_len (Collect ids) has short = let few = short in omega (arith, collect_len ids)
within_limits_len (Checkpoint whole) has short = omega (arith, checkpoint_len whole has short)
