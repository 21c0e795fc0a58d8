-- What is true of every table that changes make of the empty one.
use Rattle.std.specs.Prelude.{ℕ, ◌*◌, ◌<◌, ◌≤◌, not, List, [], ◌∷◌, length, IsTrue}
use Rattle.std.specs.Coded.{Coded-set, coded_bool, le_prop}
use Rattle.std.specs.List.{AllByRecursion, AllByRecursion-prop}
use Rattle.std.specs.List.Sorted.{IsStrictlySortedBy-prop}
use Rattle.rows_core.specs.declared.schema.Column.{Column}
use Rattle.rows_core.specs.Schema.{IsSchema}
use Rattle.plan_binder.specs.Binding.{has_repeat}
use Rattle.catalog_types.specs.declared.extent.Extent.{Extent}
use Rattle.catalog_types.specs.declared.snapshot.StreamState.{StreamState}
use Rattle.entry_table.specs.Keyed.{IsKeyed, IsKeyed-prop}
use Rattle.entry_table.specs.AreKept.{AreKept, AreKept-prop, IsPast, not-prop}
use Rattle.catalog_types.specs.PlainEntry.{PlainEntry}
use Rattle.plan_core.specs.PlainPlan.{PlainPlan, leaves}
use Rattle.rows_core.specs.declared.cut.Cut.{Cut}
use Rattle.catalog_core.specs.OwnFiles.{HaveOwnFiles, HaveOwnFiles-prop}
use Rattle.catalog_core.specs.Programs.{names_of, AreByName, AreCuts, IsProgram, IsStored}
use Rattle.catalog_core.specs.Results.{IsOver, IsEntryOver, digests_of}
use Rattle.catalog_core.specs.Parts.{Table, kept_of_table, extent_count, row_count}
use Rattle.rows_core.specs.Limits.{most_ticks, file_end, most_streams, most_extents, most_extents_in_all, most_extent_bytes, most_rows, most_programs}

-- it has a row, and its file is short enough
pub record IsExtent (extent : Extent) : Type 0 where
  pub has_row : 0 < extent.rows
  pub short : extent.file.len ≤ most_extent_bytes

-- its columns differ, and its extents are within their limits
pub record IsStream (stream : StreamState) : Type 0 where
  pub schema : IsSchema stream.columns
  pub extents : length stream.extents ≤ most_extents
  pub are_extents : AllByRecursion IsExtent stream.extents
  pub rows : row_count stream ≤ length stream.extents * most_rows

-- Names differ, the counts are within their limits, programs are of plans over the streams, and kept results are what they are
-- to be: of plans and cuts over the streams, with their keys, with ids that differ, no two alike, made and used at or before the
-- tick. There are as many files as ids, or more, and each has its own number.
pub record IsTable (t : Table) : Type 0 where
  pub counted : t.tick ≤ most_ticks
  pub first_file : 0 < t.next_file
  pub last_file : t.next_file ≤ file_end
  pub names : IsTrue (not (has_repeat (names_of t.streams)))
  pub are_streams : AllByRecursion IsStream t.streams
  pub few_streams : length t.streams ≤ most_streams
  pub few_extents : extent_count t.streams ≤ most_extents_in_all
  pub few_programs : length t.programs ≤ most_programs
  pub by_name : AreByName t.programs
  pub stored : AllByRecursion (IsStored t.streams) t.programs
  pub kept : AreKept (kept_of_table t)
  pub over : AllByRecursion (IsEntryOver t.streams) t.entries
  pub keyed : AllByRecursion (IsKeyed (digests_of t.streams)) t.entries
  pub past : AllByRecursion (IsPast t.tick) t.entries
  pub ids : t.next_id ≤ t.next_file
  pub own_files : HaveOwnFiles t.next_file t.streams t.entries

-- ---- each of these facts has one proof, so that it may stand in a field

pub IsSchema-prop : (columns : List Column) → IsProp (IsSchema columns)
IsSchema-prop columns x y = λ i. (le_prop x.0 y.0 i, Coded-set coded_bool _ _ x.1 y.1 i, le_prop x.2 y.2 i)

pub IsExtent-prop : (extent : Extent) → IsProp (IsExtent extent)
IsExtent-prop extent x y = λ i. record {
  has_row = le_prop x.has_row y.has_row i;
  short = le_prop x.short y.short i;
}

pub IsStream-prop : (stream : StreamState) → IsProp (IsStream stream)
IsStream-prop stream x y = λ i. record {
  schema = IsSchema-prop stream.columns x.schema y.schema i;
  extents = le_prop x.extents y.extents i;
  are_extents = AllByRecursion-prop IsExtent IsExtent-prop stream.extents x.are_extents y.are_extents i;
  rows = le_prop x.rows y.rows i;
}

pub AreCuts-prop : (streams : List StreamState) (leaves : List ℕ) (cuts : List Cut) → IsProp (AreCuts streams leaves cuts)
AreCuts-prop streams [] [] x y = λ i. tt
AreCuts-prop streams [] (cut ∷ cuts) x y = absurd x
AreCuts-prop streams (leaf ∷ leaves) [] x y = absurd x
AreCuts-prop streams (leaf ∷ leaves) (cut ∷ cuts) x y = λ i.
    ((le_prop x.0.0 y.0.0 i, le_prop x.0.1 y.0.1 i), AreCuts-prop streams leaves cuts x.1 y.1 i)

pub IsOver-prop : (streams : List StreamState) (plan : PlainPlan) (cuts : List Cut) → IsProp (IsOver streams plan cuts)
IsOver-prop streams plan cuts x y = λ i. record {
  typed = Coded-set coded_bool _ _ x.typed y.typed i;
  are_cuts = AreCuts-prop streams (leaves plan) cuts x.are_cuts y.are_cuts i;
}

pub IsPast-prop : (tick : ℕ) (e : PlainEntry) → IsProp (IsPast tick e)
IsPast-prop tick e x y = λ i. (le_prop x.0 y.0 i, le_prop x.1 y.1 i)

pub IsTable-prop : (t : Table) → IsProp (IsTable t)
IsTable-prop t x y = λ i. record {
  counted = le_prop x.counted y.counted i;
  first_file = le_prop x.first_file y.first_file i;
  last_file = le_prop x.last_file y.last_file i;
  names = Coded-set coded_bool _ _ x.names y.names i;
  are_streams = AllByRecursion-prop IsStream IsStream-prop t.streams x.are_streams y.are_streams i;
  few_streams = le_prop x.few_streams y.few_streams i;
  few_extents = le_prop x.few_extents y.few_extents i;
  few_programs = le_prop x.few_programs y.few_programs i;
  by_name = IsStrictlySortedBy-prop _ _ x.by_name y.by_name i;
  stored = AllByRecursion-prop (IsStored t.streams) (λ program. not-prop (¬ (IsProgram t.streams program))) t.programs x.stored y.stored i;
  kept = AreKept-prop (kept_of_table t) x.kept y.kept i;
  over = AllByRecursion-prop (IsEntryOver t.streams) (λ e. IsOver-prop t.streams e.plan e.cuts) t.entries x.over y.over i;
  keyed = AllByRecursion-prop (IsKeyed (digests_of t.streams)) (IsKeyed-prop (digests_of t.streams)) t.entries x.keyed y.keyed i;
  past = AllByRecursion-prop (IsPast t.tick) (λ e. IsPast-prop t.tick e) t.entries x.past y.past i;
  ids = le_prop x.ids y.ids i;
  own_files = HaveOwnFiles-prop t.next_file t.streams t.entries x.own_files y.own_files i;
}
