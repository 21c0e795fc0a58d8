-- The parts of a table that a checkpoint tells, each with what is true of it in every table.
use Rattle.std.specs.Prelude.{ℕ, ◌<◌, ◌≤◌, not, List, length, IsTrue}
use Rattle.std.specs.List.{AllByRecursion}
use Rattle.plan_binder.specs.Binding.{has_repeat}
use Rattle.catalog_types.specs.PlainEntry.{PlainEntry}
use Rattle.catalog_types.specs.declared.program.Program.{Program}
use Rattle.catalog_types.specs.declared.snapshot.StreamState.{StreamState}
use Rattle.entry_table.specs.AreKept.{IsPast}
use Rattle.catalog_core.specs.IsTable.{IsStream}
use Rattle.catalog_core.specs.OwnFiles.{HaveOwnFiles}
use Rattle.catalog_core.specs.Parts.{extent_count}
use Rattle.rows_core.specs.Limits.{file_end, most_streams, most_extents_in_all, most_programs}
use Rattle.catalog_core.specs.Programs.{names_of, AreByName, IsProgram}
use Rattle.catalog_core.specs.Results.{IsEntryOver}

-- Files are numbered from 1 on, and the last number isn't passed. Each id so far has a file number.
pub record AreNumbers (next_file next_id : ℕ) : Type 0 where
  pub first_file : 0 < next_file
  pub last_file : next_file ≤ file_end
  pub ids : next_id ≤ next_file

-- names differ, each is what a stream is to be, and they are few enough, and so are their extents
pub record AreStreams (streams : List StreamState) : Type 0 where
  pub names : IsTrue (not (has_repeat (names_of streams)))
  pub are_streams : AllByRecursion IsStream streams
  pub few_streams : length streams ≤ most_streams
  pub few_extents : extent_count streams ≤ most_extents_in_all

-- few enough, in the byte order of names that differ, and each over these streams
pub record ArePrograms (streams : List StreamState) (programs : List Program) : Type 0 where
  pub few_programs : length programs ≤ most_programs
  pub by_name : AreByName programs
  pub are_programs : AllByRecursion (IsProgram streams) programs

-- Each is of a plan and cuts over these streams, made and used at or before the tick, and has a file of its own. Their keys, their
-- ids and what they are among themselves aren't looked at.
pub record AreResults (tick next_file : ℕ) (streams : List StreamState) (entries : List PlainEntry) : Type 0 where
  pub over : AllByRecursion (IsEntryOver streams) entries
  pub past : AllByRecursion (IsPast tick) entries
  pub own_files : HaveOwnFiles next_file streams entries
