-- A checkpoint's parts are those of a table, whatever the keys of its kept results.
use Rattle.std.proofs.Common.{◌≡◌, ◌≤◌, ◌==◌, refl, sym, ap, subst, ℕ, List, [], ◌∷◌, ◌++◌, map}
use Rattle.std.specs.List.{AllByRecursion, IsDistinct}
use Rattle.catalog_types.specs.PlainEntry.{PlainEntry}
use Rattle.catalog_types.specs.declared.program.Program.{Program}
use Rattle.catalog_types.specs.declared.snapshot.Snapshot.{Snapshot}
use Rattle.catalog_types.specs.declared.snapshot.StreamState.{StreamState}
use Rattle.cache_index.proofs.Searching.{all-map}
use Rattle.entry_table.proofs.KeyedEntries.{keyed-made}
use Rattle.entry_table.specs.AreKept.{AreKept, IsPast}
use Rattle.entry_table.specs.Keyed.{Digests, with_keys}
use Rattle.entry_table.specs.Work.{Kept, kept_with}
use Rattle.catalog_core.specs.IsTable.{IsTable}
use Rattle.catalog_core.specs.OwnFiles.{HaveOwnFiles, IsGiven, extent_files, result_files}
use Rattle.catalog_core.specs.Programs.{IsProgram, IsStored}
use Rattle.catalog_core.specs.Restoring.{AreNumbers, AreStreams, ArePrograms, AreResults}
use Rattle.catalog_core.specs.Results.{IsEntryOver, digests_of}
use Rattle.catalog_core.specs.Table.{keyed, table_with}
use Rattle.rows_core.specs.Limits.{most_ticks}

abbrev with_each_keys : Digests → List PlainEntry → List PlainEntry
with_each_keys digests entries = map (with_keys digests) entries

-- ---- what doesn't speak of keys holds of entries whatever these are

all-keyed : (P Q : PlainEntry → Type 0) (digests : Digests) → ((e : PlainEntry) → P e → Q (with_keys digests e)) → (entries : List PlainEntry) → AllByRecursion P entries → AllByRecursion Q (with_each_keys digests entries)
all-keyed P Q digests f [] all = tt
all-keyed P Q digests f (e ∷ entries) all = (f e all.0, all-keyed P Q digests f entries all.1)

all-unkeyed : (P Q : PlainEntry → Type 0) (digests : Digests) → ((e : PlainEntry) → P (with_keys digests e) → Q e) → (entries : List PlainEntry) → AllByRecursion P (with_each_keys digests entries) → AllByRecursion Q entries
all-unkeyed P Q digests f [] all = tt
all-unkeyed P Q digests f (e ∷ entries) all = (f e all.0, all-unkeyed P Q digests f entries all.1)

files-keyed : (digests : Digests) (entries : List PlainEntry) → result_files (with_each_keys digests entries) ≡ result_files entries
files-keyed digests [] = refl
files-keyed digests (e ∷ entries) = ap (λ files. e.file.file ∷ files) (files-keyed digests entries)

-- the numbers of files are theirs, and nothing else is asked of entries
own-by-files : (next : ℕ) (streams : List StreamState) (entries others : List PlainEntry) → result_files entries ≡ result_files others → HaveOwnFiles next streams entries → HaveOwnFiles next streams others
own-by-files next streams entries others same own = record {
  given = subst (λ (files : List ℕ). AllByRecursion (IsGiven next) (extent_files streams ++ files)) same own.given;
  differ = subst (λ (files : List ℕ). IsDistinct (λ a b. a == b) (extent_files streams ++ files)) same own.differ;
}

-- ---- programs

stored-each : (streams : List StreamState) (programs : List Program) → AllByRecursion (IsProgram streams) programs → AllByRecursion (IsStored streams) programs
stored-each streams programs all = all-map (IsProgram streams) (IsStored streams) (λ program is none. none is) programs all

-- none can't be one where each can't but be one
not-otherwise : (streams : List StreamState) (programs : List Program) → AllByRecursion (IsStored streams) programs → ¬ (¬ (AllByRecursion (IsProgram streams) programs))
not-otherwise streams [] all none = none tt
not-otherwise streams (program ∷ programs) all none =
    all.0 (λ first. not-otherwise streams programs all.1 (λ rest. none (first, rest)))

-- ---- the table of these parts

table-of-parts : (tick next_file next_id : ℕ) (streams : List StreamState) (programs : List Program) (entries : List PlainEntry)
    → tick ≤ most_ticks → AreNumbers next_file next_id → AreStreams streams → ArePrograms streams programs → AreResults tick next_file streams entries
    → AreKept (kept_with next_id (with_each_keys (digests_of streams) entries))
    → IsTable (table_with tick next_file next_id streams programs (with_each_keys (digests_of streams) entries))
table-of-parts tick next_file next_id streams programs entries counted numbers are_streams are_programs results kept =
    let digests = digests_of streams in
    record {
      counted = counted;
      first_file = numbers.first_file;
      last_file = numbers.last_file;
      names = are_streams.names;
      are_streams = are_streams.are_streams;
      few_streams = are_streams.few_streams;
      few_extents = are_streams.few_extents;
      few_programs = are_programs.few_programs;
      by_name = are_programs.by_name;
      stored = stored-each streams programs are_programs.are_programs;
      kept = kept;
      over = all-keyed (IsEntryOver streams) (IsEntryOver streams) digests (λ e is. is) entries results.over;
      keyed = keyed-made digests entries;
      past = all-keyed (IsPast tick) (IsPast tick) digests (λ e is. is) entries results.past;
      ids = numbers.ids;
      own_files = own-by-files next_file streams entries (with_each_keys digests entries) (sym (files-keyed digests entries)) results.own_files;
    }

-- the same where the catalogue holds them
pub restored-table : (tick next_file next_id : ℕ) (streams states : List StreamState) (programs stored : List Program) (entries : List PlainEntry) (k : Kept)
    → tick ≤ most_ticks → AreNumbers next_file next_id → streams ≡ states → AreStreams states → ArePrograms streams programs → stored ≡ programs
    → AreResults tick next_file streams entries → k ≡ kept_with next_id (with_each_keys (digests_of streams) entries) → AreKept k
    → IsTable (table_with tick next_file k.next_id streams stored k.entries)
restored-table tick next_file next_id streams states programs stored entries k counted numbers same are_streams are_programs same_programs results made kept =
    subst IsTable (sym (λ i. table_with tick next_file (made i).next_id streams (same_programs i) (made i).entries))
    (table-of-parts tick next_file next_id streams programs entries counted numbers (subst AreStreams (sym same) are_streams) are_programs results (subst AreKept made kept))

-- ---- the parts of a checkpoint that tells a table

pub numbers-of : (whole : Snapshot) → IsTable (keyed whole) → AreNumbers whole.next_file whole.next_id
numbers-of whole is = record { first_file = is.first_file; last_file = is.last_file; ids = is.ids }

pub streams-of : (whole : Snapshot) → IsTable (keyed whole) → AreStreams whole.streams
streams-of whole is = record { names = is.names; are_streams = is.are_streams; few_streams = is.few_streams; few_extents = is.few_extents }

pub programs-of : (whole : Snapshot) → IsTable (keyed whole) → ¬ (¬ (ArePrograms whole.streams whole.programs))
programs-of whole is none =
    not-otherwise whole.streams whole.programs is.stored (λ all. none (record { few_programs = is.few_programs; by_name = is.by_name; are_programs = all }))

pub results-of : (whole : Snapshot) → IsTable (keyed whole) → AreResults whole.tick whole.next_file whole.streams whole.entries
results-of whole is =
    let digests = digests_of whole.streams in
    record {
      over = all-unkeyed (IsEntryOver whole.streams) (IsEntryOver whole.streams) digests (λ e over. over) whole.entries is.over;
      past = all-unkeyed (IsPast whole.tick) (IsPast whole.tick) digests (λ e past. past) whole.entries is.past;
      own_files = own-by-files whole.next_file whole.streams (with_each_keys digests whole.entries) whole.entries (files-keyed digests whole.entries) is.own_files;
    }
