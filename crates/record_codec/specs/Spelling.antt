-- The one spelling of a change in each form. Numbers are big-endian.
use Rattle.std.specs.Prelude.{◌≡◌, ℕ, ◌^◌, ◌<◌, ◌≤◌, IsTrue, List, [], ◌∷◌, ◌++◌, length, map, replicate, Option, Some, None}
use Rattle.std.specs.Int.{w32, w64, to_be_bytes}
use Rattle.std.specs.List.{flat_map, AllByRecursion}
use Rattle.rows_core.specs.declared.cut.Cut.{Cut}
use Rattle.rows_core.specs.declared.file_ref.Digest.{Digest}
use Rattle.rows_core.specs.declared.file_ref.FileRef.{FileRef}
use Rattle.rows_core.specs.declared.kind.Kind.{Kind}
use Rattle.rows_core.specs.declared.kind.Kind.TheVariants as kind
use Rattle.rows_core.specs.declared.schema.Column.{Column}
use Rattle.rows_core.specs.Name.{IsName}
use Rattle.plan_core.specs.PlainPlan.{PlainPlan}
use Rattle.plan_core.specs.Nesting.{nesting}
use Rattle.byte_formats.specs.Format.{name_spelling}
use Rattle.plan_spelling.specs.Spelling.{counted, AreCounted, plan_spelling, HasPlanSpelling}
use Rattle.catalog_types.specs.PlainEntry.{PlainEntry, PlainNewEntry}
use Rattle.catalog_types.specs.declared.change.Change.{Change}
use Rattle.catalog_types.specs.declared.change.Change.TheVariants.{Stream, Append, Work, Collect, Checkpoint}
use Rattle.catalog_types.specs.declared.extent.Extent.{Extent}
use Rattle.catalog_types.specs.declared.program.Program.{Program}
use Rattle.catalog_types.specs.declared.snapshot.Snapshot.{Snapshot}
use Rattle.catalog_types.specs.declared.snapshot.StreamState.{StreamState}
use Rattle.record_codec.specs.declared.form.Form.{Form}
use Rattle.record_codec.specs.Forms.{newest, checkpoint_byte, HasKind}
use Rattle.record_codec.specs.Order.{not_below}

-- a count in four bytes, and the items
abbrev pub listed : {A : Type 0} → (A → List ℕ) → List A → List ℕ
listed spell items = to_be_bytes w32 (length items) ++ flat_map spell items

-- bytes behind their length
abbrev pub sized_spelling : List ℕ → List ℕ
sized_spelling bytes = to_be_bytes w32 (length bytes) ++ bytes

abbrev pub byte_of_kind : Kind → ℕ
byte_of_kind kind.Int = 1
byte_of_kind kind.Text = 2
byte_of_kind kind.Bool = 3

abbrev pub column_spelling : Column → List ℕ
column_spelling column = name_spelling column.name ++ byte_of_kind column.kind ∷ []

abbrev pub cut_spelling : Cut → List ℕ
cut_spelling cut = to_be_bytes w32 cut.from ++ to_be_bytes w32 cut.to

abbrev pub extent_with : FileRef → ℕ → Extent
extent_with file rows = record { file = file; rows = rows }

abbrev pub extent_spelling : Extent → List ℕ
extent_spelling e = to_be_bytes w32 e.file.file ++ (to_be_bytes w32 e.rows ++ (to_be_bytes w32 e.file.len ++ e.file.digest.bytes))

abbrev pub program_spelling : Program → List ℕ
program_spelling p = name_spelling p.name ++ (sized_spelling p.text ++ counted cut_spelling p.cuts)

abbrev pub new_entry_spelling : PlainNewEntry → List ℕ
new_entry_spelling e =
    sized_spelling (plan_spelling e.plan)
    ++ (counted cut_spelling e.cuts
    ++ (to_be_bytes w32 e.file.file ++ (to_be_bytes w32 e.file.len ++ (e.file.digest.bytes ++ to_be_bytes w32 e.machine))))

abbrev pub kept : PlainPlan → List Cut → FileRef → ℕ → PlainNewEntry
kept plan cuts file machine = record { plan = plan; cuts = cuts; file = file; machine = machine }

-- what an entry has in common with one that has no id yet
abbrev pub kept_of : PlainEntry → PlainNewEntry
kept_of e = kept e.plan e.cuts e.file e.machine

abbrev pub uses_spelling : PlainEntry → List ℕ
uses_spelling e = to_be_bytes w32 e.uses ++ (to_be_bytes w32 e.last ++ to_be_bytes w32 e.made)

-- its two keys aren't spelled
abbrev pub entry_spelling : PlainEntry → List ℕ
entry_spelling e =
    to_be_bytes w32 e.id
    ++ (new_entry_spelling (kept_of e) ++ uses_spelling e)

abbrev pub stream_spelling : StreamState → List ℕ
stream_spelling s = name_spelling s.name ++ (counted column_spelling s.columns ++ listed extent_spelling s.extents)

abbrev pub numbers_spelling : Snapshot → List ℕ
numbers_spelling s = to_be_bytes w32 s.tick ++ (to_be_bytes w64 s.next_file ++ to_be_bytes w64 s.next_id)

abbrev pub lists_spelling : Snapshot → List ℕ
lists_spelling s = listed stream_spelling s.streams ++ (listed program_spelling s.programs ++ listed entry_spelling s.entries)

abbrev pub snapshot_spelling : Snapshot → List ℕ
snapshot_spelling s =
    to_be_bytes w32 s.tick
    ++ (to_be_bytes w64 s.next_file
    ++ (to_be_bytes w64 s.next_id
    ++ (listed stream_spelling s.streams ++ (listed program_spelling s.programs ++ listed entry_spelling s.entries))))

-- 1 and the program where there is one, else 0
abbrev pub program_if_spelling : Option Program → List ℕ
program_if_spelling None = 0 ∷ []
program_if_spelling (Some program) = 1 ∷ program_spelling program

abbrev pub spelling_in : Form → Change → List ℕ
spelling_in f (Stream name columns) = 0x01 ∷ (name_spelling name ++ counted column_spelling columns)
spelling_in f (Append stream extent) = 0x02 ∷ (to_be_bytes w32 stream ++ extent_spelling extent)
spelling_in f (Work program reads dropped kept) =
    0x03
    ∷ (program_if_spelling program
    ++ (listed (to_be_bytes w32) reads ++ (listed (to_be_bytes w32) dropped ++ listed new_entry_spelling kept)))
spelling_in f (Collect ids) = 0x04 ∷ listed (to_be_bytes w32) ids
spelling_in f (Checkpoint whole) = checkpoint_byte f ∷ snapshot_spelling whole

-- as changes are written
abbrev pub change_spelling : Change → List ℕ
change_spelling = spelling_in newest

-- ---- which changes have a spelling in a form: each column is of a kind of the form, each count and number fits its field,
-- each plan has a spelling and a nesting of at most 1,024, and a checkpoint's programs and entries stand in order

-- a number of four bytes
abbrev pub IsNumber : ℕ → Type 0
IsNumber n = n < 2 ^ 32

abbrev pub AreListed : {A : Type 0} → (A → Type 0) → List A → Type 0
AreListed P items = (length items < 2 ^ 32) × AllByRecursion P items

abbrev pub IsColumn : Form → Column → Type 0
IsColumn f column = IsName column.name × HasKind f column.kind

abbrev pub IsCut : Cut → Type 0
IsCut cut = IsNumber cut.from × IsNumber cut.to

abbrev pub IsFile : FileRef → Type 0
IsFile file = IsNumber file.file × IsNumber file.len × (length file.digest.bytes ≡ 32)

abbrev pub HasExtentSpelling : Extent → Type 0
HasExtentSpelling e = IsFile e.file × IsNumber e.rows

abbrev pub HasProgramSpelling : Program → Type 0
HasProgramSpelling p = IsName p.name × IsNumber (length p.text) × AreCounted IsCut p.cuts

-- a plan within a change
abbrev pub HasInnerPlan : PlainPlan → Type 0
HasInnerPlan plan = (HasPlanSpelling plan × (nesting plan ≤ 1024)) × IsNumber (length (plan_spelling plan))

abbrev pub HasNewEntrySpelling : PlainNewEntry → Type 0
HasNewEntrySpelling e = HasInnerPlan e.plan × AreCounted IsCut e.cuts × IsFile e.file × IsNumber e.machine

abbrev pub HasEntrySpelling : PlainEntry → Type 0
HasEntrySpelling e =
    IsNumber e.id × HasNewEntrySpelling (kept_of e) × IsNumber e.uses × IsNumber e.last × IsNumber e.made

abbrev pub HasStreamSpelling : Form → StreamState → Type 0
HasStreamSpelling f s = IsName s.name × AreCounted (IsColumn f) s.columns × AreListed HasExtentSpelling s.extents

-- names that don't fall
abbrev pub AreByName : List ℕ → List Program → Type 0
AreByName name [] = Unit {0}
AreByName name (p ∷ programs) = IsTrue (not_below name p.name) × AreByName p.name programs

-- ids that don't fall
abbrev pub AreById : ℕ → List PlainEntry → Type 0
AreById id [] = Unit {0}
AreById id (e ∷ entries) = (id ≤ e.id) × AreById e.id entries

abbrev pub HasSnapshotSpelling : Form → Snapshot → Type 0
HasSnapshotSpelling f s =
    IsNumber s.tick × (s.next_file < 2 ^ 64) × (s.next_id < 2 ^ 64)
    × AreListed (HasStreamSpelling f) s.streams
    × (AreListed HasProgramSpelling s.programs × AreByName [] s.programs)
    × (AreListed HasEntrySpelling s.entries × AreById 0 s.entries)

abbrev pub HasProgramIfSpelling : Option Program → Type 0
HasProgramIfSpelling None = Unit {0}
HasProgramIfSpelling (Some program) = HasProgramSpelling program

abbrev pub HasSpellingIn : Form → Change → Type 0
HasSpellingIn f (Stream name columns) = IsName name × AreCounted (IsColumn f) columns
HasSpellingIn f (Append stream extent) = IsNumber stream × HasExtentSpelling extent
HasSpellingIn f (Work program reads dropped kept) =
    HasProgramIfSpelling program × AreListed IsNumber reads × AreListed IsNumber dropped × AreListed HasNewEntrySpelling kept
HasSpellingIn f (Collect ids) = AreListed IsNumber ids
HasSpellingIn f (Checkpoint whole) = HasSnapshotSpelling f whole

abbrev pub HasChangeSpelling : Change → Type 0
HasChangeSpelling = HasSpellingIn newest

-- ---- the keys of a checkpoint's entries aren't spelled: 32 zero bytes stand in their place where a change is read

abbrev pub no_key : Digest
no_key = record { bytes = replicate 32 0 }

abbrev pub keyless_entry : PlainEntry → PlainEntry
keyless_entry e = record {
  id = e.id;
  plan = e.plan;
  cuts = e.cuts;
  program = no_key;
  key = no_key;
  file = e.file;
  machine = e.machine;
  uses = e.uses;
  last = e.last;
  made = e.made;
}

abbrev pub keyless_snapshot : Snapshot → Snapshot
keyless_snapshot s = record {
  tick = s.tick;
  next_file = s.next_file;
  next_id = s.next_id;
  streams = s.streams;
  programs = s.programs;
  entries = map keyless_entry s.entries;
}

-- the change as it is spelled
abbrev pub keyless : Change → Change
keyless (Stream name columns) = Stream name columns
keyless (Append stream extent) = Append stream extent
keyless (Work program reads dropped kept) = Work program reads dropped kept
keyless (Collect ids) = Collect ids
keyless (Checkpoint whole) = Checkpoint (keyless_snapshot whole)
