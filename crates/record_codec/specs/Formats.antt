-- The formats of changes, one over the form: behind the first byte of each stands what its row says.
use Rattle.std.specs.Prelude.{◌≡◌, ℕ, ◌≤◌, ◌^◌, min, max, suc, length, IsTrue, Bool, true, if◌then◌else◌, List, [], Option, Result, Ok, Err}
use Rattle.std.specs.Int.{w32}
use Rattle.rows_core.specs.declared.cut.Cut.{Cut}
use Rattle.rows_core.specs.declared.file_ref.Digest.{Digest}
use Rattle.rows_core.specs.declared.kind.Kind.{Kind}
use Rattle.rows_core.specs.declared.schema.Column.{Column}
use Rattle.rows_core.specs.Name.{IsName}
use Rattle.plan_core.specs.PlainPlan.{PlainPlan}
use Rattle.byte_formats.specs.Reading.{Read}
use Rattle.byte_formats.specs.Format.{Format, made, symbol, beside, byte, u32, u64, between, digest, sized, name, name_spelling, measured, optional, counted, counted_chain, ◌▷◌, ◌⊗◌}
use Rattle.plan_spelling.specs.Spelling.{AreCounted}
use Rattle.plan_spelling.specs.Formats.{plan_format}
use Rattle.catalog_types.specs.PlainEntry.{PlainEntry, PlainNewEntry}
use Rattle.catalog_types.specs.declared.change.Change.{Change}
use Rattle.catalog_types.specs.declared.change.Change.TheVariants as change
use Rattle.catalog_types.specs.declared.extent.Extent.{Extent}
use Rattle.catalog_types.specs.declared.program.Program.{Program}
use Rattle.catalog_types.specs.declared.snapshot.Snapshot.{Snapshot}
use Rattle.catalog_types.specs.declared.snapshot.StreamState.{StreamState}
use Rattle.record_codec.specs.declared.form.Form.{Form}
use Rattle.record_codec.specs.declared.tag.ChangeTag.{ChangeTag}
use Rattle.record_codec.specs.declared.tag.ChangeTag.TheVariants as tag
use Rattle.record_codec.specs.Order.{not_below, may_reach_sized, left_unreached_sized}
use Rattle.record_codec.specs.Tags.{change_tags, byte_of_change, kinds}
use Rattle.record_codec.specs.Spelling.{byte_of_kind, column_spelling, cut_spelling, extent_spelling, program_spelling, new_entry_spelling, entry_spelling, stream_spelling, snapshot_spelling, spelling_in, IsColumn, IsCut, HasExtentSpelling, HasProgramSpelling, HasNewEntrySpelling, HasEntrySpelling, HasStreamSpelling, HasSnapshotSpelling, HasSpellingIn, no_key, keyless_entry, keyless_snapshot, keyless}

-- ---- a value whose spelling a test of its first bytes lets pass

-- what was read, unless the test stops it before: `left` says how many bytes are left where it does
abbrev pub reached : {A : Type 0} → Bool → ℕ → A × List ℕ → Read A
reached goes left x = if goes then Ok x else Err left

abbrev pub limited : {A : Type 0} → (A → Bool) → ℕ → Read A → Read A
limited goes left (Ok x) = reached (goes x.0) left x
limited goes left (Err stopped) = Err (max stopped left)

abbrev pub reaching : {A : Type 0} → (List ℕ → Bool) → (List ℕ → ℕ) → Format A → Format A
reaching goes left format = record {
  Fits = λ a. format.Fits a × (goes (format.spell a) ≡ true);
  spell = format.spell;
  Begins = λ front. format.Begins front × (goes front ≡ true);
  read = λ bytes. limited (λ a. goes (format.spell a)) (left bytes) (format.read bytes);
}

-- a name that isn't below another
abbrev pub name_from : List ℕ → Format (List ℕ)
name_from previous = reaching (may_reach_sized previous) (left_unreached_sized previous) name

-- ---- the parts of changes

abbrev pub list : {A : Type 0} → Format A → Format (List A)
list item = counted u32 item

abbrev pub kind : Form → Format Kind
kind f = symbol byte_of_kind (beside (kinds f))

abbrev pub column_of : List ℕ × Kind → Column
column_of p = record { name = p.0; kind = p.1 }

abbrev pub column : Form → Format Column
column f = made column_of (IsColumn f) column_spelling (name ⊗ kind f)

abbrev pub columns : Form → Format (List Column)
columns f = counted byte (column f)

abbrev pub cut_of : ℕ × ℕ → Cut
cut_of p = record { from = p.0; to = p.1 }

abbrev pub cut : Format Cut
cut = made cut_of IsCut cut_spelling (u32 ⊗ u32)

abbrev pub cuts : Format (List Cut)
cuts = counted byte cut

abbrev pub extent_of : ℕ × (ℕ × (ℕ × Digest)) → Extent
extent_of p = record { file = record { file = p.0; len = p.1.1.0; digest = p.1.1.1 }; rows = p.1.0 }

abbrev pub extent : Format Extent
extent = made extent_of HasExtentSpelling extent_spelling (u32 ⊗ u32 ⊗ u32 ⊗ digest)

abbrev pub ProgramParts : Type 0
ProgramParts = List ℕ × (List ℕ × List Cut)

abbrev pub program_of : ProgramParts → Program
program_of p = record { name = p.0; text = p.1.0; cuts = p.1.1 }

abbrev pub program_parts : Format (List ℕ) → Format ProgramParts
program_parts name = name ⊗ sized ⊗ cuts

abbrev pub program : Format Program
program = made program_of HasProgramSpelling program_spelling (program_parts name)

-- a program whose name isn't below another
abbrev pub IsProgramFrom : List ℕ → Program → Type 0
IsProgramFrom previous p = HasProgramSpelling p × IsTrue (not_below previous p.name)

abbrev pub program_from : List ℕ → Format Program
program_from previous = made program_of (IsProgramFrom previous) program_spelling (program_parts (name_from previous))

-- a plan of a nesting of at most 1,024 behind the length of its spelling
abbrev pub inner_plan : Format PlainPlan
inner_plan = measured (plan_format 1024)

abbrev pub NewEntryParts : Type 0
NewEntryParts = PlainPlan × (List Cut × (ℕ × (ℕ × (Digest × ℕ))))

abbrev pub new_entry_of : NewEntryParts → PlainNewEntry
new_entry_of p = record {
  plan = p.0;
  cuts = p.1.0;
  file = record { file = p.1.1.0; len = p.1.1.1.0; digest = p.1.1.1.1.0 };
  machine = p.1.1.1.1.1;
}

abbrev pub new_entry : Format PlainNewEntry
new_entry = made new_entry_of HasNewEntrySpelling new_entry_spelling (inner_plan ⊗ cuts ⊗ u32 ⊗ u32 ⊗ digest ⊗ u32)

abbrev pub EntryParts : Type 0
EntryParts = ℕ × (PlainNewEntry × (ℕ × (ℕ × ℕ)))

abbrev pub entry_of : EntryParts → PlainEntry
entry_of p = record {
  id = p.0;
  plan = p.1.0.plan;
  cuts = p.1.0.cuts;
  program = no_key;
  key = no_key;
  file = p.1.0.file;
  machine = p.1.0.machine;
  uses = p.1.1.0;
  last = p.1.1.1.0;
  made = p.1.1.1.1;
}

abbrev pub greatest_id : ℕ
greatest_id = 4294967295

-- a number that isn't below another
abbrev pub id_from : ℕ → Format ℕ
id_from previous = between w32 (min previous greatest_id) greatest_id

abbrev pub entry_parts : ℕ → Format EntryParts
entry_parts previous = id_from previous ⊗ new_entry ⊗ u32 ⊗ u32 ⊗ u32

-- an entry whose id isn't below another
abbrev pub IsEntryFrom : ℕ → PlainEntry → Type 0
IsEntryFrom previous e = (HasEntrySpelling e × (min previous greatest_id ≤ e.id)) × (keyless_entry e ≡ e)

abbrev pub entry_from : ℕ → Format PlainEntry
entry_from previous = made entry_of (IsEntryFrom previous) entry_spelling (entry_parts previous)

abbrev pub stream_of : List ℕ × (List Column × List Extent) → StreamState
stream_of p = record { name = p.0; columns = p.1.0; extents = p.1.1 }

abbrev pub stream : Form → Format StreamState
stream f = made stream_of (HasStreamSpelling f) stream_spelling (name ⊗ columns f ⊗ list extent)

-- programs in the byte order of their names
abbrev pub programs : Format (List Program)
programs = counted_chain u32 program_from (λ previous p. p.name) []

-- entries by their ids
abbrev pub entries : Format (List PlainEntry)
entries = counted_chain u32 entry_from (λ previous e. e.id) 0

abbrev pub SnapshotParts : Type 0
SnapshotParts = ℕ × (ℕ × (ℕ × (List StreamState × (List Program × List PlainEntry))))

abbrev pub snapshot_of : SnapshotParts → Snapshot
snapshot_of p = record {
  tick = p.0;
  next_file = p.1.0;
  next_id = p.1.1.0;
  streams = p.1.1.1.0;
  programs = p.1.1.1.1.0;
  entries = p.1.1.1.1.1;
}

abbrev pub snapshot_parts : Form → Format SnapshotParts
snapshot_parts f = u32 ⊗ u64 ⊗ u64 ⊗ list (stream f) ⊗ programs ⊗ entries

abbrev pub IsSnapshot : Form → Snapshot → Type 0
IsSnapshot f s = HasSnapshotSpelling f s × (keyless_snapshot s ≡ s)

abbrev pub snapshot : Form → Format Snapshot
snapshot f = made snapshot_of (IsSnapshot f) snapshot_spelling (snapshot_parts f)

-- ---- changes

abbrev pub ChangeParts : ChangeTag → Type 0
ChangeParts tag.Stream = List ℕ × List Column
ChangeParts tag.Append = ℕ × Extent
ChangeParts tag.Work = Option Program × (List ℕ × (List ℕ × List PlainNewEntry))
ChangeParts tag.Collect = List ℕ
ChangeParts tag.Checkpoint = Snapshot

abbrev pub change_fields : Form → (t : ChangeTag) → Format (ChangeParts t)
change_fields f tag.Stream = name ⊗ columns f
change_fields f tag.Append = u32 ⊗ extent
change_fields f tag.Work = optional program ⊗ list u32 ⊗ list u32 ⊗ list new_entry
change_fields f tag.Collect = list u32
change_fields f tag.Checkpoint = snapshot f

abbrev pub change_made : (t : ChangeTag) → ChangeParts t → Change
change_made tag.Stream p = change.Stream p.0 p.1
change_made tag.Append p = change.Append p.0 p.1
change_made tag.Work p = change.Work p.0 p.1.0 p.1.1.0 p.1.1.1
change_made tag.Collect ids = change.Collect ids
change_made tag.Checkpoint whole = change.Checkpoint whole

abbrev pub change_tag : Form → Format ChangeTag
change_tag f = symbol (byte_of_change f) (beside (change_tags f))

abbrev pub change_node : Form → Format ((t : ChangeTag) × ChangeParts t)
change_node f = change_tag f ▷ change_fields f

-- a change with a spelling in the form, whose entries have no keys
abbrev pub IsSpelledIn : Form → Change → Type 0
IsSpelledIn f c = HasSpellingIn f c × (keyless c ≡ c)

abbrev pub format_in : Form → Format Change
format_in f = made (λ p. change_made p.0 p.1) (IsSpelledIn f) (spelling_in f) (change_node f)
