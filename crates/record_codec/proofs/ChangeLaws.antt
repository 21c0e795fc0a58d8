-- The format of changes is exact in each form.
use Rattle.std.proofs.Common.{◌≡◌, ℕ, ◌^◌, ◌<◌, ◌≤◌, min, Bool, true, List, [], ◌∷◌, ◌++◌, length, map, Option, Some, None, refl, sym, ap, subst, ◌∙◌, arith}
use Rattle.std.specs.Int.{w32, to_be_bytes}
use Rattle.std.specs.List.{flat_map, AllByRecursion}
use Rattle.byte_formats.specs.Format.{Format, ◌▷◌, ◌⊗◌, u32, u64, name, optional, FitsOption, option_spelling, FitsChain, chain_spelling}
use Rattle.byte_formats.proofs.Exact.{Exact, both_exact}
use Rattle.byte_formats.proofs.Laws.{u32_exact, u64_exact, made_exact}
use Rattle.byte_formats.proofs.Told.{table_exact}
use Rattle.byte_formats.proofs.Parts.{optional_exact, counted_chain_exact}
use Rattle.byte_formats.proofs.Names.{name_exact}
use Rattle.plan_spelling.specs.Spelling.{AreCounted}
use Rattle.catalog_types.specs.PlainEntry.{PlainEntry}
use Rattle.catalog_types.specs.declared.change.Change.{Change}
use Rattle.catalog_types.specs.declared.change.Change.TheVariants as change
use Rattle.catalog_types.specs.declared.program.Program.{Program}
use Rattle.catalog_types.specs.declared.snapshot.Snapshot.{Snapshot}
use Rattle.record_codec.specs.declared.form.Form.{Form}
use Rattle.record_codec.specs.declared.form.Form.TheVariants as form
use Rattle.record_codec.specs.declared.tag.ChangeTag.{ChangeTag}
use Rattle.record_codec.specs.declared.tag.ChangeTag.TheVariants as tag
use Rattle.record_codec.specs.Forms.{checkpoint_byte}
use Rattle.record_codec.specs.Tags.{change_tags, byte_of_change}
use Rattle.record_codec.specs.Spelling.{program_spelling, program_if_spelling, entry_spelling, snapshot_spelling, spelling_in, listed, IsColumn, HasProgramSpelling, HasProgramIfSpelling, HasEntrySpelling, AreByName, AreById, HasSnapshotSpelling, keyless_entry, keyless_snapshot, keyless}
use Rattle.record_codec.specs.Formats.{list, columns, extent, program, program_from, new_entry, greatest_id, entry_from, stream, programs, entries, SnapshotParts, snapshot_of, snapshot_parts, IsSnapshot, snapshot, ChangeParts, change_fields, change_made, change_tag, change_node, IsSpelledIn, format_in}
use Rattle.record_codec.proofs.PartLaws.{◌&◌, list_exact, short_fits, short_are, columns_exact, extent_exact, program_exact, program_from_exact, new_entry_exact, entry_from_exact, stream_exact}

-- ---- programs by their names, entries by their ids

abbrev name_of : List ℕ → Program → List ℕ
name_of previous p = p.name

abbrev id_of : ℕ → PlainEntry → ℕ
id_of previous e = e.id

by_name_to : (previous : List ℕ) (items : List Program) → FitsChain program_from name_of previous items → AllByRecursion HasProgramSpelling items × AreByName previous items
by_name_to previous [] fits = (tt, tt)
by_name_to previous (p ∷ items) fits = let more = by_name_to p.name items fits.1 in ((fits.0.0, more.0), (fits.0.1, more.1))

by_name_from : (previous : List ℕ) (items : List Program) → AllByRecursion HasProgramSpelling items × AreByName previous items → FitsChain program_from name_of previous items
by_name_from previous [] are = tt
by_name_from previous (p ∷ items) are = ((are.0.0, are.1.0), by_name_from p.name items (are.0.1, are.1.1))

by_name_spelled : (previous : List ℕ) (items : List Program) → chain_spelling program_from name_of previous items ≡ flat_map program_spelling items
by_name_spelled previous [] = refl
by_name_spelled previous (p ∷ items) = ap (λ (l : List ℕ). program_spelling p ++ l) (by_name_spelled p.name items)

by_id_to : (previous : ℕ) (items : List PlainEntry) → previous < 2 ^ 32 → FitsChain entry_from id_of previous items → (AllByRecursion HasEntrySpelling items × AreById previous items) × (map keyless_entry items ≡ items)
by_id_to previous [] small fits = ((tt, tt), refl)
by_id_to previous (e ∷ items) small fits =
    let more = by_id_to e.id items fits.0.0.0.0 fits.1 in
    let least = fits.0.0.1 in
    (((fits.0.0.0, more.0.0), ((let le : previous ≤ e.id = omega arith in le), more.0.1)), λ i. fits.0.1 i ∷ more.1 i)

first_same : (d : PlainEntry) (x y : PlainEntry) (xs ys : List PlainEntry) → x ∷ xs ≡ y ∷ ys → x ≡ y
first_same d x y xs ys e = cc

others_same : (x y : PlainEntry) (xs ys : List PlainEntry) → x ∷ xs ≡ y ∷ ys → xs ≡ ys
others_same x y xs ys e = cc

by_id_from : (previous : ℕ) (items : List PlainEntry) → AllByRecursion HasEntrySpelling items × AreById previous items → map keyless_entry items ≡ items → FitsChain entry_from id_of previous items
by_id_from previous [] are same = tt
by_id_from previous (e ∷ items) are same =
    let le = are.1.0 in
    (((are.0.0, (let n : min previous greatest_id ≤ e.id = omega arith in n)), first_same e (keyless_entry e) e (map keyless_entry items) items same), by_id_from e.id items (are.0.1, are.1.1) (others_same (keyless_entry e) e (map keyless_entry items) items same))

by_id_spelled : (previous : ℕ) (items : List PlainEntry) → chain_spelling entry_from id_of previous items ≡ flat_map entry_spelling items
by_id_spelled previous [] = refl
by_id_spelled previous (e ∷ items) = ap (λ (l : List ℕ). entry_spelling e ++ l) (by_id_spelled e.id items)

programs_exact : Exact programs
programs_exact = counted_chain_exact program_from name_of program_from_exact u32 u32_exact []

entries_exact : Exact entries
entries_exact = counted_chain_exact entry_from id_of entry_from_exact u32 u32_exact 0

-- ---- a checkpoint

snapshot_to : (f : Form) (p : SnapshotParts) → (snapshot_parts f).Fits p → IsSnapshot f (snapshot_of p) × (snapshot_spelling (snapshot_of p) ≡ (snapshot_parts f).spell p)
snapshot_to f p fits =
    let rest = fits.1.1.1 in
    let by_name = by_name_to [] p.1.1.1.1.0 rest.1.0.1 in
    let by_id = by_id_to 0 p.1.1.1.1.1 (omega arith) rest.1.1.1 in
    let front : List ℕ → List ℕ = λ l. u32.spell p.0 ++ (u64.spell p.1.0 ++ (u64.spell p.1.1.0 ++ ((list (stream f)).spell p.1.1.1.0 ++ l))) in (
      (
        (fits.0, fits.1.0, fits.1.1.0, rest.0, ((rest.1.0.0, by_name.0), by_name.1), ((rest.1.1.0, by_id.0.0), by_id.0.1)),
        λ i. record { tick = p.0; next_file = p.1.0; next_id = p.1.1.0; streams = p.1.1.1.0; programs = p.1.1.1.1.0; entries = by_id.1 i },
      ),
      λ i. front ((to_be_bytes w32 (length p.1.1.1.1.0) ++ sym (by_name_spelled [] p.1.1.1.1.0) i) ++ (to_be_bytes w32 (length p.1.1.1.1.1) ++ sym (by_id_spelled 0 p.1.1.1.1.1) i)),
    )

snapshot_from : (f : Form) (s : Snapshot) → IsSnapshot f s → (p : SnapshotParts) × (snapshot_parts f).Fits p × (snapshot_of p ≡ s)
snapshot_from f s fits =
    let has = fits.0 in (
      (s.tick, (s.next_file, (s.next_id, (s.streams, (s.programs, s.entries))))),
      (has.0, (has.1, (has.2, (has.3, ((has.4.0.0, by_name_from [] s.programs (has.4.0.1, has.4.1)), (has.5.0.0, by_id_from 0 s.entries (has.5.0.1, has.5.1) (ap (λ (t : Snapshot). t.entries) fits.1))))))),
      refl,
    )

snapshot_exact : (f : Form) → Exact (snapshot f)
snapshot_exact f =
    made_exact snapshot_of (IsSnapshot f) snapshot_spelling (snapshot_parts f) (u32_exact & u64_exact & u64_exact & list_exact (stream f) (stream_exact f) & programs_exact & entries_exact)
    (record { to = snapshot_to f; from = snapshot_from f })

-- ---- changes

pub fields_exact : (f : Form) (t : ChangeTag) → Exact (change_fields f t)
fields_exact f tag.Stream = name_exact & columns_exact f
fields_exact f tag.Append = u32_exact & extent_exact
fields_exact f tag.Work = optional_exact program program_exact & list_exact u32 u32_exact & list_exact u32 u32_exact & list_exact new_entry new_entry_exact
fields_exact f tag.Collect = list_exact u32 u32_exact
fields_exact f tag.Checkpoint = snapshot_exact f

tag_exact : (f : Form) → Exact (change_tag f)
tag_exact form.First = table_exact (byte_of_change form.First) (change_tags form.First) (refl, (refl, (refl, (refl, (refl, tt)))))
tag_exact form.Second = table_exact (byte_of_change form.Second) (change_tags form.Second) (refl, (refl, (refl, (refl, (refl, tt)))))

-- each tag is one of every form
tag_there : (f : Form) (t : ChangeTag) → (change_tag f).Fits t
tag_there f tag.Stream = refl
tag_there f tag.Append = refl
tag_there f tag.Work = refl
tag_there f tag.Collect = refl
tag_there form.First tag.Checkpoint = refl
tag_there form.Second tag.Checkpoint = refl

if_spelled : (o : Option Program) → program_if_spelling o ≡ option_spelling program o
if_spelled None = refl
if_spelled (Some p) = refl

if_to : (o : Option Program) → FitsOption program o → HasProgramIfSpelling o
if_to None fits = tt
if_to (Some p) fits = fits

if_from : (o : Option Program) → HasProgramIfSpelling o → FitsOption program o
if_from None fits = tt
if_from (Some p) fits = fits

change_to : (f : Form) (t : ChangeTag) (p : ChangeParts t) → (change_fields f t).Fits p → IsSpelledIn f (change_made t p) × (spelling_in f (change_made t p) ≡ byte_of_change f t ∷ (change_fields f t).spell p)
change_to f tag.Stream p fits = (((fits.0, short_are (IsColumn f) p.1 fits.1), refl), refl)
change_to f tag.Append p fits = (((fits.0, fits.1), refl), refl)
change_to f tag.Work p fits =
    (((if_to p.0 fits.0, fits.1.0, fits.1.1.0, fits.1.1.1), refl), ap (λ (l : List ℕ). 0x03 ∷ (l ++ ((list u32).spell p.1.0 ++ ((list u32).spell p.1.1.0 ++ (list new_entry).spell p.1.1.1)))) (if_spelled p.0))
change_to f tag.Collect p fits = ((fits, refl), refl)
change_to f tag.Checkpoint p fits = ((fits.0, ap (λ (s : Snapshot). change.Checkpoint s) fits.1), refl)

whole_same : (s t : Snapshot) → change.Checkpoint s ≡ change.Checkpoint t → s ≡ t
whole_same s t e = cc

change_from : (f : Form) (c : Change) → IsSpelledIn f c → (p : (t : ChangeTag) × ChangeParts t) × (change_node f).Fits p × (change_made p.0 p.1 ≡ c)
change_from f (change.Stream name columns) fits =
    ((tag.Stream, (name, columns)), (tag_there f tag.Stream, (fits.0.0, short_fits (IsColumn f) columns fits.0.1)), refl)
change_from f (change.Append stream extent) fits = ((tag.Append, (stream, extent)), (tag_there f tag.Append, (fits.0.0, fits.0.1)), refl)
change_from f (change.Work program reads dropped kept) fits =
    ((tag.Work, (program, (reads, (dropped, kept)))), (tag_there f tag.Work, (if_from program fits.0.0, (fits.0.1, (fits.0.2, fits.0.3)))), refl)
change_from f (change.Collect ids) fits = ((tag.Collect, ids), (tag_there f tag.Collect, fits.0), refl)
change_from f (change.Checkpoint whole) fits =
    ((tag.Checkpoint, whole), (tag_there f tag.Checkpoint, (fits.0, whole_same (keyless_snapshot whole) whole fits.1)), refl)

pub change_exact : (f : Form) → Exact (format_in f)
change_exact f =
    made_exact (λ p. change_made p.0 p.1) (IsSpelledIn f) (spelling_in f) (change_node f)
    (both_exact (change_tag f) (change_fields f) (tag_exact f) (λ t fits. fields_exact f t))
    (record { to = λ p fits. change_to f p.0 p.1 fits.1; from = change_from f })
