-- The parts of changes are exact.
use Rattle.std.proofs.Common.{◌≡◌, ℕ, ◌^◌, ◌<◌, ◌≤◌, min, Bool, true, List, [], ◌∷◌, ◌++◌, length, Option, Some, None, refl, sym, ap, subst, ◌∙◌, arith}
use Rattle.std.specs.Prelude.{IsTrue}
use Rattle.std.specs.Int.{w32, to_be_bytes}
use Rattle.std.specs.List.{flat_map, AllByRecursion}
use Rattle.rows_core.specs.declared.cut.Cut.{Cut}
use Rattle.rows_core.specs.declared.file_ref.Digest.{Digest}
use Rattle.rows_core.specs.declared.kind.Kind.{Kind}
use Rattle.rows_core.specs.declared.kind.Kind.TheVariants as kinds_of
use Rattle.rows_core.specs.declared.schema.Column.{Column}
use Rattle.rows_core.specs.Name.{IsName}
use Rattle.plan_core.specs.PlainPlan.{PlainPlan}
use Rattle.byte_formats.specs.Format.{Format, ◌⊗◌, byte, u32, digest, sized, name, name_spelling, between, counted, symbol, beside}
use Rattle.byte_formats.proofs.Exact.{Exact}
use Rattle.byte_formats.proofs.Laws.{byte_exact, byte_fits, byte_below, u32_exact, made_exact, counted_exact}
use Rattle.byte_formats.proofs.Told.{table_exact, pair_exact, u32_between_exact}
use Rattle.byte_formats.proofs.Parts.{digest_exact, sized_exact}
use Rattle.byte_formats.proofs.Names.{name_exact}
use Rattle.byte_formats.proofs.Within.{measured_exact}
use Rattle.plan_spelling.specs.Spelling.{AreCounted}
use Rattle.plan_spelling.specs.Formats.{plan_format}
use Rattle.plan_spelling.proofs.PlanLaws.{plan_exact}
use Rattle.catalog_types.specs.PlainEntry.{PlainEntry, PlainNewEntry}
use Rattle.catalog_types.specs.declared.extent.Extent.{Extent}
use Rattle.catalog_types.specs.declared.program.Program.{Program}
use Rattle.catalog_types.specs.declared.snapshot.StreamState.{StreamState}
use Rattle.record_codec.specs.declared.form.Form.{Form}
use Rattle.record_codec.specs.declared.form.Form.TheVariants as form
use Rattle.record_codec.specs.Forms.{HasKind}
use Rattle.record_codec.specs.Order.{not_below}
use Rattle.record_codec.specs.Tags.{kinds}
use Rattle.record_codec.specs.Spelling.{byte_of_kind, column_spelling, cut_spelling, extent_spelling, program_spelling, new_entry_spelling, entry_spelling, stream_spelling, IsColumn, IsCut, HasExtentSpelling, HasProgramSpelling, HasNewEntrySpelling, HasEntrySpelling, HasStreamSpelling, kept_of}
use Rattle.record_codec.specs.Formats.{name_from, list, kind, column_of, column, columns, cut_of, cut, cuts, extent_of, extent, ProgramParts, program_of, program_parts, program, IsProgramFrom, program_from, inner_plan, NewEntryParts, new_entry_of, new_entry, EntryParts, entry_of, greatest_id, id_from, entry_parts, IsEntryFrom, entry_from, stream_of, stream}
use Rattle.record_codec.proofs.NameOrder.{name_from_exact, name_reaches}

infixr 20 ◌&◌
pub ◌&◌ : {A B : Type 0} {f : Format A} {g : Format B} → Exact f → Exact g → Exact (f ⊗ g)
◌&◌ {f = f} {g = g} fe ge = pair_exact f g fe ge

pub list_exact : {A : Type 0} (item : Format A) → Exact item → Exact (list item)
list_exact item exact = counted_exact u32 item u32_exact exact

-- ---- a count in one byte

pub short_fits : {A : Type 0} (P : A → Type 0) (items : List A) → AreCounted P items → byte.Fits (length items) × AllByRecursion P items
short_fits P items are = (byte_fits (length items) are.0, are.1)

pub short_are : {A : Type 0} (P : A → Type 0) (items : List A) → byte.Fits (length items) × AllByRecursion P items → AreCounted P items
short_are P items fits = (byte_below (length items) fits.0, fits.1)

-- ---- columns, cuts, extents

kind_exact : (f : Form) → Exact (kind f)
kind_exact form.First = table_exact byte_of_kind (kinds form.First) (refl, (refl, tt))
kind_exact form.Second = table_exact byte_of_kind (kinds form.Second) (refl, (refl, (refl, tt)))

kind_to : (f : Form) (k : Kind) → (kind f).Fits k → HasKind f k
kind_to form.First kinds_of.Int fits = tt
kind_to form.First kinds_of.Text fits = tt
kind_to form.First kinds_of.Bool fits = absurd (cc)
kind_to form.Second k fits = tt

kind_from : (f : Form) (k : Kind) → HasKind f k → (kind f).Fits k
kind_from form.First kinds_of.Int has = refl
kind_from form.First kinds_of.Text has = refl
kind_from form.First kinds_of.Bool has = absurd has
kind_from form.Second kinds_of.Int has = refl
kind_from form.Second kinds_of.Text has = refl
kind_from form.Second kinds_of.Bool has = refl

column_from : (f : Form) (c : Column) → IsColumn f c → (p : List ℕ × Kind) × (name ⊗ kind f).Fits p × (column_of p ≡ c)
column_from f c fits = ((c.name, c.kind), (fits.0, kind_from f c.kind fits.1), refl)

column_exact : (f : Form) → Exact (column f)
column_exact f =
    made_exact column_of (IsColumn f) column_spelling (name ⊗ kind f) (name_exact & kind_exact f)
    (record { to = λ p fits. ((fits.0, kind_to f p.1 fits.1), refl); from = column_from f })

pub columns_exact : (f : Form) → Exact (columns f)
columns_exact f = counted_exact byte (column f) byte_exact (column_exact f)

cut_from : (c : Cut) → IsCut c → (p : ℕ × ℕ) × (u32 ⊗ u32).Fits p × (cut_of p ≡ c)
cut_from c fits = ((c.from, c.to), (fits.0, fits.1), refl)

cut_exact : Exact cut
cut_exact =
    made_exact cut_of IsCut cut_spelling (u32 ⊗ u32) (u32_exact & u32_exact)
    (record { to = λ p fits. ((fits.0, fits.1), refl); from = cut_from })

pub cuts_exact : Exact cuts
cuts_exact = counted_exact byte cut byte_exact cut_exact

extent_from : (e : Extent) → HasExtentSpelling e → (p : ℕ × (ℕ × (ℕ × Digest))) × (u32 ⊗ u32 ⊗ u32 ⊗ digest).Fits p × (extent_of p ≡ e)
extent_from e fits = ((e.file.file, (e.rows, (e.file.len, e.file.digest))), (fits.0.0, (fits.1, (fits.0.1, fits.0.2))), refl)

pub extent_exact : Exact extent
extent_exact =
    made_exact extent_of HasExtentSpelling extent_spelling (u32 ⊗ u32 ⊗ u32 ⊗ digest) (u32_exact & u32_exact & u32_exact & digest_exact)
    (record { to = λ p fits. (((fits.0, fits.1.1.0, fits.1.1.1), fits.1.0), refl); from = extent_from })

-- ---- programs

program_from_parts : (p : Program) → HasProgramSpelling p → (q : ProgramParts) × (program_parts name).Fits q × (program_of q ≡ p)
program_from_parts p fits = ((p.name, (p.text, p.cuts)), (fits.0, (fits.1, short_fits IsCut p.cuts fits.2)), refl)

pub program_exact : Exact program
program_exact =
    made_exact program_of HasProgramSpelling program_spelling (program_parts name) (name_exact & sized_exact & cuts_exact)
    (record { to = λ p fits. ((fits.0, fits.1.0, short_are IsCut p.1.1 fits.1.1), refl); from = program_from_parts })

later_to : (previous : List ℕ) (p : ProgramParts) → (program_parts (name_from previous)).Fits p → IsProgramFrom previous (program_of p)
later_to previous p fits = ((fits.0.0, fits.1.0, short_are IsCut p.1.1 fits.1.1), sym (name_reaches previous p.0 fits.0.0) ∙ fits.0.1)

later_from : (previous : List ℕ) (p : Program) → IsProgramFrom previous p → (q : ProgramParts) × (program_parts (name_from previous)).Fits q × (program_of q ≡ p)
later_from previous p fits =
    ((p.name, (p.text, p.cuts)), ((fits.0.0, name_reaches previous p.name fits.0.0 ∙ fits.1), (fits.0.1, short_fits IsCut p.cuts fits.0.2)), refl)

pub program_from_exact : (previous : List ℕ) → Exact (program_from previous)
program_from_exact previous =
    made_exact program_of (IsProgramFrom previous) program_spelling (program_parts (name_from previous))
    (name_from_exact previous & sized_exact & cuts_exact)
    (record { to = λ p fits. (later_to previous p fits, refl); from = later_from previous })

-- ---- entries

pub inner_plan_exact : Exact inner_plan
inner_plan_exact = measured_exact (plan_format 1024) (plan_exact 1024)

new_from : (e : PlainNewEntry) → HasNewEntrySpelling e → (p : NewEntryParts) × (inner_plan ⊗ cuts ⊗ u32 ⊗ u32 ⊗ digest ⊗ u32).Fits p × (new_entry_of p ≡ e)
new_from e fits =
    ((e.plan, (e.cuts, (e.file.file, (e.file.len, (e.file.digest, e.machine))))), (fits.0, (short_fits IsCut e.cuts fits.1, (fits.2.0, (fits.2.1, (fits.2.2, fits.3))))), refl)

new_to : (p : NewEntryParts) → (inner_plan ⊗ cuts ⊗ u32 ⊗ u32 ⊗ digest ⊗ u32).Fits p → HasNewEntrySpelling (new_entry_of p)
new_to p fits = (fits.0, short_are IsCut p.1.0 fits.1.0, (fits.1.1.0, fits.1.1.1.0, fits.1.1.1.1.0), fits.1.1.1.1.1)

pub new_entry_exact : Exact new_entry
new_entry_exact =
    made_exact new_entry_of HasNewEntrySpelling new_entry_spelling (inner_plan ⊗ cuts ⊗ u32 ⊗ u32 ⊗ digest ⊗ u32)
    (inner_plan_exact & cuts_exact & u32_exact & u32_exact & digest_exact & u32_exact)
    (record { to = λ p fits. (new_to p fits, refl); from = new_from })

id_exact : (previous : ℕ) → Exact (id_from previous)
id_exact previous = u32_between_exact (min previous greatest_id) greatest_id (omega arith) (omega arith)

entry_to : (previous : ℕ) (p : EntryParts) → (entry_parts previous).Fits p → IsEntryFrom previous (entry_of p)
entry_to previous p fits =
    let few = fits.0.1 in
    ((((let n : p.0 < 2 ^ 32 = omega arith in n), fits.1.0, fits.1.1.0, fits.1.1.1.0, fits.1.1.1.1), fits.0.0), refl)

entry_from_parts : (previous : ℕ) (e : PlainEntry) → IsEntryFrom previous e → (p : EntryParts) × (entry_parts previous).Fits p × (entry_of p ≡ e)
entry_from_parts previous e fits =
    let has = fits.0.0 in
    let id = has.0 in
    ((e.id, (kept_of e, (e.uses, (e.last, e.made)))), ((fits.0.1, (let n : e.id ≤ greatest_id = omega arith in n)), (has.1, (has.2, (has.3, has.4)))), fits.1)

pub entry_from_exact : (previous : ℕ) → Exact (entry_from previous)
entry_from_exact previous =
    made_exact entry_of (IsEntryFrom previous) entry_spelling (entry_parts previous) (id_exact previous & new_entry_exact & u32_exact & u32_exact & u32_exact)
    (record { to = λ p fits. (entry_to previous p fits, refl); from = entry_from_parts previous })

-- ---- streams

stream_from : (f : Form) (s : StreamState) → HasStreamSpelling f s → (p : List ℕ × (List Column × List Extent)) × (name ⊗ columns f ⊗ list extent).Fits p × (stream_of p ≡ s)
stream_from f s fits = ((s.name, (s.columns, s.extents)), (fits.0, (short_fits (IsColumn f) s.columns fits.1, fits.2)), refl)

pub stream_exact : (f : Form) → Exact (stream f)
stream_exact f =
    made_exact stream_of (HasStreamSpelling f) stream_spelling (name ⊗ columns f ⊗ list extent) (name_exact & columns_exact f & list_exact extent extent_exact)
    (record { to = λ p fits. ((fits.0, short_are (IsColumn f) p.1.0 fits.1.0, fits.1.1), refl); from = stream_from f })
