-- The forms of changes: by what a log's form is told, and what is of one form alone.
use Rattle.std.specs.Prelude.{ℕ, List, [], ◌∷◌, unwrap_or}
use Rattle.rows_core.specs.declared.kind.Kind.{Kind}
use Rattle.rows_core.specs.declared.kind.Kind.TheVariants as kind
use Rattle.byte_formats.specs.Format.{beside}
use Rattle.record_codec.specs.declared.form.Form.{Form}
use Rattle.record_codec.specs.declared.form.Form.TheVariants as form

-- by the first byte of the first body of a log
abbrev pub told_by : List (ℕ × Form)
told_by = (0x07, form.Second) ∷ []

-- a log without a body is of the first form
abbrev pub form_of : List ℕ → Form
form_of [] = form.First
form_of (b ∷ bytes) = unwrap_or (beside told_by b) form.First

-- the form in which changes are written
abbrev pub newest : Form
newest = form.Second

abbrev pub checkpoint_byte : Form → ℕ
checkpoint_byte form.First = 0x06
checkpoint_byte form.Second = 0x07

-- the kind of a column is one of the form
abbrev pub HasKind : Form → Kind → Type 0
HasKind form.First kind.Int = Unit {0}
HasKind form.First kind.Text = Unit {0}
HasKind form.First kind.Bool = ⊥
HasKind form.Second k = Unit {0}
