-- The first byte of each change, and the byte of each kind, by the form.
use Rattle.std.specs.Prelude.{ℕ, List, [], ◌∷◌}
use Rattle.rows_core.specs.declared.kind.Kind.{Kind}
use Rattle.rows_core.specs.declared.kind.Kind.TheVariants as kind
use Rattle.record_codec.specs.declared.form.Form.{Form}
use Rattle.record_codec.specs.declared.form.Form.TheVariants as form
use Rattle.record_codec.specs.declared.tag.ChangeTag.{ChangeTag}
use Rattle.record_codec.specs.declared.tag.ChangeTag.TheVariants as tag
use Rattle.record_codec.specs.Forms.{checkpoint_byte}

abbrev pub change_tags : Form → List (ℕ × ChangeTag)
change_tags f = (0x01, tag.Stream) ∷ (0x02, tag.Append) ∷ (0x03, tag.Work) ∷ (0x04, tag.Collect) ∷ (checkpoint_byte f, tag.Checkpoint) ∷ []

abbrev pub byte_of_change : Form → ChangeTag → ℕ
byte_of_change f tag.Stream = 0x01
byte_of_change f tag.Append = 0x02
byte_of_change f tag.Work = 0x03
byte_of_change f tag.Collect = 0x04
byte_of_change f tag.Checkpoint = checkpoint_byte f

-- truth values aren't in the first form
abbrev pub truth_row : Form → List (ℕ × Kind)
truth_row form.First = []
truth_row form.Second = (3, kind.Bool) ∷ []

abbrev pub kinds : Form → List (ℕ × Kind)
kinds f = (1, kind.Int) ∷ (2, kind.Text) ∷ truth_row f
