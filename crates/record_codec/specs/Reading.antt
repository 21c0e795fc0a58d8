-- What is read behind the first byte of a change.
use Rattle.std.specs.Prelude.{ℕ, List, [], ◌∷◌}
use Rattle.byte_formats.specs.Reading.{Read}
use Rattle.byte_formats.specs.Format.{read_as}
use Rattle.catalog_types.specs.declared.change.Change.{Change}
use Rattle.catalog_types.specs.declared.program.Program.{Program}
use Rattle.record_codec.specs.declared.form.Form.{Form}
use Rattle.record_codec.specs.declared.tag.ChangeTag.{ChangeTag}
use Rattle.record_codec.specs.Formats.{change_fields, change_made}

abbrev pub change_behind : Form → ChangeTag → List ℕ → Read Change
change_behind f tag bytes = read_as (change_made tag) ((change_fields f tag).read bytes)

-- of the programs before, which are the bytes that the next name isn't below
abbrev pub last_name : List Program → List ℕ
last_name [] = []
last_name (p ∷ []) = p.name
last_name (p ∷ q ∷ programs) = last_name (q ∷ programs)
