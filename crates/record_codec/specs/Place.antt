-- What a refusal says, and what reading gives.
use Rattle.std.specs.Prelude.{◌≡◌, ℕ, ◌-◌, List, Result, Ok, Err}
use Rattle.byte_formats.specs.Format.{StopsAt}
use Rattle.catalog_types.specs.declared.change.Change.{Change}
use Rattle.record_codec.specs.declared.form.Form.{Form}
use Rattle.record_codec.specs.declared.refusal.ChangeRefusal.{ChangeRefusal}
use Rattle.record_codec.specs.declared.refusal.ChangeRefusal.TheVariants as refusal
use Rattle.record_codec.specs.Spelling.{spelling_in}
use Rattle.record_codec.specs.Formats.{IsSpelledIn, format_in}

-- the bytes spell the change in the form, and its entries have no keys
abbrev pub Spells : Form → Change → List ℕ → Type 0
Spells f change bytes = IsSpelledIn f change × (bytes ≡ spelling_in f change)

abbrev pub IsPlace : Form → List ℕ → ChangeRefusal → Type 0
IsPlace f bytes refusal.Memory = Unit {0}
IsPlace f bytes (refusal.NotChange at) = StopsAt (format_in f) bytes at

abbrev pub Reads : Result Change ChangeRefusal → Result Change ℕ → ℕ → Type 0
Reads (Ok change) read len = read ≡ Ok change
Reads (Err refusal.Memory) read len = Unit {0}
Reads (Err (refusal.NotChange at)) read len = (left : ℕ) × (read ≡ Err left) × (at ≡ len - left)
