-- The lines `entries` and `catalog`: a word alone, with any number of spaces before and behind it.
use Rattle.std.specs.Prelude.{ℕ, if◌then◌else◌, List, Ok, Err}
use Rattle.script_text.specs.Words.{is_blank}
use Rattle.script_text.specs.Spelled.{Spelled}
use Rattle.script_text.specs.declared.answer.Refusal.TheVariants.{Syntax}
use Rattle.script_text.specs.declared.item.Command.{Command}
use Rattle.script_text.specs.declared.item.Command.TheVariants.{Entries, Catalog}

-- what a line spells that has nothing but spaces behind this command's word
abbrev pub alone : Command → List ℕ → Spelled
alone command text = if is_blank text then Ok command else Err Syntax

abbrev pub entries_of : List ℕ → Spelled
entries_of text = alone Entries text

abbrev pub catalog_of : List ℕ → Spelled
catalog_of text = alone Catalog text
