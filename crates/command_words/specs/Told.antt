-- What the words of the command line ask for, by clap's own definitions: `fault_of` is empty exactly where the
-- command takes the words, and `matches_of` is what it finds in them.
use Rattle.std.specs.Prelude.{ℕ, Bool, false, not, ◌&&◌, if◌then◌else◌, List, []}
use Rattle.std.specs.Prelude.{Option, Some, None, IfSome, codes, unwrap_or, option_map}
use Rattle.std.specs.Option.{option_map_or}
use Rattle.std.specs.Str.{bytes_eq}
use Rattle.std.specs.Str.Parse.{digits_value, without_leading_plus}
use Rattle.clap.specs.Walk.{Row, Text, first_of, is_empty, one_of}
use Rattle.clap.specs.Simple.{matches_of}
use Rattle.clap.specs.Faults.{fault_of}
use Rattle.clap.specs.Values.{Accepts}
use Rattle.command_words.specs.Command.{nectar_command, number_parser}
use Rattle.command_words.specs.declared.reading.Words.{Words}

pub record Told : Type 0 where
  pub folder : Text
  pub quiet : Bool
  pub generate : Option ℕ

-- the words as they are read
abbrev pub told_of : Words → Told
told_of words = record {
  folder = words.folder.now;
  quiet = words.quiet;
  generate = words.generate;
}

-- FOLDER, empty where there is none
abbrev pub folder_in : List Row → Text
folder_in rows = unwrap_or (first_of (codes "folder") rows) []

-- the flag is set
abbrev pub is_quiet : List Row → Bool
is_quiet rows = option_map_or (λ text. bytes_eq text (codes "true")) (one_of (codes "quiet") rows) false

-- what `--generate` gives, if anything, is a number of 64 bits
abbrev pub HasNumber : List Row → Type 0
HasNumber rows = IfSome (one_of (codes "generate") rows) (Accepts false number_parser)

-- the number that a numeral writes; a plus may stand before it
abbrev pub number_of : Text → ℕ
number_of text = digits_value 10 (without_leading_plus text)

-- what the matches ask for
abbrev pub found_in : List Row → Told
found_in rows = record {
  folder = folder_in rows;
  quiet = is_quiet rows;
  generate = option_map number_of (one_of (codes "generate") rows);
}

-- the folder isn't empty
abbrev pub has_folder : List Row → Bool
has_folder rows = not (is_empty (folder_in rows))

-- what the matches ask for, where they have a folder
abbrev pub found_words : List Row → Option Told
found_words rows = if has_folder rows then Some (found_in rows) else None

-- the command takes the words, and the folder isn't empty
abbrev pub are_accepted : List Text → Bool
are_accepted words =
    is_empty (fault_of nectar_command words) && has_folder (matches_of nectar_command words)

-- what the words ask for, where they are accepted
abbrev pub told : List Text → Option Told
told words =
    if are_accepted words then Some (found_in (matches_of nectar_command words)) else None
