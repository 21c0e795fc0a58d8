-- The line `collect NUM`. Any number of spaces stands before, between and behind its words.
use Rattle.std.specs.Prelude.{ℕ, ◌^◌, ◌&&◌, nat_lt, if◌then◌else◌, List, Option, Some, None, Ok, Err, option_and_then, decimal, bytes_eq}
use Rattle.std.specs.Str.Parse.{digits_value}
use Rattle.script_text.specs.Words.{only_word}
use Rattle.script_text.specs.Spelled.{Spelled}
use Rattle.script_text.specs.declared.answer.Refusal.TheVariants.{Syntax}
use Rattle.script_text.specs.declared.item.Command.TheVariants.{Collect}

-- the number, where it fits 64 bits and the word is its decimal
abbrev pub number_if : List ℕ → ℕ → Option ℕ
number_if word number = if nat_lt number (2 ^ 64) && bytes_eq word (decimal number) then Some number else None

-- the number whose decimal a word is, which has no leading zeros
unfoldable pub number_of : List ℕ → Option ℕ
number_of word = number_if word (digits_value 10 word)

abbrev pub collect_with : Option ℕ → Spelled
collect_with (Some bytes) = Ok (Collect bytes)
collect_with None = Err Syntax

-- what a line spells that has `NUM` behind its first word
abbrev pub collect_of : List ℕ → Spelled
collect_of text = collect_with (option_and_then number_of (only_word text))
