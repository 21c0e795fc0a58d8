-- The lines `fetch NAME` and `fetch NAME as-run`. Any number of spaces stands before, between and behind their words.
use Rattle.std.specs.Prelude.{ℕ, Bool, true, false, if◌then◌else◌, List, [], ◌∷◌, Option, Some, None, Ok, Err, option_and_then, codes, bytes_eq}
use Rattle.std.specs.List.{before_first, after_first}
use Rattle.script_text.specs.Words.{is_space, trimmed, only_word, name_if}
use Rattle.script_text.specs.Spelled.{Spelled}
use Rattle.script_text.specs.declared.answer.Refusal.TheVariants.{Syntax}
use Rattle.script_text.specs.declared.item.Command.TheVariants.{Fetch}

-- whether the one word behind the name asks for the last run: where there is none it doesn't, and `as-run` does
abbrev pub as_run_if : List ℕ → Option Bool
as_run_if [] = Some false
as_run_if (c ∷ cs) = if bytes_eq (c ∷ cs) (codes "as-run") then Some true else None

abbrev pub as_run_of : List ℕ → Option Bool
as_run_of text = option_and_then as_run_if (only_word text)

abbrev pub fetch_with : Option (List ℕ) → Option Bool → Spelled
fetch_with (Some name) (Some as_run) = Ok (Fetch name as_run)
fetch_with (Some name) None = Err Syntax
fetch_with None as_run = Err Syntax

-- what a line spells that has this behind its first word and the spaces there
abbrev pub fetch_of_words : List ℕ → Spelled
fetch_of_words text = fetch_with (name_if (before_first is_space text)) (as_run_of (after_first is_space text))

-- what a line spells that has `NAME` or `NAME as-run` behind its first word
abbrev pub fetch_of : List ℕ → Spelled
fetch_of text = fetch_of_words (trimmed text)
