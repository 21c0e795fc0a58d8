-- What a command's line spells, by its first word.
use Rattle.std.specs.Prelude.{ℕ, List, Option, Some, None, Err, codes}
use Rattle.script_text.specs.Words.{trimmed, behind_word}
use Rattle.script_text.specs.StreamLine.{stream_of}
use Rattle.script_text.specs.RunLine.{run_of}
use Rattle.script_text.specs.FetchLine.{fetch_of}
use Rattle.script_text.specs.CollectLine.{collect_of}
use Rattle.script_text.specs.ListLine.{entries_of, catalog_of}
use Rattle.script_text.specs.JobLine.{open_of, step_of, close_of, drop_of}
use Rattle.script_text.specs.Spelled.{Spelled, or_syntax}
use Rattle.script_text.specs.declared.answer.Refusal.TheVariants.{Syntax}

-- what stands behind the first word, as that word's command; or else what the line spells by another first word
abbrev pub behind_or : Option (List ℕ) → (List ℕ → Spelled) → Spelled → Spelled
behind_or (Some rest) command other = command rest
behind_or None command other = other

-- what stands behind `stream`
abbrev pub stream_command : List ℕ → Spelled
stream_command rest = or_syntax (stream_of rest)

-- what a line spells that is of a job
abbrev pub job_command : List ℕ → Spelled
job_command text =
    behind_or (behind_word (codes "open") text) open_of
    (behind_or (behind_word (codes "step") text) step_of
    (behind_or (behind_word (codes "close") text) close_of
    (behind_or (behind_word (codes "drop") text) drop_of (Err Syntax))))

-- what a line spells that asks for what is kept, rows, room or a list, or that is of a job
abbrev pub kept_command : List ℕ → Spelled
kept_command text =
    behind_or (behind_word (codes "fetch") text) fetch_of
    (behind_or (behind_word (codes "collect") text) collect_of
    (behind_or (behind_word (codes "entries") text) entries_of
    (behind_or (behind_word (codes "catalog") text) catalog_of (job_command text))))

-- what a line spells that has no spaces at its front
abbrev pub command_of : List ℕ → Spelled
command_of text = behind_or (behind_word (codes "stream") text) stream_command (behind_or (behind_word (codes "run") text) run_of (kept_command text))

-- what the line spells
abbrev pub line_command : List ℕ → Spelled
line_command line = command_of (trimmed line)
