-- The lines `open JOB NAME = PLAN`, `step JOB`, `close JOB` and `drop JOB`. Any number of spaces stands before, between and behind
-- their parts.
use Rattle.std.specs.Prelude.{ℕ, List, Result}
use Rattle.std.specs.List.{before_first, after_first}
use Rattle.script_text.specs.RunLine.{SpelledRun, named_run}
use Rattle.script_text.specs.Spelled.{Spelled, or_syntax, then_spelled, spelled_by}
use Rattle.script_text.specs.Words.{is_space, trimmed, name_if, only_name}
use Rattle.script_text.specs.declared.answer.Refusal.{Refusal}
use Rattle.script_text.specs.declared.item.Command.{Command}
use Rattle.script_text.specs.declared.item.Command.TheVariants.{OpenJob, Step, Close, DropJob}
use Rattle.script_text.specs.declared.run_line.NamedRun.{NamedRun}

-- the job of which a word is the name
abbrev pub job_if : List ℕ → Result (List ℕ) Refusal
job_if word = or_syntax (name_if word)

-- the job that a text names, which has no other word
abbrev pub job_of : List ℕ → Result (List ℕ) Refusal
job_of text = or_syntax (only_name text)

abbrev pub open_command : List ℕ → NamedRun → Command
open_command job run = OpenJob job run.name run.plan

abbrev pub open_with : SpelledRun → List ℕ → Spelled
open_with run job = spelled_by (open_command job) run

-- what a line spells that has this behind its first word and the spaces there
abbrev pub open_of_words : List ℕ → Spelled
open_of_words text = then_spelled (job_if (before_first is_space text)) (open_with (named_run (after_first is_space text)))

-- what a line spells that has `JOB NAME = PLAN` behind its first word
abbrev pub open_of : List ℕ → Spelled
open_of text = open_of_words (trimmed text)

-- what a line spells that has `JOB` behind its first word
abbrev pub step_of : List ℕ → Spelled
step_of text = spelled_by Step (job_of text)

abbrev pub close_of : List ℕ → Spelled
close_of text = spelled_by Close (job_of text)

abbrev pub drop_of : List ℕ → Spelled
drop_of text = spelled_by DropJob (job_of text)
