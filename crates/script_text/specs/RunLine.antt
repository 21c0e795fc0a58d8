-- The line `run NAME = PLAN`. Any number of spaces stands before, between and behind its parts.
use Rattle.std.specs.Prelude.{ℕ, List, Option, Some, None, Result, Ok, Err}
use Rattle.plan_text.specs.declared.limit.PlanLimit.{PlanLimit}
use Rattle.plan_text.specs.declared.limit.PlanLimit.TheVariants as plan_limit
use Rattle.plan_text.specs.Answer.{TextReading, AsPlan, AsTooLarge, AsNone, text_reading}
use Rattle.script_text.specs.Words.{only_name}
use Rattle.script_text.specs.StreamLine.{Parts, parts_at}
use Rattle.script_text.specs.Spelled.{Spelled, spelled_by}
use Rattle.script_text.specs.declared.answer.LimitKind.{LimitKind}
use Rattle.script_text.specs.declared.answer.LimitKind.TheVariants.{Nodes, Wide, Expr}
use Rattle.script_text.specs.declared.answer.Refusal.{Refusal}
use Rattle.script_text.specs.declared.answer.Refusal.TheVariants.{Limit, Syntax}
use Rattle.script_text.specs.declared.item.Command.{Command}
use Rattle.script_text.specs.declared.item.Command.TheVariants.{Run}
use Rattle.script_text.specs.declared.run_line.NamedRun.{NamedRun}

-- the limit of a plan as a command's
abbrev pub limit_of : PlanLimit → LimitKind
limit_of plan_limit.Nodes = Nodes
limit_of plan_limit.Wide = Wide
limit_of plan_limit.Exprs = Expr

-- a plan and its name, or why there are none
abbrev pub SpelledRun : Type 0
SpelledRun = Result NamedRun Refusal

-- a name, and a plan of what its text is read as: its grammar comes before its limits
abbrev pub run_with : List ℕ → TextReading → SpelledRun
run_with name (AsPlan plan) = Ok (record { name = name; plan = plan })
run_with name (AsTooLarge what) = Err (Limit (limit_of what))
run_with name AsNone = Err Syntax

-- a name, and the plan that a text spells
unfoldable pub run_of_text : List ℕ → List ℕ → SpelledRun
run_of_text name text = run_with name (text_reading text)

abbrev pub run_named : Option (List ℕ) → List ℕ → SpelledRun
run_named (Some name) text = run_of_text name text
run_named None text = Err Syntax

abbrev pub run_of_parts : Option Parts → SpelledRun
run_of_parts (Some parts) = run_named (only_name parts.before) parts.behind
run_of_parts None = Err Syntax

-- what `NAME = PLAN` spells
abbrev pub named_run : List ℕ → SpelledRun
named_run text = run_of_parts (parts_at 61 text)

abbrev pub run_command : NamedRun → Command
run_command run = Run run.name run.plan

-- what a line spells that has `NAME = PLAN` behind its first word
abbrev pub run_of : List ℕ → Spelled
run_of text = spelled_by run_command (named_run text)
