use Rattle.std.proofs.Common.{◌≡◌, length}
use Rattle.script_text.specs.Words.{trimmed}
use Rattle.script_text.proofs.words.trim_start.Given as goal

-- only spaces were passed
abbrev pub invariant-loop-rest : goal.invariant-loop-rest
invariant-loop-rest l = trimmed l.rest ≡ trimmed l.line

abbrev pub decreases-loop-rest : goal.decreases-loop-rest
decreases-loop-rest l = length l.rest
