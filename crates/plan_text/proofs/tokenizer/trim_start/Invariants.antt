-- Spaces alone stand before the rest.
use Rattle.std.proofs.Common.{◌≡◌, length}
use Rattle.plan_text.specs.Token.{trimmed}
use Rattle.plan_text.proofs.tokenizer.trim_start.Given as goal

abbrev pub invariant-loop-rest : goal.invariant-loop-rest
invariant-loop-rest l = trimmed l.text ≡ trimmed l.rest

abbrev pub decreases-loop-rest : goal.decreases-loop-rest
decreases-loop-rest l = length l.rest
