-- The digits spell what the value and the rest of them spell.
use Rattle.std.proofs.Common.{◌≡◌, length}
use Rattle.plan_text.specs.Token.{number_behind}
use Rattle.plan_text.proofs.tokenizer.number_behind.Given as goal

abbrev pub invariant-loop-rest : goal.invariant-loop-rest
invariant-loop-rest l = number_behind 0 l.digits ≡ number_behind l.value l.rest

abbrev pub decreases-loop-rest : goal.decreases-loop-rest
decreases-loop-rest l = length l.rest
