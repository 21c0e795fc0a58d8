-- The text is the tokens so far, and then those of the rest.
use Rattle.std.proofs.Common.{length}
use Rattle.plan_text.proofs.TokenLemmas.{IsBetween}
use Rattle.plan_text.proofs.tokenizer.tokens_of.Given as goal

abbrev pub invariant-loop-rest : goal.invariant-loop-rest
invariant-loop-rest l = IsBetween l.text l.tokens.items l.rest

abbrev pub decreases-loop-rest : goal.decreases-loop-rest
decreases-loop-rest l = length l.rest
