use Prim.Native.Nat.{suc}
use Rattle.std.proofs.Common.{length}
use Rattle.plan_text.proofs.TextTokenLaws.{tokens_are, tokens_in-some}
use Rattle.plan_text.proofs.plan_laws.tokens_are_given.Goals as goal

pub returns : goal.returns
returns c text tokens = (tokens_are (suc (length text)) text tokens, tokens_in-some text tokens)
