-- The bytes are the text's so far, and then the rest.
use Rattle.std.proofs.Common.{◌≡◌, length, false}
use Rattle.plan_text.specs.Token.{text_behind}
use Rattle.plan_text.proofs.TokenLemmas.{behind_bytes}
use Rattle.plan_text.proofs.tokenizer.text_behind.Given as goal

abbrev pub invariant-loop-byte : goal.invariant-loop-byte
invariant-loop-byte l = text_behind false l.bytes ≡ behind_bytes l.text.items (text_behind false l.rest)

abbrev pub decreases-loop-byte : goal.decreases-loop-byte
decreases-loop-byte l = length l.rest
