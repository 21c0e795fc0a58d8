use Rattle.std.proofs.Common.{ap, ◌∙◌, bytes_eq}
use Rattle.std.specs.List.{find}
use Rattle.plan_text.specs.Token.{word_bytes, word_with}
use Rattle.plan_text.proofs.token.Word.of.Goals as goal

pub returns : goal.returns
unfolding word_with
returns c = c.first_with.ensures ∙ ap (find (λ word. bytes_eq (word_bytes word) c.args.bytes.now)) c.as_slice.ensures
