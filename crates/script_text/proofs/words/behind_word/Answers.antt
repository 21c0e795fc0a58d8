use Rattle.std.proofs.Common.{arith}
use Rattle.std.proofs.lemmas.Grind.{common_steps}
use Rattle.script_text.proofs.WordLemmas.{behind_word-value}
use Rattle.script_text.proofs.words.behind_word.Goals as goal

pub returns-in-Some : goal.returns-in-Some
returns-in-Some c = let value = behind_word-value c.args.word.now c.args.text.now in grind (arith, common_steps)

pub returns-in_default : goal.returns-in_default
returns-in_default c = let value = behind_word-value c.args.word.now c.args.text.now in grind (arith, common_steps)
