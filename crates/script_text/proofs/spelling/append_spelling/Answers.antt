use Rattle.script_text.proofs.StreamSpelling.{head_name-spelled, SpellsAppend-read}
use Rattle.script_text.proofs.spelling.append_spelling.Goals as goal

pub returns : goal.returns
returns c = λ name line. (SpellsAppend-read name line, head_name-spelled name line)
