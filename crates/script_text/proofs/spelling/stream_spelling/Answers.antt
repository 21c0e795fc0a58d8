use Rattle.script_text.proofs.StreamSpelling.{line_command-spelled, SpellsStream-read}
use Rattle.script_text.proofs.spelling.stream_spelling.Goals as goal

pub returns : goal.returns
returns c = λ name columns line. (SpellsStream-read name columns line, line_command-spelled name columns line)
