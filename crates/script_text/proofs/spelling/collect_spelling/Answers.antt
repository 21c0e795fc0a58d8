use Rattle.script_text.proofs.KeptSpelling.{collect-spelled, SpellsCollect-read}
use Rattle.script_text.proofs.spelling.collect_spelling.Goals as goal

pub returns : goal.returns
returns c = λ bytes line. (SpellsCollect-read bytes line, collect-spelled bytes line)
