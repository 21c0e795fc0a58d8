use Rattle.script_text.proofs.KeptSpelling.{entries-spelled, SpellsEntries-read}
use Rattle.script_text.proofs.spelling.entries_spelling.Goals as goal

pub returns : goal.returns
returns c = λ line. (SpellsEntries-read line, entries-spelled line)
