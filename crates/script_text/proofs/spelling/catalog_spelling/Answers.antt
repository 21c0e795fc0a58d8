use Rattle.script_text.proofs.KeptSpelling.{catalog-spelled, SpellsCatalog-read}
use Rattle.script_text.proofs.spelling.catalog_spelling.Goals as goal

pub returns : goal.returns
returns c = λ line. (SpellsCatalog-read line, catalog-spelled line)
