use Rattle.script_text.proofs.KeptSpelling.{fetch-spelled, fetch_as_run-spelled, SpellsFetch-read, SpellsFetchAsRun-read}
use Rattle.script_text.proofs.spelling.fetch_spelling.Goals as goal

pub returns-clause-present : goal.returns-clause-present
returns-clause-present c = λ name line. (SpellsFetch-read name line, fetch-spelled name line)

pub returns-clause-as_run : goal.returns-clause-as_run
returns-clause-as_run c = λ name line. (SpellsFetchAsRun-read name line, fetch_as_run-spelled name line)
