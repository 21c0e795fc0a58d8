use Rattle.script_text.proofs.JobSpelling.{step-spelled, close-spelled, drop-spelled, SpellsStep-read, SpellsClose-read, SpellsDrop-read}
use Rattle.script_text.proofs.spelling.job_spelling.Goals as goal

pub returns-clause-step : goal.returns-clause-step
returns-clause-step c = λ job line. (SpellsStep-read job line, step-spelled job line)

pub returns-clause-close : goal.returns-clause-close
returns-clause-close c = λ job line. (SpellsClose-read job line, close-spelled job line)

pub returns-clause-drop : goal.returns-clause-drop
returns-clause-drop c = λ job line. (SpellsDrop-read job line, drop-spelled job line)
