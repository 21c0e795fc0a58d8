use Rattle.std.proofs.Common.{ap, ◌∙◌}
use Rattle.plan_text.specs.Answer.{AsPlan}
use Rattle.script_text.specs.JobLine.{open_with}
use Rattle.script_text.proofs.JobSpelling.{line_command-open, job_plan_is_read}
use Rattle.script_text.proofs.RunSpelling.{run_of_text-is}
use Rattle.script_text.proofs.spelling.open_spelling.Goals as goal

pub returns : goal.returns
returns c = λ job name plan line. (
  (λ e. let read = job_plan_is_read line job name plan e in
      let spelled = (c.texts_are_read.ensures.plan read.text plan).0 read.is in
      (read.text, read.spells, spelled.0, spelled.1)),
  (λ spells. line_command-open job name spells.0 line spells.1 ∙ ap (λ r. open_with r job) (run_of_text-is name spells.0 (AsPlan plan) ((c.texts_are_read.ensures.plan spells.0 plan).1 (spells.2, spells.3)))),
)
