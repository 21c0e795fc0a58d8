use Rattle.std.proofs.Common.{◌≡◌, ℕ, List, Err, ap, ◌∙◌, inl, inr}
use Rattle.plan_text.specs.declared.limit.PlanLimit.{PlanLimit}
use Rattle.plan_text.specs.Answer.{AsPlan, AsTooLarge}
use Rattle.script_text.specs.Dispatch.{line_command}
use Rattle.script_text.specs.JobLine.{open_with}
use Rattle.script_text.specs.RunLine.{limit_of, run_command}
use Rattle.script_text.specs.Spelled.{spelled_by}
use Rattle.script_text.specs.Spelling.{SpellsTooLarge}
use Rattle.script_text.specs.Words.{trimmed}
use Rattle.script_text.specs.declared.answer.Refusal.TheVariants.{Limit}
use Rattle.script_text.proofs.CommandKinds.{ReadsLimit, reads_limit}
use Rattle.script_text.proofs.JobSpelling.{line_command-open, job_limit_is_read}
use Rattle.script_text.proofs.RunSpelling.{line_command-run, run_of_text-is, plan_is_read, limit_is_read}
use Rattle.script_text.proofs.spelling.run_spelling.Goals as goal

pub returns-clause-run : goal.returns-clause-run
returns-clause-run c = λ name plan line. (
  (λ e. let read = plan_is_read line name plan e in
      let spelled = (c.texts_are_read.ensures.plan read.text plan).0 read.is in
      (read.text, read.spells, spelled.0, spelled.1)),
  (λ spells. line_command-run name spells.0 line spells.1 ∙ ap (spelled_by run_command) (run_of_text-is name spells.0 (AsPlan plan) ((c.texts_are_read.ensures.plan spells.0 plan).1 (spells.2, spells.3)))),
)

pub returns-clause-limit : goal.returns-clause-limit
returns-clause-limit c = λ what line. (
  (λ e. read what line (reads_limit line (limit_of what) e)),
  (λ spells. spelled what line spells),
)
  where
    read : (what : PlanLimit) (line : List ℕ) → ReadsLimit (trimmed line) (limit_of what) → SpellsTooLarge what line
    read what line (inl reads) =
        let large = limit_is_read line what reads in
        inl (large.name, large.reads.text, large.reads.spells, (c.texts_are_read.ensures.large large.reads.text what).0 large.reads.is)
    read what line (inr reads) =
        let large = job_limit_is_read line what reads in
        inr (large.job, large.name, large.reads.text, large.reads.spells, (c.texts_are_read.ensures.large large.reads.text what).0 large.reads.is)

    spelled : (what : PlanLimit) (line : List ℕ) → SpellsTooLarge what line → line_command line ≡ Err (Limit (limit_of what))
    spelled what line (inl spells) =
        line_command-run spells.0 spells.1 line spells.2 ∙ ap (spelled_by run_command) (run_of_text-is spells.0 spells.1 (AsTooLarge what) ((c.texts_are_read.ensures.large spells.1 what).1 spells.3))
    spelled what line (inr spells) =
        line_command-open spells.0 spells.1 spells.2 line spells.3 ∙ ap (λ r. open_with r spells.0) (run_of_text-is spells.1 spells.2 (AsTooLarge what) ((c.texts_are_read.ensures.large spells.2 what).1 spells.4))
