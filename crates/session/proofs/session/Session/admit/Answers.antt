use Rattle.std.proofs.Common.{inl, inr, refl, ap, ◌∙◌}
use Rattle.script_text.specs.declared.answer.Answer.{Answer}
use Rattle.script_text.specs.declared.answer.Answer.TheVariants as answer
use Rattle.session.specs.Jobs.{OpenJobs}
use Rattle.session.specs.Standing.{jobs_of}
use Rattle.session.specs.declared.session.Session.{Session}
use Rattle.session.proofs.session.Session.admit.Goals as goal
use Rattle.session.proofs.session.Session.admit.Goals.{in-Ok, in-Err}

abbrev jobs_after : Session × Answer → OpenJobs
jobs_after next = jobs_of next.0

abbrev answer_of : Session × Answer → Answer
answer_of next = next.1

pub returns-clause-admitted : goal.returns-clause-admitted
returns-clause-admitted c = elim c.match-admit.branch [
  | in-Ok w ↦ inl (record {
    added = record { name = c.args.name; job = c.args.work };
    name_is = refl;
    job_is = refl;
    behind = ap jobs_after w.result-is ∙ w.in-Ok.ensures.admitted;
    told = ap answer_of w.result-is ∙ ap answer.Ready c.left-steps.ensures;
  })
  | in-Err w ↦ inr (ap answer_of w.result-is, ap jobs_after w.result-is ∙ w.in-Err.ensures.refused)
]
