use Rattle.folder.specs.State.{table}
use Rattle.plan_choice.specs.Leaving.{leaving_out}
use Rattle.work_run.specs.Opened.{opened_rewriting}
use Rattle.job_turns.proofs.Later.{job-later, later-left}
use Rattle.job_turns.proofs.OpenJobs.{open-whole}
use Rattle.job_turns.proofs.laws.job_work_stays.Goals as goal

pub returns-clause-job : goal.returns-clause-job
returns-clause-job c = λ held t u plan job is_t is_u later are is.
    let noted = job.noted.items in
    let laws = c.serving_rewritings.ensures in
    let left = c.results_are_left_out.ensures in
    let whole = open-whole laws.there left.file c.taken_rewritings.ensures.more t noted (left.table t noted is_t) plan job.work is.is_open in
    job-later held t u is_t is_u later plan job are is whole (laws.there t plan whole.normal job.work.program.cuts (opened_rewriting job.work) is_t whole.serves whole.are_cuts)
    (λ old. c.open_work_stays.ensures.open held (leaving_out noted t) (leaving_out noted u) plan job.work (left.table t noted is_t) (left.table u noted is_u) (later-left held noted t u later) are old)

pub returns-clause-read : goal.returns-clause-read
returns-clause-read c = λ held s u plan job is_s is_u later are is read.
    let noted = job.noted.items in
    let left = c.results_are_left_out.ensures in
    let whole = open-whole c.serving_rewritings.ensures.there left.file c.taken_rewritings.ensures.more (table s) noted (left.table (table s) noted is_s) plan job.work is.is_open in
    c.open_work_stays.ensures.read held s u plan job.work is_s is_u later are whole read
