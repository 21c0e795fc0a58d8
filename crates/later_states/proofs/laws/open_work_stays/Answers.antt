use Rattle.std.proofs.Common.{subst}
use Rattle.std.specs.List.{AllByRecursion}
use Rattle.growth_laws.specs.Pieces.{pieces_of}
use Rattle.plan_core.specs.PlainPlan.{leaves}
use Rattle.folder.specs.State.{table}
use Rattle.work_run.specs.Opened.{opened_rewriting}
use Rattle.later_states.proofs.Kept.{StaysFile}
use Rattle.later_states.proofs.Opened.{names-stay, open-stays}
use Rattle.later_states.proofs.StillRead.{all-read}
use Rattle.later_states.proofs.Rows.{rows-grow, lists-stay}
use Rattle.later_states.proofs.laws.open_work_stays.Goals as goal

pub returns-clause-open : goal.returns-clause-open
returns-clause-open c = λ held t u plan work is_t is_u later are old.
    let there = c.serving_rewritings.ensures.there t plan old.normal work.program.cuts (opened_rewriting work) is_t old.serves old.are_cuts in
    open-stays held t plan work old are there u is_t is_u later

pub returns-clause-read : goal.returns-clause-read
returns-clause-read c = λ held s u plan work is_s is_u later are is read.
    let r = opened_rewriting work in
    let there = c.serving_rewritings.ensures.there (table s) plan is.normal work.program.cuts r is_s is.serves is.are_cuts in
    let formed = c.serving_rewritings.ensures.formed (table s) plan is.normal work.program.cuts r is_s is.serves in
    let stay = subst (AllByRecursion (StaysFile held (table s))) (c.files_of_pieces.ensures.rewriting is.normal work.program.cuts r formed) (names-stay held (table s) plan work is are there) in
    all-read held s u is_s is_u later (pieces_of r) work.job.parts.items stay is.parts read

pub returns-clause-rows : goal.returns-clause-rows
returns-clause-rows c = λ held s u plan cuts later are. lists-stay s.streams u.streams (rows-grow s.streams u.streams later.rows) (leaves plan) cuts are
