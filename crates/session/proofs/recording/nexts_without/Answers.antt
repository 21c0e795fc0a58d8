use Rattle.std.proofs.Common.{◌≡◌, ◌∙◌, ◌+◌, ◌++◌, ◌∷◌, [], List, Option, sym, ap, subst, take}
use Rattle.std.proofs.lemmas.List.{take_more}
use Rattle.row_blob.specs.Kept.{AreEach}
use Rattle.catalog_core.specs.Catalogs.{table_of}
use Rattle.job_table.specs.declared.table.OpenJob.{OpenJob}
use Rattle.job_turns.specs.Jobs.{IsNextWithout}
use Rattle.job_turns.specs.declared.job.JobWork.{JobWork}
use Rattle.session.specs.Jobs.{OpenJobs}
use Rattle.session.proofs.Places.{both_more}
use Rattle.session.proofs.recording.nexts_without.Goals as goal

pub loop-opened-preserved : goal.loop-opened-preserved
loop-opened-preserved c =
    let jobs = c.args.jobs.now in
    let i = c.loop-opened.opened-index in
    let P : OpenJob JobWork → Option JobWork → Type 0 = λ opened next. IsNextWithout (table_of c.args.catalog.now) c.args.dropped.now opened.job next in
    let o = c.opened-item.result in
    let more : take (i + 1) jobs ≡ take i jobs ++ o ∷ [] = take_more jobs i o c.loop-opened-test.true ∙ ap (λ (x : OpenJob JobWork). take i jobs ++ x ∷ []) (sym c.opened-item.is) in
    subst (λ (nexts : List (Option JobWork)). AreEach P (take (i + 1) jobs) nexts) (sym c.in_ok-push.ensures.items)
    (subst (λ (opens : OpenJobs). AreEach P opens (c.loop-opened.nexts.items ++ c.in_ok-next_without.field-0 ∷ [])) (sym more)
    (both_more P (take i jobs) c.loop-opened.nexts.items o c.in_ok-next_without.field-0 c.loop-opened.invariant c.in_ok-next_without.ensures))
