use Rattle.std.proofs.Common.{◌≡◌, ◌∙◌, ◌<◌, ℕ, List, Option, IfSome, length, sym, ap, subst, arith}
use Rattle.std.proofs.Math.Path.{transport}
use Rattle.std.specs.List.{remove}
use Rattle.catalog_core.specs.Catalogs.{table_of}
use Rattle.catalog_core.specs.Table.{Table}
use Rattle.folder.specs.Folders.{table_in}
use Rattle.job_table.specs.Jobs.{put_each}
use Rattle.job_table.specs.declared.table.OpenJob.{OpenJob}
use Rattle.job_table.proofs.Putting.{as-many}
use Rattle.job_turns.specs.Jobs.{IsNextWithout}
use Rattle.job_turns.specs.declared.job.JobWork.{JobWork}
use Rattle.row_blob.specs.Kept.{AreEach}
use Rattle.session.specs.Jobs.{OpenJobs, all_but}
use Rattle.session.specs.Standing.{folder_of, jobs_of}
use Rattle.session.proofs.LeavingJobs.{put_left}
use Rattle.session.proofs.Places.{as_many}
use Rattle.session.proofs.session.Session.make_ready.Goals as goal

-- what comes of each job
abbrev AreNext : Table → List ℕ → OpenJobs → List (Option JobWork) → Type 0
AreNext t dropped = AreEach (λ (o : OpenJob JobWork) next. IsNextWithout t dropped o.job next)

-- over the session's own table
own_nexts : (t u : Table) → t ≡ u → (d e : List ℕ) → d ≡ e → (xs ys : OpenJobs) → xs ≡ ys → (nexts : List (Option JobWork)) → AreNext t d xs nexts → AreNext u e ys nexts
own_nexts t u tables d e ids xs ys jobs nexts are = transport (λ i. AreNext (tables i) (ids i) (jobs i) nexts) are

pub put_each-requires : goal.put_each-requires
put_each-requires c =
    let same = as_many (λ (o : OpenJob JobWork) next. IsNextWithout (table_of c.catalog.result.now) c.deref-2.result.now o.job next) c.deref.result.now c.in_ok-nexts.nexts.items c.in_ok-nexts.ensures in
    let jobs = ap length c.deref.ensures.value in
    omega (arith, same, jobs)

pub remove_at-requires : goal.remove_at-requires
remove_at-requires c =
    let jobs = c.args.self.now.jobs.jobs.items in
    let low = subst (λ (k : Option ℕ). IfSome k (λ at. at < length jobs)) c.in-Some.is c.requires.closed in
    let long = ap length c.put_each.ensures ∙ as-many jobs c.in_ok-nexts.nexts.items in
    omega (arith, low, long)

pub returns-in-Some-clause-jobs : goal.returns-in-Some-clause-jobs
returns-in-Some-clause-jobs c =
    let t = table_in (folder_of c.args.self.now) in
    let dropped = c.args.done.now.dropped.items in
    let jobs = jobs_of c.args.self.now in
    let nexts = c.in_ok-nexts.nexts.items in
    let left = put_each jobs nexts in
    record {
      left = left;
      are = put_left t dropped jobs nexts (own_nexts (table_of c.catalog.result.now) t c.catalog.ensures c.deref-2.result.now dropped c.deref-2.ensures.value c.deref.result.now jobs c.deref.ensures.value nexts c.in_ok-nexts.ensures);
      stand = c.remove_at.ensures ∙ ap (λ (opens : OpenJobs). remove opens c.in-Some.at) c.put_each.ensures ∙ sym (ap (λ (k : Option ℕ). all_but k left) c.in-Some.is);
    }

pub returns-in_default-clause-jobs : goal.returns-in_default-clause-jobs
returns-in_default-clause-jobs c =
    let t = table_in (folder_of c.args.self.now) in
    let dropped = c.args.done.now.dropped.items in
    let jobs = jobs_of c.args.self.now in
    let nexts = c.in_ok-nexts.nexts.items in
    let left = put_each jobs nexts in
    record {
      left = left;
      are = put_left t dropped jobs nexts (own_nexts (table_of c.catalog.result.now) t c.catalog.ensures c.deref-2.result.now dropped c.deref-2.ensures.value c.deref.result.now jobs c.deref.ensures.value nexts c.in_ok-nexts.ensures);
      stand = c.put_each.ensures ∙ sym (ap (λ (k : Option ℕ). all_but k left) c.in_default.is);
    }
