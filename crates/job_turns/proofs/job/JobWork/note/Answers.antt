use Rattle.std.proofs.Common.{◌≡◌, refl, sym, ap, ◌∙◌, subst, ℕ, ◌+◌, ◌-◌, ◌^◌, min, List, [], ◌∷◌, ◌++◌, arith}
use Rattle.catalog_core.specs.Catalogs.{table_of}
use Rattle.catalog_core.specs.Programs.{IsProgram}
use Rattle.job_turns.specs.Jobs.{bytes_read}
use Rattle.job_turns.proofs.Chosen.{fresh-as, suits-as}
use Rattle.job_turns.proofs.OpenJobs.{fresh-job, job-suits}
use Rattle.job_turns.proofs.job.JobWork.note.Goals as goal

pub fresh-requires-clause-program : goal.fresh-requires-clause-program
fresh-requires-clause-program c = subst (IsProgram (table_of c.args.catalog.now).streams) (sym c.in_ok-program.ensures) c.requires.1.is_open.program

pub fresh-requires-clause-suits : goal.fresh-requires-clause-suits
fresh-requires-clause-suits c =
    let t = table_of c.args.catalog.now in
    let job = c.args.self.now in
    (c.requires.0, suits-as t c.requires.0 job.normal.plan job.normal.plan job.work.program c.in_ok-program.program refl c.in_ok-program.ensures (job-suits t c.requires.0 job c.requires.1))

pub returns-clause-notes : goal.returns-clause-notes
returns-clause-notes c = λ plan is.
    let t = table_of c.args.catalog.now in
    let job = c.args.self.now in
    let form = job.normal.plan in
    let counted : job.work.job.taken ≡ min (bytes_read t job.work) (2 ^ 64 - 1) = is.counted in
    let told : c.taken.result ≡ job.work.job.taken = c.taken.ensures in
    let first : c.saturating_add-counted.result ≡ min (job.before + c.taken.result) (2 ^ 64 - 1) = c.saturating_add-counted.ensures in
    let second : c.saturating_add-self.result ≡ min (c.saturating_add-counted.result + c.args.given) (2 ^ 64 - 1) = c.saturating_add-self.ensures in
    let sum : c.saturating_add-self.result ≡ min (job.before + bytes_read t job.work + c.args.given) (2 ^ 64 - 1) = omega (arith, counted, told, first, second) in
    record {
      normal = refl;
      noted = c.in_ok-noted.ensures ∙ ap (λ (l : List ℕ). l ++ c.args.id ∷ []) c.deref.ensures.value;
      fresh = fresh-as t _ c.in_ok-noted.noted.items plan form form c.in_ok-program.program job.work.program c.in_ok-work.work c.deref-2.ensures.value refl c.in_ok-program.ensures
          (c.in_ok-work.ensures plan (suits-as t plan form form job.work.program c.in_ok-program.program refl c.in_ok-program.ensures (job-suits t plan job is)));
      before = sum;
    }

pub returns-clause-job : goal.returns-clause-job
returns-clause-job c = λ plan is.
    let t = table_of c.args.catalog.now in
    let job = c.args.self.now in
    let form = job.normal.plan in
    let last : c.saturating_add-self.result ≡ min (c.saturating_add-counted.result + c.args.given) (2 ^ 64 - 1) = c.saturating_add-self.ensures in
    let cut : c.saturating_add-self.result ≡ min c.saturating_add-self.result (2 ^ 64 - 1) = omega (arith, last) in
    fresh-job t plan form c.in_ok-program.program _ _ (sym c.deref-2.ensures.value) refl cut
    (c.in_ok-work.ensures plan (suits-as t plan form form job.work.program c.in_ok-program.program refl c.in_ok-program.ensures (job-suits t plan job is)))
