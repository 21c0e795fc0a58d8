use Rattle.std.proofs.Common.{◌≡◌, refl, sym, ap, ◌∙◌, subst, ℕ, ◌+◌, ◌-◌, ◌^◌, min, List, ◌++◌, arith}
use Rattle.std.proofs.lemmas.List.{append-nil}
use Rattle.catalog_core.specs.Catalogs.{table_of}
use Rattle.catalog_core.specs.Programs.{IsProgram}
use Rattle.plan_choice.specs.Leaving.{leaving_out}
use Rattle.work_run.specs.Opened.{opened_rewriting}
use Rattle.job_turns.specs.Jobs.{bytes_read}
use Rattle.job_turns.proofs.Chosen.{fresh-as, spared, suits-as}
use Rattle.job_turns.proofs.OpenJobs.{fresh-more, job-suits}
use Rattle.job_turns.proofs.job.JobWork.chosen_again.Goals as goal

pub typed_copy-requires : goal.typed_copy-requires
typed_copy-requires c = (job-suits (table_of c.args.catalog.now) c.requires.0 c.args.self.now c.requires.1).fit.over.typed

pub fresh-requires-clause-program : goal.fresh-requires-clause-program
fresh-requires-clause-program c = subst (IsProgram (table_of c.args.catalog.now).streams) (sym c.in_ok-program.ensures) c.requires.1.is_open.program

pub fresh-requires-clause-suits : goal.fresh-requires-clause-suits
fresh-requires-clause-suits c =
    let job = c.args.self.now in (
      c.requires.0,
      suits-as (table_of c.args.catalog.now) c.requires.0 job.normal.plan c.in_ok-normal.normal.plan job.work.program c.in_ok-program.program c.in_ok-normal.ensures c.in_ok-program.ensures
          (job-suits (table_of c.args.catalog.now) c.requires.0 job c.requires.1),
    )

pub returns-clause-again : goal.returns-clause-again
returns-clause-again c = λ plan is.
    let t = table_of c.args.catalog.now in
    let job = c.args.self.now in
    let form = job.normal.plan in
    let ids = job.noted.items ++ c.args.dropped.now in
    let out = c.deref-3.ensures.value ∙ c.in_ok-left_out.ensures ∙ ap (λ (l : List ℕ). l ++ c.args.dropped.now) c.deref-2.ensures.value in
    let fresh = fresh-as t _ ids plan c.in_ok-normal.normal.plan form c.in_ok-program.program job.work.program c.in_ok-work.work out c.in_ok-normal.ensures c.in_ok-program.ensures
    (c.in_ok-work.ensures plan (suits-as t plan form c.in_ok-normal.normal.plan job.work.program c.in_ok-program.program c.in_ok-normal.ensures c.in_ok-program.ensures (job-suits t plan job is))) in
    let opened = fresh.is_open in
    let counted : job.work.job.taken ≡ min (bytes_read t job.work) (2 ^ 64 - 1) = is.counted in
    let sum : c.saturating_add.result ≡ min (job.before + c.taken.result) (2 ^ 64 - 1) = c.saturating_add.ensures in
    let told : c.taken.result ≡ job.work.job.taken = c.taken.ensures in
    let before : c.saturating_add.result ≡ min (job.before + bytes_read t job.work) (2 ^ 64 - 1) = omega (arith, counted, sum, told) in
    record {
      form_is = c.in_ok-normal.ensures;
      noted = c.in_ok-noted.ensures ∙ append-nil _ ∙ c.deref.ensures.value;
      fresh = fresh;
      spared = spared job.noted.items c.args.dropped.now t.entries c.in_ok-work.work.used.items
          (c.serving_rewritings.ensures.ids (leaving_out ids t) plan opened.normal c.in_ok-work.work.program.cuts (opened_rewriting c.in_ok-work.work) c.in_ok-work.work.used.items (c.results_are_left_out.ensures.table t ids c.know_table.ensures)
          opened.serves opened.are_cuts opened.used);
      before = before;
    }

pub returns-clause-job : goal.returns-clause-job
returns-clause-job c = λ plan is.
    let t = table_of c.args.catalog.now in
    let job = c.args.self.now in
    let form = job.normal.plan in
    let kept = c.in_ok-noted.ensures ∙ append-nil _ ∙ c.deref.ensures.value in
    let out = c.deref-3.ensures.value ∙ c.in_ok-left_out.ensures ∙ ap (λ (l : List ℕ). l ++ c.args.dropped.now) (c.deref-2.ensures.value ∙ sym kept) in
    let sum : c.saturating_add.result ≡ min (job.before + c.taken.result) (2 ^ 64 - 1) = c.saturating_add.ensures in
    let cut : c.saturating_add.result ≡ min c.saturating_add.result (2 ^ 64 - 1) = omega (arith, sum) in
    fresh-more c.serving_rewritings.ensures.there c.results_are_left_out.ensures.file c.taken_rewritings.ensures.more c.results_are_left_out.ensures.table t c.know_table.ensures plan c.in_ok-normal.normal.plan c.in_ok-program.program _
    c.args.dropped.now refl cut
    (fresh-as t _ (c.in_ok-noted.noted.items ++ c.args.dropped.now) plan c.in_ok-normal.normal.plan c.in_ok-normal.normal.plan c.in_ok-program.program c.in_ok-program.program c.in_ok-work.work out refl refl
    (c.in_ok-work.ensures plan (suits-as t plan form c.in_ok-normal.normal.plan job.work.program c.in_ok-program.program c.in_ok-normal.ensures c.in_ok-program.ensures (job-suits t plan job is))))
