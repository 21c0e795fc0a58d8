use Rattle.std.proofs.Common.{◌≡◌, ◌≢◌, ◌⊎◌, refl, rules, sym, ap, subst, inl, ℕ, [], ◌∷◌, ◌++◌, Some, Err, arith}
use Rattle.outside_traits.specs.Calls.{CountsTaken}
use Rattle.extent_files.specs.declared.read_refusal.ReadRefusal.TheVariants as read
use Rattle.rewrite_core.specs.Files.{Result, files_of}
use Rattle.rewrite_core.specs.PlainRewriting.{rewriting_of}
use Rattle.growth_laws.specs.Pieces.{pieces_of}
use Rattle.catalog_core.specs.Catalogs.{table_of}
use Rattle.catalog_core.specs.Named.{HasFile, file_at}
use Rattle.catalog_core.specs.Programs.{kinds_of_streams}
use Rattle.executor.specs.Progress.{left_in, next_shape}
use Rattle.executor.proofs.NextParts.{some_first}
use Rattle.executor.proofs.RestEnds.{refused_most}
use Rattle.executor.proofs.RestShapes.{has_next}
use Rattle.executor.proofs.RestSteps.{rest_there}
use Rattle.executor.proofs.RunEnds.{read_cause, read_found}
use Rattle.work_run.specs.Ends.{sources_of}
use Rattle.work_run.specs.Opened.{files_left, opened_rewriting}
use Rattle.work_run.proofs.OpenSteps.{one-more}
use Rattle.work_run.proofs.Rooted.{open_root}
use Rattle.work_run.proofs.Stepped.{has-read, has-taken, step-ends, step-found}
use Rattle.work_run.proofs.Worked.{FileLaws, unread}
use Rattle.job_turns.specs.Jobs.{IsJob}
use Rattle.job_turns.specs.Steps.{IsAsBefore, IsNotLost, given_of}
use Rattle.job_turns.proofs.Chains.{goes-noted, goes-one}
use Rattle.job_turns.proofs.OpenJobs.{counted-on, job-as-before, job-goes-on, open-whole, read_by, still-as}
use Rattle.job_turns.proofs.Reading.{halts-step}
use Rattle.job_turns.proofs.Losses.{loss-counts, loss-few, loss-looks, loss-shows, notes-back}
use Rattle.job_turns.proofs.job.JobWork.step.Goals as goal

-- ---- what reading asks

pub read_next-requires-clause-there : goal.read_next-requires-clause-there
read_next-requires-clause-there g c =
    let t = table_of c.args.catalog.now in
    let job = c.args.self.now in
    let q = c.requires.job in
    let left = c.results_are_left_out.ensures in
    let whole = open-whole c.serving_rewritings.ensures.there left.file c.taken_rewritings.ensures.more t job.noted.items (left.table t job.noted.items c.know_table.ensures) q.0 job.work q.1.is_open in
    let r = opened_rewriting job.work in
    rest_there (HasFile t) (files_of r) whole.names (files_left job.work) whole.rest (c.serving_rewritings.ensures.there t q.0 whole.normal job.work.program.cuts r c.know_table.ensures whole.serves whole.are_cuts)

pub read_next-requires-clause-parts : goal.read_next-requires-clause-parts
read_next-requires-clause-parts g c =
    (pieces_of (opened_rewriting c.args.self.now.work), c.requires.job.1.is_open.parts)

-- ---- it was read

pub returns-in-Ok-clause-job : goal.returns-in-Ok-clause-job
returns-in-Ok-clause-job g c =
    λ plan is.
    let t = table_of c.args.catalog.now in
    let job = c.args.self.now in
    let r = opened_rewriting job.work in
    let new = read_by c.read_next.new.job job in
    let next = c.in-Ok.ensures.next in
    job-goes-on t plan job new is (record { program = refl; rewriting = c.in-Ok.ensures.rewriting; used = refl; read = refl }) refl refl refl (c.in-Ok.ensures.parts (pieces_of r) is.is_open.parts)
    (is.is_open.names ++ next.0 ∷ []) (one-more (files_of r) is.is_open.names next.0 (files_left job.work) (files_left new.work) is.is_open.rest next.1)
    (counted-on t plan job new is (ap rewriting_of c.in-Ok.ensures.rewriting) next.0 next.1 (c.in-Ok.ensures.counted next.0 (files_left new.work) next.1))

pub returns-in-Ok-clause-step : goal.returns-in-Ok-clause-step
returns-in-Ok-clause-step g c =
    λ plan is. record { name = c.in-Ok.ensures.next.0; next = c.in-Ok.ensures.next.1; same = record { program = refl; rewriting = c.in-Ok.ensures.rewriting; used = refl; read = refl }; normal = refl; noted = refl; before = refl }

pub returns-in-Ok-clause-reads : goal.returns-in-Ok-clause-reads
returns-in-Ok-clause-reads g c =
    λ plan is.
    let t = table_of c.args.catalog.now in
    let job = c.args.self.now in
    let left = c.results_are_left_out.ensures in
    let whole = open-whole c.serving_rewritings.ensures.there left.file c.taken_rewritings.ensures.more t job.noted.items (left.table t job.noted.items c.know_table.ensures) plan job.work is.is_open in
    let laws : FileLaws = record {
      found = c.kept_results_of_tables.ensures.found;
      extents = c.files_of_states.ensures.extents;
      results = c.files_of_states.ensures.results;
      formed = c.serving_rewritings.ensures.formed;
      pieces = c.serving_rewritings.ensures.pieces;
      there = c.serving_rewritings.ensures.there;
      typed = c.pieces_of_typed_rewritings.ensures;
    } in
    let next = c.in-Ok.ensures.next in
    record {
      on = goes-one g.D.Store.tells t plan job _ is (record { name = c.in-Ok.ensures.next.0; next = c.in-Ok.ensures.next.1; same = record { program = refl; rewriting = c.in-Ok.ensures.rewriting; used = refl; read = refl }; normal = refl; noted = refl; before = refl });
      most = λ told. c.in-Ok.ensures.most next.0 _ next.1 told;
      over = λ told care s stands means has.
          let files = (g.D.Store.view c.args.store.now).files in
          let first = g.D.Store.counts c.args.store.now in
          let last = g.D.Store.counts c.read_next.new.store in (
            has-read t plan job.work whole next.0 _ next.1 laws care files s stands.read means c.know_table.ensures g.D.Store.tells told (record { program = job.work.program; job = c.read_next.new.job; used = job.work.used; read = job.work.read }) (record { program = refl; rewriting = c.in-Ok.ensures.rewriting; used = refl; read = refl }) first last c.in-Ok.ensures.read has,
            tt,
            inl (has-taken t plan job.work whole next.0 _ next.1 laws care files s stands.read means c.know_table.ensures g.D.Store.tells told (record { program = job.work.program; job = c.read_next.new.job; used = job.work.used; read = job.work.read }) (record { program = refl; rewriting = c.in-Ok.ensures.rewriting; used = refl; read = refl }) first last c.in-Ok.ensures.read has),
          );
      no_fault = c.in-Ok.ensures.no_fault;
    }

-- ---- what noting asks

pub note_next-requires-clause-left : goal.note_next-requires-clause-left
note_next-requires-clause-left g c =
    subst (λ parts. left_in parts ≢ []) (sym c.in-Err.ensures.refused) c.requires.left

pub note_next-requires-clause-job : goal.note_next-requires-clause-job
note_next-requires-clause-job g c =
    let job = c.args.self.now in
    let half = read_by c.read_next.new.job job in
    let still = still-as job c.read_next.new.job c.in-Err.ensures.rewriting c.in-Err.ensures.refused c.in-Err.ensures.uncounted in
    (c.requires.job.0, job-as-before (table_of c.args.catalog.now) c.requires.job.0 job half c.requires.job.1 still)

-- ---- a result was noted

pub returns-in_ok-id-in-Err-clause-job : goal.returns-in_ok-id-in-Err-clause-job
returns-in_ok-id-in-Err-clause-job g c =
    λ plan is.
    let job = c.args.self.now in
    let half = read_by c.read_next.new.job job in
    let still = still-as job c.read_next.new.job c.in-Err.ensures.rewriting c.in-Err.ensures.refused c.in-Err.ensures.uncounted in
    c.in_ok-id-in-Err.ensures.job plan (job-as-before (table_of c.args.catalog.now) plan job half is still)

pub returns-in_ok-id-in-Err-clause-step : goal.returns-in_ok-id-in-Err-clause-step
returns-in_ok-id-in-Err-clause-step g c =
    λ plan is.
    let t = table_of c.args.catalog.now in
    let job = c.args.self.now in
    let left = c.results_are_left_out.ensures in
    let whole = open-whole c.serving_rewritings.ensures.there left.file c.taken_rewritings.ensures.more t job.noted.items (left.table t job.noted.items c.know_table.ensures) plan job.work is.is_open in
    let r = opened_rewriting job.work in
    let kinds = kinds_of_streams t.streams in
    let files = (g.D.Store.view c.args.store.now).files in
    let first = g.D.Store.counts c.args.store.now in
    let last = g.D.Store.counts c.read_next.new.store in
    let half = read_by c.read_next.new.job job in
    let still = still-as job c.read_next.new.job c.in-Err.ensures.rewriting c.in-Err.ensures.refused c.in-Err.ensures.uncounted in
    let id = c.in_ok-id-in-Err.id in
    let lost = c.in_ok-id-in-Err.ensures.notes in
    let notes = notes-back t plan id lost.0 job half c.note_next.new.self still (lost.2 plan (job-as-before t plan job half is still)) in
    let shown = has_next kinds (pieces_of r) job.work.job.parts.items (Result id) notes.others whole.parts notes.next in
    let cause = c.in-Err.ensures.cause (Result id) notes.others notes.next in
    record {
      given = lost.0;
      notes = notes;
      few = λ told. loss-few (file_at t (Result id)) lost.0 first last (next_shape kinds shown.0) (files (file_at t (Result id)).file) c.in-Err.refusal lost.1 (c.in-Err.ensures.found shown.0 (Result id) notes.others shown.1 notes.next told);
      took = loss-counts (file_at t (Result id)) lost.0 first last c.in-Err.refusal lost.1 cause;
    }

pub returns-in_ok-id-in-Err-clause-reads : goal.returns-in_ok-id-in-Err-clause-reads
returns-in_ok-id-in-Err-clause-reads g c =
    λ plan is.
    let t = table_of c.args.catalog.now in
    let job = c.args.self.now in
    let left = c.results_are_left_out.ensures in
    let whole = open-whole c.serving_rewritings.ensures.there left.file c.taken_rewritings.ensures.more t job.noted.items (left.table t job.noted.items c.know_table.ensures) plan job.work is.is_open in
    let r = opened_rewriting job.work in
    let kinds = kinds_of_streams t.streams in
    let laws : FileLaws = record {
      found = c.kept_results_of_tables.ensures.found;
      extents = c.files_of_states.ensures.extents;
      results = c.files_of_states.ensures.results;
      formed = c.serving_rewritings.ensures.formed;
      pieces = c.serving_rewritings.ensures.pieces;
      there = c.serving_rewritings.ensures.there;
      typed = c.pieces_of_typed_rewritings.ensures;
    } in
    let files = (g.D.Store.view c.args.store.now).files in
    let first = g.D.Store.counts c.args.store.now in
    let last = g.D.Store.counts c.read_next.new.store in
    let id = c.in_ok-id-in-Err.id in
    let lost = c.in_ok-id-in-Err.ensures.notes in
    let noted = returns-in_ok-id-in-Err-clause-step g c plan is in
    let counts : CountsTaken noted.given first last = noted.took in
    let notes = noted.notes in
    let shown = has_next kinds (pieces_of r) job.work.job.parts.items (Result id) notes.others whole.parts notes.next in
    let cause = c.in-Err.ensures.cause (Result id) notes.others notes.next in
    record {
      on = goes-noted g.D.Store.tells t plan id noted.given job c.note_next.new.self is notes noted.few;
      most = λ told. omega (arith, counts);
      over = λ told care s stands means has. (
        notes.notes.fresh.read s means,
        (
          loss-shows care s t means plan job.work.program.cuts id lost.0 first last c.in-Err.refusal lost.1 cause
              (unread laws care files s stands.read t means c.know_table.ensures plan r (open_root t plan job.work whole) plan job.work.program.cuts first last c.in-Err.refusal
              (step-ends t plan job.work whole (Result id) notes.others notes.next first last c.in-Err.refusal cause)
              (step-found t plan job.work whole (Result id) notes.others notes.next files (next_shape kinds shown.0) first last c.in-Err.refusal shown.2 cause (c.in-Err.ensures.found shown.0 (Result id) notes.others shown.1 notes.next told))),
          tt,
        ),
        inl counts,
      );
      no_fault = loss-looks (file_at t (Result id)) lost.0 first last c.in-Err.refusal lost.1 cause;
    }

-- ---- nothing was

pub returns-in_err-id-in-Err-clause-job : goal.returns-in_err-id-in-Err-clause-job
returns-in_err-id-in-Err-clause-job g c =
    λ plan is.
    let job = c.args.self.now in
    let half = read_by c.read_next.new.job job in
    let still = still-as job c.read_next.new.job c.in-Err.ensures.rewriting c.in-Err.ensures.refused c.in-Err.ensures.uncounted in
    subst (IsJob (table_of c.args.catalog.now) plan) (sym c.in_err-id-in-Err.ensures.refused) (job-as-before (table_of c.args.catalog.now) plan job half is still)

pub returns-in_err-id-in-Err-clause-refused : goal.returns-in_err-id-in-Err-clause-refused
returns-in_err-id-in-Err-clause-refused g c =
    let job = c.args.self.now in
    let half = read_by c.read_next.new.job job in
    let still = still-as job c.read_next.new.job c.in-Err.ensures.rewriting c.in-Err.ensures.refused c.in-Err.ensures.uncounted in
    let same : c.from_residual.result ≡ Err c.in_err-id-in-Err.field-0.0 = search rules in
    rw same (subst (IsAsBefore job) (sym c.in_err-id-in-Err.ensures.refused) still)

pub returns-in_err-id-in-Err-clause-halts : goal.returns-in_err-id-in-Err-clause-halts
returns-in_err-id-in-Err-clause-halts g c =
    λ plan is.
    let t = table_of c.args.catalog.now in
    let job = c.args.self.now in
    let left = c.results_are_left_out.ensures in
    let whole = open-whole c.serving_rewritings.ensures.there left.file c.taken_rewritings.ensures.more t job.noted.items (left.table t job.noted.items c.know_table.ensures) plan job.work is.is_open in
    let r = opened_rewriting job.work in
    let kinds = kinds_of_streams t.streams in
    let laws : FileLaws = record {
      found = c.kept_results_of_tables.ensures.found;
      extents = c.files_of_states.ensures.extents;
      results = c.files_of_states.ensures.results;
      formed = c.serving_rewritings.ensures.formed;
      pieces = c.serving_rewritings.ensures.pieces;
      there = c.serving_rewritings.ensures.there;
      typed = c.pieces_of_typed_rewritings.ensures;
    } in
    let files = (g.D.Store.view c.args.store.now).files in
    let first = g.D.Store.counts c.args.store.now in
    let last = g.D.Store.counts c.read_next.new.store in
    let some = some_first (files_left job.work) c.requires.left in
    let half = read_by c.read_next.new.job job in
    let still = still-as job c.read_next.new.job c.in-Err.ensures.rewriting c.in-Err.ensures.refused c.in-Err.ensures.uncounted in
    let shown = has_next kinds (pieces_of r) job.work.job.parts.items some.0 some.1 whole.parts some.2 in
    let cause = c.in-Err.ensures.cause some.0 some.1 some.2 in
    let why = c.in_err-id-in-Err.field-0.0 in
    let same : c.from_residual.result ≡ Err why = search rules in
    rw same
    (halts-step g.D.Store.tells t (g.D.Store.view c.args.store.now) plan job c.note_next.new.self first last c.in-Err.refusal why is (subst (IsAsBefore job) (sym c.in_err-id-in-Err.ensures.refused) still) some.0 some.1 some.2
    (subst (λ l. ((why ≡ read.Memory) × (given : ℕ) × (given_of c.in-Err.refusal ≡ Some given)) ⊎ ((why ≡ c.in-Err.refusal) × IsNotLost l c.in-Err.refusal)) (ap left_in c.in-Err.ensures.refused) c.in_err-id-in-Err.ensures.why)
    (λ told. refused_most (next_shape kinds shown.0) (file_at t some.0) (files (file_at t some.0).file) first last c.in-Err.refusal cause (c.in-Err.ensures.found shown.0 some.0 some.1 shown.1 some.2 told))
    c.in-Err.ensures.cause
    (λ told care s stands means. unread laws care files s stands.read t means c.know_table.ensures plan r (open_root t plan job.work whole) plan job.work.program.cuts first last c.in-Err.refusal
    (step-ends t plan job.work whole some.0 some.1 some.2 first last c.in-Err.refusal cause)
    (step-found t plan job.work whole some.0 some.1 some.2 files (next_shape kinds shown.0) first last c.in-Err.refusal shown.2 cause (c.in-Err.ensures.found shown.0 some.0 some.1 shown.1 some.2 told)))
    (read_cause (file_at t) (files_of r) first last c.in-Err.refusal (step-ends t plan job.work whole some.0 some.1 some.2 first last c.in-Err.refusal cause))
    (λ told. read_found (sources_of t files) (pieces_of r) (files_of r) c.in-Err.refusal
    (step-found t plan job.work whole some.0 some.1 some.2 files (next_shape kinds shown.0) first last c.in-Err.refusal shown.2 cause (c.in-Err.ensures.found shown.0 some.0 some.1 shown.1 some.2 told))))
