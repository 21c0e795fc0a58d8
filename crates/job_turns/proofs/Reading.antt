-- What is read of a job's files, one after another.
use Rattle.std.proofs.Common.{◌≡◌, ◌⊎◌, refl, sym, ap, ◌∙◌, subst, inr, ℕ, ◌+◌, ◌<◌, ◌≤◌, Bool, true, List, ◌∷◌, length, Option, None, Some, is_some, IsTrue, arith}
use Rattle.outside_traits.specs.View.{View, Counts}
use Rattle.extent_files.specs.Reads.{HasCause}
use Rattle.extent_files.specs.declared.read_refusal.ReadRefusal.{ReadRefusal}
use Rattle.extent_files.specs.declared.read_refusal.ReadRefusal.TheVariants as read
use Rattle.plan_core.specs.PlainPlan.{PlainPlan}
use Rattle.plan_laws.proofs.ValidPlans.{all-append}
use Rattle.rewrite_core.specs.Files.{FileName, files_of}
use Rattle.rewrite_core.specs.PlainRewriting.{PlainRewriting}
use Rattle.growth_laws.specs.Pieces.{pieces_of}
use Rattle.catalog_types.specs.declared.program.Program.{Program}
use Rattle.catalog_core.specs.Named.{file_at}
use Rattle.catalog_core.specs.Table.{Table}
use Rattle.entry_table.specs.Ids.{without}
use Rattle.executor.specs.Progress.{left_in}
use Rattle.executor.specs.Running.{TookAtMost}
use Rattle.executor.specs.Runs.{HasRunCause, IsRunFound, IsOfExtent, of_reading}
use Rattle.executor.specs.declared.refusal.RunRefusal.{RunRefusal}
use Rattle.folder.specs.Left.{IsLeft}
use Rattle.folder.specs.Sound.{Care}
use Rattle.folder.specs.State.{State, table}
use Rattle.work_run.specs.Ends.{IsRefusedWork, sources_of}
use Rattle.work_run.specs.Opened.{files_left, opened_rewriting}
use Rattle.work_run.proofs.OpenSteps.{cause-since, found-since, rewriting-same}
use Rattle.work_turns.specs.Turns.{IsLost}
use Rattle.work_turns.proofs.TurnLists.{counts-on, fewer}
use Rattle.job_turns.specs.Jobs.{IsJob}
use Rattle.job_turns.specs.Steps.{IsAsBefore, IsNotLost, given_of}
use Rattle.job_turns.specs.Turns.{Halts, IsTurnEnd, Reads, next_len}
use Rattle.job_turns.specs.declared.job.JobWork.{JobWork}
use Rattle.job_turns.proofs.Chains.{goes-as-before, goes-then}
use Rattle.job_turns.proofs.OpenJobs.{read-as-before, still-as}
use Rattle.job_turns.proofs.Losses.{by-why, loss-looks, not-lost}

-- ---- nothing

pub reads-nothing : (tells : Bool) (t : Table) (view : View) (plan : PlainPlan) (job : JobWork) (counts : Counts) → IsJob t plan job → Reads tells t view plan job job counts counts
reads-nothing tells t view plan job counts is = record {
  on = goes-as-before tells t plan job job is (still-as job job.work.job refl refl refl);
  most = λ told. omega arith;
  over = λ told care s left same has. (has, tt, inr (refl, refl));
  no_fault = refl;
}

-- ---- one behind another

module _ (tells : Bool) (t : Table) (view later : View) (plan : PlainPlan) (old half new : JobWork) (first mid last : Counts) (reads : Reads tells t view plan old half first mid)
    (kept : (care : Care) (s : State) → IsLeft care view s s → IsLeft care later s s) where
  pub reads-then : Reads tells t later plan half new mid last → Reads tells t view plan old new first last
  reads-then then = record {
    on = goes-then tells t plan old half new reads.on then.on;
    most = λ told.
        let one : mid.taken ≤ first.taken + reads.on.passed = reads.most told in
        let two : last.taken ≤ mid.taken + then.on.passed = then.most told in
        omega (arith, one, two);
    over = λ told care s left same has.
        let one = reads.over told care s left same has in
        let two = then.over told care s (kept care s left) same one.0 in
        (two.0, all-append (IsLost care s) reads.on.ids then.on.ids one.1 two.1, counts-on reads.on.passed then.on.passed first mid last one.2 two.2);
    no_fault = then.no_fault ∙ reads.no_fault;
  }

  pub halts-then : (same : (g : ℕ) → later.files g ≡ view.files g) → first.taken ≤ mid.taken → (why : RunRefusal) → Halts tells t later plan half new mid last why → Halts tells t view plan old new first last why
  halts-then same_files rose why then = record {
    on = goes-then tells t plan old half new reads.on then.on;
    most = λ told.
        let one : mid.taken ≤ first.taken + reads.on.passed = reads.most told in
        let two : last.taken ≤ mid.taken + (then.on.passed + next_len t (files_left new.work)) = then.most told in
        omega (arith, one, two);
    over = λ told care s left same has.
        let one = reads.over told care s left same has in
        let two = then.over told care s (kept care s left) same one.0 in (
          two.0,
          all-append (IsLost care s) reads.on.ids then.on.ids one.1 two.1,
          subst (λ (p : Program). IsRefusedWork care s plan p.cuts why) reads.on.program two.2,
        );
    cause = cause-since t (files_of (opened_rewriting new.work)) first mid last reads.no_fault rose why then.cause;
    of_extent = then.of_extent;
    found = λ told. found-since t (pieces_of (opened_rewriting new.work)) (files_of (opened_rewriting new.work)) view.files later.files same_files why (then.found told);
  }

-- ---- a step that is refused

module _ (tells : Bool) (t : Table) (view : View) (plan : PlainPlan) (old new : JobWork) (first last : Counts) (refusal why : ReadRefusal) (is : IsJob t plan old) (still : IsAsBefore old new) (name : FileName) (others : List FileName)
    (next : files_left old.work ≡ name ∷ others) (stays : ((why ≡ read.Memory) × (given : ℕ) × (given_of refusal ≡ Some given)) ⊎ ((why ≡ refusal) × IsNotLost (files_left old.work) refusal)) where
  abbrev r : PlainRewriting
  r = opened_rewriting old.work

  same : r ≡ opened_rewriting new.work
  same = sym (rewriting-same old.work new.work still.same)

  pub halts-step : (IsTrue tells → TookAtMost (file_at t name).len first last)
      → ((name : FileName) (others : List FileName) → files_left old.work ≡ name ∷ others → HasCause (file_at t name) first last refusal)
      → (IsTrue tells → (care : Care) (s : State) → IsLeft care view s s → t ≡ table s → IsRefusedWork care s plan old.work.program.cuts (of_reading refusal))
      → HasRunCause (file_at t) (files_of r) first last (of_reading refusal) → (IsTrue tells → IsRunFound (sources_of t view.files) (pieces_of r) (files_of r) (of_reading refusal))
      → Halts tells t view plan old new first last (of_reading why)
  halts-step most causes refused cause found = record {
    on = goes-as-before tells t plan old new is still;
    most = λ told. (let few : last.taken ≤ first.taken + next_len t (files_left new.work) = subst (λ (l : List FileName). TookAtMost (next_len t l) first last) (sym (ap left_in still.parts ∙ next)) (most told) in omega (arith, few));
    over = λ told care s stands means has.
        (read-as-before s old new still has, tt, by-why (IsRefusedWork care s plan old.work.program.cuts) (files_left old.work) refusal why (λ given of. tt) (λ not. refused told care s stands means) stays);
    cause = subst (λ (x : PlainRewriting). HasRunCause (file_at t) (files_of x) first last (of_reading why)) same
        (by-why (HasRunCause (file_at t) (files_of r) first last) (files_left old.work) refusal why (λ given of. loss-looks (file_at t name) given first last refusal of (causes name others next)) (λ not. cause) stays);
    of_extent = subst (λ (x : PlainRewriting). IsOfExtent (file_at t) x (of_reading why)) same
        (by-why (IsOfExtent (file_at t) r) (files_left old.work) refusal why (λ given of. tt) (not-lost t r is.is_open.names (files_left old.work) is.is_open.rest first last refusal causes) stays);
    found = λ told.
        subst (λ (x : PlainRewriting). IsRunFound (sources_of t view.files) (pieces_of x) (files_of x) (of_reading why)) same
        (by-why (IsRunFound (sources_of t view.files) (pieces_of r) (files_of r)) (files_left old.work) refusal why (λ given of. tt) (λ not. found told) stays);
  }

-- ---- how a turn ends

module _ (t : Table) (old new : JobWork) where
  -- fewer results are left then
  pub fewer-left : (end : Option ℕ) → is_some end ≡ true → IsTurnEnd t old new end → length (without new.noted.items t.entries) < length (without old.noted.items t.entries)
  fewer-left None some end = absurd (cc)
  fewer-left (Some id) some (there, noted) = subst (λ (ids : List ℕ). length (without ids t.entries) < length (without old.noted.items t.entries)) (sym noted) (fewer old.noted.items id t.entries there)
