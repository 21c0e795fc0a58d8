-- Jobs where kept results are dropped: each stays, or is chosen again.
use Rattle.std.proofs.Common.{◌≡◌, ◌∙◌, refl, sym, subst, ℕ, zero, suc, ◌+◌, ◌-◌, List, [], ◌∷◌, ◌++◌, Option, None, Some, inl, inr, arith}
use Rattle.std.proofs.Math.Path.{transport}
use Rattle.std.specs.List.{AllByRecursion, Contains, remove}
use Rattle.std.proofs.lemmas.List.Elements.{Contains-append_cases}
use Rattle.plan_laws.proofs.Members.{none_in_nothing}
use Rattle.estimator.specs.Bytes.{capped}
use Rattle.rewrite_core.specs.Files.{files_of}
use Rattle.row_blob.specs.Kept.{AreEach}
use Rattle.catalog_core.specs.IsTable.{IsTable}
use Rattle.catalog_core.specs.Named.{bytes_named}
use Rattle.catalog_core.specs.Table.{Table}
use Rattle.folder.specs.State.{State, table}
use Rattle.job_table.specs.Jobs.{put_each, put_next}
use Rattle.job_table.specs.declared.table.OpenJob.{OpenJob}
use Rattle.later_states.specs.Later.{AreFree, HaveMoreRows, IsLater}
use Rattle.plan_choice.specs.Leaving.{leaving_out}
use Rattle.plan_choice.specs.Taken.{IsTaken}
use Rattle.work_run.specs.Opened.{opened_rewriting}
use Rattle.job_turns.specs.Jobs as work
use Rattle.job_turns.specs.Jobs.{HaveOneOf}
use Rattle.job_turns.specs.declared.job.JobWork.{JobWork}
use Rattle.session.specs.Jobs.{OpenJobs, AreHeldOver, AreJobs, AreLeft, AreLeftBehind, IsHeldOver, IsJob, IsLeft, all_but, held_of}
use Rattle.session.specs.MachineJob as machine
use Rattle.session.specs.MachineJob.{Job}
use Rattle.session.proofs.Places.{each_but}
use Rattle.session.proofs.StayLemmas.{StaysOpen, StaysRead, all_held, still_held_over, still_jobs}

-- none of them reads one of these
abbrev AreAllFree : List ℕ → OpenJobs → Type 0
AreAllFree dropped opens = AllByRecursion (λ o. AreFree o.job.work.used.items dropped) opens

all_free : (dropped : List ℕ) (opens : OpenJobs) → AreAllFree dropped opens → AreFree (held_of opens) dropped
all_free dropped [] free = λ id gone has. none_in_nothing id has
all_free dropped (o ∷ opens) free = λ id gone has. elim (Contains-append_cases o.job.work.used.items (held_of opens) id has) [
  | inl own ↦ free.0 id gone own
  | inr more ↦ all_free dropped opens free.1 id gone more
]

-- all but one
module _ {K A : Type 0} (P : K → A → Type 0) where
  pub both_but : (ks : List K) (xs : List A) (at : ℕ) → AreEach P ks xs → AreEach P (remove ks at) (remove xs at)
  both_but [] [] zero are = tt
  both_but [] [] (suc at) are = tt
  both_but [] (x ∷ xs) at are = absurd are
  both_but (k ∷ ks) [] at are = absurd are
  both_but (k ∷ ks) (x ∷ xs) zero are = are.1
  both_but (k ∷ ks) (x ∷ xs) (suc at) are = (are.0, both_but ks xs at are.1)

each_of : (P : OpenJob JobWork → Type 0) (closed : Option ℕ) (opens : OpenJobs) → AllByRecursion P opens → AllByRecursion P (all_but closed opens)
each_of P None opens all = all
each_of P (Some at) opens all = each_but P opens at all

-- ---- over a table

module _ (t : Table) (dropped : List ℕ) where
  -- what comes of each is what is put
  pub put_left : (opens : OpenJobs) (nexts : List (Option JobWork)) → AreEach (λ o next. work.IsNextWithout t dropped o.job next) opens nexts → AreLeft t dropped opens (put_each opens nexts)
  put_left [] [] are = tt
  put_left [] (next ∷ nexts) are = absurd are
  put_left (o ∷ opens) [] are = absurd are
  put_left (o ∷ opens) (next ∷ nexts) are = ((next, are.0, refl), put_left opens nexts are.1)

  abbrev IsHeldFree : OpenJob JobWork → Type 0
  IsHeldFree o = IsHeldOver t o × AreFree o.job.work.used.items dropped

  left_held : (old new : OpenJob JobWork) → IsHeldOver t old → IsLeft t dropped old new → IsHeldFree new
  left_held old new over (None, free, is) = subst IsHeldFree (sym is) (over, free)
  left_held old new over (Some next, (reads, both), is) =
      let of = both over.plan over.is_job in
      subst IsHeldFree (sym is) (record { plan = over.plan; is_job = of.1 }, of.0.spared)

  lefts_held : (olds news : OpenJobs) → AreHeldOver t olds → AreLeft t dropped olds news → AreHeldOver t news × AreAllFree dropped news
  lefts_held [] [] over are = (tt, tt)
  lefts_held [] (n ∷ news) over are = absurd are
  lefts_held (o ∷ olds) [] over are = absurd are
  lefts_held (o ∷ olds) (n ∷ news) over are =
      let first = left_held o n over.0 are.0 in
      let rest = lefts_held olds news over.1 are.1 in
      ((first.0, rest.0), (first.1, rest.1))

  module _ (olds : OpenJobs) (over : AreHeldOver t olds) (closed : Option ℕ) (news : OpenJobs) (behind : AreLeftBehind t dropped closed olds news) where
    held_there : AreHeldOver t news × AreAllFree dropped news
    held_there =
        let all = lefts_held olds behind.left over behind.are in
        subst (λ (opens : OpenJobs). AreHeldOver t opens × AreAllFree dropped opens) (sym behind.stand)
        (each_of (IsHeldOver t) closed behind.left all.0, each_of (λ o. AreFree o.job.work.used.items dropped) closed behind.left all.1)

    -- what they hold isn't dropped
    pub behind_free : AreFree (held_of news) dropped
    behind_free = all_free dropped news held_there.1

    -- they are open over the table after it
    pub behind_held : StaysOpen → IsTable t → (u : Table) → IsTable u → ((held : List ℕ) → AreFree held dropped → IsLater held t u) → AreHeldOver u news
    behind_held stays is_table u is_next later = still_held_over stays (held_of news) t u is_table is_next (later (held_of news) behind_free) news (all_held news) held_there.0

-- ---- over the files of a state

module _ (s : State) (dropped : List ℕ) where
  -- what the machine's job is left as
  pub record LeftJob (job : Job) (new : OpenJob JobWork) : Type 0 where
    pub next : Job
    pub is : IsJob s next new
    pub left : machine.IsLeft s dropped job next

  module _ (job : Job) (o : OpenJob JobWork) (is : IsJob s job o) (next : JobWork) (again : work.IsChosenAgain (table s) job.run.plan dropped o.job next) (own : work.IsJob (table s) job.run.plan next) where
    abbrev chosen : Job
    chosen = record job {
      rewriting = opened_rewriting next.work;
      used = next.work.used.items;
      done = 0;
      before = capped (job.before + machine.bytes_read s job);
    }

    chosen_is : IsJob s chosen (put_next o (Some next))
    chosen_is = record {
      name = is.name;
      program = again.fresh.program_is ∙ is.program;
      normal = again.form_is ∙ is.normal;
      rewriting = refl;
      used = refl;
      noted = again.noted ∙ is.noted;
      before = again.before ∙ (λ i. capped (is.before i + (bytes_named (table s) (files_of (is.rewriting i)) - bytes_named (table s) (is.left i))));
      is_job = own;
      within = omega arith;
      left = again.fresh.unread;
      read = again.fresh.read s refl;
    }

    chosen_again : machine.IsChosenAgain s dropped job chosen
    chosen_again = record {
      taken = transport (λ i. IsTaken (leaving_out (is.noted i ++ dropped) (table s)) job.run.plan (is.normal i) ((is.program i).cuts) (opened_rewriting next.work)) again.fresh.taken;
      used = own.is_open.used;
      is = refl;
    }

  left_job : (job : Job) (old new : OpenJob JobWork) → IsJob s job old → IsLeft (table s) dropped old new → LeftJob job new
  left_job job old new is (None, free, same) = record {
    next = job;
    is = subst (IsJob s job) (sym same) is;
    left = inl (subst (λ (ids : List ℕ). AreFree ids dropped) is.used free, refl);
  }
  left_job job old new is (Some next, (reads, both), same) =
      let of = both job.run.plan is.is_job in
      record {
        next = chosen job old is next of.0 of.1;
        is = subst (IsJob s (chosen job old is next of.0 of.1)) (sym same) (chosen_is job old is next of.0 of.1);
        left = inr (subst (λ (ids : List ℕ). HaveOneOf ids dropped) is.used reads, chosen_again job old is next of.0 of.1);
      }

  pub record LeftJobs (jobs : List Job) (news : OpenJobs) : Type 0 where
    pub nexts : List Job
    pub are : AreJobs s nexts news
    pub left : AreEach (machine.IsLeft s dropped) jobs nexts

  pub left_jobs : (jobs : List Job) (olds news : OpenJobs) → AreJobs s jobs olds → AreLeft (table s) dropped olds news → LeftJobs jobs news
  left_jobs [] [] [] are left = record { nexts = []; are = tt; left = tt }
  left_jobs [] [] (n ∷ news) are left = absurd left
  left_jobs [] (o ∷ olds) news are left = absurd are
  left_jobs (j ∷ jobs) [] news are left = absurd are
  left_jobs (j ∷ jobs) (o ∷ olds) [] are left = absurd left
  left_jobs (j ∷ jobs) (o ∷ olds) (n ∷ news) are left =
      let first = left_job j o n are.0 left.0 in
      let rest = left_jobs jobs olds news are.1 left.1 in
      record { nexts = first.next ∷ rest.nexts; are = (first.is, rest.are); left = (first.left, rest.left) }

  -- they stand for the same over a state that comes later
  pub still_left : StaysOpen → StaysRead → IsTable (table s) → (u : State) → IsTable (table u) → HaveMoreRows s.streams u.streams → ((held : List ℕ) → AreFree held dropped → IsLater held (table s) (table u)) → (jobs : List Job) (news : OpenJobs) (left : LeftJobs jobs news)
      → AreFree (held_of news) dropped → AreJobs u left.nexts news
  still_left stays reads is_table u is_next rows later jobs news left free = still_jobs stays reads (held_of news) s u is_table is_next (record { tables = later (held_of news) free; rows = rows }) left.nexts news (all_held news) left.are

-- a session's jobs are open over the table
pub jobs_over : (s : State) (jobs : List Job) (opens : OpenJobs) → AreJobs s jobs opens → AreHeldOver (table s) opens
jobs_over s [] [] are = tt
jobs_over s [] (o ∷ opens) are = absurd are
jobs_over s (j ∷ jobs) [] are = absurd are
jobs_over s (j ∷ jobs) (o ∷ opens) are = (record { plan = j.run.plan; is_job = are.0.is_job }, jobs_over s jobs opens are.1)

-- ---- where none is dropped

none_read : (s : State) (dropped : List ℕ) → dropped ≡ [] → (old new : Job) → machine.IsLeft s dropped old new → new ≡ old
none_read s dropped none old new (inl stays) = stays.1
none_read s dropped none old new (inr (one, again)) = absurd (none_in_nothing one.0 (subst (λ (ids : List ℕ). Contains ids one.0) none one.2))

pub none_chosen : (s : State) (dropped : List ℕ) → dropped ≡ [] → (jobs nexts : List Job) → AreEach (machine.IsLeft s dropped) jobs nexts → nexts ≡ jobs
none_chosen s dropped none [] [] are = refl
none_chosen s dropped none [] (n ∷ nexts) are = absurd are
none_chosen s dropped none (j ∷ jobs) [] are = absurd are
none_chosen s dropped none (j ∷ jobs) (n ∷ nexts) are = λ i. none_read s dropped none j n are.0 i ∷ none_chosen s dropped none jobs nexts are.1 i

pub all_stay : (s : State) (dropped : List ℕ) → dropped ≡ [] → (jobs : List Job) → AreEach (machine.IsLeft s dropped) jobs jobs
all_stay s dropped none [] = tt
all_stay s dropped none (j ∷ jobs) = (inl (subst (AreFree j.used) (sym none) (λ id gone has. none_in_nothing id gone), refl), all_stay s dropped none jobs)
