-- How far a job is read.
use Rattle.std.proofs.Common.{◌≡◌, ◌≢◌, refl, sym, ap, ◌∙◌, subst, ℕ, zero, suc, ◌+◌, ◌-◌, ◌<◌, ◌≤◌, min, List, [], ◌∷◌, ◌++◌, length, drop, length-drop, length-append, arith}
use Rattle.rewrite_core.specs.Files.{FileName, files_of}
use Rattle.rewrite_core.specs.PlainRewriting.{rewriting_of}
use Rattle.folder.specs.State.{State, table}
use Rattle.job_table.specs.declared.table.OpenJob.{OpenJob}
use Rattle.work_run.specs.Opened.{HasRead, IsSameWork, files_left}
use Rattle.job_turns.specs.Jobs as work
use Rattle.job_turns.specs.declared.job.JobWork.{JobWork}
use Rattle.session.specs.Jobs.{IsJob}
use Rattle.session.specs.MachineJob.{Job, steps_of, left_of, read_to, stepped}

pub drop_more : {A : Type 0} (names rest : List A) → drop (length names) (names ++ rest) ≡ rest
drop_more [] rest = refl
drop_more (x ∷ names) rest = drop_more names rest

-- what is behind the front of what is left
pub further : {A : Type 0} (d : ℕ) (xs names rest : List A) → drop d xs ≡ names ++ rest → rest ≡ drop (d + length names) xs
further zero xs names rest is =
    let all : length names ≡ 0 + length names = omega arith in
    subst (λ (n : ℕ). rest ≡ drop n xs) all (sym (drop_more names rest) ∙ ap (drop (length names)) (sym is))
further (suc d) [] [] rest is = let all : suc d ≡ suc d + 0 = omega arith in subst (λ (n : ℕ). rest ≡ drop n []) all (sym is)
further (suc d) [] (x ∷ names) rest is = let never : [] ≡ x ∷ (names ++ rest) = is in absurd (cc)
further (suc d) (x ∷ xs) names rest is =
    let all : suc (d + length names) ≡ suc d + length names = omega arith in
    subst (λ (n : ℕ). rest ≡ drop n (x ∷ xs)) all (further d xs names rest is)

pub further_within : {A : Type 0} (d : ℕ) (xs names rest : List A) → d ≤ length xs → drop d xs ≡ names ++ rest → d + length names ≤ length xs
further_within d xs names rest low is =
    let count : length xs - d ≡ length names + length rest = sym (length-drop d xs) ∙ ap length is ∙ length-append names rest in
    omega (arith, count, low)

-- nothing of the work changes but what is read of it
pub record IsSameJob (old new : JobWork) : Type 0 where
  pub same : IsSameWork old.work new.work
  pub normal : new.normal ≡ old.normal
  pub noted : new.noted ≡ old.noted
  pub before : new.before ≡ old.before

-- the job as it stands for work that is read on
module _ (s : State) (job : Job) (o o' : OpenJob JobWork) (is : IsJob s job o) (names_same : o'.name ≡ o.name) (same : IsSameJob o.job o'.job) (still : work.IsJob (table s) job.run.plan o'.job) (read : HasRead s o'.job.work) where
  pub read_on : (names : List FileName) → files_left o.job.work ≡ names ++ files_left o'.job.work → (job.done + length names ≤ steps_of job) × IsJob s (read_to (job.done + length names) job) o'
  read_on names left =
      let is_left : drop job.done (files_of job.rewriting) ≡ names ++ files_left o'.job.work = sym is.left ∙ left in
      let within = further_within job.done (files_of job.rewriting) names (files_left o'.job.work) is.within is_left in (
        within,
        record {
          name = names_same ∙ is.name;
          program = same.same.program ∙ is.program;
          normal = ap (λ n. n.plan) same.normal ∙ is.normal;
          rewriting = ap rewriting_of same.same.rewriting ∙ is.rewriting;
          used = ap (λ u. u.items) same.same.used ∙ is.used;
          noted = ap (λ u. u.items) same.noted ∙ is.noted;
          before = same.before ∙ is.before;
          is_job = still;
          within = within;
          left = further job.done (files_of job.rewriting) names (files_left o'.job.work) is_left;
          read = read;
        },
      )

  -- nothing is read
  pub read_none : files_left o'.job.work ≡ files_left o.job.work → IsJob s job o'
  read_none left =
      let on = read_on [] (sym left) in
      let none : job.done + 0 ≡ job.done = omega arith in
      subst (λ (n : ℕ). IsJob s (read_to n job) o') none on.1

  -- one file further
  pub step_on : (name : FileName) → files_left o.job.work ≡ name ∷ files_left o'.job.work → IsJob s (stepped job) o' × (length (files_left o'.job.work) ≡ left_of (stepped job))
  step_on name left =
      let on = read_on (name ∷ []) left in
      let low = on.0 in
      let one : job.done + 1 ≡ min (job.done + 1) (steps_of job) = omega (arith, low) in
      let now : IsJob s (stepped job) o' = subst (λ (n : ℕ). IsJob s (read_to n job) o') one on.1 in (
        now,
        ap length now.left ∙ length-drop (stepped job).done (files_of job.rewriting),
      )

  -- none is left
  pub stay_on : files_left o.job.work ≡ [] → files_left o'.job.work ≡ files_left o.job.work → IsJob s (stepped job) o' × (length (files_left o'.job.work) ≡ left_of (stepped job))
  stay_on none left_same =
      let on = read_on [] (sym left_same) in
      let count : length (files_left o.job.work) ≡ steps_of job - job.done = ap length is.left ∙ length-drop job.done (files_of job.rewriting) in
      let empty : length (files_left o.job.work) ≡ 0 = ap length none in
      let low = is.within in
      let all : job.done + 0 ≡ min (job.done + 1) (steps_of job) = omega (arith, count, empty, low) in
      let now : IsJob s (stepped job) o' = subst (λ (n : ℕ). IsJob s (read_to n job) o') all on.1 in (
        now,
        ap length now.left ∙ length-drop (stepped job).done (files_of job.rewriting),
      )

-- a file of a job is left where one of its work is
pub has_left : (s : State) (job : Job) (o : OpenJob JobWork) → IsJob s job o → files_left o.job.work ≢ [] → 0 < left_of job
has_left s job o is some =
    let count : length (files_left o.job.work) ≡ left_of job = ap length is.left ∙ length-drop job.done (files_of job.rewriting) in
    by (files_left o.job.work) some count
  where
    by : (files : List FileName) → files ≢ [] → length files ≡ left_of job → 0 < left_of job
    by [] some count = absurd (some refl)
    by (x ∷ files) some count = omega (arith, count)
