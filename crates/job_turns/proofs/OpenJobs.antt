-- The open work of a job, over a table and over that without its noted results.
use Rattle.std.proofs.Common.{◌≡◌, refl, sym, ap, ◌∙◌, subst, ℕ, ◌+◌, ◌-◌, ◌^◌, ◌≤◌, min, List, ◌∷◌, ◌++◌, arith}
use Rattle.std.proofs.lemmas.List.Sums.{sum_by-append, sum_by-cons}
use Rattle.plan_core.specs.PlainPlan.{PlainPlan}
use Rattle.plan_canon.specs.Normal.{IsNormalFormOf}
use Rattle.estimator.specs.Bytes.{capped}
use Rattle.rewrite_core.specs.Files.{FileName, files_of}
use Rattle.rewrite_core.specs.PlainRewriting.{PlainRewriting}
use Rattle.growth_laws.specs.Parts.{plan_at}
use Rattle.growth_laws.specs.Pieces.{pieces_of}
use Rattle.executor.specs.declared.job.Job.{Job}
use Rattle.executor.specs.Progress.{ArePartsOf, HaveRead, left_in}
use Rattle.folder.specs.Files.{results_in}
use Rattle.folder.specs.State.{State, kinds_in, extents_in}
use Rattle.catalog_types.specs.declared.program.Program.{Program}
use Rattle.catalog_core.specs.IsTable.{IsTable}
use Rattle.catalog_core.specs.Named.{HasFile, file_at, bytes_named}
use Rattle.catalog_core.specs.Programs.{kinds_of_streams}
use Rattle.catalog_core.specs.Table.{Table}
use Rattle.plan_choice.specs.Leaving.{leaving_out}
use Rattle.work_plan.specs.Fitting.{IsFit}
use Rattle.work_run.specs.Opened.{IsOpen, HasRead, IsSameWork, files_left, opened_rewriting}
use Rattle.work_run.specs.declared.open.OpenWork.{OpenWork}
use Rattle.work_run.proofs.OpenSteps.{rewriting-same, stays-open}
use Rattle.work_run.proofs.Rooted.{open_plan}
use Rattle.work_turns.proofs.LeftOut.{FilesThere, LeftServe}
use Rattle.work_turns.proofs.Turning.{bytes-left}
use Rattle.job_turns.specs.Jobs.{Suits, IsJob, IsFresh, bytes_read}
use Rattle.job_turns.specs.Steps.{IsAsBefore}
use Rattle.job_turns.specs.declared.job.JobWork.{JobWork}
use Rattle.job_turns.proofs.Later.{leaving-both}

-- ---- work over a table without some results

-- the files that are left stand as they stood
abbrev pub FilesStand : Type 0
FilesStand = (t : Table) (ids : List ℕ) (name : FileName) → HasFile (leaving_out ids t) name → file_at (leaving_out ids t) name ≡ file_at t name

-- it is open over the whole table too
pub open-whole : FilesThere → FilesStand → LeftServe → (t : Table) (ids : List ℕ) → IsTable (leaving_out ids t) → (plan : PlainPlan) (work : OpenWork) → IsOpen (leaving_out ids t) plan work → IsOpen t plan work
open-whole there stand more t ids is_left plan work is = record {
  normal = is.normal;
  serves = more t ids plan is.normal work.program.cuts (opened_rewriting work) is.serves;
  used = is.used;
  read = is.read ∙ ap capped (bytes-left stand t ids (files_of (opened_rewriting work)) (there (leaving_out ids t) plan is.normal work.program.cuts (opened_rewriting work) is_left is.serves is.are_cuts));
  typed = is.typed;
  are_cuts = is.are_cuts;
  fit = is.fit;
  program = is.program;
  parts = is.parts;
  names = is.names;
  rest = is.rest;
}

-- the normal form is that of the rewriting
pub same-form : (t u : Table) (plan : PlainPlan) (old new : OpenWork) → opened_rewriting new ≡ opened_rewriting old → (a : IsOpen t plan old) (b : IsOpen u plan new) → b.normal ≡ a.normal
same-form t u plan old new same a b = sym (open_plan u plan new b) ∙ ap plan_at same ∙ open_plan t plan old a

-- ---- the bytes of the files that it has read

module _ (t : Table) where
  abbrev len : FileName → ℕ
  len name = (file_at t name).len

  pub read-front : (all names left : List FileName) → all ≡ names ++ left → bytes_named t all - bytes_named t left ≡ bytes_named t names
  read-front all names left split = let whole : bytes_named t all ≡ bytes_named t names + bytes_named t left = ap (bytes_named t) split ∙ sum_by-append len names left in omega (arith, whole)

  pub left-few : (all names left : List FileName) → all ≡ names ++ left → bytes_named t left ≤ bytes_named t all
  left-few all names left split = let whole : bytes_named t all ≡ bytes_named t names + bytes_named t left = ap (bytes_named t) split ∙ sum_by-append len names left in omega (arith, whole)

  pub next-bytes : (name : FileName) (left next : List FileName) → left ≡ name ∷ next → bytes_named t left ≡ len name + bytes_named t next
  next-bytes name left next is = ap (bytes_named t) is ∙ sum_by-cons len name next

  -- one file more
  module _ (plan : PlainPlan) (u : Table) (old new : OpenWork) (same : opened_rewriting new ≡ opened_rewriting old) (is : IsOpen u plan old) (name : FileName) (next : files_left old ≡ name ∷ files_left new) where
    pub read-more : bytes_read t new ≡ bytes_read t old + len name
    read-more =
        let all : bytes_named t (files_of (opened_rewriting new)) ≡ bytes_named t (files_of (opened_rewriting old)) = ap (λ (r : PlainRewriting). bytes_named t (files_of r)) same in
        omega (arith, all, left-few (files_of (opened_rewriting old)) is.names (files_left old) is.rest, next-bytes name (files_left old) (files_left new) next)

  pub none-read : (work : OpenWork) → files_left work ≡ files_of (opened_rewriting work) → bytes_read t work ≡ 0
  none-read work unread = let same : bytes_named t (files_left work) ≡ bytes_named t (files_of (opened_rewriting work)) = ap (bytes_named t) unread in omega (arith, same)

-- ---- jobs

pub job-suits : (t : Table) (plan : PlainPlan) (job : JobWork) → IsJob t plan job → Suits t plan job.normal.plan job.work.program.cuts
job-suits t plan job is = record {
  typed = is.is_open.typed;
  normal = subst (IsNormalFormOf (kinds_of_streams t.streams) plan) is.form_is is.is_open.serves.normal;
  are_cuts = is.is_open.are_cuts;
  fit = subst (λ (q : PlainPlan). IsFit t.streams q job.work.program.cuts) is.form_is is.is_open.fit;
}

-- of fresh work that left out what is noted
pub fresh-job : (t : Table) (plan form : PlainPlan) (program : Program) (job : JobWork) (noted : List ℕ) → job.noted.items ≡ noted → job.normal.plan ≡ form → job.before ≡ capped job.before
    → IsFresh t noted plan form program job.work → IsJob t plan job
fresh-job t plan form program job noted same same_form cut is = record {
  is_open = subst (λ (ids : List ℕ). IsOpen (leaving_out ids t) plan job.work) (sym same) is.is_open;
  form_is = same-form (leaving_out noted t) (leaving_out job.noted.items t) plan job.work job.work refl is.is_open (subst (λ (ids : List ℕ). IsOpen (leaving_out ids t) plan job.work) (sym same) is.is_open) ∙ is.form_is ∙ sym same_form;
  counted = is.uncounted ∙ ap capped (sym (none-read t job.work is.unread));
  cut = cut;
}

-- of fresh work that left out more
pub fresh-more : FilesThere → FilesStand → LeftServe → ((t : Table) (ids : List ℕ) → IsTable t → IsTable (leaving_out ids t)) → (t : Table) → IsTable t → (plan form : PlainPlan) (program : Program) (job : JobWork) (more : List ℕ)
    → job.normal.plan ≡ form → job.before ≡ capped job.before → IsFresh t (job.noted.items ++ more) plan form program job.work → IsJob t plan job
fresh-more there stand serve tables t is_table plan form program job more same_form cut is =
    let noted = job.noted.items in
    let opened : IsOpen (leaving_out noted t) plan job.work =
    open-whole there stand serve (leaving_out noted t) more (tables (leaving_out noted t) more (tables t noted is_table)) plan job.work
    (subst (λ (x : Table). IsOpen x plan job.work) (leaving-both noted more t) is.is_open) in
    record {
      is_open = opened;
      form_is = same-form (leaving_out (noted ++ more) t) (leaving_out noted t) plan job.work job.work refl is.is_open opened ∙ is.form_is ∙ sym same_form;
      counted = is.uncounted ∙ ap capped (sym (none-read t job.work is.unread));
      cut = cut;
    }

-- with the files that are left, and as many bytes counted
module _ (t : Table) (plan : PlainPlan) (old new : JobWork) (is : IsJob t plan old) (same : IsSameWork old.work new.work) (normal : new.normal ≡ old.normal) (noted : new.noted.items ≡ old.noted.items)
    (before : new.before ≡ old.before) (parts : ArePartsOf (kinds_of_streams t.streams) (pieces_of (opened_rewriting old.work)) new.work.job.parts.items) where
  pub job-goes-on : (names : List FileName) → files_of (opened_rewriting old.work) ≡ names ++ files_left new.work → new.work.job.taken ≡ capped (bytes_read t new.work) → IsJob t plan new
  job-goes-on names rest counted =
      let opened : IsOpen (leaving_out new.noted.items t) plan new.work =
      subst (λ (ids : List ℕ). IsOpen (leaving_out ids t) plan new.work) (sym noted) (stays-open old.work new.work same (leaving_out old.noted.items t) plan is.is_open parts names rest) in
      record {
        is_open = opened;
        form_is = same-form (leaving_out old.noted.items t) (leaving_out new.noted.items t) plan old.work new.work (rewriting-same old.work new.work same) is.is_open opened ∙ is.form_is ∙ sym (ap (λ n. n.plan) normal);
        counted = counted;
        cut = before ∙ is.cut ∙ ap capped (sym before);
      }

-- one more of its files is read, and counted
pub counted-on : (t : Table) (plan : PlainPlan) (old new : JobWork) (is : IsJob t plan old) → opened_rewriting new.work ≡ opened_rewriting old.work → (name : FileName) → files_left old.work ≡ name ∷ files_left new.work
    → new.work.job.taken ≡ capped (old.work.job.taken + (file_at t name).len) → new.work.job.taken ≡ capped (bytes_read t new.work)
counted-on t plan old new is same name next counted =
    let before : old.work.job.taken ≡ min (bytes_read t old.work) (2 ^ 64 - 1) = is.counted in
    let after : new.work.job.taken ≡ min (old.work.job.taken + (file_at t name).len) (2 ^ 64 - 1) = counted in
    let more = read-more t plan (leaving_out old.noted.items t) old.work new.work same is.is_open name next in
    let sum : new.work.job.taken ≡ min (bytes_read t new.work) (2 ^ 64 - 1) = omega (arith, before, after, more) in
    sum

-- its work is read by this other job of the executor, of the same parts
abbrev pub read_by : Job → JobWork → JobWork
read_by next job = record job { work = record job.work { job = next } }

pub still-as : (job : JobWork) (next : Job) → next.rewriting ≡ job.work.job.rewriting → next.parts.items ≡ job.work.job.parts.items → next.taken ≡ job.work.job.taken → IsAsBefore job (read_by next job)
still-as job next rewriting parts taken =
    record { same = record { program = refl; rewriting = rewriting; used = refl; read = refl }; parts = parts; taken = taken; normal = refl; noted = refl; before = refl }

-- what was read of it stays read
pub read-as-before : (s : State) (old new : JobWork) → IsAsBefore old new → HasRead s old.work → HasRead s new.work
read-as-before s old new still has =
    subst (λ (r : PlainRewriting). HaveRead (kinds_in s.streams) (extents_in s.streams) (results_in s) (pieces_of r) new.work.job.parts.items) (sym (rewriting-same old.work new.work still.same))
    (subst (HaveRead (kinds_in s.streams) (extents_in s.streams) (results_in s) (pieces_of (opened_rewriting old.work))) (sym still.parts) has)

pub job-as-before : (t : Table) (plan : PlainPlan) (old new : JobWork) → IsJob t plan old → IsAsBefore old new → IsJob t plan new
job-as-before t plan old new is still =
    let left : files_left new.work ≡ files_left old.work = ap left_in still.parts in
    let all : files_of (opened_rewriting new.work) ≡ files_of (opened_rewriting old.work) = ap files_of (rewriting-same old.work new.work still.same) in
    job-goes-on t plan old new is still.same still.normal (ap (λ v. v.items) still.noted) still.before
    (subst (ArePartsOf (kinds_of_streams t.streams) (pieces_of (opened_rewriting old.work))) (sym still.parts) is.is_open.parts) is.is_open.names
    (is.is_open.rest ∙ ap (λ (l : List FileName). is.is_open.names ++ l) (sym left))
    (still.taken ∙ is.counted ∙ (λ i. capped (bytes_named t (sym all i) - bytes_named t (sym left i))))
