-- The work of a job: the kept results that are left out of its rewriting, and the bytes that count of it.
use Rattle.std.specs.Prelude.{◌≡◌, ℕ, ◌+◌, ◌-◌, ◌++◌, List, [], Option, None, Some, IsOk}
use Rattle.std.specs.List.{Contains}
use Rattle.plan_core.specs.PlainPlan.{PlainPlan, leaves}
use Rattle.plan_core.specs.PlanTyping.{plan_typing}
use Rattle.plan_canon.specs.Normal.{IsNormalFormOf}
use Rattle.estimator.specs.Bytes.{capped}
use Rattle.estimator.specs.Cuts.{Cuts}
use Rattle.rewrite_core.specs.Files.{files_of}
use Rattle.catalog_types.specs.declared.program.Program.{Program}
use Rattle.catalog_core.specs.Named.{bytes_named}
use Rattle.catalog_core.specs.Programs.{AreCuts, kinds_of_streams}
use Rattle.catalog_core.specs.Table.{Table}
use Rattle.folder.specs.State.{State, table}
use Rattle.later_states.specs.Later.{AreFree}
use Rattle.plan_choice.specs.Leaving.{leaving_out}
use Rattle.plan_choice.specs.Taken.{IsTaken}
use Rattle.work_plan.specs.Fitting.{IsFit}
use Rattle.work_run.specs.Opened.{IsOpen, HasRead, files_left, opened_rewriting}
use Rattle.work_run.specs.declared.open.OpenWork.{OpenWork}
use Rattle.job_turns.specs.declared.job.JobWork.{JobWork}

-- the bytes of the files that it has read
abbrev pub bytes_read : Table → OpenWork → ℕ
bytes_read t work = bytes_named t (files_of (opened_rewriting work)) - bytes_named t (files_left work)

-- The plan has a typing, and this is its normal form. The cut ends within the extents, and the normal form is fit to be recorded at
-- that cut.
pub record Suits (t : Table) (plan form : PlainPlan) (cuts : Cuts) : Type 0 where
  pub typed : IsOk (plan_typing (kinds_of_streams t.streams) plan)
  pub normal : IsNormalFormOf (kinds_of_streams t.streams) plan form
  pub are_cuts : AreCuts t.streams (leaves plan) cuts
  pub fit : IsFit t.streams form cuts

-- The work of a plan is open over the table without the noted results, by this normal form; and the bytes of the files that it
-- has read are counted, and those before.
pub record IsJob (t : Table) (plan : PlainPlan) (job : JobWork) : Type 0 where
  pub is_open : IsOpen (leaving_out job.noted.items t) plan job.work
  pub form_is : is_open.normal ≡ job.normal.plan
  pub counted : job.work.job.taken ≡ capped (bytes_read t job.work)
  pub cut : job.before ≡ capped job.before

-- Work by a least rewriting that was taken where these kept results are left out: none of its files is read.
pub record IsFresh (t : Table) (left_out : List ℕ) (plan form : PlainPlan) (program : Program) (work : OpenWork) : Type 0 where
  pub program_is : work.program ≡ program
  pub taken : IsTaken (leaving_out left_out t) plan form program.cuts (opened_rewriting work)
  pub is_open : IsOpen (leaving_out left_out t) plan work
  pub form_is : is_open.normal ≡ form
  pub unread : files_left work ≡ files_of (opened_rewriting work)
  pub uncounted : work.job.taken ≡ 0
  pub read : (s : State) → t ≡ table s → HasRead s work

-- a job as it is opened: no result is noted
pub record IsOpened (t : Table) (plan form : PlainPlan) (program : Program) (job : JobWork) : Type 0 where
  pub fresh : IsFresh t [] plan form program job.work
  pub form_is : job.normal.plan ≡ form
  pub noted : job.noted.items ≡ []
  pub before : job.before ≡ 0

-- The same job beside another one, where these kept results are dropped: it has a rewriting without them and without its own noted
-- ones. The bytes of the files that the other one has read are counted before.
pub record IsChosenAgain (t : Table) (plan : PlainPlan) (dropped : List ℕ) (old new : JobWork) : Type 0 where
  pub form_is : new.normal.plan ≡ old.normal.plan
  pub noted : new.noted.items ≡ old.noted.items
  pub fresh : IsFresh t (old.noted.items ++ dropped) plan old.normal.plan old.work.program new.work
  pub spared : AreFree new.work.used.items dropped
  pub before : new.before ≡ capped (old.before + bytes_read t old.work)

-- one of these ids is among the others
abbrev pub HaveOneOf : List ℕ → List ℕ → Type 0
HaveOneOf ids others = (id : ℕ) × Contains ids id × Contains others id

-- What comes of a job where these kept results are dropped: it stays where its rewriting reads none of them, and is chosen again where
-- it reads one.
abbrev pub IsNextWithout : Table → List ℕ → JobWork → Option JobWork → Type 0
IsNextWithout t dropped job None = AreFree job.work.used.items dropped
IsNextWithout t dropped job (Some next) =
    HaveOneOf job.work.used.items dropped × ((plan : PlainPlan) → IsJob t plan job → IsChosenAgain t plan dropped job next × IsJob t plan next)
