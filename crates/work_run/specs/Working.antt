-- What a piece of work comes to: the rows of a plan at a cut of a state's streams, and the state after it.
use Rattle.std.specs.Prelude.{◌≡◌, ℕ, ◌<◌, List, [], Err, length}
use Rattle.rows_core.specs.Limits.{most_machine_time}
use Rattle.scalar_ops.specs.Meaning.{overflow}
use Rattle.row_blob.specs.Kept.{AreEach}
use Rattle.plan_core.specs.Columns.{Rows}
use Rattle.plan_core.specs.MachineTime.{machine_time}
use Rattle.plan_core.specs.PlainPlan.{PlainPlan}
use Rattle.plan_core.specs.PlanMeaning.{plan_meaning}
use Rattle.plan_canon.specs.Normal.{IsNormalFormOf}
use Rattle.estimator.specs.Cuts.{Cuts}
use Rattle.rewrite_core.specs.PlainRewriting.{PlainRewriting}
use Rattle.growth_laws.specs.MadePlaces.{Place, made_places}
use Rattle.catalog_types.specs.PlainEntry.{PlainNewEntry}
use Rattle.admission.specs.Admitting.{MadeResult, Admits, entries_of}
use Rattle.admission.specs.declared.new_result.NewResult.{NewResult}
use Rattle.folder.specs.State.{Stream, State, IsResultIn, kinds_in, lists_in}
use Rattle.work_plan.specs.Planning.{ids_from}

-- ---- what is made

-- the result of a place: its plan's result at its cut, with its form and its machine time
pub record IsMadeAt (streams : List Stream) (at : Place) (made : MadeResult) : Type 0 where
  pub plan : made.plan ≡ at.plan
  pub cuts : made.cuts ≡ at.cuts
  pub result : IsResultIn streams made.plan made.cuts made.form made.machine

-- Of the results that a rewriting of this plan at this cut makes, in order, those are kept that are admitted beside the state's
-- entries: they are recorded so, and get these ids.
pub record Keeps (s : State) (plan : PlainPlan) (cuts : Cuts) (r : PlainRewriting) (news : List PlainNewEntry) (ids : List ℕ) : Type 0 where
  pub mades : List MadeResult
  pub made : AreEach (IsMadeAt s.streams) (made_places plan cuts r) mades
  pub admitted : List NewResult
  pub admits : Admits s.entries s.next_file [] mades admitted
  pub news_are : news ≡ entries_of admitted
  pub ids_are : ids ≡ ids_from s.next_id (length admitted)

-- ---- what is answered and what is there afterwards

-- rows, the ids of the kept results that were used and of those that are kept, and the bytes that were read
pub record Given : Type 0 where
  pub rows : Rows
  pub used : List ℕ
  pub kept : List ℕ
  pub read : ℕ

abbrev pub given : Rows → List ℕ → List ℕ → ℕ → Given
given rows used kept read = record { rows = rows; used = used; kept = kept; read = read }

-- ---- why there is no answer

-- the plan as it is written meets an overflow
abbrev pub Overflows : State → PlainPlan → Cuts → Type 0
Overflows s plan cuts = plan_meaning plan (lists_in s.streams plan cuts) ≡ Err overflow

-- the machine time of its normal form is above the greatest one
pub record IsDear (s : State) (plan : PlainPlan) (cuts : Cuts) : Type 0 where
  pub normal : PlainPlan
  pub is_normal : IsNormalFormOf (kinds_in s.streams) plan normal
  pub above : most_machine_time < machine_time normal (lists_in s.streams normal cuts)
