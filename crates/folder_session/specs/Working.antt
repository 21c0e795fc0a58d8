-- Work of a session: what turns of reading come to, its answer, and for which bytes it isn't done.
use Rattle.std.specs.Prelude.{◌≡◌, ℕ, List, [], Option, ⊤}
use Rattle.plan_core.specs.PlainPlan.{PlainPlan}
use Rattle.estimator.specs.Cuts.{Cuts}
use Rattle.catalog_types.specs.PlainEntry.{PlainNewEntry}
use Rattle.catalog_types.specs.declared.change.Change.TheVariants as change
use Rattle.catalog_types.specs.declared.program.Program.{Program}
use Rattle.catalog_core.specs.Table.{Table}
use Rattle.admission.specs.Admitting.{MadeResult}
use Rattle.folder.specs.Next.{with_work}
use Rattle.folder.specs.Sound.{Care}
use Rattle.folder.specs.State.{State, table}
use Rattle.plan_choice.specs.declared.choosing.Choice.{Choice}
use Rattle.script_text.specs.declared.answer.Answer.{Answer}
use Rattle.script_text.specs.declared.answer.Answer.TheVariants as answer
use Rattle.script_text.specs.declared.answer.Refusal.{Refusal}
use Rattle.script_text.specs.declared.answer.Refusal.TheVariants as refusal
use Rattle.script_text.specs.declared.item.Command.{Command}
use Rattle.work_plan.specs.Planning.{IsWorkPlan}
use Rattle.work_run.specs.Ends.{AreNewFiles}
use Rattle.work_run.specs.declared.work.Work.{Work}
use Rattle.work_turns.specs.Ends.{files_among, those_among}
use Rattle.work_turns.specs.Turns.{IsChosenOf, IsLastTurn}
use Rattle.work_turns.specs.declared.turns.LastTurn.{LastTurn}
use Rattle.work_turns.specs.declared.work.WorkInTurns.{WorkInTurns}
use Rattle.folder_session.specs.Causes.{IsOfTaken}
use Rattle.folder_session.specs.Machine.{Performs, outcome}

-- the turns began with a choice of the plan at this cut, and ended with this one
pub record EndsInTurns (care : Care) (s : State) (plan : PlainPlan) (cuts : Cuts) (last : LastTurn) : Type 0 where
  pub form : PlainPlan
  pub choice : Choice
  pub first : IsChosenOf (table s) [] plan form cuts choice
  pub ended : IsLastTurn care s plan form cuts last

-- its rows, the kept results that it used and those that are kept of it, and the bytes that it read
abbrev pub answer_of : Work → Answer
answer_of work = answer.Result work.rows.items work.used.items work.plan.kept.items work.read

-- The work is planned over the table: what it records fits, and it drops those of some kept results that are there, whose files are
-- told.
pub record IsPlannedOver (t : Table) (done : WorkInTurns) : Type 0 where
  pub program : Option Program
  pub lost : List ℕ
  pub dropped : done.dropped.items ≡ those_among lost t.entries
  pub mades : List MadeResult
  pub planned : IsWorkPlan t program done.work.used.items done.dropped.items mades done.work.plan
  pub gone : done.gone.items ≡ files_among done.dropped.items t.entries

-- Its answer, and the state after it, are those that the machine comes to by the command, where no store fails. What it records is this
-- work, with these new results, whose files are at hand.
pub record IsWorkedOff (care : Care) (s : State) (c : Command) (done : WorkInTurns) : Type 0 where
  pub program : Option Program
  pub news : List PlainNewEntry
  pub performs : (held : List ℕ) → Performs care held s c (outcome (answer_of done.work) (with_work s program done.work.used.items done.dropped.items news))
  pub change_is : done.work.plan.change ≡ change.Work program done.work.used.items done.dropped.items news
  pub files : AreNewFiles s.streams news done.work.plan.files.items

-- damage and unreadable bytes are those of an extent that was read for the plan at this cut
abbrev pub IsFoundFor : Table → PlainPlan → Cuts → (ℕ → List ℕ) → Refusal → Type 0
IsFoundFor t plan cuts files (refusal.Damaged file kept found) = IsOfTaken t plan cuts files (refusal.Damaged file kept found)
IsFoundFor t plan cuts files (refusal.Unreadable file at) = IsOfTaken t plan cuts files (refusal.Unreadable file at)
IsFoundFor t plan cuts files _ = ⊤
