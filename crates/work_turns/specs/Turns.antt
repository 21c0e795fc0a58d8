-- Turns of work: one ends at the file of a kept result whose bytes aren't what was kept of it, and in the next one a rewriting
-- is taken of the other results.
use Rattle.std.specs.Prelude.{◌≡◌, ℕ, ◌+◌, ◌<◌, ◌≤◌, Bool, List, [], ◌∷◌, ◌++◌, length, Ok, IsTrue}
use Rattle.std.specs.List.{AllByRecursion}
use Rattle.rows_core.specs.declared.file_ref.Digest.{Digest}
use Rattle.outside_traits.specs.View.{Counts}
use Rattle.outside_traits.specs.Calls.{CountsTaken}
use Rattle.plan_core.specs.PlainPlan.{PlainPlan, plan_of}
use Rattle.estimator.specs.Bytes.{capped}
use Rattle.estimator.specs.Cuts.{Cuts}
use Rattle.rewrite_core.specs.Files.{FileName, Result, AreIdsOf, files_of}
use Rattle.rewrite_core.specs.PlainRewriting.{PlainRewriting, rewriting_of}
use Rattle.growth_laws.specs.Pieces.{pieces_of}
use Rattle.catalog_core.specs.Named.{HasFile, file_at, bytes_named}
use Rattle.catalog_core.specs.Table.{Table}
use Rattle.executor.specs.Outcomes.{AreKeptFrom, Finishes}
use Rattle.executor.specs.Running.{TookAtMost}
use Rattle.executor.specs.Runs.{HasRunCause, IsRunFound, IsOfExtent}
use Rattle.executor.specs.declared.outcome.KeptPlace.{KeptPlace}
use Rattle.executor.specs.declared.refusal.RunRefusal.{RunRefusal}
use Rattle.folder.specs.Damage.{ShowsDamage}
use Rattle.folder.specs.Files.{results_in}
use Rattle.folder.specs.Sound.{Care}
use Rattle.folder.specs.State.{State, table, extents_in}
use Rattle.plan_choice.specs.Leaving.{leaving_out}
use Rattle.plan_choice.specs.Taken.{IsTaken}
use Rattle.plan_choice.specs.declared.choosing.Choice.{Choice}
use Rattle.work_plan.specs.Fitting.{IsFit}
use Rattle.work_run.specs.Chosen.{IsChosen}
use Rattle.work_run.specs.Ends.{CountsRead, HaveFewValues, sources_of}
use Rattle.work_turns.specs.declared.turns.LastTurn.{LastTurn}
use Rattle.work_turns.specs.declared.turns.Turn.{Turn}
use Rattle.work_turns.specs.declared.turns.TurnEnd.{TurnEnd}
use Rattle.work_turns.specs.declared.turns.TurnEnd.TheVariants as turn

-- the choice is of this normal form, where these kept results are left out
pub record IsChosenOf (t : Table) (left_out : List ℕ) (plan form : PlainPlan) (cuts : Cuts) (choice : Choice) : Type 0 where
  pub chosen : IsChosen (leaving_out left_out t) plan cuts choice
  pub form_is : chosen.choice_is.normal ≡ form

-- the file of this kept result shows damage
pub record IsLost (care : Care) (s : State) (id : ℕ) : Type 0 where
  pub kept : Digest
  pub found : Digest
  pub shows : ShowsDamage care s (file_at (table s) (Result id)).file kept found

-- A turn that ended at the file of this result: of the results that weren't left out before a rewriting was taken, whose files
-- are some others, then this one, and more. So many bytes count of it, which are those of the others and what this one gave.
pub record IsEndedTurn (t : Table) (plan form : PlainPlan) (cuts : Cuts) (left_out : List ℕ) (id bytes : ℕ) : Type 0 where
  pub rewriting : PlainRewriting
  pub taken : IsTaken (leaving_out left_out t) plan form cuts rewriting
  pub before : List FileName
  pub others : List FileName
  pub names : files_of rewriting ≡ before ++ Result id ∷ others
  pub given : ℕ
  pub few : given ≤ (file_at t (Result id)).len
  pub bytes_are : bytes ≡ bytes_named t before + given

-- behind results that were left out before, these were lost, one after another: each in such a turn, where those before it are left
-- out too, and so many bytes count of these turns together
abbrev pub AreTurns : (List ℕ → ℕ → ℕ → Type 0) → List ℕ → List ℕ → ℕ → Type 0
AreTurns IsTurn left_out [] bytes = bytes ≡ 0
AreTurns IsTurn left_out (id ∷ ids) bytes =
    (first : ℕ) × (rest : ℕ) × IsTurn left_out id first × AreTurns IsTurn (left_out ++ id ∷ []) ids rest × (bytes ≡ first + rest)

-- behind these results that were left out before, turns ended at the files of those, one after another, and so many bytes count
-- of them together
abbrev pub HaveEnded : Table → PlainPlan → PlainPlan → Cuts → List ℕ → List ℕ → ℕ → Type 0
HaveEnded t plan form cuts = AreTurns (IsEndedTurn t plan form cuts)

-- ---- turns, whatever the files are

-- the rewriting names the file of this result
abbrev pub IsNamedBy : PlainRewriting → ℕ → Type 0
IsNamedBy r id = (before : List FileName) × (others : List FileName) × (files_of r ≡ before ++ Result id ∷ others)

-- A turn that was over at the file of this result: a rewriting was taken of the results that weren't left out before, which names
-- that file, and whose files have so many bytes.
pub record IsTurnOver (t : Table) (plan form : PlainPlan) (cuts : Cuts) (left_out : List ℕ) (id bytes : ℕ) : Type 0 where
  pub rewriting : PlainRewriting
  pub taken : IsTaken (leaving_out left_out t) plan form cuts rewriting
  pub named : IsNamedBy rewriting id
  pub bytes_are : bytes ≡ bytes_named t (files_of rewriting)

-- this rewriting was taken, after turns that were over at the files of results
pub record IsTakenAfter (t : Table) (plan form : PlainPlan) (cuts : Cuts) (r : PlainRewriting) : Type 0 where
  pub lost : List ℕ
  pub bytes : ℕ
  pub over : AreTurns (IsTurnOver t plan form cuts) [] lost bytes
  pub taken : IsTaken (leaving_out lost t) plan form cuts r

-- no more bytes were taken than the files of those turns have, and of one more
pub record TookInTurns (t : Table) (plan form : PlainPlan) (cuts : Cuts) (old new : Counts) : Type 0 where
  pub rewriting : PlainRewriting
  pub after : IsTakenAfter t plan form cuts rewriting
  pub most : TookAtMost (after.bytes + bytes_named t (files_of rewriting)) old new

-- Why there is no last turn: the store failed, or the file of an extent that a turn's rewriting names isn't what was kept of it, or
-- its rows can't be made; where the store tells its files, by the bytes of that file.
pub record HasCauseInTurns (tells : Bool) (t : Table) (plan form : PlainPlan) (cuts : Cuts) (files : ℕ → List ℕ) (old new : Counts) (why : RunRefusal) : Type 0 where
  pub rewriting : PlainRewriting
  pub after : IsTakenAfter t plan form cuts rewriting
  pub cause : HasRunCause (file_at t) (files_of rewriting) old new why
  pub of_extent : IsOfExtent (file_at t) rewriting why
  pub found : IsTrue tells → IsRunFound (sources_of t files) (pieces_of rewriting) (files_of rewriting) why

-- ---- how one turn ends

-- over the files of a state: it was finished, and the bytes of its files were taken; or it ended at a result that shows damage
abbrev pub EndsTurn : Care → State → List ℕ → PlainPlan → PlainPlan → Cuts → PlainRewriting → Counts → Counts → TurnEnd → Type 0
EndsTurn care s left_out plan form cuts r old new (turn.Last done) =
    Finishes (extents_in s.streams) (results_in s) r (Ok done.outcome) × AreKeptFrom r done.outcome.made.items
    × CountsRead (capped (bytes_named (table s) (files_of r))) old new
EndsTurn care s left_out plan form cuts r old new (turn.Lost lost) =
    (bytes : ℕ) × IsEndedTurn (table s) plan form cuts left_out lost.id bytes × IsLost care s lost.id × (lost.taken ≡ capped bytes) × CountsTaken bytes old new

-- On every store: the ids are those of the choice, the bytes those of the files that its rewriting names, what is kept of the
-- results that were made is fit to be recorded, and the rows have few values; or a result was lost that isn't left out.
pub record IsOfChoice (t : Table) (choice : Choice) (done : Turn) : Type 0 where
  pub used : done.used ≡ choice.used
  pub read : done.read ≡ capped (bytes_named t (files_of (rewriting_of choice.rewriting)))
  pub few : length done.used.items ≤ 4096
  pub narrow : HaveFewValues done.outcome.rows.items
  pub made : AllByRecursion (λ (kept : KeptPlace). IsFit t.streams (plan_of kept.plan) kept.cuts × (0 < kept.machine)) done.outcome.made.items

abbrev pub IsTold : Table → List ℕ → Choice → TurnEnd → Type 0
IsTold t left_out choice (turn.Last done) = IsOfChoice t choice done
IsTold t left_out choice (turn.Lost lost) = HasFile (leaving_out left_out t) (Result lost.id) × IsNamedBy (rewriting_of choice.rewriting) lost.id

-- ---- what the last one gives

-- Over the results but those that were lost, whose files show damage, a rewriting was taken, which was finished. So many bytes
-- count of its files and of the turns before.
pub record IsLastTurn (care : Care) (s : State) (plan form : PlainPlan) (cuts : Cuts) (last : LastTurn) : Type 0 where
  pub bytes : ℕ
  pub ended : HaveEnded (table s) plan form cuts [] last.lost.items bytes
  pub lost : AllByRecursion (IsLost care s) last.lost.items
  pub rewriting : PlainRewriting
  pub taken : IsTaken (leaving_out last.lost.items (table s)) plan form cuts rewriting
  pub used : AreIdsOf (files_of rewriting) last.turn.used.items
  pub read : last.read ≡ capped (bytes + bytes_named (table s) (files_of rewriting))
  pub outcome : Finishes (extents_in s.streams) (results_in s) rewriting (Ok last.turn.outcome)
  pub kept : AreKeptFrom rewriting last.turn.outcome.made.items
