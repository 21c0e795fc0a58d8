-- What is kept of results that were made, as a state's results; and the files of those that are admitted.
use Rattle.std.proofs.Common.{◌≡◌, refl, sym, subst, inl, inr, ℕ, ◌≤◌, List, [], ◌∷◌, ◌++◌, map, Result, Some, Ok, IfOk}
use Rattle.std.specs.List.{AllByRecursion}
use Rattle.rows_core.specs.declared.overflow.Overflow.{Overflow}
use Rattle.row_blob.specs.Kept.{IsKept, AreEach}
use Rattle.row_blob.specs.Spelling.{kept_spelling}
use Rattle.row_blob.specs.declared.kept.Kept.{Kept}
use Rattle.row_blob.specs.declared.shape.Shape.{Shape}
use Rattle.plan_core.specs.Columns.{Rows}
use Rattle.plan_core.specs.Literals.{HasValidLiterals}
use Rattle.plan_core.specs.MachineTime.{machine_time}
use Rattle.plan_core.specs.PlainPlan.{PlainPlan, leaves}
use Rattle.plan_core.specs.PlanTyping.{Kinds, plan_kinds}
use Rattle.plan_core.specs.TypedRows.{AreOfStreams}
use Rattle.plan_laws.specs.KeptForm.{kept_form}
use Rattle.plan_laws.specs.PlanShape.{plan_shape}
use Rattle.plan_laws.specs.ValidRows.{AreValidLists, AreShortLists}
use Rattle.estimator.specs.Cuts.{Cuts}
use Rattle.growth_laws.specs.MadePlaces.{Place}
use Rattle.catalog_types.specs.PlainEntry.{PlainEntry}
use Rattle.catalog_core.specs.IsTable.{IsTable}
use Rattle.admission.specs.Admitting.{MadeResult, made_of, next_of, entries_of, Admits}
use Rattle.admission.specs.declared.new_result.NewResult.{NewResult}
use Rattle.executor.proofs.Bounded.{lists_valid}
use Rattle.executor.specs.Outcomes.{IsKeptAt}
use Rattle.executor.specs.declared.outcome.KeptPlace.{KeptPlace}
use Rattle.folder.specs.Next.{IsNewResultOf}
use Rattle.folder.specs.State.{Stream, State, IsValid, IsResultIn, table, states_of, kinds_in, extents_in, lists_in}
use Rattle.folder.proofs.GrownStreams.{kinds-of-typed}
use Rattle.folder.proofs.ValidLists.{extents-valid, lists-typed}
use Rattle.work_plan.specs.Fitting.{IsFit}
use Rattle.work_plan.specs.Planning.{files_of}
use Rattle.work_run.specs.Ends.{AreNewFiles}
use Rattle.work_run.specs.Working.{IsMadeAt}
use Rattle.work_run.proofs.Short.{short-lists}

-- ---- of each place

-- the place's plan and cut are fit to be recorded
abbrev pub IsFitPlace : List Stream → Place → Type 0
IsFitPlace streams at = IsFit (states_of streams) at.plan at.cuts

-- what is kept of a typed plan's result has the plan's shape
abbrev pub FormsHaveShape : Type 0
FormsHaveShape = (schemas : List Kinds) (plan : PlainPlan) (kinds : Kinds) (lists : List Rows) → plan_kinds schemas plan ≡ Some kinds → HasValidLiterals plan → AreOfStreams schemas (leaves plan) lists
    → AreValidLists lists → AreShortLists lists → machine_time plan lists ≤ 4294967295 → IfOk (kept_form plan lists) (IsKept (plan_shape schemas plan))

module _ (shaped : FormsHaveShape)
    (s : State) (valid : IsValid s) (is_table : IsTable (table s)) where
  form-of_shape : (given : Result Kept Overflow) (of : Shape) (form : Kept) → given ≡ Ok form → IfOk given (IsKept of) → IsKept of form
  form-of_shape given of form is all = subst (λ (g : Result Kept Overflow). IfOk g (IsKept of)) is all

  made-result : (at : Place) (kept : KeptPlace) → IsFitPlace s.streams at → kept.machine ≤ 4294967295 → IsKeptAt (extents_in s.streams) at kept → IsResultIn s.streams at.plan at.cuts kept.kept kept.machine
  made-result at kept fit low is =
      let typed = kinds-of-typed (kinds_in s.streams) at.plan fit.over.typed in
      let lists : List Rows = lists_in s.streams at.plan at.cuts in
      let time : machine_time at.plan lists ≤ 4294967295 = subst (λ (n : ℕ). n ≤ 4294967295) is.result.machine low in
      record {
        normal = fit.normal;
        over = fit.over;
        of_shape = form-of_shape (kept_form at.plan lists) (plan_shape (kinds_in s.streams) at.plan) kept.kept is.result.form
            (shaped (kinds_in s.streams) at.plan typed.0 lists typed.1 fit.literals (lists-typed s valid (leaves at.plan) at.cuts fit.over.are_cuts)
            (lists_valid (extents_in s.streams) (extents-valid s valid) (leaves at.plan) at.cuts) (short-lists s is_table (leaves at.plan) at.cuts) time);
        result = is.result;
        within = low;
      }

  made-at : (at : Place) (kept : KeptPlace) → IsFitPlace s.streams at → kept.machine ≤ 4294967295 → IsKeptAt (extents_in s.streams) at kept → IsMadeAt s.streams at (made_of kept)
  made-at at kept fit low is = record {
    plan = is.plan;
    cuts = is.cuts;
    result = subst (λ (p : PlainPlan). IsResultIn s.streams p kept.cuts kept.kept kept.machine) (sym is.plan)
        (subst (λ (c : Cuts). IsResultIn s.streams at.plan c kept.kept kept.machine) (sym is.cuts) (made-result at kept fit low is));
  }

  pub mades-at : (places : List Place) (kepts : List KeptPlace) → AllByRecursion (IsFitPlace s.streams) places → AllByRecursion (λ (kept : KeptPlace). kept.machine ≤ 4294967295) kepts
      → AreEach (IsKeptAt (extents_in s.streams)) places kepts → AreEach (IsMadeAt s.streams) places (map made_of kepts)
  mades-at [] [] fit low each = tt
  mades-at [] (kept ∷ kepts) fit low each = absurd each
  mades-at (at ∷ places) [] fit low each = absurd each
  mades-at (at ∷ places) (kept ∷ kepts) fit low each = (made-at at kept fit.0 low.0 each.0, mades-at places kepts fit.1 low.1 each.1)

-- ---- the files of those that are admitted

module _ (streams : List Stream) where
  -- it is a result of the streams in these bytes
  abbrev IsNew : NewResult → Type 0
  IsNew new = (form : Kept) × IsNewResultOf streams new.entry form × (new.bytes ≡ kept_spelling form)

  abbrev IsResult : MadeResult → Type 0
  IsResult made = IsResultIn streams made.plan made.cuts made.form made.machine

  results-at : (places : List Place) (mades : List MadeResult) → AreEach (IsMadeAt streams) places mades → AllByRecursion IsResult mades
  results-at [] [] each = tt
  results-at [] (made ∷ mades) each = absurd each
  results-at (at ∷ places) [] each = absurd each
  results-at (at ∷ places) (made ∷ mades) each = (each.0.result, results-at places mades each.1)

  all-more : (news : List NewResult) (new : NewResult) → AllByRecursion IsNew news → IsNew new → AllByRecursion IsNew (news ++ new ∷ [])
  all-more [] new all is = (is, tt)
  all-more (x ∷ news) new all is = (all.0, all-more news new all.1 is)

  admitted-new : (entries : List PlainEntry) (file : ℕ) (mades : List MadeResult) (before admitted : List NewResult) → AllByRecursion IsResult mades → AllByRecursion IsNew before
      → Admits entries file before mades admitted → AllByRecursion IsNew admitted
  admitted-new entries file [] before admitted results news admits = subst (AllByRecursion IsNew) (sym admits) news
  admitted-new entries file (made ∷ mades) before admitted results news (inl admits) =
      admitted-new entries file mades (before ++ next_of file before made ∷ []) admitted results.1
      (all-more before (next_of file before made) news (made.form, record { result = results.0; file_is = refl }, refl)) admits.1
  admitted-new entries file (made ∷ mades) before admitted results news (inr admits) = admitted-new entries file mades before admitted results.1 news admits.1

  in-files : (admitted : List NewResult) → AllByRecursion IsNew admitted → AreNewFiles streams (entries_of admitted) (files_of admitted)
  in-files [] all = tt
  in-files (new ∷ admitted) all = (all.0, in-files admitted all.1)

  pub new-files : (entries : List PlainEntry) (file : ℕ) (places : List Place) (mades : List MadeResult) (admitted : List NewResult) → AreEach (IsMadeAt streams) places mades
      → Admits entries file [] mades admitted → AreNewFiles streams (entries_of admitted) (files_of admitted)
  new-files entries file places mades admitted each admits = in-files admitted (admitted-new entries file mades [] admitted (results-at places mades each) tt admits)
