-- Work by a rewriting that serves, by the rewriting alone.
use Rattle.std.proofs.Common.{◌≡◌, sym, subst, ◌<◌, ◌≤◌, List, [], ◌∷◌, IsOk}
use Rattle.std.specs.List.{AllByRecursion}
use Rattle.plan_core.specs.PlainPlan.{PlainPlan, plan_of, leaves}
use Rattle.plan_core.specs.PlanTyping.{plan_typing}
use Rattle.estimator.specs.Cuts.{Cuts}
use Rattle.rewrite_core.specs.IsRewriting.{Naming, IsRewriting}
use Rattle.rewrite_core.specs.PlainRewriting.{PlainRewriting, Node, rewriting_of}
use Rattle.growth_laws.specs.MadePlaces.{Place, place}
use Rattle.growth_laws.specs.Parts.{plan_at, cuts_at}
use Rattle.catalog_types.specs.declared.snapshot.StreamState.{StreamState}
use Rattle.catalog_core.specs.Programs.{AreCuts, kinds_of_streams}
use Rattle.catalog_core.specs.Table.{Table}
use Rattle.catalog_core.proofs.AskedResults.{all-at}
use Rattle.executor.specs.Outcomes.{IsKeptFrom}
use Rattle.executor.specs.declared.outcome.KeptPlace.{KeptPlace}
use Rattle.plan_choice.specs.Taken.{IsTaken, Serves}
use Rattle.plan_choice.specs.declared.choosing.Choice.{Choice}
use Rattle.work_plan.specs.Fitting.{IsFit}
use Rattle.work_run.specs.Chosen.{IsChosen}
use Rattle.work_run.specs.Opened.{IsOpen, opened_rewriting}
use Rattle.work_run.specs.declared.open.OpenWork.{OpenWork}

-- a rewriting is one of its own plan at its own cut
pub plan_is : (names : Naming) (q : PlainPlan) (c : Cuts) (r : PlainRewriting) → IsRewriting names q c r → plan_at r ≡ q
plan_is names q c (Node p cuts way) is = is.0

pub cuts_are : (names : Naming) (q : PlainPlan) (c : Cuts) (r : PlainRewriting) → IsRewriting names q c r → cuts_at r ≡ c
cuts_are names q c (Node p cuts way) is = is.1

pub record IsRooted (t : Table) (plan : PlainPlan) (r : PlainRewriting) : Type 0 where
  pub serves : Serves t plan (plan_at r) (cuts_at r) r
  pub typed : IsOk (plan_typing (kinds_of_streams t.streams) plan)
  pub are_cuts : AreCuts t.streams (leaves plan) (cuts_at r)
  pub fit : IsFit t.streams (plan_at r) (cuts_at r)

module _ (t : Table) (plan normal : PlainPlan) (cuts : Cuts) (r : PlainRewriting) (serves : Serves t plan normal cuts r) where
  pub same_plan : plan_at r ≡ normal
  same_plan = plan_is _ _ _ r serves.over

  pub same_cuts : cuts_at r ≡ cuts
  same_cuts = cuts_are _ _ _ r serves.over

  pub rooted : IsOk (plan_typing (kinds_of_streams t.streams) plan) → AreCuts t.streams (leaves plan) cuts → IsFit t.streams normal cuts → IsRooted t plan r
  rooted typed are_cuts fit = record {
    serves = subst (λ (q : PlainPlan). Serves t plan q (cuts_at r) r) (sym same_plan) (subst (λ (c : Cuts). Serves t plan normal c r) (sym same_cuts) serves);
    typed = typed;
    are_cuts = subst (AreCuts t.streams (leaves plan)) (sym same_cuts) are_cuts;
    fit = subst (λ (q : PlainPlan). IsFit t.streams q (cuts_at r)) (sym same_plan) (subst (λ (c : Cuts). IsFit t.streams normal c) (sym same_cuts) fit);
  }

-- ---- of a choice

-- what is taken serves
abbrev pub TakenServe : Type 0
TakenServe = (t : Table) (plan normal : PlainPlan) (cuts : Cuts) (r : PlainRewriting) → IsTaken t plan normal cuts r → Serves t plan normal cuts r

module _ (serve : TakenServe) (t : Table) (plan : PlainPlan) (cuts : Cuts) (choice : Choice) (chosen : IsChosen t plan cuts choice) where
  abbrev r : PlainRewriting
  r = rewriting_of choice.rewriting

  pub chosen_serves : Serves t plan chosen.choice_is.normal cuts r
  chosen_serves = serve t plan chosen.choice_is.normal cuts r chosen.choice_is.taken

  pub chosen_plan : plan_at r ≡ chosen.choice_is.normal
  chosen_plan = same_plan t plan chosen.choice_is.normal cuts r chosen_serves

  pub chosen_cuts : cuts_at r ≡ cuts
  chosen_cuts = same_cuts t plan chosen.choice_is.normal cuts r chosen_serves

  pub chosen_root : IsRooted t plan r
  chosen_root = rooted t plan chosen.choice_is.normal cuts r chosen_serves chosen.typed chosen.are_cuts chosen.fit

-- ---- of open work

module _ (t : Table) (plan : PlainPlan) (work : OpenWork) (is : IsOpen t plan work) where
  abbrev of : PlainRewriting
  of = opened_rewriting work

  pub open_plan : plan_at of ≡ is.normal
  open_plan = same_plan t plan is.normal work.program.cuts of is.serves

  pub open_cuts : cuts_at of ≡ work.program.cuts
  open_cuts = same_cuts t plan is.normal work.program.cuts of is.serves

  pub open_root : IsRooted t plan of
  open_root = rooted t plan is.normal work.program.cuts of is.serves is.typed is.are_cuts is.fit

-- ---- what is kept is fit

module _ (streams : List StreamState) (places : List Place) (fit : AllByRecursion (λ (at : Place). IsFit streams at.plan at.cuts) places) where
  pub fit-kept : (kepts : List KeptPlace) → AllByRecursion (IsKeptFrom places) kepts → AllByRecursion (λ (kept : KeptPlace). IsFit streams (plan_of kept.plan) kept.cuts × (0 < kept.machine)) kepts
  fit-kept [] from = tt
  fit-kept (kept ∷ kepts) from =
      ((all-at (λ (at : Place). IsFit streams at.plan at.cuts) places (place (plan_of kept.plan) kept.cuts) fit from.0.0, from.0.1), fit-kept kepts from.1)

pub within-kept : (places : List Place) (kepts : List KeptPlace) → AllByRecursion (IsKeptFrom places) kepts → AllByRecursion (λ (kept : KeptPlace). kept.machine ≤ 4294967295) kepts
within-kept places [] from = tt
within-kept places (kept ∷ kepts) from = (from.0.2, within-kept places kepts from.1)
