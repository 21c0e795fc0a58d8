-- The rewriting of a choice where some kept results are left out serves.
use Rattle.std.proofs.Common.{◌≡◌, ◌∙◌, sym, subst, ℕ, List}
use Rattle.std.specs.List.{AllByRecursion}
use Rattle.plan_core.specs.PlainPlan.{PlainPlan, plan_of, leaves}
use Rattle.plan_canon.specs.Normal.{IsNormalFormOf}
use Rattle.estimator.specs.Cuts.{Cuts}
use Rattle.rewrite_core.specs.Files.{files_of}
use Rattle.rewrite_core.specs.PlainRewriting.{PlainRewriting, rewriting_of}
use Rattle.growth_laws.specs.Parts.{plan_at, cuts_at}
use Rattle.catalog_core.specs.IsTable.{IsTable}
use Rattle.catalog_core.specs.Named.{HasFile}
use Rattle.catalog_core.specs.Programs.{AreCuts, kinds_of_streams}
use Rattle.catalog_core.specs.Table.{Table}
use Rattle.plan_choice.specs.Leaving.{leaving_out}
use Rattle.plan_choice.specs.Taken.{IsChoice, IsTaken, Serves}
use Rattle.plan_choice.specs.declared.choosing.Choice.{Choice}
use Rattle.work_plan.specs.Fitting.{IsFit}
use Rattle.work_turns.specs.Turns.{IsChosenOf}
use Rattle.work_run.proofs.Rooted.{IsRooted, TakenServe, chosen_cuts, chosen_plan, chosen_serves, plan_is, rooted}

-- what serves there serves
abbrev pub LeftServe : Type 0
LeftServe = (t : Table) (left_out : List ℕ) (plan normal : PlainPlan) (cuts : Cuts) (r : PlainRewriting) → Serves (leaving_out left_out t) plan normal cuts r → Serves t plan normal cuts r

module _ (serve : TakenServe) (more : LeftServe) (t : Table) (left_out : List ℕ) (plan form : PlainPlan) (cuts : Cuts) (choice : Choice) (is : IsChosenOf t left_out plan form cuts choice) where
  abbrev taken : PlainRewriting
  taken = rewriting_of choice.rewriting

  left_serves : Serves t plan is.chosen.choice_is.normal cuts taken
  left_serves = more t left_out plan is.chosen.choice_is.normal cuts taken (chosen_serves serve (leaving_out left_out t) plan cuts choice is.chosen)

  pub left_plan : plan_at taken ≡ form
  left_plan = chosen_plan serve (leaving_out left_out t) plan cuts choice is.chosen ∙ is.form_is

  pub left_cuts : cuts_at taken ≡ cuts
  left_cuts = chosen_cuts serve (leaving_out left_out t) plan cuts choice is.chosen

  pub left_root : IsRooted t plan taken
  left_root = rooted t plan is.chosen.choice_is.normal cuts taken left_serves is.chosen.typed is.chosen.are_cuts is.chosen.fit

  pub left_taken : IsTaken (leaving_out left_out t) plan form cuts taken
  left_taken = subst (λ (q : PlainPlan). IsTaken (leaving_out left_out t) plan q cuts taken) is.form_is is.chosen.choice_is.taken

-- the files that it names are there
abbrev pub FilesThere : Type 0
FilesThere = (t : Table) (plan normal : PlainPlan) (cuts : Cuts) (r : PlainRewriting) → IsTable t → Serves t plan normal cuts r → AreCuts t.streams (leaves plan) cuts → AllByRecursion (HasFile t) (files_of r)

pub left_files : FilesThere → TakenServe → (t : Table) (left_out : List ℕ) (plan form : PlainPlan) (cuts : Cuts) (choice : Choice) → IsChosenOf t left_out plan form cuts choice → IsTable (leaving_out left_out t)
    → AllByRecursion (HasFile (leaving_out left_out t)) (files_of (rewriting_of choice.rewriting))
left_files there serve t left_out plan form cuts choice is is_table =
    there (leaving_out left_out t) plan is.chosen.choice_is.normal cuts (rewriting_of choice.rewriting) is_table (chosen_serves serve (leaving_out left_out t) plan cuts choice is.chosen) is.chosen.are_cuts

-- The next choice, where one more is left out, is of the same normal form.
module _ (serve : TakenServe) (t : Table) (left_out : List ℕ) (plan form : PlainPlan) (cuts : Cuts) (choice : Choice) (is : IsChosenOf t left_out plan form cuts choice) (more : List ℕ) (next : Choice)
    (is_next : IsNormalFormOf (kinds_of_streams t.streams) plan form → IsChoice (leaving_out more t) plan cuts next) (form_next : plan_of next.rewriting.plan ≡ form) where
  of_form : IsTaken (leaving_out left_out t) plan form cuts (rewriting_of choice.rewriting)
  of_form = subst (λ (q : PlainPlan). IsTaken (leaving_out left_out t) plan q cuts (rewriting_of choice.rewriting)) is.form_is is.chosen.choice_is.taken

  next_is : IsChoice (leaving_out more t) plan cuts next
  next_is = is_next of_form.normal

  same_form : next_is.normal ≡ form
  same_form =
      sym (plan_is _ next_is.normal cuts (rewriting_of next.rewriting) (serve (leaving_out more t) plan next_is.normal cuts (rewriting_of next.rewriting) next_is.taken).over) ∙ form_next

  pub chosen_again : IsChosenOf t more plan form cuts next
  chosen_again = record {
    chosen = record {
      choice_is = next_is;
      typed = is.chosen.typed;
      are_cuts = is.chosen.are_cuts;
      fit = subst (λ (q : PlainPlan). IsFit t.streams q cuts) (is.form_is ∙ sym same_form) is.chosen.fit;
    };
    form_is = same_form;
  }
