use Rattle.std.proofs.Common.{sym, subst}
use Rattle.plan_core.specs.PlainPlan.{PlainPlan, leaves}
use Rattle.plan_canon.specs.Normal.{IsNormalFormOf}
use Rattle.catalog_core.specs.Catalogs.{table_of}
use Rattle.catalog_core.specs.Programs.{AreCuts, kinds_of_streams}
use Rattle.catalog_core.specs.Table.{Table}
use Rattle.plan_choice.specs.Taken.{IsChoice}
use Rattle.plan_choice.proofs.NormalForms.{form_cuts}
use Rattle.folder_session.proofs.ChosenLemmas.{chosen_for, of_form}
use Rattle.folder_session.proofs.choosing.chosen.Goals as goal

pub normal_form-requires : goal.normal_form-requires
normal_form-requires c = c.requires.1.over

pub choose_without-requires : goal.choose_without-requires
choose_without-requires c =
    let t = table_of c.args.catalog.now in
    let cuts = c.args.cuts.now in
    let target = c.requires.0 in
    form_cuts t.streams c.args.typed.plan c.in_ok-normal.normal.plan cuts c.in_ok-normal.ensures
    (subst (λ (p : PlainPlan). AreCuts t.streams (leaves p) cuts) (sym c.requires.1.plan) c.requires.1.are_cuts)

pub returns-clause-of_form : goal.returns-clause-of_form
returns-clause-of_form c = λ target typed_at.
    let t = table_of c.args.catalog.now in
    let cuts = c.args.cuts.now in
    let form = c.in_ok-normal.normal.plan in
    let choice = c.in_ok-choice.choice in
    let given = c.in_ok-choice.ensures in
    let serves = c.taken_rewritings.ensures.serves in
    let laws = c.serving_rewritings.ensures in
    let is_form = subst (λ (p : PlainPlan). IsNormalFormOf (kinds_of_streams t.streams) p form) typed_at.plan c.in_ok-normal.ensures in
    let is = subst (λ (x : Table). IsChoice x target.plan cuts choice) (c.results_are_left_out.ensures.none t) (given.chosen target.plan is_form) in
    of_form (λ t plan normal cuts r taken. laws.over t plan normal cuts r (serves t plan normal cuts r taken)) (λ t plan normal cuts r taken. laws.leaves t plan normal cuts r (serves t plan normal cuts r taken))
    (λ t plan normal cuts r taken. laws.normal t plan normal cuts r (serves t plan normal cuts r taken)) (λ t plan normal cuts r taken. laws.deep t plan normal cuts r (serves t plan normal cuts r taken)) t c.args.typed cuts target choice typed_at
    given.spelled given.literals (c.results_are_left_out.ensures.none t) form given.form is

pub returns-clause-chosen : goal.returns-clause-chosen
returns-clause-chosen c = λ target typed_at.
    let t = table_of c.args.catalog.now in
    let cuts = c.args.cuts.now in
    let form = c.in_ok-normal.normal.plan in
    let choice = c.in_ok-choice.choice in
    let given = c.in_ok-choice.ensures in
    let serves = c.taken_rewritings.ensures.serves in
    let laws = c.serving_rewritings.ensures in
    let is_form = subst (λ (p : PlainPlan). IsNormalFormOf (kinds_of_streams t.streams) p form) typed_at.plan c.in_ok-normal.ensures in
    let is = subst (λ (x : Table). IsChoice x target.plan cuts choice) (c.results_are_left_out.ensures.none t) (given.chosen target.plan is_form) in
    chosen_for (λ t plan normal cuts r taken. laws.over t plan normal cuts r (serves t plan normal cuts r taken)) (λ t plan normal cuts r taken. laws.leaves t plan normal cuts r (serves t plan normal cuts r taken))
    (λ t plan normal cuts r taken. laws.normal t plan normal cuts r (serves t plan normal cuts r taken)) (λ t plan normal cuts r taken. laws.deep t plan normal cuts r (serves t plan normal cuts r taken)) t c.args.typed cuts target choice typed_at
    given.spelled given.literals is
