use Rattle.std.proofs.Common.{◌∙◌, [], Err, ap, sym, subst, refl, inr}
use Rattle.catalog_core.specs.Catalogs.{table_of}
use Rattle.catalog_core.specs.Named.{file_at}
use Rattle.catalog_core.specs.Table.{Table}
use Rattle.rewrite_core.specs.Files.{files_of}
use Rattle.script_text.specs.declared.answer.Answer.TheVariants as answer
use Rattle.script_text.specs.declared.answer.Refusal.{Refusal}
use Rattle.script_text.specs.declared.answer.Refusal.TheVariants as refusal
use Rattle.work_turns.specs.Turns.{IsChosenOf}
use Rattle.work_turns.specs.declared.turns.LastTurn.{LastTurn}
use Rattle.folder_session.specs.Machine.{IsOfExtent, WorkStep}
use Rattle.folder_session.specs.WorkRefusals.{refusal_of}
use Rattle.folder_session.specs.Working.{IsFoundFor}
use Rattle.folder_session.specs.Wanted.{target_at}
use Rattle.folder_session.proofs.LeavingLemmas.{err_same, fault_rose, unread_counts}
use Rattle.folder_session.proofs.RefusalLemmas.{turns_found}
use Rattle.folder_session.proofs.StepLemmas.{refused_work}
use Rattle.folder_session.proofs.TurnLemmas.{of_extent_of}
use Rattle.folder_session.proofs.turning.read_in_turns.Goals as goal

pub run_in_turns-requires : goal.run_in_turns-requires
run_in_turns-requires g c = (c.args.typed.plan, c.in-Ok.ensures.of_form (target_at c.args.typed c.args.cuts.now) c.requires)

-- ---- read

pub returns-in-Ok-run_in_turns-clause-ok : goal.returns-in-Ok-run_in_turns-clause-ok
returns-in-Ok-run_in_turns-clause-ok g c = λ told care s left means.
    let plan = c.args.typed.plan in
    let first = c.in-Ok.ensures.of_form (target_at c.args.typed c.args.cuts.now) c.requires in
    record {
      form = c.in-Ok.taken.normal.plan;
      choice = c.in-Ok.taken.choice;
      first = subst (λ (t : Table). IsChosenOf t [] plan c.in-Ok.taken.normal.plan c.args.cuts.now c.in-Ok.taken.choice) means first;
      ended = c.in-Ok-run_in_turns.ensures.ok told care s plan left means first;
    }

pub returns-in-Ok-run_in_turns-clause-most : goal.returns-in-Ok-run_in_turns-clause-most
returns-in-Ok-run_in_turns-clause-most g c = λ told. inr (c.in-Ok.taken.normal.plan, c.run_in_turns.ensures.most told c.args.typed.plan (c.in-Ok.ensures.of_form (target_at c.args.typed c.args.cuts.now) c.requires))

-- ---- or refused

pub returns-clause-err : goal.returns-clause-err
returns-clause-err g c = λ told care s left means program.
    let t = table_of c.args.catalog.now in
    let plan = c.args.typed.plan in
    let why = c.in-Err.refusal in
    let first = c.in-Ok.ensures.of_form (target_at c.args.typed c.args.cuts.now) c.requires in
    let is = c.in-Err.ensures.err told care s plan left means first in
    let cause = c.in-Err.ensures.cause plan first in
    let extent = of_extent_of c.serving_rewritings.ensures.there c.taken_rewritings.ensures.serves c.results_are_left_out.ensures.table t c.know_table.ensures plan c.in-Ok.taken.normal.plan c.args.cuts.now c.requires.are_cuts cause.rewriting cause.after why cause.of_extent in
    subst (λ (w : Refusal). WorkStep care s program plan c.args.cuts.now (answer.Refused w) s) (sym c.refusal_of.ensures)
    (refused_work care s program plan c.args.cuts.now why is (subst (λ (x : Table). IsOfExtent x (refusal_of why)) means extent))

pub returns-clause-most : goal.returns-clause-most
returns-clause-most g c = λ told. inr (c.in-Ok.taken.normal.plan, c.run_in_turns.ensures.most told c.args.typed.plan (c.in-Ok.ensures.of_form (target_at c.args.typed c.args.cuts.now) c.requires))

pub returns-clause-found : goal.returns-clause-found
returns-clause-found g c = λ told.
    let t = table_of c.args.catalog.now in
    let plan = c.args.typed.plan in
    let files = (g.D.Store.view c.args.store.now).files in
    let old = g.D.Store.counts c.args.store.now in
    let new = g.D.Store.counts c.run_in_turns.new.store in
    subst (IsFoundFor t plan c.args.cuts.now files) (sym c.refusal_of.ensures)
    (turns_found t files plan c.in-Ok.taken.normal.plan c.args.cuts.now old new g.D.Store.tells told c.in-Err.refusal (c.in-Err.ensures.cause plan (c.in-Ok.ensures.of_form (target_at c.args.typed c.args.cuts.now) c.requires)))

pub returns-clause-fault : goal.returns-clause-fault
returns-clause-fault g c = λ is.
    let cause = c.in-Err.ensures.cause c.args.typed.plan (c.in-Ok.ensures.of_form (target_at c.args.typed c.args.cuts.now) c.requires) in
    fault_rose (file_at (table_of c.args.catalog.now)) (files_of cause.rewriting) (g.D.Store.counts c.args.store.now) (g.D.Store.counts c.run_in_turns.new.store) c.in-Err.refusal cause.cause (sym c.refusal_of.ensures ∙ err_same {T = LastTurn} c.refusal_of.result refusal.Fault is)

pub returns-clause-only_fault : goal.returns-clause-only_fault
returns-clause-only_fault g c = λ other.
    let cause = c.in-Err.ensures.cause c.args.typed.plan (c.in-Ok.ensures.of_form (target_at c.args.typed c.args.cuts.now) c.requires) in
    unread_counts (file_at (table_of c.args.catalog.now)) (files_of cause.rewriting) (g.D.Store.counts c.args.store.now) (g.D.Store.counts c.run_in_turns.new.store) c.in-Err.refusal cause.cause (λ is. other (ap Err (c.refusal_of.ensures ∙ is)))

-- ---- want of memory for the choice

pub returns-in_default-clause-err : goal.returns-in_default-clause-err
returns-in_default-clause-err g c = λ told care s left means program. inr (refusal.Memory, tt, tt, refl)
