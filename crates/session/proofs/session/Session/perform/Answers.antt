use Rattle.std.proofs.Common.{◌∙◌, sym, ap, subst, refl}
use Rattle.catalog_core.specs.IsTable.{IsTable}
use Rattle.script_text.specs.declared.answer.Answer.TheVariants as answer
use Rattle.script_text.specs.declared.answer.Refusal.TheVariants as refusal
use Rattle.folder.specs.Folders.{table_in}
use Rattle.folder_session.specs.Causes.{TellsOfNoFile}
use Rattle.folder_session.proofs.DroppedLemmas.{gone_from_none}
use Rattle.folder_session.proofs.RefusalLemmas.{no_file_causes, want_causes}
use Rattle.folder_session.proofs.TakenLemmas.{none_for, told_of_none}
use Rattle.session.specs.Jobs.{held_of}
use Rattle.session.specs.Standing.{folder_of, jobs_of}
use Rattle.session.proofs.OpenLemmas.{stays}
use Rattle.session.proofs.PerformLemmas.{breaks_beside, found_beside, most_beside, performs_beside, taken_beside, want_beside}
use Rattle.session.proofs.StayLemmas.{AreAllHeld, all_held, still_held_over}
use Rattle.session.proofs.session.Session.perform.Goals as goal

-- ---- want of memory

pub returns-in-Err-clause-ok : goal.returns-in-Err-clause-ok
returns-in-Err-clause-ok g c = λ told care m stands. stays care (g.D.Store.view c.args.store.now) c.args.self c.args.self m c.args.command (answer.Refused refusal.Memory) stands refl refl (want_beside care m c.args.command c.requires.of_folder c.requires.no_work)

pub returns-in-Err-clause-gone : goal.returns-in-Err-clause-gone
returns-in-Err-clause-gone g c = λ told. (let t = table_in (folder_of c.args.self) in gone_from_none t t refl (g.D.Store.view c.args.store.now) (g.D.Store.counts c.args.store.now) (g.D.Store.counts c.args.store.now))

pub returns-in-Err-clause-found : goal.returns-in-Err-clause-found
returns-in-Err-clause-found g c = λ told. found_beside (table_in (folder_of c.args.self)) (jobs_of c.args.self) c.args.command (g.D.Store.view c.args.store.now).files (answer.Refused refusal.Memory) c.requires.of_folder (want_causes (table_in (folder_of c.args.self)) (g.D.Store.view c.args.store.now).files c.args.command)

pub returns-in-Err-clause-most : goal.returns-in-Err-clause-most
returns-in-Err-clause-most g c = λ told. most_beside (table_in (folder_of c.args.self)) (jobs_of c.args.self) c.args.command (g.D.Store.counts c.args.store.now) (g.D.Store.counts c.args.store.now) c.requires.of_folder (none_for (table_in (folder_of c.args.self)) c.args.command (g.D.Store.counts c.args.store.now) (g.D.Store.counts c.args.store.now) refl)

-- ---- performed

pub returns-in-Ok-step-clause-holds : goal.returns-in-Ok-step-clause-holds
returns-in-Ok-step-clause-holds g c =
    let opens = jobs_of c.args.self in
    let held_is = c.deref-2.ensures.value ∙ c.in-Ok.ensures ∙ ap held_of c.deref.ensures.value in
    still_held_over c.job_work_stays.ensures.job c.deref-2.result.now (table_in (folder_of c.args.self)) (table_in c.in-Ok-step.base.folder) (subst IsTable c.catalog.ensures c.know_table.ensures)
    (subst IsTable c.catalog-in-Ok-step.ensures c.know_table-in-Ok-step.ensures) c.in-Ok-step.ensures.later opens (subst (λ ids. AreAllHeld ids opens) (sym held_is) (all_held opens)) c.requires.holds

pub returns-in-Ok-step-clause-ok : goal.returns-in-Ok-step-clause-ok
returns-in-Ok-step-clause-ok g c = λ told care m stands.
    performs_beside c.job_work_stays.ensures.job c.job_work_stays.ensures.read care (g.D.Store.view c.args.store.now) (g.D.Store.view c.step.new.store) c.args.self
    (record { base = c.in-Ok-step.base; jobs = c.args.self.jobs; alloc = c.args.self.alloc }) m c.deref-2.result.now stands (c.deref-2.ensures.value ∙ c.in-Ok.ensures ∙ ap held_of c.deref.ensures.value) c.args.command c.requires.of_folder c.requires.no_work c.in-Ok-step.answer refl
    (subst IsTable c.catalog.ensures c.know_table.ensures) (subst IsTable c.catalog-in-Ok-step.ensures c.know_table-in-Ok-step.ensures) c.in-Ok-step.ensures.later (c.in-Ok-step.ensures.ok told care m.state stands.base)

pub returns-in-Ok-step-clause-fault : goal.returns-in-Ok-step-clause-fault
returns-in-Ok-step-clause-fault g c = λ is. absurd (subst TellsOfNoFile is c.in-Ok-step.ensures.of_no_file)

pub returns-in-Ok-step-clause-found : goal.returns-in-Ok-step-clause-found
returns-in-Ok-step-clause-found g c = λ told.
    let t = table_in (folder_of c.args.self) in
    let files = (g.D.Store.view c.args.store.now).files in
    found_beside t (jobs_of c.args.self) c.args.command files c.in-Ok-step.answer c.requires.of_folder (no_file_causes t files c.args.command c.in-Ok-step.answer c.in-Ok-step.ensures.of_no_file)

pub returns-in-Ok-step-clause-taken : goal.returns-in-Ok-step-clause-taken
returns-in-Ok-step-clause-taken g c = λ told care m stands.
    let old = g.D.Store.counts c.args.store.now in
    let new = g.D.Store.counts c.step.new.store in
    taken_beside (table_in (folder_of c.args.self)) (jobs_of c.args.self) c.args.command c.in-Ok-step.answer old new c.requires.of_folder (told_of_none c.in-Ok-step.answer old new c.in-Ok-step.ensures.of_no_file)

pub returns-in-Ok-step-clause-most : goal.returns-in-Ok-step-clause-most
returns-in-Ok-step-clause-most g c = λ told.
    let t = table_in (folder_of c.args.self) in
    let old = g.D.Store.counts c.args.store.now in
    let new = g.D.Store.counts c.step.new.store in
    most_beside t (jobs_of c.args.self) c.args.command old new c.requires.of_folder (none_for t c.args.command old new c.step.ensures.taken)

pub returns-in-Err-step-clause-most : goal.returns-in-Err-step-clause-most
returns-in-Err-step-clause-most g c = λ told.
    let t = table_in (folder_of c.args.self) in
    let old = g.D.Store.counts c.args.store.now in
    let new = g.D.Store.counts c.step.new.store in
    most_beside t (jobs_of c.args.self) c.args.command old new c.requires.of_folder (none_for t c.args.command old new c.step.ensures.taken)

pub returns-in-Err-step-clause-err : goal.returns-in-Err-step-clause-err
returns-in-Err-step-clause-err g c = λ told care m stands.
    breaks_beside c.job_work_stays.ensures.job c.job_work_stays.ensures.read care (g.D.Store.view c.args.store.now) (g.D.Store.view c.step.new.store) c.args.self c.args.self m c.deref-2.result.now stands
    (c.deref-2.ensures.value ∙ c.in-Ok.ensures ∙ ap held_of c.deref.ensures.value) c.args.command c.requires.of_folder c.requires.no_work (c.in-Err-step.ensures.err told care m.state stands.base)
