use Rattle.std.proofs.Common.{◌≡◌, ◌<◌, ◌∙◌, ℕ, List, [], map, ap, sym, subst, refl, inr}
use Rattle.estimator.specs.Cuts.{Cuts}
use Rattle.catalog_types.specs.declared.change.Change.TheVariants as change
use Rattle.catalog_core.specs.Catalogs.{table_of}
use Rattle.catalog_core.specs.Table.{FitsProgram, Table}
use Rattle.rows_core.specs.Limits.{most_ticks}
use Rattle.admission.specs.Admitting.{entries_of, made_of}
use Rattle.planning.specs.Running.{IsTypedAt}
use Rattle.script_text.specs.declared.answer.Answer.TheVariants as answer
use Rattle.script_text.specs.declared.answer.Refusal.TheVariants as refusal
use Rattle.folder.specs.Folders.{table_in}
use Rattle.folder.specs.Next.{with_work}
use Rattle.work_plan.specs.Planning.{IsWorkPlan}
use Rattle.work_run.specs.Ends.{CountsRead, given_of}
use Rattle.work_turns.specs.Ends.{WorksInTurns, files_among, those_among}
use Rattle.work_turns.specs.Turns.{IsChosenOf}
use Rattle.folder_session.specs.Standing.{folder_of}
use Rattle.folder_session.specs.Wanted.{cuts_for, program_for, target_at}
use Rattle.folder_session.specs.Working.{IsFoundFor, answer_of}
use Rattle.folder_session.proofs.RefusalLemmas.{no_work_causes, want_causes, work_causes}
use Rattle.folder_session.proofs.StepLemmas.{no_work, want_event, work_done, work_step}
use Rattle.folder_session.proofs.TakenLemmas.{TookForWork, none_for, took_for}
use Rattle.folder_session.proofs.session.FolderSession.work_off.Goals as goal

-- at the session's own table, and at the cut that the purpose has
along : (P : Table → Cuts → Type 0) (t u : Table) → t ≡ u → (x y : Cuts) → x ≡ y → P t x → P u y
along P t u tables x y cuts is = subst (λ (v : Table). P v y) tables (subst (P t) cuts is)

-- ---- nothing is wanted

pub returns-in-Err-clause-err : goal.returns-in-Err-clause-err
returns-in-Err-clause-err g c = λ told care s stands held.
    no_work care held (table_in (folder_of c.args.self.now)) s stands.means.table_is c.args.command c.in-Err.refusal c.in-Err.ensures.wanted

pub returns-in-Err-clause-found : goal.returns-in-Err-clause-found
returns-in-Err-clause-found g c = λ told. no_work_causes (table_in (folder_of c.args.self.now)) (g.D.Store.view c.args.store.now).files c.args.command c.in-Err.refusal c.in-Err.ensures.wanted

pub returns-in-Err-clause-most : goal.returns-in-Err-clause-most
returns-in-Err-clause-most g c = λ told. none_for (table_in (folder_of c.args.self.now)) c.args.command (g.D.Store.counts c.args.store.now) (g.D.Store.counts c.args.store.now) refl

-- ---- its files are read

pub read_in_turns-requires : goal.read_in_turns-requires
read_in_turns-requires g c =
    let t = table_in (folder_of c.args.self.now) in
    let wanted = c.in-Ok.wanted in
    along (λ u cuts. IsTypedAt u (target_at wanted.typed cuts) wanted.typed cuts) t (table_of c.catalog-catalog.result.now) (sym (ap table_of c.catalog-catalog.ensures)) (cuts_for wanted.purpose) c.cuts.result.now (sym c.cuts.ensures) c.in-Ok.ensures.ready.planned.typed_at

-- ---- why they aren't read

pub returns-in-Err-read_in_turns-clause-err : goal.returns-in-Err-read_in_turns-clause-err
returns-in-Err-read_in_turns-clause-err g c = λ told care s stands held.
    let t = table_in (folder_of c.args.self.now) in
    let purpose = c.in-Ok.wanted.purpose in
    work_step care held t s stands.means.table_is c.args.command c.in-Ok.wanted.typed.plan purpose c.in-Ok.ensures.wanted (program_for purpose) refl c.cuts.result.now c.cuts.ensures (answer.Refused c.in-Err-read_in_turns.refusal) s
    (c.in-Err-read_in_turns.ensures.err told care s stands.left (ap table_of c.catalog-catalog.ensures ∙ stands.means.table_is) (program_for purpose))

pub returns-in-Err-read_in_turns-clause-found : goal.returns-in-Err-read_in_turns-clause-found
returns-in-Err-read_in_turns-clause-found g c = λ told.
    let t = table_in (folder_of c.args.self.now) in
    let plan = c.in-Ok.wanted.typed.plan in
    let purpose = c.in-Ok.wanted.purpose in
    let files = (g.D.Store.view c.args.store.now).files in
    let why = c.in-Err-read_in_turns.refusal in
    work_causes t files c.args.command plan purpose c.in-Ok.ensures.wanted why
    (along (λ u cut. IsFoundFor u plan cut files why) (table_of c.catalog-catalog.result.now) t (ap table_of c.catalog-catalog.ensures) c.cuts.result.now (cuts_for purpose) c.cuts.ensures (c.in-Err-read_in_turns.ensures.found told))

pub returns-in-Err-read_in_turns-clause-most : goal.returns-in-Err-read_in_turns-clause-most
returns-in-Err-read_in_turns-clause-most g c = λ told.
    let t = table_in (folder_of c.args.self.now) in
    let plan = c.in-Ok.wanted.typed.plan in
    let purpose = c.in-Ok.wanted.purpose in
    let old = g.D.Store.counts c.args.store.now in
    let mid = g.D.Store.counts c.read_in_turns.new.store in
    took_for t c.args.command plan purpose old mid c.in-Ok.ensures.wanted
    (along (λ u cut. TookForWork u plan cut old mid) (table_of c.catalog-catalog.result.now) t (ap table_of c.catalog-catalog.ensures) c.cuts.result.now (cuts_for purpose) c.cuts.ensures (c.read_in_turns.ensures.most told))

-- ---- what they come to is made

pub work_of_turns-requires-clause-program : goal.work_of_turns-requires-clause-program
work_of_turns-requires-clause-program g c =
    let fits = c.in-Ok.ensures.ready.fits in
    subst (FitsProgram c.program.result) (sym (ap table_of c.catalog-catalog.ensures)) (subst (λ p. FitsProgram p (table_in (folder_of c.args.self.now))) (sym c.program.ensures) fits)

pub work_of_turns-requires-clause-counted : goal.work_of_turns-requires-clause-counted
work_of_turns-requires-clause-counted g c = subst (λ (t : Table). t.tick < most_ticks) (sym (ap table_of c.catalog-catalog.ensures)) c.in-Ok.ensures.ready.planned.counted

pub returns-in-Ok-work_of_turns-clause-ok : goal.returns-in-Ok-work_of_turns-clause-ok
returns-in-Ok-work_of_turns-clause-ok g c = λ told care s stands.
    let t = table_of c.catalog-catalog.result.now in
    let plan = c.in-Ok.wanted.typed.plan in
    let purpose = c.in-Ok.wanted.purpose in
    let cuts = c.cuts.result.now in
    let means = ap table_of c.catalog-catalog.ensures ∙ stands.means.table_is in
    let done = c.in-Ok-work_of_turns.done in
    let of = c.in-Ok-work_of_turns.ensures in
    let ends = c.in-Ok-read_in_turns.ensures.ok told care s stands.left (ap table_of c.catalog-catalog.ensures ∙ stands.means.table_is) in
    let comes = of.ok care s plan ends.form cuts ends.choice stands.left.read.valid means (subst (λ (x : Table). IsChosenOf x [] plan ends.form cuts ends.choice) (sym means) ends.first) ends.ended in
    let both : change.Work c.program.result done.work.used.items comes.dropped comes.news ≡ change.Work c.program.result done.work.used.items (those_among c.in-Ok-read_in_turns.last.lost.items t.entries) (entries_of of.plan.admitted) = sym comes.change_is ∙ of.plan.change in
    let drops : comes.dropped ≡ those_among c.in-Ok-read_in_turns.last.lost.items t.entries = cc in
    let same : comes.dropped ≡ done.dropped.items = drops ∙ sym of.dropped in
    record {
      program = c.program.result;
      news = comes.news;
      performs = λ held. work_done care held (table_in (folder_of c.args.self.now)) s stands.means.table_is c.args.command plan purpose c.in-Ok.ensures.wanted c.program.result c.program.ensures cuts c.cuts.ensures (answer_of done.work)
          (with_work s c.program.result done.work.used.items done.dropped.items comes.news)
          (ends.form, subst (λ (ids : List ℕ). WorksInTurns care s c.program.result plan ends.form cuts (given_of done.work) (with_work s c.program.result done.work.used.items ids comes.news)) same comes.works);
      change_is = subst (λ (ids : List ℕ). done.work.plan.change ≡ change.Work c.program.result done.work.used.items ids comes.news) same comes.change_is;
      files = comes.files;
    }

pub returns-in-Ok-work_of_turns-clause-planned : goal.returns-in-Ok-work_of_turns-clause-planned
returns-in-Ok-work_of_turns-clause-planned g c =
    let t = table_of c.catalog-catalog.result.now in
    let own = ap table_of c.catalog-catalog.ensures in
    let lost = c.in-Ok-read_in_turns.last.lost.items in
    let done = c.in-Ok-work_of_turns.done in
    let of = c.in-Ok-work_of_turns.ensures in
    let mades = map made_of c.in-Ok-read_in_turns.last.turn.outcome.made.items in
    record {
      program = c.program.result;
      lost = lost;
      dropped = of.dropped ∙ ap (λ (x : Table). those_among lost x.entries) own;
      mades = mades;
      planned = subst (λ (x : Table). IsWorkPlan x c.program.result done.work.used.items done.dropped.items mades done.work.plan) own
          (subst (λ (ids : List ℕ). IsWorkPlan t c.program.result done.work.used.items ids mades done.work.plan) (sym of.dropped) of.plan);
      gone = of.gone ∙ (λ i. files_among (sym of.dropped i) (own i).entries);
    }

pub returns-in-Ok-work_of_turns-clause-narrow : goal.returns-in-Ok-work_of_turns-clause-narrow
returns-in-Ok-work_of_turns-clause-narrow g c = (let few = c.in-Ok-work_of_turns.ensures.narrow in (few.0, few.1, c.in-Ok-work_of_turns.ensures.plan.few))

pub returns-in-Ok-work_of_turns-clause-taken : goal.returns-in-Ok-work_of_turns-clause-taken
returns-in-Ok-work_of_turns-clause-taken g c = λ told care s stands.
    subst (λ (n : ℕ). CountsRead n (g.D.Store.counts c.args.store.now) (g.D.Store.counts c.read_in_turns.new.store)) (sym c.in-Ok-work_of_turns.ensures.read)
    (c.in-Ok-read_in_turns.ensures.taken told care s stands.left (ap table_of c.catalog-catalog.ensures ∙ stands.means.table_is))

pub returns-in-Ok-work_of_turns-clause-most : goal.returns-in-Ok-work_of_turns-clause-most
returns-in-Ok-work_of_turns-clause-most g c = λ told.
    let t = table_in (folder_of c.args.self.now) in
    let plan = c.in-Ok.wanted.typed.plan in
    let purpose = c.in-Ok.wanted.purpose in
    let old = g.D.Store.counts c.args.store.now in
    let mid = g.D.Store.counts c.read_in_turns.new.store in
    took_for t c.args.command plan purpose old mid c.in-Ok.ensures.wanted
    (along (λ u cut. TookForWork u plan cut old mid) (table_of c.catalog-catalog.result.now) t (ap table_of c.catalog-catalog.ensures) c.cuts.result.now (cuts_for purpose) c.cuts.ensures (c.read_in_turns.ensures.most told))

-- ---- want of memory for what is recorded

pub returns-in-Err-work_of_turns-clause-err : goal.returns-in-Err-work_of_turns-clause-err
returns-in-Err-work_of_turns-clause-err g c = λ told care s stands held. inr (refusal.Memory, want_event care s c.args.command, refl)

pub returns-in-Err-work_of_turns-clause-found : goal.returns-in-Err-work_of_turns-clause-found
returns-in-Err-work_of_turns-clause-found g c = λ told. want_causes (table_in (folder_of c.args.self.now)) (g.D.Store.view c.args.store.now).files c.args.command

pub returns-in-Err-work_of_turns-clause-most : goal.returns-in-Err-work_of_turns-clause-most
returns-in-Err-work_of_turns-clause-most g c = λ told.
    let t = table_in (folder_of c.args.self.now) in
    let plan = c.in-Ok.wanted.typed.plan in
    let purpose = c.in-Ok.wanted.purpose in
    let old = g.D.Store.counts c.args.store.now in
    let mid = g.D.Store.counts c.read_in_turns.new.store in
    took_for t c.args.command plan purpose old mid c.in-Ok.ensures.wanted
    (along (λ u cut. TookForWork u plan cut old mid) (table_of c.catalog-catalog.result.now) t (ap table_of c.catalog-catalog.ensures) c.cuts.result.now (cuts_for purpose) c.cuts.ensures (c.read_in_turns.ensures.most told))
