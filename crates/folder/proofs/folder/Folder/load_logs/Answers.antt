use Rattle.std.proofs.Common.{◌∙◌, sym, subst, inl, inr, arith}
use Rattle.std.specs.Prelude.{IsTrue, ◌↔◌}
use Rattle.std.proofs.lemmas.Result.{IfOk-weaker}
use Rattle.outside_traits.proofs.RunLemmas.{spans_on}
use Rattle.journal_store.specs.Readings.{IsJournalFile}
use Rattle.folder.specs.Folders.{journal_of, table_in}
use Rattle.folder.specs.Replay.{ReadsAs}
use Rattle.folder.specs.Standing.{StandsIn, MeansIn}
use Rattle.folder.specs.Unnamed.{HasRoot}
use Rattle.folder.proofs.Crash.{since_then_first}
use Rattle.folder.proofs.Replacing.{goes_on}
use Rattle.folder.proofs.folder.Folder.load_logs.Goals as goal

-- ---- a log that was replaced

pub returns-else-may_stay-clause-reading : goal.returns-else-may_stay-clause-reading
returns-else-may_stay-clause-reading g c = λ told.
    IfOk-weaker c.replace_log.result _ _
    (λ folder same. subst (ReadsAs (g.D.Store.view c.args.store.now).files) (sym same) (c.in-Ok.ensures.reading told))
    c.replace_log.ensures.table

pub returns-else-may_stay-clause-stands : goal.returns-else-may_stay-clause-stands
returns-else-may_stay-clause-stands g c = λ told. c.replace_log.ensures.stands told c.in-Ok.field-0.form (c.in-Ok.ensures.stands told)

pub returns-else-may_stay-clause-unchanged : goal.returns-else-may_stay-clause-unchanged
returns-else-may_stay-clause-unchanged g c = λ told file at is. absurd (c.replace_log.ensures.is_store file at is)

pub returns-else-may_stay-clause-crash : goal.returns-else-may_stay-clause-crash
returns-else-may_stay-clause-crash g c = λ told care a b left.
    since_then_first care a b _ _ _ (c.read.ensures.crash told care a b left) (c.replace_log.ensures.stays told c.in-Ok.field-0.form care a (c.in-Ok.ensures.means told care a b left))

pub returns-else-may_stay-clause-means : goal.returns-else-may_stay-clause-means
returns-else-may_stay-clause-means g c = λ told care a b left. c.replace_log.ensures.means told c.in-Ok.field-0.form care a (c.in-Ok.ensures.means told care a b left)

pub returns-else-may_stay-clause-generation : goal.returns-else-may_stay-clause-generation
returns-else-may_stay-clause-generation g c = λ told h bodies have.
    let of_logs = c.in-Ok.ensures.bodies told h bodies have in
    IfOk-weaker c.replace_log.result _ _ (λ folder is. inr is)
    (c.replace_log.ensures.replaced told c.in-Ok.field-0.form (c.in-Ok.ensures.stands told) h bodies of_logs.1
    (goes_on bodies c.in-Ok.field-0.form c.in-Ok.field-0.bodies _ of_logs.2 of_logs.3 c.may_stay.ensures c.if-may_stay.false))

pub returns-else-may_stay-clause-finished : goal.returns-else-may_stay-clause-finished
returns-else-may_stay-clause-finished g c = λ told as_it_is.
    let reading = c.in-Ok.ensures.reading told in
    let of_logs = c.in-Ok.ensures.bodies told reading.generation reading.bodies reading.logs in
    absurd
    (goes_on reading.bodies c.in-Ok.field-0.form c.in-Ok.field-0.bodies _ of_logs.2 of_logs.3 c.may_stay.ensures c.if-may_stay.false
    (as_it_is.1 reading.generation reading.bodies reading.logs))

pub returns-else-may_stay-clause-most_taken : goal.returns-else-may_stay-clause-most_taken
returns-else-may_stay-clause-most_taken g c = λ told most at_most.
    let few = c.in-Ok.ensures.most_taken told most at_most in
    let same = c.replace_log.ensures.taken in
    omega (arith, few, same)

pub returns-else-may_stay-clause-had_root : goal.returns-else-may_stay-clause-had_root
returns-else-may_stay-clause-had_root g c = λ told.
    IfOk-weaker c.replace_log.result _ _
    (λ folder same. subst (λ b. IsTrue b ↔ HasRoot (g.D.Store.view c.args.store.now).files) (sym same) (c.in-Ok.ensures.had_root told))
    c.replace_log.ensures.had_root

pub returns-else-may_stay-clause-alone : goal.returns-else-may_stay-clause-alone
returns-else-may_stay-clause-alone g c = λ told.
    spans_on IsJournalFile (λ image. Unit {0}) _ _ _ (c.read.ensures.alone told) (c.replace_log.ensures.alone told c.in-Ok.field-0.form (c.in-Ok.ensures.stands told))

pub returns-else-may_stay-clause-no_removal : goal.returns-else-may_stay-clause-no_removal
returns-else-may_stay-clause-no_removal g c = λ told stay.
    let reading = c.in-Ok.ensures.reading told in
    let of_logs = c.in-Ok.ensures.bodies told reading.generation reading.bodies reading.logs in
    absurd
    (goes_on reading.bodies c.in-Ok.field-0.form c.in-Ok.field-0.bodies _ of_logs.2 of_logs.3 c.may_stay.ensures c.if-may_stay.false
    (stay reading.generation reading.bodies reading.logs))

-- ---- one that was left

pub returns-then-may_stay-clause-stands : goal.returns-then-may_stay-clause-stands
returns-then-may_stay-clause-stands g c = λ told.
    subst (λ f. StandsIn f (g.D.Store.view c.read.new.store) (table_in c.in-Ok.field-0.folder) (journal_of c.in-Ok.field-0.folder)) (c.may_stay.ensures.0 c.if-may_stay.true).1 (c.in-Ok.ensures.stands told)

pub returns-then-may_stay-clause-means : goal.returns-then-may_stay-clause-means
returns-then-may_stay-clause-means g c = λ told care a b left.
    subst (λ f. MeansIn f care (g.D.Store.view c.read.new.store) (table_in c.in-Ok.field-0.folder) (journal_of c.in-Ok.field-0.folder) a) (c.may_stay.ensures.0 c.if-may_stay.true).1
    (c.in-Ok.ensures.means told care a b left)

pub returns-then-may_stay-clause-generation : goal.returns-then-may_stay-clause-generation
returns-then-may_stay-clause-generation g c = λ told h bodies have.
    let of_logs = c.in-Ok.ensures.bodies told h bodies have in
    let stays = c.may_stay.ensures.0 c.if-may_stay.true in
    inl (record {
      stays = (let few = stays.0 in let many = of_logs.2 in omega (arith, few, many), sym of_logs.3 ∙ stays.1);
      generation = of_logs.0;
      keeps = of_logs.1;
    })
