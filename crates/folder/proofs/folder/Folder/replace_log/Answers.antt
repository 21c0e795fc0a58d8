use Rattle.std.proofs.Common.{◌∙◌, ◌+◌, ap}
use Rattle.outside_traits.proofs.RunLemmas.{narrows_none, spans_narrowed, spans_wider}
use Rattle.journal_store.specs.Readings.{IsJournalFile}
use Rattle.folder.specs.Folders.{table_in}
use Rattle.folder.specs.Left.{Everything}
use Rattle.folder.specs.Sound.{IsSound}
use Rattle.folder.proofs.Replacing.{body_spells, replaced_stands, replaced_stays, replaced_means, stands_table}
use Rattle.folder.proofs.folder.Folder.replace_log.Goals as goal

pub returns-in_default-clause-stays : goal.returns-in_default-clause-stays
returns-in_default-clause-stays g c = λ told f care s means. spans_narrowed Everything (λ image. IsSound care image s) _ _ (narrows_none _) means.settled

pub returns-in-Ok-checkpoint-clause-stays : goal.returns-in-Ok-checkpoint-clause-stays
returns-in-Ok-checkpoint-clause-stays g c = λ told f care s means.
    replaced_stays f care (g.D.Store.view c.args.store.now) (g.D.Store.view c.checkpoint.new.store) (table_in c.args.self) c.args.self.journal s (g.met.D.Store.reads_outcome c.args.store.now) means
    c.requires.spelled c.deref.result.now (c.deref.ensures.value ∙ c.in-Ok.ensures.bytes) (c.checkpoint.ensures.images told means.stands.generation means.stands.bodies means.stands.keeps)

pub returns-in-Err-clause-stays : goal.returns-in-Err-clause-stays
returns-in-Err-clause-stays g c = λ told f care s means.
    replaced_stays f care (g.D.Store.view c.args.store.now) (g.D.Store.view c.checkpoint.new.store) (table_in c.args.self) c.args.self.journal s (g.met.D.Store.reads_outcome c.args.store.now) means
    c.requires.spelled c.deref.result.now (c.deref.ensures.value ∙ c.in-Ok.ensures.bytes) (c.checkpoint.ensures.images told means.stands.generation means.stands.bodies means.stands.keeps)

pub returns-in-Ok-checkpoint-clause-means : goal.returns-in-Ok-checkpoint-clause-means
returns-in-Ok-checkpoint-clause-means g c = λ told f care s means.
    replaced_means f care (g.D.Store.view c.args.store.now) (g.D.Store.view c.checkpoint.new.store) (table_in c.args.self) c.args.self.journal s (g.met.D.Store.reads_outcome c.args.store.now) means
    c.requires.spelled c.deref.result.now (c.deref.ensures.value ∙ c.in-Ok.ensures.bytes) (c.checkpoint.ensures.images told means.stands.generation means.stands.bodies means.stands.keeps)
    c.in-Ok-checkpoint.journal
    (c.in-Ok-checkpoint.ensures.committed told means.stands.generation means.stands.bodies means.stands.keeps)
    (c.in-Ok-checkpoint.ensures.stable told means.stands.generation means.stands.bodies means.stands.keeps)

pub returns-in-Ok-checkpoint-clause-stands : goal.returns-in-Ok-checkpoint-clause-stands
returns-in-Ok-checkpoint-clause-stands g c = λ told f stands.
    replaced_stands f (g.D.Store.view c.args.store.now) (g.D.Store.view c.checkpoint.new.store) (table_in c.args.self) c.args.self.journal
    c.requires.spelled c.deref.result.now (c.deref.ensures.value ∙ c.in-Ok.ensures.bytes) stands c.in-Ok-checkpoint.journal
    (c.in-Ok-checkpoint.ensures.committed told stands.generation stands.bodies stands.keeps)
    (c.in-Ok-checkpoint.ensures.stable told stands.generation stands.bodies stands.keeps)

pub returns-in-Ok-checkpoint-clause-replaced : goal.returns-in-Ok-checkpoint-clause-replaced
returns-in-Ok-checkpoint-clause-replaced g c = λ told f stands h bodies keeps goes. record {
  goes = goes;
  generation = c.in-Ok-checkpoint.ensures.generation ∙ ap (λ n. n + 1) keeps.is_generation;
  body = c.deref.result.now;
  spells = body_spells (table_in c.args.self) (stands_table f (g.D.Store.view c.args.store.now) (table_in c.args.self) c.args.self.journal stands) c.requires.spelled c.deref.result.now
      (c.deref.ensures.value ∙ c.in-Ok.ensures.bytes);
  keeps = c.in-Ok-checkpoint.ensures.committed told h bodies keeps;
}

pub returns-in_default-clause-alone : goal.returns-in_default-clause-alone
returns-in_default-clause-alone g c = λ told f stands. spans_narrowed IsJournalFile (λ image. Unit {0}) _ _ (narrows_none _) (λ image is. tt)

pub returns-in-Ok-checkpoint-clause-alone : goal.returns-in-Ok-checkpoint-clause-alone
returns-in-Ok-checkpoint-clause-alone g c = λ told f stands.
    spans_wider IsJournalFile IsJournalFile _ (λ image. Unit {0}) _ _ (c.checkpoint.ensures.images told stands.generation stands.bodies stands.keeps) (λ file log. log) (λ image is others. tt)

pub returns-in-Err-clause-alone : goal.returns-in-Err-clause-alone
returns-in-Err-clause-alone g c = λ told f stands.
    spans_wider IsJournalFile IsJournalFile _ (λ image. Unit {0}) _ _ (c.checkpoint.ensures.images told stands.generation stands.bodies stands.keeps) (λ file log. log) (λ image is others. tt)
