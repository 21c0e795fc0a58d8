use Rattle.std.proofs.Common.{◌+◌, refl, arith}
use Rattle.outside_traits.proofs.RunLemmas.{spans_on}
use Rattle.journal_store.specs.Readings.{generations, IsJournalFile}
use Rattle.journal_store.specs.Journals.{HaveFormerOrNext}
use Rattle.journal_store.proofs.Checkpointing.{making_next, root_stands, naming_next, named_next, stable_next, root_next}
use Rattle.journal_store.proofs.journal.Journal.name_next.Goals as goal

pub returns-in_err-log-clause-images : goal.returns-in_err-log-clause-images
returns-in_err-log-clause-images g c = λ told h bodies keeps.
    making_next _ _ c.args.self h (c.args.self.generation + 1) bodies c.args.body.now keeps (omega (arith, keeps.is_generation)) (omega (arith, c.requires.room)) c.make_log.ensures.alone

pub returns-in_err-root-clause-images : goal.returns-in_err-root-clause-images
returns-in_err-root-clause-images g c = λ told h bodies keeps.
    spans_on IsJournalFile (λ image. HaveFormerOrNext image h bodies c.args.body.now) _ _ _
    (making_next _ _ c.args.self h (c.args.self.generation + 1) bodies c.args.body.now keeps (omega (arith, keeps.is_generation)) (omega (arith, c.requires.room)) c.make_log.ensures.alone)
    (naming_next _ _ c.args.self h (c.args.self.generation + 1) bodies c.args.body.now keeps (omega (arith, keeps.is_generation)) (omega (arith, c.requires.room)) c.make_log.ensures.alone
    _ c.in_ok-log.log c.number_bytes.result c.number_bytes.ensures c.in_ok-log.ensures.file (c.in_ok-log.ensures.made told)
    (c.commit.ensures.crash told (generations h) (root_stands _ _ c.args.self h (c.args.self.generation + 1) bodies c.args.body.now keeps (omega (arith, keeps.is_generation)) (omega (arith, c.requires.room)) c.make_log.ensures.alone)))

pub returns-clause-images : goal.returns-clause-images
returns-clause-images g c = λ told h bodies keeps.
    spans_on IsJournalFile (λ image. HaveFormerOrNext image h bodies c.args.body.now) _ _ _
    (making_next _ _ c.args.self h (c.args.self.generation + 1) bodies c.args.body.now keeps (omega (arith, keeps.is_generation)) (omega (arith, c.requires.room)) c.make_log.ensures.alone)
    (naming_next _ _ c.args.self h (c.args.self.generation + 1) bodies c.args.body.now keeps (omega (arith, keeps.is_generation)) (omega (arith, c.requires.room)) c.make_log.ensures.alone
    _ c.in_ok-log.log c.number_bytes.result c.number_bytes.ensures c.in_ok-log.ensures.file (c.in_ok-log.ensures.made told)
    (c.commit.ensures.crash told (generations h) (root_stands _ _ c.args.self h (c.args.self.generation + 1) bodies c.args.body.now keeps (omega (arith, keeps.is_generation)) (omega (arith, c.requires.room)) c.make_log.ensures.alone)))

pub returns-clause-committed : goal.returns-clause-committed
returns-clause-committed g c = λ told h bodies keeps.
    named_next _ _ c.args.self h (c.args.self.generation + 1) bodies c.args.body.now keeps (omega (arith, keeps.is_generation)) (omega (arith, c.requires.room)) c.make_log.ensures.alone
    _ _ c.number_bytes.result c.number_bytes.ensures refl (c.in_ok-log.ensures.made told) c.commit.ensures.alone
    (c.in_ok-root.ensures.committed told (generations h) (root_stands _ _ c.args.self h (c.args.self.generation + 1) bodies c.args.body.now keeps (omega (arith, keeps.is_generation)) (omega (arith, c.requires.room)) c.make_log.ensures.alone))

pub returns-clause-stable : goal.returns-clause-stable
returns-clause-stable g c = λ told h bodies keeps.
    stable_next _ _ c.args.self h (c.args.self.generation + 1) bodies c.args.body.now keeps (omega (arith, keeps.is_generation)) (omega (arith, c.requires.room)) c.make_log.ensures.alone
    _ c.commit.ensures.alone (c.in_ok-log.ensures.stable told)
    (c.in_ok-root.ensures.stable told (generations h) (root_stands _ _ c.args.self h (c.args.self.generation + 1) bodies c.args.body.now keeps (omega (arith, keeps.is_generation)) (omega (arith, c.requires.room)) c.make_log.ensures.alone))

pub returns-clause-root_bytes : goal.returns-clause-root_bytes
returns-clause-root_bytes g c = λ told h bodies keeps.
    root_next _ _ c.args.self h (c.args.self.generation + 1) bodies c.args.body.now keeps (omega (arith, keeps.is_generation)) (omega (arith, c.requires.room)) c.make_log.ensures.alone
    (g.D.Store.view c.commit.new.store) c.number_bytes.result c.number_bytes.ensures
    (c.in_ok-root.ensures.bytes told (generations h) (root_stands _ _ c.args.self h (c.args.self.generation + 1) bodies c.args.body.now keeps (omega (arith, keeps.is_generation)) (omega (arith, c.requires.room)) c.make_log.ensures.alone))
