use Rattle.catalog_core.specs.Catalogs.{table_of}
use Rattle.folder.proofs.Recording.{body_of, apart_next, record_since, record_means, record_stands}
use Rattle.folder.proofs.Crash.{left_of_since}
use Rattle.folder.proofs.folder.Folder.record.Goals as goal

pub returns-in-Ok-clause-crash : goal.returns-in-Ok-clause-crash
returns-in-Ok-clause-crash g c = λ told care s s' means next.
    record_since care (g.D.Store.view c.args.store.now) (g.D.Store.view c.commit.new.store) _ _ s s' c.args.change c.args.body.now (g.met.D.Store.reads_outcome c.args.store.now) means next
    (body_of c.args.change c.args.body.now c.requires.no_checkpoint c.requires.spelled c.requires.body) (c.commit.ensures.crash told)

pub returns-in-Err-clause-crash : goal.returns-in-Err-clause-crash
returns-in-Err-clause-crash g c = λ told care s s' means next.
    record_since care (g.D.Store.view c.args.store.now) (g.D.Store.view c.commit.new.store) _ _ s s' c.args.change c.args.body.now (g.met.D.Store.reads_outcome c.args.store.now) means next
    (body_of c.args.change c.args.body.now c.requires.no_checkpoint c.requires.spelled c.requires.body) (c.commit.ensures.crash told)

pub returns-in-Ok-clause-means : goal.returns-in-Ok-clause-means
returns-in-Ok-clause-means g c = λ told care s s' means next.
    record_means care (g.D.Store.view c.args.store.now) (g.D.Store.view c.commit.new.store) _ _ s s' c.args.change c.args.body.now (g.met.D.Store.reads_outcome c.args.store.now) means next
    (body_of c.args.change c.args.body.now c.requires.no_checkpoint c.requires.spelled c.requires.body) (c.commit.ensures.crash told)
    (table_of c.apply.new.self) c.in-Ok.journal c.apply.ensures (c.in-Ok.ensures.committed told) (c.in-Ok.ensures.stable told)

pub returns-in-Ok-clause-stands : goal.returns-in-Ok-clause-stands
returns-in-Ok-clause-stands g c = λ told stands.
    record_stands (g.D.Store.view c.args.store.now) (g.D.Store.view c.commit.new.store) _ (table_of c.apply.new.self) _ c.in-Ok.journal c.args.change c.args.body.now stands
    (body_of c.args.change c.args.body.now c.requires.no_checkpoint c.requires.spelled c.requires.body) c.requires.no_checkpoint c.requires.ready.fits c.apply.ensures (c.in-Ok.ensures.committed told) (c.in-Ok.ensures.stable told)

pub returns-in-Err-clause-left : goal.returns-in-Err-clause-left
returns-in-Err-clause-left g c = λ told care s s' means next.
    left_of_since care (g.D.Store.view c.args.store.now) (g.D.Store.view c.commit.new.store) s s' (apart_next care (g.D.Store.view c.args.store.now) s s' c.args.change next) (g.met.D.Store.reads_outcome c.commit.new.store)
    (record_since care (g.D.Store.view c.args.store.now) (g.D.Store.view c.commit.new.store) _ _ s s' c.args.change c.args.body.now (g.met.D.Store.reads_outcome c.args.store.now) means next
    (body_of c.args.change c.args.body.now c.requires.no_checkpoint c.requires.spelled c.requires.body) (c.commit.ensures.crash told))
