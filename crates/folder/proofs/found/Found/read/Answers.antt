use Rattle.outside_traits.proofs.RunLemmas.{spans_wider}
use Rattle.journal_store.specs.Making.{IsLoading}
use Rattle.journal_store.specs.Readings.{IsJournalFile}
use Rattle.folder.proofs.Loading.{loading_since}
use Rattle.folder.proofs.LoadLemmas.{load_reading, load_stands, load_means, load_left, load_stops, load_unchanged, gave, load_ok, load_fault, load_bodies, load_named, load_had_root, load_spelled}
use Rattle.folder.proofs.found.Found.read.Goals as goal

pub returns-clause-reading : goal.returns-clause-reading
returns-clause-reading g c = λ told. load_reading (g.D.Store.view c.args.store.now) c.load-read.result c.over_read.result c.over_read.ensures (c.load-read.ensures.reading told)

pub returns-clause-stands : goal.returns-clause-stands
returns-clause-stands g c = λ told. load_stands (g.D.Store.view c.load-read.new.store) c.load-read.result c.over_read.result c.over_read.ensures (c.load-read.ensures.keeps told) (c.load-read.ensures.stable told)

pub returns-clause-crash : goal.returns-clause-crash
returns-clause-crash g c = λ told care a b left. loading_since care (g.D.Store.view c.args.store.now) (g.D.Store.view c.load-read.new.store) a b left (c.load-read.ensures.crash told)

pub returns-clause-means : goal.returns-clause-means
returns-clause-means g c = λ told care a b left. load_means care (g.D.Store.view c.args.store.now) (g.D.Store.view c.load-read.new.store) a b left (c.load-read.ensures.crash told) c.over_read.result
    (load_reading (g.D.Store.view c.args.store.now) c.load-read.result c.over_read.result c.over_read.ensures (c.load-read.ensures.reading told))
    (load_stands (g.D.Store.view c.load-read.new.store) c.load-read.result c.over_read.result c.over_read.ensures (c.load-read.ensures.keeps told) (c.load-read.ensures.stable told))

pub returns-clause-left : goal.returns-clause-left
returns-clause-left g c = λ told care a b left. load_left care (g.D.Store.view c.args.store.now) (g.D.Store.view c.load-read.new.store) a b left (c.load-read.ensures.crash told) c.over_read.result (g.met.D.Store.reads_outcome c.load-read.new.store)

pub returns-clause-not_a_store : goal.returns-clause-not_a_store
returns-clause-not_a_store g c = λ told file at is.
    load_stops (g.D.Store.view c.args.store.now) file at c.load-read.result (gave c.load-read.result c.over_read.result file at c.over_read.ensures is) (c.load-read.ensures.reading told) (c.load-read.ensures.not_a_store told)

pub returns-clause-finished : goal.returns-clause-finished
returns-clause-finished g c = c.load-read.ensures.finished

pub returns-clause-unchanged : goal.returns-clause-unchanged
returns-clause-unchanged g c = λ told file at is.
    load_unchanged (g.D.Store.view c.args.store.now) (g.D.Store.view c.load-read.new.store) file at c.load-read.result (gave c.load-read.result c.over_read.result file at c.over_read.ensures is) (c.load-read.ensures.reading told) (c.load-read.ensures.finished told) c.load-read.ensures.unchanged

pub returns-clause-cause : goal.returns-clause-cause
returns-clause-cause g c = λ is. c.load-read.ensures.cause (load_fault c.load-read.result c.over_read.result c.over_read.ensures is)

pub returns-clause-no_fault : goal.returns-clause-no_fault
returns-clause-no_fault g c = load_ok _ c.load-read.result c.over_read.result c.over_read.ensures c.load-read.ensures.no_fault

pub returns-clause-most_taken : goal.returns-clause-most_taken
returns-clause-most_taken g c = c.load-read.ensures.most_taken

pub returns-clause-bodies : goal.returns-clause-bodies
returns-clause-bodies g c = λ told. load_bodies (g.D.Store.view c.args.store.now) (g.D.Store.view c.load-read.new.store) c.load-read.result c.over_read.result c.over_read.ensures (c.load-read.ensures.reading told) (c.load-read.ensures.keeps told)

pub returns-clause-named : goal.returns-clause-named
returns-clause-named g c = load_named c.load-read.result c.over_read.result c.over_read.ensures c.load-read.ensures.named

pub returns-clause-spelled : goal.returns-clause-spelled
returns-clause-spelled g c = load_spelled c.load-read.result c.over_read.result c.over_read.ensures

pub returns-clause-had_root : goal.returns-clause-had_root
returns-clause-had_root g c = λ told. load_had_root (g.D.Store.view c.args.store.now) c.load-read.result c.over_read.result c.over_read.ensures (c.load-read.ensures.had_root told)

pub returns-clause-alone : goal.returns-clause-alone
returns-clause-alone g c = λ told. spans_wider IsJournalFile IsJournalFile (IsLoading (g.D.Store.view c.args.store.now)) (λ image. Unit {0}) _ _ (c.load-read.ensures.crash told) (λ file log. log) (λ image is others. tt)
