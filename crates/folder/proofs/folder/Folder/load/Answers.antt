use Rattle.std.proofs.Common.{◌∙◌, Err, ap, arith}
use Rattle.folder.specs.Folders.{journal_of, table_in}
use Rattle.folder.specs.declared.folder.Folder.{Folder}
use Rattle.folder.specs.declared.refusal.LoadRefusal.TheVariants.{NotAStore}
use Rattle.journal_store.specs.Journals.{had_root_of}
use Rattle.folder.proofs.Crash.{left_of_since}
use Rattle.folder.proofs.Freed.{gone_before, freed_alone, freed_finished, freed_since, freed_left}
use Rattle.folder.proofs.Going.{err_same}
use Rattle.folder.proofs.Loading.{reads_or_stops, stop_once}
use Rattle.folder.proofs.LoadLemmas.{taken_of}
use Rattle.folder.proofs.UnnamedFiles.{logs_or_unnamed, users_alone, strays_mean, strays_stand, strays_use, unnamed_narrowed}
use Rattle.folder.proofs.folder.Folder.load.Goals as goal

-- ---- the logs weren't loaded

pub returns-in-Err-clause-left : goal.returns-in-Err-clause-left
returns-in-Err-clause-left g c = λ told care a b left.
    left_of_since care (g.D.Store.view c.args.store.now) (g.D.Store.view c.load_logs.new.store) a b left.apart (g.met.D.Store.reads_outcome c.load_logs.new.store) (c.load_logs.ensures.crash told care a b left)

pub returns-in-Err-clause-alone : goal.returns-in-Err-clause-alone
returns-in-Err-clause-alone g c = λ told. logs_or_unnamed _ _ (c.load_logs.ensures.alone told)

pub returns-in-Err-clause-users : goal.returns-in-Err-clause-users
returns-in-Err-clause-users g c = λ told. users_alone _ _ (returns-in-Err-clause-alone g c told)

pub returns-in-Err-clause-finished : goal.returns-in-Err-clause-finished
returns-in-Err-clause-finished g c = λ told as_it_is. unnamed_narrowed _ _ (c.load_logs.ensures.finished told as_it_is)

pub returns-in-Err-clause-store : goal.returns-in-Err-clause-store
returns-in-Err-clause-store g c = λ told t reads file at is.
    reads_or_stops (g.D.Store.view c.args.store.now).files t file at reads (c.in-Err.ensures.not_a_store told file at (ap Err (err_same {T = Folder} c.in-Err.refusal (NotAStore file at) is)))

pub returns-in-Err-clause-place : goal.returns-in-Err-clause-place
returns-in-Err-clause-place g c = λ told file at h b stops is.
    stop_once (g.D.Store.view c.args.store.now).files h b file at (c.in-Err.ensures.not_a_store told h b (ap Err (err_same {T = Folder} c.in-Err.refusal (NotAStore h b) is))) stops

pub returns-in-Err-clause-taken : goal.returns-in-Err-clause-taken
returns-in-Err-clause-taken g c = λ told. taken_of (g.D.Store.view c.args.store.now) (g.D.Store.counts c.args.store.now).taken (g.D.Store.counts c.load_logs.new.store).taken (c.load_logs.ensures.most_taken told)

-- ---- the files weren't all removed

pub returns-in-Err-free_unnamed-clause-taken : goal.returns-in-Err-free_unnamed-clause-taken
returns-in-Err-free_unnamed-clause-taken g c = λ told h bodies have.
    let most = taken_of (g.D.Store.view c.args.store.now) (g.D.Store.counts c.args.store.now).taken (g.D.Store.counts c.load_logs.new.store).taken (c.load_logs.ensures.most_taken told) h bodies have in
    let same = c.free_unnamed.ensures.taken in
    omega (arith, most, same)

pub returns-in-Err-free_unnamed-clause-most_taken : goal.returns-in-Err-free_unnamed-clause-most_taken
returns-in-Err-free_unnamed-clause-most_taken g c = λ told most at_most.
    let few = c.load_logs.ensures.most_taken told most at_most in
    let same = c.free_unnamed.ensures.taken in
    omega (arith, few, same)

pub returns-in-Err-free_unnamed-clause-crash : goal.returns-in-Err-free_unnamed-clause-crash
returns-in-Err-free_unnamed-clause-crash g c = λ told care a b left.
    freed_since (g.D.Store.view c.args.store.now) (g.D.Store.view c.load_logs.new.store) (g.D.Store.view c.free_unnamed.new.store) c.in-Ok.folder c.free_unnamed.ensures.alone care a b
    (g.met.D.Store.reads_outcome c.load_logs.new.store) (c.load_logs.ensures.crash told care a b left) (c.in-Ok.ensures.means told care a b left)

pub returns-in-Err-free_unnamed-clause-left : goal.returns-in-Err-free_unnamed-clause-left
returns-in-Err-free_unnamed-clause-left g c = λ told care a b left.
    freed_left (g.D.Store.view c.args.store.now) (g.D.Store.view c.load_logs.new.store) (g.D.Store.view c.free_unnamed.new.store) c.in-Ok.folder c.free_unnamed.ensures.alone care a b
    (g.met.D.Store.reads_outcome c.load_logs.new.store) (c.load_logs.ensures.crash told care a b left) (c.in-Ok.ensures.means told care a b left) (g.met.D.Store.reads_outcome c.free_unnamed.new.store) left

pub returns-in-Err-free_unnamed-clause-alone : goal.returns-in-Err-free_unnamed-clause-alone
returns-in-Err-free_unnamed-clause-alone g c = λ told.
    freed_alone (g.D.Store.view c.args.store.now) (g.D.Store.view c.load_logs.new.store) (g.D.Store.view c.free_unnamed.new.store) c.in-Ok.folder c.free_unnamed.ensures.alone
    (c.in-Ok.ensures.had_root told) (c.in-Ok.ensures.reading told) (c.load_logs.ensures.alone told) (λ none. (c.free_unnamed.ensures.had_none none).0)

pub returns-in-Err-free_unnamed-clause-users : goal.returns-in-Err-free_unnamed-clause-users
returns-in-Err-free_unnamed-clause-users g c = λ told. users_alone _ _ (returns-in-Err-free_unnamed-clause-alone g c told)

pub returns-in-Err-free_unnamed-clause-finished : goal.returns-in-Err-free_unnamed-clause-finished
returns-in-Err-free_unnamed-clause-finished g c = λ told as_it_is.
    let reading = c.in-Ok.ensures.reading told in
    freed_finished (g.D.Store.view c.args.store.now) (g.D.Store.view c.load_logs.new.store) (g.D.Store.view c.free_unnamed.new.store) c.in-Ok.folder c.free_unnamed.ensures.alone
    as_it_is reading (c.in-Ok.ensures.generation told reading.generation reading.bodies reading.logs) (c.load_logs.ensures.finished told as_it_is)

-- ---- they were

pub returns-in-Ok-free_unnamed-clause-stands : goal.returns-in-Ok-free_unnamed-clause-stands
returns-in-Ok-free_unnamed-clause-stands g c = λ told.
    strays_stand (g.D.Store.view c.load_logs.new.store) (g.D.Store.view c.free_unnamed.new.store) (table_in c.in-Ok.folder) (journal_of c.in-Ok.folder) c.free_unnamed.ensures.alone
    (c.in-Ok.ensures.stands told)

pub returns-in-Ok-free_unnamed-clause-crash : goal.returns-in-Ok-free_unnamed-clause-crash
returns-in-Ok-free_unnamed-clause-crash g c = λ told care a b left.
    freed_since (g.D.Store.view c.args.store.now) (g.D.Store.view c.load_logs.new.store) (g.D.Store.view c.free_unnamed.new.store) c.in-Ok.folder c.free_unnamed.ensures.alone care a b
    (g.met.D.Store.reads_outcome c.load_logs.new.store) (c.load_logs.ensures.crash told care a b left) (c.in-Ok.ensures.means told care a b left)

pub returns-in-Ok-free_unnamed-clause-means : goal.returns-in-Ok-free_unnamed-clause-means
returns-in-Ok-free_unnamed-clause-means g c = λ told care a b left.
    strays_mean (g.D.Store.view c.load_logs.new.store) (g.D.Store.view c.free_unnamed.new.store) (table_in c.in-Ok.folder) (journal_of c.in-Ok.folder) c.free_unnamed.ensures.alone care a
    (g.met.D.Store.reads_outcome c.load_logs.new.store) (c.in-Ok.ensures.means told care a b left)

pub returns-in-Ok-free_unnamed-clause-generation : goal.returns-in-Ok-free_unnamed-clause-generation
returns-in-Ok-free_unnamed-clause-generation g c = λ told h bodies have.
    strays_use (g.D.Store.view c.load_logs.new.store) (g.D.Store.view c.free_unnamed.new.store) c.in-Ok.folder c.free_unnamed.ensures.alone h bodies (c.in-Ok.ensures.generation told h bodies have)

pub returns-in-Ok-free_unnamed-clause-exactly : goal.returns-in-Ok-free_unnamed-clause-exactly
returns-in-Ok-free_unnamed-clause-exactly g c = λ told file at stops.
    absurd (reads_or_stops (g.D.Store.view c.args.store.now).files (table_in c.in-Ok.folder) file at (c.in-Ok.ensures.reading told) stops)

pub returns-in-Ok-free_unnamed-clause-alone : goal.returns-in-Ok-free_unnamed-clause-alone
returns-in-Ok-free_unnamed-clause-alone g c = λ told.
    freed_alone (g.D.Store.view c.args.store.now) (g.D.Store.view c.load_logs.new.store) (g.D.Store.view c.free_unnamed.new.store) c.in-Ok.folder c.free_unnamed.ensures.alone
    (c.in-Ok.ensures.had_root told) (c.in-Ok.ensures.reading told) (c.load_logs.ensures.alone told) (λ none. (c.free_unnamed.ensures.had_none none).0)

pub returns-in-Ok-free_unnamed-clause-users : goal.returns-in-Ok-free_unnamed-clause-users
returns-in-Ok-free_unnamed-clause-users g c = λ told. users_alone _ _ (returns-in-Ok-free_unnamed-clause-alone g c told)

pub returns-in-Ok-free_unnamed-clause-finished : goal.returns-in-Ok-free_unnamed-clause-finished
returns-in-Ok-free_unnamed-clause-finished g c = λ told as_it_is.
    let reading = c.in-Ok.ensures.reading told in
    freed_finished (g.D.Store.view c.args.store.now) (g.D.Store.view c.load_logs.new.store) (g.D.Store.view c.free_unnamed.new.store) c.in-Ok.folder c.free_unnamed.ensures.alone
    as_it_is reading (c.in-Ok.ensures.generation told reading.generation reading.bodies reading.logs) (c.load_logs.ensures.finished told as_it_is)

pub returns-in-Ok-free_unnamed-clause-only_named : goal.returns-in-Ok-free_unnamed-clause-only_named
returns-in-Ok-free_unnamed-clause-only_named g c = λ told has_root.
    gone_before (g.D.Store.counts c.args.store.now).removes (g.D.Store.counts c.load_logs.new.store).removes (g.D.Store.counts c.free_unnamed.new.store).removes c.load_logs.ensures.counts.removes
    (c.in-Ok-free_unnamed.ensures.gone told ((c.in-Ok.ensures.had_root told).1 has_root))

pub returns-in-Ok-free_unnamed-clause-taken : goal.returns-in-Ok-free_unnamed-clause-taken
returns-in-Ok-free_unnamed-clause-taken g c = λ told h bodies have.
    let most = taken_of (g.D.Store.view c.args.store.now) (g.D.Store.counts c.args.store.now).taken (g.D.Store.counts c.load_logs.new.store).taken (c.load_logs.ensures.most_taken told) h bodies have in
    let same = c.free_unnamed.ensures.taken in
    omega (arith, most, same)

pub returns-in-Ok-free_unnamed-clause-most_taken : goal.returns-in-Ok-free_unnamed-clause-most_taken
returns-in-Ok-free_unnamed-clause-most_taken g c = λ told most at_most.
    let few = c.load_logs.ensures.most_taken told most at_most in
    let same = c.free_unnamed.ensures.taken in
    omega (arith, few, same)
