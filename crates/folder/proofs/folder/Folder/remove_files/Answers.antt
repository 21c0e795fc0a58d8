use Rattle.std.proofs.Common.{get_or}
use Rattle.std.proofs.lemmas.List.Elements.{Contains-get_or}
use Rattle.folder.specs.Folders.{table_in, journal_of}
use Rattle.folder.proofs.Removals.{among_on, gone_on, gone_all, removes_on}
use Rattle.folder.proofs.FreeFiles.{removed_stays, removed_means, removed_stands}
use Rattle.folder.proofs.folder.Folder.remove_files.Goals as goal

pub loop-file-preserved : goal.loop-file-preserved
loop-file-preserved g c =
    let at = c.loop-file.invariant in
    let now = c.drop_file.ensures in
    let low = c.loop-file-test.true in
    record {
      alone = among_on c.args.files.now (get_or c.args.files.now c.loop-file.file-index 0) (g.D.Store.view c.args.store.now) (g.D.Store.view c.loop-file.store) (g.D.Store.view c.drop_file.new.store)
          (Contains-get_or c.args.files.now c.loop-file.file-index 0 low) at.alone now.acts;
      gone = λ told. gone_on (g.D.Store.view c.loop-file.store) (g.D.Store.view c.drop_file.new.store) (g.D.Store.counts c.args.store.now).removes (g.D.Store.counts c.loop-file.store).removes
          (g.D.Store.counts c.drop_file.new.store).removes c.args.files.now c.loop-file.file-index low now.acts c.drop_file.result at.counts.removes now.counts.removes (now.removed told) now.cause (at.gone told);
      counts = removes_on (g.D.Store.counts c.args.store.now) (g.D.Store.counts c.loop-file.store) (g.D.Store.counts c.drop_file.new.store) at.counts now.counts;
    }

pub returns-clause-stays : goal.returns-clause-stays
returns-clause-stays g c = λ told care s means.
    removed_stays care (g.D.Store.view c.args.store.now) (g.D.Store.view c.loop-file.store) (table_in c.args.self.now) (journal_of c.args.self.now) s c.args.files.now
    (g.met.D.Store.reads_outcome c.args.store.now) means c.requires c.loop-file.invariant.alone

pub returns-clause-means : goal.returns-clause-means
returns-clause-means g c = λ told care s means.
    removed_means care (g.D.Store.view c.args.store.now) (g.D.Store.view c.loop-file.store) (table_in c.args.self.now) (journal_of c.args.self.now) s c.args.files.now
    (g.met.D.Store.reads_outcome c.args.store.now) means c.requires c.loop-file.invariant.alone

pub returns-clause-stands : goal.returns-clause-stands
returns-clause-stands g c = λ stands.
    removed_stands (g.D.Store.view c.args.store.now) (g.D.Store.view c.loop-file.store) (table_in c.args.self.now) (journal_of c.args.self.now) c.args.files.now c.requires c.loop-file.invariant.alone stands

pub returns-clause-gone : goal.returns-clause-gone
returns-clause-gone g c = λ told.
    gone_all (g.D.Store.view c.loop-file.store) (g.D.Store.counts c.args.store.now).removes (g.D.Store.counts c.loop-file.store).removes c.args.files.now c.loop-file.file-index c.loop-file-test.false
    (c.loop-file.invariant.gone told)
