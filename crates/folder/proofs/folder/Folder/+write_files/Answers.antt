use Rattle.std.proofs.Common.{◌+◌, subst}
use Rattle.outside_traits.specs.View.{Now, Only}
use Rattle.folder.specs.Folders.{table_in}
use Rattle.folder.proofs.FilesWritten.{stays_none, stays_on, written_all}
use Rattle.folder.proofs.folder.Folder.+write_files.Goals as goal

pub returns-in-empty-clause-stays : goal.returns-in-empty-clause-stays
returns-in-empty-clause-stays g t c = λ told care s means. stays_none care (g.D.Store.view c.args.store.now) s means.settled

pub returns-in-Ok-clause-stays : goal.returns-in-Ok-clause-stays
returns-in-Ok-clause-stays g t c = λ told care s means.
    stays_on care (g.D.Store.view c.args.store.now) (g.D.Store.view c.write_next.new.store) (g.D.Store.view c.write_files.new.store) s (c.write_next.ensures.stays told care s means)
    (c.write_files.ensures.stays told care s (c.write_next.ensures.means told care s means))

pub returns-in-Ok-clause-means : goal.returns-in-Ok-clause-means
returns-in-Ok-clause-means g t c = λ told care s means. c.write_files.ensures.means told care s (c.write_next.ensures.means told care s means)

pub returns-in-Ok-clause-stable : goal.returns-in-Ok-clause-stable
returns-in-Ok-clause-stable g t c = λ told.
    written_all (g.D.Store.view c.write_next.new.store) (g.D.Store.view c.write_files.new.store) (table_in c.args.self.now).next_file c.args.ahead c.first-item.result c.args.files.now c.in-len1-up.len_at_least
    c.first-item.is (subst (λ bytes. Only bytes (Now (g.D.Store.view c.write_next.new.store) ((table_in c.args.self.now).next_file + c.args.ahead))) c.items.ensures (c.in-Ok.ensures.stable told)) c.write_files.ensures.others _ (c.write_files.ensures.stable told)
