use Rattle.std.proofs.Common.{◌+◌, ap, sym}
use Rattle.folder.specs.Folders.{table_in, journal_of}
use Rattle.folder.proofs.Writing.{written_stays, written_means, written_stands, others_stay}
use Rattle.folder.proofs.folder.Folder.write_next.Goals as goal

pub returns-clause-stays : goal.returns-clause-stays
returns-clause-stays g c = λ told care s means.
    written_stays care (g.D.Store.view c.args.store.now) (g.D.Store.view c.write_file.new.store) (table_in c.args.self.now) (journal_of c.args.self.now) s (c.next_file.result + c.args.ahead) c.args.ahead
    (g.met.D.Store.reads_outcome c.args.store.now) means (ap (λ n. n + c.args.ahead) c.next_file.ensures) c.requires c.write_file.ensures.alone

pub returns-clause-means : goal.returns-clause-means
returns-clause-means g c = λ told care s means.
    written_means care (g.D.Store.view c.args.store.now) (g.D.Store.view c.write_file.new.store) (table_in c.args.self.now) (journal_of c.args.self.now) s (c.next_file.result + c.args.ahead) c.args.ahead
    (g.met.D.Store.reads_outcome c.args.store.now) means (ap (λ n. n + c.args.ahead) c.next_file.ensures) c.requires c.write_file.ensures.alone

pub returns-clause-stands : goal.returns-clause-stands
returns-clause-stands g c = λ stands.
    written_stands (g.D.Store.view c.args.store.now) (g.D.Store.view c.write_file.new.store) (table_in c.args.self.now) (journal_of c.args.self.now) (c.next_file.result + c.args.ahead) c.args.ahead
    (ap (λ n. n + c.args.ahead) c.next_file.ensures) c.requires c.write_file.ensures.alone stands

pub returns-clause-others : goal.returns-clause-others
returns-clause-others g c = λ file held other only.
    others_stay (g.D.Store.view c.args.store.now) (g.D.Store.view c.write_file.new.store) (c.next_file.result + c.args.ahead) ((table_in c.args.self.now).next_file + c.args.ahead)
    (ap (λ n. n + c.args.ahead) (sym c.next_file.ensures)) c.write_file.ensures.alone file held other only
