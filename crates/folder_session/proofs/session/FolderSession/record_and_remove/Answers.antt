use Rattle.std.proofs.Common.{◌⊎◌, sym, subst}
use Rattle.std.specs.List.{All}
use Rattle.outside_traits.specs.Counts.{Rose}
use Rattle.catalog_core.specs.Table.{Table}
use Rattle.folder.specs.Removing.{AreGone, IsFree}
use Rattle.folder_session.specs.Standing.{folder_of}
use Rattle.folder_session.proofs.LeavingLemmas.{records_and_removes, records_more}
use Rattle.folder_session.proofs.session.FolderSession.record_and_remove.Goals as goal

pub remove_files-requires : goal.remove_files-requires
remove_files-requires g c = subst (λ (t : Table). All (IsFree t) c.args.files.now) (sym c.in-Ok.ensures.table) c.requires.free

pub returns-in-Ok-clause-ok : goal.returns-in-Ok-clause-ok
returns-in-Ok-clause-ok g c = λ told care s new stands next.
    let recorded = c.in-Ok.ensures.ok told care s new stands next in
    let means = c.remove_files.ensures.means told care new recorded.stands.means in
    record {
      stands = record { means = means; left = c.left_stores.ensures.meant care c.remove_files.new.store _ _ new means };
      since = c.left_stores.ensures.stays care s new c.args.store.now c.record.new.store c.remove_files.new.store recorded.since (c.remove_files.ensures.stays told care new recorded.stands.means);
    }

pub returns-in-Ok-clause-alone : goal.returns-in-Ok-clause-alone
returns-in-Ok-clause-alone g c =
    records_and_removes (folder_of c.args.self) c.args.files.now (g.D.Store.view c.args.store.now) (g.D.Store.view c.record.new.store) (g.D.Store.view c.remove_files.new.store) c.record.ensures.alone c.remove_files.ensures.alone

pub returns-in-Err-clause-alone : goal.returns-in-Err-clause-alone
returns-in-Err-clause-alone g c = records_more (folder_of c.args.self) c.args.files.now (g.D.Store.view c.args.store.now) (g.D.Store.view c.record.new.store) c.record.ensures.alone

pub returns-in-Ok-clause-gone : goal.returns-in-Ok-clause-gone
returns-in-Ok-clause-gone g c = λ told.
    let view = g.D.Store.view c.remove_files.new.store in
    let new = g.D.Store.counts c.remove_files.new.store in
    subst (λ n. Rose n new.removes ⊎ AreGone view c.args.files.now) c.record.ensures.counts.removes (c.remove_files.ensures.gone told)

pub returns-in-Ok-clause-crash : goal.returns-in-Ok-clause-crash
returns-in-Ok-clause-crash g c = λ told stands. c.remove_files.ensures.stands (c.in-Ok.ensures.crash told stands)

pub returns-in-Ok-clause-later : goal.returns-in-Ok-clause-later
returns-in-Ok-clause-later g c = λ held spares. c.in-Ok.ensures.later held spares

pub returns-in-Err-clause-err : goal.returns-in-Err-clause-err
returns-in-Err-clause-err g c = λ told care s new stands next. c.in-Err.ensures.err told care s new stands next
