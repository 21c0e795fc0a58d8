use Rattle.std.proofs.Common.{sym, subst}
use Rattle.folder.specs.Folders.{table_in}
use Rattle.later_states.specs.Later.{IsLater}
use Rattle.folder_session.proofs.session.FolderSession.record.Goals as goal

pub returns-in-Ok-clause-ok : goal.returns-in-Ok-clause-ok
returns-in-Ok-clause-ok g c = λ told care s new stands next.
    let means = c.in-Ok.ensures.means told care s new stands.means next in
    record { stands = record { means = means; left = c.left_stores.ensures.meant care c.record.new.store _ _ new means }; since = c.record.ensures.crash told care s new stands.means next }

pub returns-in-Err-clause-err : goal.returns-in-Err-clause-err
returns-in-Err-clause-err g c = λ told care s new stands next. record { recorded = (c.args.recording.change, next.step); since = c.record.ensures.crash told care s new stands.means next; left = c.in-Err.ensures.left told care s new stands.means next }

pub returns-in-Ok-clause-crash : goal.returns-in-Ok-clause-crash
returns-in-Ok-clause-crash g c = λ told stands. c.in-Ok.ensures.stands told stands

pub returns-in-Ok-clause-later : goal.returns-in-Ok-clause-later
returns-in-Ok-clause-later g c = λ held spares.
    subst (IsLater held (table_in c.args.self.folder)) (sym c.in-Ok.ensures.table) (c.later_tables.ensures.changed held (table_in c.args.self.folder) c.args.recording.change c.requires.ready.fits spares)
