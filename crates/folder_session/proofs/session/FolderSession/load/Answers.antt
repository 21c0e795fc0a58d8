use Rattle.std.proofs.Common.{Err, ap}
use Rattle.folder.specs.declared.folder.Folder.{Folder}
use Rattle.folder.specs.declared.refusal.LoadRefusal.TheVariants.{NotAStore}
use Rattle.folder_session.specs.declared.session.FolderSession.{FolderSession}
use Rattle.folder_session.proofs.LoadLemmas.{same_err, only_of}
use Rattle.folder_session.proofs.session.FolderSession.load.Goals as goal

pub returns-in-Ok-clause-stands : goal.returns-in-Ok-clause-stands
returns-in-Ok-clause-stands g c = λ told care a b left.
    let means = c.in-Ok.ensures.means told care a b left in
    record { means = means; left = c.left_stores.ensures.meant care c.load.new.store _ _ a means }

pub returns-in-Ok-clause-only : goal.returns-in-Ok-clause-only
returns-in-Ok-clause-only g c = λ told file at stops. absurd (c.in-Ok.ensures.exactly told file at stops)

pub returns-in-Err-clause-not_a_store : goal.returns-in-Err-clause-not_a_store
returns-in-Err-clause-not_a_store g c = λ told file at is.
    let refused = same_err {T = FolderSession} {U = Folder} c.in-Err.refusal (NotAStore file at) is in
    (c.in-Err.ensures.not_a_store told file at refused, c.in-Err.ensures.unchanged told file at refused)

pub returns-in-Err-clause-only : goal.returns-in-Err-clause-only
returns-in-Err-clause-only g c = λ told file at stops. only_of c.in-Err.refusal file at (λ h b is. c.in-Err.ensures.place told file at h b stops (ap Err is))

pub returns-in-Ok-clause-reading : goal.returns-in-Ok-clause-reading
returns-in-Ok-clause-reading g c = c.in-Ok.ensures.reading

pub returns-in-Ok-clause-crash : goal.returns-in-Ok-clause-crash
returns-in-Ok-clause-crash g c = c.in-Ok.ensures.stands

pub returns-in-Ok-clause-taken : goal.returns-in-Ok-clause-taken
returns-in-Ok-clause-taken g c = c.load.ensures.taken

pub returns-in-Ok-clause-most_taken : goal.returns-in-Ok-clause-most_taken
returns-in-Ok-clause-most_taken g c = c.load.ensures.most_taken

pub returns-in-Err-clause-most_taken : goal.returns-in-Err-clause-most_taken
returns-in-Err-clause-most_taken g c = c.load.ensures.most_taken

pub returns-in-Ok-clause-finished : goal.returns-in-Ok-clause-finished
returns-in-Ok-clause-finished g c = c.load.ensures.finished

pub returns-in-Err-clause-finished : goal.returns-in-Err-clause-finished
returns-in-Err-clause-finished g c = c.load.ensures.finished

pub returns-in-Ok-clause-no_fault : goal.returns-in-Ok-clause-no_fault
returns-in-Ok-clause-no_fault g c = c.in-Ok.ensures.no_fault

pub returns-in-Ok-clause-generation : goal.returns-in-Ok-clause-generation
returns-in-Ok-clause-generation g c = c.in-Ok.ensures.generation

pub returns-in-Ok-clause-users : goal.returns-in-Ok-clause-users
returns-in-Ok-clause-users g c = c.load.ensures.users

pub returns-in-Err-clause-users : goal.returns-in-Err-clause-users
returns-in-Err-clause-users g c = c.load.ensures.users
