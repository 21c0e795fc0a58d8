use Rattle.std.proofs.Common.{[], sym, subst}
use Rattle.script_text.specs.Reader as reader
use Rattle.session.specs.Machine.{without_jobs}
use Rattle.session.specs.Standing.{Stands, HoldsJobs}
use Rattle.nectar_top.proofs.LoadingLemmas.{goes_on, again, ends_again}
use Rattle.nectar_top.proofs.ProgressLemmas.{Progress-new}
use Rattle.nectar_top.proofs.TurnLemmas.{Serving-new}
use Rattle.folder.proofs.UnnamedFiles.{unnamed_narrowed}
use Rattle.outside_traits.proofs.RunLemmas.{narrows_none}
use Rattle.nectar_top.proofs.program.begin.Goals as goal

pub returns-in-Ok-load_folder-clause-server : goal.returns-in-Ok-load_folder-clause-server
returns-in-Ok-load_folder-clause-server g c = λ told found left quiet source sink.
    Serving-new found _ _ _ _ _ quiet source sink _ _ (Progress-new found _ _ _ _ _ quiet source sink _ _ (subst (λ r. reader.Stands r []) (sym c.new.ensures.reader) c.in-Ok.ensures.room) c.new.ensures.summary
    (subst (λ s. Stands found.care (g.D.Store.view c.load_folder.new.store) s (without_jobs found.first)) (sym c.new.ensures.session) (c.in-Ok-load_folder.ensures.stands told found left)) (c.load_folder.ensures.since told found left) c.in-Ok-load_folder.ensures.no_fault.0 c.load_folder.ensures.counts.removes)

pub returns-in-Ok-load_folder-clause-holds : goal.returns-in-Ok-load_folder-clause-holds
returns-in-Ok-load_folder-clause-holds g c = subst HoldsJobs (sym c.new.ensures.session) c.in-Ok-load_folder.ensures.holds

pub returns-in-Ok-load_folder-clause-stopped : goal.returns-in-Ok-load_folder-clause-stopped
returns-in-Ok-load_folder-clause-stopped g c = λ told file at stops. absurd (goes_on c.in-Ok-load_folder.session file at (c.in-Ok-load_folder.ensures.stopped told file at stops))

pub returns-in-Err-load_folder-clause-not_a_store : goal.returns-in-Err-load_folder-clause-not_a_store
returns-in-Err-load_folder-clause-not_a_store g c = λ told file at is. c.in-Err-load_folder.ensures.not_a_store told file at (again c.in-Err-load_folder.exit _ is)

pub returns-in-Err-load_folder-clause-stopped : goal.returns-in-Err-load_folder-clause-stopped
returns-in-Err-load_folder-clause-stopped g c = λ told file at stops. ends_again c.in-Err-load_folder.exit file at (c.in-Err-load_folder.ensures.stopped told file at stops)

pub returns-in-Ok-load_folder-clause-finished : goal.returns-in-Ok-load_folder-clause-finished
returns-in-Ok-load_folder-clause-finished g c = c.load_folder.ensures.finished

pub returns-in-Err-load_folder-clause-finished : goal.returns-in-Err-load_folder-clause-finished
returns-in-Err-load_folder-clause-finished g c = c.load_folder.ensures.finished

pub returns-in-Err-clause-finished : goal.returns-in-Err-clause-finished
returns-in-Err-clause-finished g c = λ told made. unnamed_narrowed _ _ (narrows_none _)
