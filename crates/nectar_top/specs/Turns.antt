-- A run of the program between two reads of the source, and at its exit.
use Rattle.std.specs.Prelude.{◌≡◌, ℕ, List, ◌++◌}
use Rattle.std.specs.Io.KnownBytes.{Consumes}
use Rattle.outside_traits.specs.Counts.{Rose}
use Rattle.outside_traits.specs.View.{View}
use Rattle.script_text.specs.declared.lines.Lines.{Lines}
use Rattle.session.specs.declared.session.Session.{Session}
use Rattle.nectar_top.specs.Crash.{Found}
use Rattle.nectar_top.specs.Outside.{Outside, Faults, NoWriteFailed}
use Rattle.nectar_top.specs.Progress.{Progress}
use Rattle.nectar_top.specs.Run.{IsDone, IsCutOff, IsTooLong, IsUnwritten, IsBroken}
use Rattle.nectar_top.specs.Summary.{summary_of}
use Rattle.nectar_top.specs.declared.exit.Exit.{Exit}
use Rattle.nectar_top.specs.declared.exit.Exit.TheVariants as exit
use Rattle.nectar_top.specs.declared.summary.Summary.{Summary}

-- the source gave these bytes since the run began, of which the first ones were served and the others weren't yet, and
-- nothing has failed
pub record Serving (found : Found) (u v : View) (reader : Lines) (session : Session) (summary : Summary) (served rest : List ℕ) (begun now : Outside) : Type 0 where
  pub consumed : Consumes begun.left now.left (served ++ rest)
  pub progress : Progress found u v reader session summary served begun now

-- the whole script was taken and is answered, and the answers come to this
abbrev pub IsDoneWith : Found → View → View → Summary → Outside → Outside → Type 0
IsDoneWith found u v summary begun now = (done : IsDone found u v begun now) × (summary ≡ summary_of done.answered.answers)

-- what stands at each other exit of a run that serves commands
abbrev pub Ends : Found → View → View → Exit → Outside → Outside → Type 0
Ends found u v exit.SourceFault begun now = IsCutOff found u v begun now
Ends found u v exit.SinkFault begun now = IsUnwritten found u v begun now
Ends found u v exit.StoreFault begun now = IsBroken found u v begun now
Ends found u v exit.ScriptLimit begun now = IsTooLong found u v begun now
Ends found u v _ begun now = ⊥

-- Which count rose where a run that serves commands ends so. Unless it ends in `StoreFault`, no write, cut or sync has failed.
abbrev pub HasCause : Exit → Faults → Faults → Type 0
HasCause exit.ScriptLimit old new = NoWriteFailed old new
HasCause exit.SourceFault old new = Rose old.source new.source × NoWriteFailed old new
HasCause exit.SinkFault old new = Rose old.sink new.sink × NoWriteFailed old new
HasCause exit.StoreFault old new = Rose old.store.writes new.store.writes
HasCause _ old new = ⊥
