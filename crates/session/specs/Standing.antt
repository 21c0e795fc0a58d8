-- How a session stands to its store, and what a step does to both.
use Rattle.outside_traits.specs.View.{View}
use Rattle.script_text.specs.declared.answer.Answer.{Answer}
use Rattle.script_text.specs.declared.item.Command.{Command}
use Rattle.folder.specs.Folders.{table_in}
use Rattle.folder.specs.Left.{Follows, IsLeftWith, Since}
use Rattle.folder.specs.Sound.{Care}
use Rattle.folder.specs.declared.folder.Folder.{Folder}
use Rattle.folder_session.specs.Standing as folder
use Rattle.session.specs.Jobs.{OpenJobs, AreHeldOver, AreJobs}
use Rattle.session.specs.Machine.{Machine, Step}
use Rattle.session.specs.declared.session.Session.{Session}

abbrev pub folder_of : Session → Folder
folder_of session = folder.folder_of session.base

abbrev pub jobs_of : Session → OpenJobs
jobs_of session = session.jobs.jobs.items

-- each of its jobs is open over its table
abbrev pub HoldsJobs : Session → Type 0
HoldsJobs session = AreHeldOver (table_in (folder_of session)) (jobs_of session)

-- the session means this machine, whose state the store is left with
pub record Stands (care : Care) (v : View) (session : Session) (m : Machine) : Type 0 where
  pub base : folder.Stands care v session.base m.state
  pub jobs : AreJobs m.state m.jobs (jobs_of session)

-- the answer is the machine's, the session means the machine after it, and each crash since leaves the state before or that after
pub record Performs (care : Care) (u v : View) (session : Session) (m : Machine) (command : Command) (given : Answer) : Type 0 where
  pub new : Machine
  pub step : Step care m command given new
  pub stands : Stands care v session new
  pub since : Since care m.state new.state u v

-- The store failed in the command, which would have been recorded: each crash since leaves the state before or after it, and so
-- the store is left.
pub record Breaks (care : Care) (u v : View) (m : Machine) (command : Command) : Type 0 where
  pub answer : Answer
  pub new : Machine
  pub step : Step care m command answer new
  pub recorded : Follows m.state new.state
  pub since : Since care m.state new.state u v
  pub left : IsLeftWith care v m.state new.state
