-- How far a run of the program has come, between its commands and within one.
use Rattle.std.specs.Prelude.{◌≡◌, ◌⊎◌, ℕ, ◌≤◌, List, ◌++◌}
use Rattle.std.specs.Io.KnownBytes.{Appends}
use Rattle.outside_traits.specs.View.{View, Counts}
use Rattle.script_text.specs.Answer.{answer_text}
use Rattle.script_text.specs.Reader.{Stands}
use Rattle.script_text.specs.Script.{items, all_items}
use Rattle.script_text.specs.declared.answer.Answer.{Answer}
use Rattle.script_text.specs.declared.item.Item.{Item}
use Rattle.script_text.specs.declared.lines.Lines.{Lines}
use Rattle.folder.specs.Sound.{Care}
use Rattle.folder.specs.Left.{Follows, IsLeft, Since}
use Rattle.folder.specs.Removing.{IsFree}
use Rattle.folder.specs.State.{State, table}
use Rattle.session.specs.Machine.{Machine, without_jobs}
use Rattle.session.specs.Standing as standing
use Rattle.session.specs.declared.session.Session.{Session}
use Rattle.nectar_top.specs.Crash.{Found, Reaches}
use Rattle.nectar_top.specs.Eviction.{Went, WentIn, AreGone}
use Rattle.nectar_top.specs.Machine.{Step, Run, texts_of}
use Rattle.nectar_top.specs.Outside.{Outside}
use Rattle.nectar_top.specs.Refusals.{IsSparingItem, fault_in, faults_in, RoseBy}
use Rattle.nectar_top.specs.Sending.{SentInPart}
use Rattle.nectar_top.specs.Summary.{of_answer, summary_of, together}
use Rattle.nectar_top.specs.declared.exit.Exit.{Exit}
use Rattle.nectar_top.specs.declared.exit.Exit.TheVariants as exit
use Rattle.nectar_top.specs.declared.summary.Summary.{Summary}

-- of the bytes taken the commands that are ended were performed from the first state on and their answers written, the
-- session means the machine that they leave, the summary is that of their answers, each crash since leaves a state after some of them,
-- the reader stands at the rest, and what collections evicted has files that the state names no more
pub record Progress (found : Found) (u v : View) (reader : Lines) (session : Session) (summary : Summary) (taken : List ℕ) (begun now : Outside) : Type 0 where
  pub done : List ℕ
  pub part : List ℕ
  pub commands : List Item
  pub answers : List Answer
  pub machine : Machine
  pub whole : taken ≡ done ++ part
  pub goes_on : (more : List ℕ) → items (done ++ more) ≡ commands ++ items more
  pub ends : (more : List ℕ) → all_items (done ++ more) ≡ commands ++ all_items more
  pub run : Run found.care (without_jobs found.first) commands answers machine
  pub stands : standing.Stands found.care v session machine
  pub since : Reaches found commands answers u v
  pub reads : Stands reader part
  pub quiet : now.quiet ≡ begun.quiet
  pub wrote : Appends begun.written now.written (texts_of begun.quiet answers)
  pub counted : summary ≡ summary_of answers
  pub faults : RoseBy (faults_in answers) begun.counts.reads now.counts.reads
  pub free : (file : ℕ) → WentIn found.care (without_jobs found.first) commands answers machine run file → IsFree (table machine.state) file
  pub removes : begun.counts.removes ≤ now.counts.removes
  pub gone : AreGone (WentIn found.care (without_jobs found.first) commands answers machine run) v begun.counts now.counts

-- which files are there of those that the state names no more isn't changed
abbrev pub LeavesFree : State → View → View → Type 0
LeavesFree s u v = (file : ℕ) → IsFree (table s) file → v.there file ≡ u.there file

-- a command was performed and is to be answered so, and the session means the machine after it
pub record Performs (care : Care) (u v : View) (old : Machine) (command : Item) (session : Session) (answer : Answer) (before now : Counts) : Type 0 where
  pub new : Machine
  pub step : Step care old command answer new
  pub stands : standing.Stands care v session new
  pub since : Since care old.state new.state u v
  pub leaves : LeavesFree old.state u v
  pub removes : before.removes ≤ now.removes
  pub gone : AreGone (Went old.state new.state) v before now

-- the store failed in a command
pub record Breaks (care : Care) (u v : View) (old : Machine) (command : Item) (before now : Counts) : Type 0 where
  pub answer : Answer
  pub new : Machine
  pub step : Step care old command answer new
  pub recorded : Follows old.state new.state
  pub left : IsLeft care v old.state new.state ⊎ IsLeft care v new.state old.state
  pub since : Since care old.state new.state u v
  pub leaves : LeavesFree old.state u v
  pub removes : before.removes ≤ now.removes

-- a command was performed and its answer written and counted, and the session means the machine after it
pub record Sends (care : Care) (u v : View) (old : Machine) (command : Item) (session : Session) (counted next : Summary) (before now : Outside) : Type 0 where
  pub answer : Answer
  pub performs : Performs care u v old command session answer before.counts now.counts
  pub faults : IsSparingItem command → RoseBy (fault_in answer) before.counts.reads now.counts.reads
  pub quiet : now.quiet ≡ before.quiet
  pub wrote : Appends before.written now.written (answer_text before.quiet answer)
  pub adds : next ≡ together counted (of_answer answer)

-- a command was performed, and a front of its answer written that lacks something
pub record SendsInPart (care : Care) (u v : View) (old : Machine) (command : Item) (before now : Outside) : Type 0 where
  pub session : Session
  pub answer : Answer
  pub performs : Performs care u v old command session answer before.counts now.counts
  pub faults : IsSparingItem command → RoseBy (fault_in answer) before.counts.reads now.counts.reads
  pub sent : SentInPart before.written now.written (answer_text before.quiet answer)

-- the store failed in a command, of which no answer was written
pub record BreaksOff (care : Care) (u v : View) (old : Machine) (command : Item) (before now : Outside) : Type 0 where
  pub breaks : Breaks care u v old command before.counts now.counts
  pub counts : now.counts.reads ≡ before.counts.reads
  pub wrote : now.written ≡ before.written

-- a command was not performed and answered whole, and the run ends so
abbrev pub Fails : Exit → Care → View → View → Machine → Item → Outside → Outside → Type 0
Fails exit.SinkFault care u v old command before now = SendsInPart care u v old command before now
Fails exit.StoreFault care u v old command before now = BreaksOff care u v old command before now
Fails _ care u v old command before now = ⊥
