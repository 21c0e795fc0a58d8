use Rattle.std.proofs.Common.{refl, sym, subst}
use Rattle.script_text.specs.Answer.{IsNarrow}
use Rattle.script_text.specs.declared.answer.Answer.{Answer}
use Rattle.script_text.specs.declared.item.Command.TheVariants as command
use Rattle.folder.specs.Folders.{table_in}
use Rattle.folder_session.specs.Causes.{TellsOfNoFile}
use Rattle.session.specs.Jobs.{IsHeldOver, AreHeldOver}
use Rattle.session.specs.Standing.{Performs, folder_of, jobs_of}
use Rattle.session.specs.declared.session.Session.{Session}
use Rattle.session.proofs.JobSteps.{drops, unknown_drop}
use Rattle.session.proofs.Places.{each_but}
use Rattle.session.proofs.session.Session.drop_job.Goals as goal
use Rattle.session.proofs.session.Session.drop_job.Goals.{in-Some, in-None}

pub returns-clause-holds : goal.returns-clause-holds
returns-clause-holds g c =
    let t = table_in (folder_of c.args.self) in
    let old = jobs_of c.args.self in
    elim c.match-give.branch [
      | in-Some w ↦ let out = w.in-Some.ensures.some in subst (AreHeldOver t) (sym out.stand) (each_but (IsHeldOver t) old out.at c.requires.holds)
      | in-None w ↦ subst (AreHeldOver t) (sym w.in-None.ensures.stay) c.requires.holds
    ]

pub returns-clause-base : goal.returns-clause-base
returns-clause-base g c = refl

pub returns-clause-ok : goal.returns-clause-ok
returns-clause-ok g c = λ care store m stands.
    let v = g.D.Store.view store in
    let new : Session = record { base = c.args.self.base; jobs = c.give.new.self; alloc = c.args.self.alloc } in
    elim c.match-give.branch [
      | in-Some w ↦
          let out = w.in-Some.ensures.some in
          subst (λ (a : Answer). Performs care v v new m (command.DropJob c.args.name) a) (sym w.answer-is) (drops care v c.args.self new m stands refl c.args.name out.at out.taken out.place out.stand)
      | in-None w ↦
          subst (λ (a : Answer). Performs care v v new m (command.DropJob c.args.name) a) (sym w.answer-is) (unknown_drop care v c.args.self new m stands refl c.args.name w.in-None.ensures.none w.in-None.ensures.stay)
    ]

pub returns-clause-narrow : goal.returns-clause-narrow
returns-clause-narrow g c = elim c.match-give.branch [
  | in-Some w ↦ subst IsNarrow (sym w.answer-is) tt
  | in-None w ↦ subst IsNarrow (sym w.answer-is) tt
]

pub returns-clause-of_no_file : goal.returns-clause-of_no_file
returns-clause-of_no_file g c = elim c.match-give.branch [
  | in-Some w ↦ subst TellsOfNoFile (sym w.answer-is) tt
  | in-None w ↦ subst TellsOfNoFile (sym w.answer-is) tt
]
