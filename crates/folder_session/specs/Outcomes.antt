-- How far two outcomes of one command agree.
use Rattle.std.specs.Prelude.{◌≡◌}
use Rattle.script_text.specs.declared.answer.Answer.{Answer}
use Rattle.script_text.specs.declared.answer.Answer.TheVariants as answer
use Rattle.folder.specs.State.{State}
use Rattle.folder_session.specs.Machine.{Outcome}

-- the states have the same streams and programs after as many commands
pub record AreBeside (a b : State) : Type 0 where
  pub tick : a.tick ≡ b.tick
  pub streams : a.streams ≡ b.streams
  pub programs : a.programs ≡ b.programs

-- Two results tell the same rows. Which kept results were used, and which are kept, hangs on the rewriting that was taken, of
-- several that are least. Any other two outcomes are one.
abbrev pub AgreeOn : Answer → State → Answer → State → Type 0
AgreeOn (answer.Result rows used kept read) a (answer.Result others used_by kept_by read_by) b = (rows ≡ others) × AreBeside a b
AgreeOn given a other b = (given ≡ other) × (a ≡ b)

abbrev pub Agree : Outcome → Outcome → Type 0
Agree x y = AgreeOn x.answer x.state y.answer y.state
