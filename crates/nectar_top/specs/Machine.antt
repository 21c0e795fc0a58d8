-- The abstract machine over a script: each command is the session's, and a refused one leaves the machine.
use Rattle.std.specs.Prelude.{◌≡◌, ◌⊎◌, ℕ, Bool, List, [], ◌∷◌, flat_map}
use Rattle.script_text.specs.Answer.{answer_text}
use Rattle.script_text.specs.declared.answer.Answer.{Answer}
use Rattle.script_text.specs.declared.item.Item.{Item}
use Rattle.script_text.specs.declared.item.Item.TheVariants as item
use Rattle.script_text.specs.declared.answer.Refusal.{Refusal}
use Rattle.script_text.specs.declared.answer.Refusal.TheVariants.{Memory}
use Rattle.folder.specs.Sound.{Care}
use Rattle.session.specs.Machine.{Machine}
use Rattle.session.specs.Machine as session

-- the command is refused so, and nothing changes
abbrev pub Refuses : Refusal → Machine → Answer → Machine → Type 0
Refuses why old answer new = session.outcome answer new ≡ session.refused old why

-- one step over files of which so much is known; reading any command may want memory
abbrev pub Step : Care → Machine → Item → Answer → Machine → Type 0
Step care old (item.Command command) answer new = session.Step care old command answer new ⊎ Refuses Memory old answer new
Step care old (item.Refused why) answer new = Refuses why old answer new ⊎ Refuses Memory old answer new

-- the machine may give these answers to these commands, one step after another
abbrev pub Run : Care → Machine → List Item → List Answer → Machine → Type 0
Run care old [] [] new = new ≡ old
Run care old (command ∷ commands) (answer ∷ answers) new = (mid : Machine) × Step care old command answer mid × Run care mid commands answers new
Run care old [] (answer ∷ answers) new = ⊥
Run care old (command ∷ commands) [] new = ⊥

-- the text of answers, one after another; a quiet one leaves the row lines out
abbrev pub texts_of : Bool → List Answer → List ℕ
texts_of quiet answers = flat_map (answer_text quiet) answers
