-- Answers that lay it to the store that a command isn't performed, and how many of them tell a failed read.
use Rattle.std.specs.Prelude.{◌≡◌, ℕ, ◌+◌, ◌-◌, ◌^◌, ◌≤◌, min, List, sum_by, ⊤}
use Rattle.script_text.specs.declared.answer.Answer.{Answer}
use Rattle.script_text.specs.declared.answer.Answer.TheVariants as answer
use Rattle.script_text.specs.declared.answer.Refusal.TheVariants as refusal
use Rattle.script_text.specs.declared.item.Item.{Item}
use Rattle.script_text.specs.declared.item.Item.TheVariants as item
use Rattle.folder_session.specs.Causes.{SparesStore}

-- an answer that isn't laid to the store
abbrev pub IsSparing : Answer → Type 0
IsSparing (answer.Refused why) = SparesStore why
IsSparing _ = ⊤

-- what the reader of scripts refuses isn't
abbrev pub IsSparingItem : Item → Type 0
IsSparingItem (item.Command command) = ⊤
IsSparingItem (item.Refused why) = SparesStore why

abbrev pub fault_in : Answer → ℕ
fault_in (answer.Refused refusal.Fault) = 1
fault_in _ = 0

-- how many of the answers are `refused fault`
abbrev pub faults_in : List Answer → ℕ
faults_in answers = sum_by fault_in answers

-- the count rose by as many at least, or stands at its last value; where they are none it is as before
abbrev pub RoseBy : ℕ → ℕ → ℕ → Type 0
RoseBy n before now = (min (before + n) (2 ^ 64 - 1) ≤ now) × (n ≡ 0 → now ≡ before)
