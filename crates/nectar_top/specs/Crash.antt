-- What a crash leaves in the course of a run.
use Rattle.std.specs.Prelude.{◌≡◌, ◌⊎◌, ℕ, List, ◌++◌}
use Rattle.outside_traits.specs.View.{View}
use Rattle.outside_traits.specs.Runs.{Spans}
use Rattle.script_text.specs.declared.answer.Answer.{Answer}
use Rattle.script_text.specs.declared.item.Item.{Item}
use Rattle.folder.specs.Sound.{Care, Whole, IsSound}
use Rattle.folder.specs.State.{State}
use Rattle.folder.specs.Left.{Everything}
use Rattle.session.specs.Machine.{Machine, without_jobs}
use Rattle.nectar_top.specs.Machine.{Run}

-- What the folder was found with: the state that it reads as, and the other one that a crash might have left. How much is
-- known of its files is known of all that is said. No job is in a folder, so none is open at the start of a run.
pub record Found : Type 0 where
  pub care : Care
  pub first : State
  pub other : State

-- a folder of one state, whose files hold their bytes
abbrev pub intact : State → Found
intact s = record { care = Whole; first = s; other = s }

-- The image is that of the state after a prefix of these commands, from a state with no job open; the prefix has answers from the
-- front of these. No job that is open then is in the image.
pub record IsOfPrefix (care : Care) (start : State) (commands : List Item) (answers : List Answer) (image : ℕ → List ℕ) : Type 0 where
  pub before : List Item
  pub behind : List Item
  pub parts : commands ≡ before ++ behind
  pub given : List Answer
  pub others : List Answer
  pub answers_are : answers ≡ given ++ others
  pub machine : Machine
  pub run : Run care (without_jobs start) before given machine
  pub sound : IsSound care image machine.state

-- the image is that of the other state that was found, or of one after a prefix
abbrev pub IsReached : Found → List Item → List Answer → (ℕ → List ℕ) → Type 0
IsReached found commands answers image = IsSound found.care image found.other ⊎ IsOfPrefix found.care found.first commands answers image

-- each crash since leaves such an image
abbrev pub Reaches : Found → List Item → List Answer → View → View → Type 0
Reaches found commands answers u v = Spans Everything (IsReached found commands answers) u v
