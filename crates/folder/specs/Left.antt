-- What a crash leaves.
use Rattle.std.specs.Prelude.{◌≡◌, ◌≢◌, ◌⊎◌, ℕ, false, List}
use Rattle.outside_traits.specs.View.{View, IsImageAt}
use Rattle.outside_traits.specs.Runs.{Spans}
use Rattle.catalog_types.specs.declared.change.Change.{Change}
use Rattle.catalog_core.specs.Table.{Table, after}
use Rattle.folder.specs.State.{State, table}
use Rattle.folder.specs.Replay.{MayBeMade}
use Rattle.folder.specs.Sound.{Care, IsSound}

-- one recorded change leads from the one table to the other; a checkpoint changes nothing and isn't meant
abbrev pub IsStep : Table → Change → Table → Type 0
IsStep t c t' = MayBeMade false t c × (t' ≡ after c t)

-- the second state lies one recorded change behind the first
abbrev pub Follows : State → State → Type 0
Follows a b = (c : Change) × IsStep (table a) c (table b)

-- they are one state, or in the one more commands were recorded than in the other
abbrev pub AreApart : State → State → Type 0
AreApart a b = (a ≡ b) ⊎ (a.tick ≢ b.tick)

abbrev pub IsSoundForOneOf : Care → State → State → (ℕ → List ℕ) → Type 0
IsSoundForOneOf care a b image = IsSound care image a ⊎ IsSound care image b

-- each crash now leaves files of this state
abbrev pub IsSettled : Care → View → State → Type 0
IsSettled care v s = (image : ℕ → List ℕ) → IsImageAt v v.moment image → IsSound care image s

-- The store is left with these two states, which are one or have other ticks: its files are those of the first as they
-- read, and each crash now leaves files of one of them. A store that is left with one state is left with it twice. A mix
-- of images is an image, so a crash leaves no mix of the two states.
pub record IsLeft (care : Care) (v : View) (a b : State) : Type 0 where
  pub apart : AreApart a b
  pub read : IsSound care v.files a
  pub images : (image : ℕ → List ℕ) → IsImageAt v v.moment image → IsSoundForOneOf care a b image

-- in one of the two orders
abbrev pub IsLeftWith : Care → View → State → State → Type 0
IsLeftWith care v a b = IsLeft care v a b ⊎ IsLeft care v b a

abbrev pub Everything : ℕ → Type 0
Everything g = Unit {0}

-- each crash since leaves files of one of the two states
abbrev pub Since : Care → State → State → View → View → Type 0
Since care a b u v = Spans Everything (IsSoundForOneOf care a b) u v

-- no file but others of this one is changed, nor what a crash since leaves of one
abbrev pub LeavesAlone : ℕ → View → View → Type 0
LeavesAlone file u v = Spans (λ g. g ≢ file) (λ image. Unit {0}) u v

-- each crash since leaves files of this state
abbrev pub StaysSound : Care → State → View → View → Type 0
StaysSound care s u v = Spans Everything (λ image. IsSound care image s) u v
