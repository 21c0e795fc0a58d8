-- What is seen of a run from outside.
use Rattle.std.specs.Prelude.{◌≡◌, ℕ, ◌≤◌, Bool, List, Option}
use Rattle.outside_traits.specs.Counts.{Rose}
use Rattle.outside_traits.specs.View.{Counts}
use Rattle.outside_traits.specs.Calls.{Rises}

-- whether row lines are left out of what is written; what the source has left and the sink has written, where they tell it; and the
-- store's counts
pub record Outside : Type 0 where
  pub quiet : Bool
  pub left : Option (List ℕ)
  pub written : Option (List ℕ)
  pub counts : Counts

abbrev pub shown : Bool → Option (List ℕ) → Option (List ℕ) → Counts → Outside
shown quiet left written counts = record { quiet = quiet; left = left; written = written; counts = counts }

-- the same, where only the sink and the store have changed
abbrev pub with_answer : Outside → Option (List ℕ) → Counts → Outside
with_answer outside written counts = record outside { written = written; counts = counts }

-- how many calls of the source and of the sink have failed, and the store's counts
pub record Faults : Type 0 where
  pub source : ℕ
  pub sink : ℕ
  pub store : Counts

abbrev pub faults : ℕ → ℕ → Counts → Faults
faults source sink store = record { source = source; sink = sink; store = store }

-- no call has failed since; a count that stands at its last value counts as risen
pub record NoneFailed (old new : Faults) : Type 0 where
  pub source : Rose old.source new.source → ⊥
  pub sink : Rose old.sink new.sink → ⊥
  pub reads : Rose old.store.reads new.store.reads → ⊥
  pub writes : Rose old.store.writes new.store.writes → ⊥

-- none has fallen
pub record NoneFell (old new : Faults) : Type 0 where
  pub source : old.source ≤ new.source
  pub sink : old.sink ≤ new.sink
  pub store : Rises old.store new.store

-- no write, cut or sync of the store has failed
abbrev pub NoWriteFailed : Faults → Faults → Type 0
NoWriteFailed old new = new.store.writes ≡ old.store.writes
