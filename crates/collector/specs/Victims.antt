-- Which kept results a collection takes.
use Rattle.std.specs.Prelude.{◌≡◌, ◌≢◌, ℕ, ◌-◌, ◌<◌, ◌≤◌, ◌⊎◌, List, [], ◌∷◌, ◌++◌, map, sum_by}
use Rattle.std.specs.List.{Contains, AllPairs}
use Rattle.catalog_types.specs.PlainEntry.{PlainEntry}
use Rattle.collector.specs.Ratio.{GoesBefore}

-- at which tick it is made, which ids stay, and for how many ticks a result is leased
pub record Collection : Type 0 where
  pub now : ℕ
  pub pinned : List ℕ
  pub lease : ℕ

-- it isn't pinned, and it was made at least as many ticks ago as it is leased
pub record MayGo (c : Collection) (e : PlainEntry) : Type 0 where
  pub free : Contains c.pinned e.id → ⊥
  pub over : c.lease ≤ c.now - e.made

-- no two have the same id
abbrev pub HaveOwnIds : List PlainEntry → Type 0
HaveOwnIds = AllPairs (λ e f. e.id ≢ f.id)

abbrev pub size_of : PlainEntry → ℕ
size_of e = e.file.len

-- each goes before the next
abbrev pub GoesBeforeNext : ℕ → PlainEntry → List PlainEntry → Type 0
GoesBeforeNext now e [] = Unit {0}
GoesBeforeNext now e (next ∷ others) = GoesBefore now e next

abbrev pub AreInOrder : ℕ → List PlainEntry → Type 0
AreInOrder now [] = Unit {0}
AreInOrder now (e ∷ others) = GoesBeforeNext now e others × AreInOrder now others

-- These are the ids of some entries that may go, each before the next. The last goes before each other that may go.
-- They are large enough together, or all that may go; and without the last they would be too small.
pub record AreVictims (entries : List PlainEntry) (c : Collection) (wanted : ℕ) (ids : List ℕ) : Type 0 where
  pub taken : List PlainEntry
  pub named : ids ≡ map (λ e. e.id) taken
  pub can_go : (e : PlainEntry) → Contains taken e → Contains entries e × MayGo c e
  pub in_order : AreInOrder c.now taken
  pub greatest : (others : List PlainEntry) (last : PlainEntry) → taken ≡ others ++ last ∷ []
      → (e : PlainEntry) → Contains entries e → MayGo c e → (Contains taken e → ⊥) → GoesBefore c.now last e
  pub enough : (wanted ≤ sum_by size_of taken) ⊎ ((e : PlainEntry) → Contains entries e → MayGo c e → Contains taken e)
  pub needed : (others : List PlainEntry) (last : PlainEntry) → taken ≡ others ++ last ∷ [] → sum_by size_of others < wanted
