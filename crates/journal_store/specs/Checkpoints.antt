-- What a checkpoint may do to the counts of a store.
use Rattle.std.specs.Prelude.{◌≡◌, ◌≤◌}
use Rattle.outside_traits.specs.View.{Counts}

-- the counts of failed writes and of failed removals alone may rise
pub record MayRaiseWritesOrRemoves (old new : Counts) : Type 0 where
  pub reads : new.reads ≡ old.reads
  pub writes : old.writes ≤ new.writes
  pub removes : old.removes ≤ new.removes
  pub taken : new.taken ≡ old.taken
