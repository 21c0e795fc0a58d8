-- The counts of a new store.
use Rattle.outside_traits.specs.View.{Counts}

-- nothing has failed, and nothing was taken
abbrev pub none : Counts
none = record { reads = 0; writes = 0; removes = 0; taken = 0 }
