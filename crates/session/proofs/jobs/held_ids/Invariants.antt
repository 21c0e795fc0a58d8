-- The ids of the jobs so far.
use Rattle.std.proofs.Common.{◌≡◌, take}
use Rattle.session.specs.Jobs.{held_of}
use Rattle.session.proofs.jobs.held_ids.Given as goal

abbrev pub invariant-loop-opened : goal.invariant-loop-opened
invariant-loop-opened l = l.held.items ≡ held_of (take l.opened-index l.jobs)
