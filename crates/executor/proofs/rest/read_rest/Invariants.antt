-- Some of the files are read, and as many are left.
use Rattle.std.proofs.Common.{◌≡◌, ◌+◌, ◌++◌, List, length}
use Rattle.outside_traits.specs.Calls.{Idles}
use Rattle.executor.specs.Progress.{left_in}
use Rattle.estimator.specs.Bytes.{capped}
use Rattle.rewrite_core.specs.Files.{FileName}
use Rattle.executor.specs.Running.{ReadsOn, kept_bytes}
use Rattle.executor.specs.Sources.{sources}
use Rattle.executor.proofs.rest.read_rest.Given as goal

abbrev pub invariant-loop-alloc : goal.invariant-loop-alloc
invariant-loop-alloc g l = record {
  rewriting : l.job.rewriting ≡ l.fn.job.rewriting;
  read : ReadsOn (sources g.D.Store.tells (g.D.Store.view l.fn.store).files (g.P.Places.files l.places) (g.P.Places.machines l.places) (g.P.Places.stream_kinds l.places))
      l.fn.job.parts.items l.job.parts.items (g.D.Store.counts l.fn.store) (g.D.Store.counts l.store);
  counted : (names : List FileName) → left_in l.fn.job.parts.items ≡ names ++ left_in l.job.parts.items → l.job.taken ≡ capped (l.fn.job.taken + kept_bytes (g.P.Places.files l.places) names);
  idles : Idles (g.D.Store.view l.fn.store) (g.D.Store.view l.store);
}

abbrev pub decreases-loop-alloc : goal.decreases-loop-alloc
decreases-loop-alloc g l = length (left_in l.job.parts.items)
