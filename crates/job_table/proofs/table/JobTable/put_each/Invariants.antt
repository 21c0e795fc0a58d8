-- The jobs so far are put in their places.
use Rattle.std.proofs.Common.{◌≡◌, ◌++◌, length}
use Rattle.std.specs.Vec.Iter.{into_iter_items, into_iter_len}
use Rattle.job_table.specs.Jobs.{put_each}
use Rattle.job_table.proofs.table.JobTable.put_each.Given as goal

abbrev pub invariant-loop-next : goal.invariant-loop-next
invariant-loop-next g l = record {
  whole : l.yielded ++ into_iter_items l.next-iterator ≡ l.fn.nexts.items;
  left : into_iter_len l.next-iterator ≡ length (into_iter_items l.next-iterator);
  at : l.place ≡ length l.yielded;
  put : l.self.jobs.items ≡ put_each l.initial.self.jobs.items l.yielded;
}
