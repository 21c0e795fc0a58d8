-- Some files are read, and none was noted.
use Rattle.std.proofs.Common.{◌≡◌, length}
use Rattle.outside_traits.specs.Calls.{MayRaiseReads}
use Rattle.outside_traits.specs.Runs.{Narrows}
use Rattle.plan_core.specs.PlainPlan.{PlainPlan}
use Rattle.catalog_core.specs.Catalogs.{table_of}
use Rattle.work_run.specs.Opened.{files_left}
use Rattle.job_turns.specs.Jobs.{IsJob}
use Rattle.job_turns.specs.Turns.{Reads}
use Rattle.job_turns.proofs.job.JobWork.read_turn.Given as goal

abbrev pub invariant-loop-alloc : goal.invariant-loop-alloc
invariant-loop-alloc g l = record {
  job : (plan : PlainPlan) → IsJob (table_of l.catalog) plan l.fn.self → IsJob (table_of l.catalog) plan l.self;
  reads : (plan : PlainPlan) → IsJob (table_of l.catalog) plan l.fn.self
      → Reads g.D.Store.tells (table_of l.catalog) (g.D.Store.view l.fn.store) plan l.fn.self l.self (g.D.Store.counts l.fn.store) (g.D.Store.counts l.store);
  noted : l.self.noted ≡ l.fn.self.noted;
  narrows : Narrows (g.D.Store.view l.fn.store) (g.D.Store.view l.store);
  counts : MayRaiseReads (g.D.Store.counts l.fn.store) (g.D.Store.counts l.store);
}

abbrev pub decreases-loop-alloc : goal.decreases-loop-alloc
decreases-loop-alloc g l = length (files_left l.self.work)
