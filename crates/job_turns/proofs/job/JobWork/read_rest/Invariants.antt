-- Turns have ended, whose results were noted.
use Rattle.std.proofs.Common.{length}
use Rattle.outside_traits.specs.Calls.{MayRaiseReads}
use Rattle.outside_traits.specs.Runs.{Narrows}
use Rattle.plan_core.specs.PlainPlan.{PlainPlan}
use Rattle.catalog_core.specs.Catalogs.{table_of}
use Rattle.entry_table.specs.Ids.{without}
use Rattle.job_turns.specs.Jobs.{IsJob}
use Rattle.job_turns.specs.Turns.{Reads}
use Rattle.job_turns.proofs.job.JobWork.read_rest.Given as goal

abbrev pub invariant-loop : goal.invariant-loop
invariant-loop g l = record {
  job : (plan : PlainPlan) → IsJob (table_of l.catalog) plan l.fn.self → IsJob (table_of l.catalog) plan l.self;
  reads : (plan : PlainPlan) → IsJob (table_of l.catalog) plan l.fn.self
      → Reads g.D.Store.tells (table_of l.catalog) (g.D.Store.view l.fn.store) plan l.fn.self l.self (g.D.Store.counts l.fn.store) (g.D.Store.counts l.store);
  narrows : Narrows (g.D.Store.view l.fn.store) (g.D.Store.view l.store);
  counts : MayRaiseReads (g.D.Store.counts l.fn.store) (g.D.Store.counts l.store);
}

abbrev pub decreases-loop : goal.decreases-loop
decreases-loop g l = length (without l.self.noted.items (table_of l.catalog).entries)
