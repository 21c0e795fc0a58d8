-- Some turns have ended, and the next one has its choice.
use Rattle.std.proofs.Common.{◌≡◌, [], length, IsTrue}
use Rattle.outside_traits.specs.Calls.{MayRaiseReads}
use Rattle.outside_traits.specs.Runs.{Narrows}
use Rattle.plan_core.specs.PlainPlan.{PlainPlan}
use Rattle.catalog_core.specs.Catalogs.{table_of}
use Rattle.entry_table.specs.Ids.{without}
use Rattle.folder.specs.Left.{IsLeft}
use Rattle.folder.specs.Sound.{Care}
use Rattle.folder.specs.State.{State, table}
use Rattle.work_turns.specs.Turns.{IsChosenOf}
use Rattle.work_turns.proofs.TurnSteps.{Turned}
use Rattle.work_turns.proofs.TurnsOver.{AreOver}
use Rattle.work_turns.proofs.turns.run_in_turns.Given as goal

abbrev pub invariant-loop-lost : goal.invariant-loop-lost
invariant-loop-lost g l = record {
  narrows : Narrows (g.D.Store.view l.fn.store) (g.D.Store.view l.store);
  counts : MayRaiseReads (g.D.Store.counts l.fn.store) (g.D.Store.counts l.store);
  no_fault : (g.D.Store.counts l.store).reads ≡ (g.D.Store.counts l.fn.store).reads;
  chosen : (plan : PlainPlan) → IsChosenOf (table_of l.catalog) [] plan l.normal.plan l.cuts l.fn.choice → IsChosenOf (table_of l.catalog) l.lost.items plan l.normal.plan l.cuts l.next;
  over : (plan : PlainPlan) → IsChosenOf (table_of l.catalog) [] plan l.normal.plan l.cuts l.fn.choice
      → AreOver g.D.Store.tells (table_of l.catalog) plan l.normal.plan l.cuts l.lost.items (g.D.Store.counts l.fn.store) (g.D.Store.counts l.store);
  turned : IsTrue g.D.Store.tells → (care : Care) (s : State) (plan : PlainPlan) → IsLeft care (g.D.Store.view l.fn.store) s s → table_of l.catalog ≡ table s
      → IsChosenOf (table_of l.catalog) [] plan l.normal.plan l.cuts l.fn.choice
      → Turned care s plan l.normal.plan l.cuts l.lost.items l.ended (g.D.Store.counts l.fn.store) (g.D.Store.counts l.store);
}

abbrev pub decreases-loop-lost : goal.decreases-loop-lost
decreases-loop-lost g l = length (without l.lost.items (table_of l.catalog).entries)
