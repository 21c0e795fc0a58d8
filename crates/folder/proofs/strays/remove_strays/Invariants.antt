-- Of the files that were looked at only named ones are there, unless a removal failed.
use Rattle.std.proofs.Common.{◌≡◌, ◌⊎◌, ◌-◌, ◌^◌, IsTrue}
use Rattle.outside_traits.specs.Calls.{Rises}
use Rattle.outside_traits.specs.Counts.{Rose}
use Rattle.folder.specs.Strays.{ChangesStrays, OnlyNamedBelow, end_of}
use Rattle.folder.proofs.strays.remove_strays.Given as goal

abbrev pub invariant-loop-from : goal.invariant-loop-from
invariant-loop-from g l = record {
  alone : ChangesStrays l.named (g.D.Store.view l.fn.store) (g.D.Store.view l.store);
  gone : IsTrue g.D.Store.tells → Rose (g.D.Store.counts l.fn.store).removes (g.D.Store.counts l.store).removes
      ⊎ OnlyNamedBelow (end_of l.from) (g.D.Store.view l.store) l.named;
  reads : (g.D.Store.counts l.store).reads ≡ (g.D.Store.counts l.fn.store).reads;
  writes : (g.D.Store.counts l.store).writes ≡ (g.D.Store.counts l.fn.store).writes;
  taken : (g.D.Store.counts l.store).taken ≡ (g.D.Store.counts l.fn.store).taken;
  counts : Rises (g.D.Store.counts l.fn.store) (g.D.Store.counts l.store);
}

abbrev pub decreases-loop-from : goal.decreases-loop-from
decreases-loop-from g l = 2 ^ 64 - end_of l.from
