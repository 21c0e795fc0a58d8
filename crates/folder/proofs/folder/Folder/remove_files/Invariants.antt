-- Those of the files so far aren't there, unless a removal failed.
use Rattle.std.proofs.Common.{◌⊎◌, IsTrue, take}
use Rattle.outside_traits.specs.Calls.{MayRaiseRemoves}
use Rattle.outside_traits.specs.Counts.{Rose}
use Rattle.folder.specs.Removing.{AreGone, ChangesAmong}
use Rattle.folder.proofs.folder.Folder.remove_files.Given as goal

abbrev pub invariant-loop-file : goal.invariant-loop-file
invariant-loop-file g l = record {
  alone : ChangesAmong l.files (g.D.Store.view l.fn.store) (g.D.Store.view l.store);
  gone : IsTrue g.D.Store.tells → Rose (g.D.Store.counts l.fn.store).removes (g.D.Store.counts l.store).removes
      ⊎ AreGone (g.D.Store.view l.store) (take l.file-index l.files);
  counts : MayRaiseRemoves (g.D.Store.counts l.fn.store) (g.D.Store.counts l.store);
}
