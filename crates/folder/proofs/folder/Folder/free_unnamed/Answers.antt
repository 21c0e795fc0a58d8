use Rattle.std.proofs.Common.{sym, subst}
use Rattle.folder.specs.Unnamed.{named_in}
use Rattle.std.specs.List.Sorted.{IsPermutation}
use Rattle.folder.proofs.UnnamedFiles.{strays_alike, gone_alike}
use Rattle.folder.proofs.folder.Folder.free_unnamed.Goals as goal

pub returns-in-Ok-remove_strays-clause-alone : goal.returns-in-Ok-remove_strays-clause-alone
returns-in-Ok-remove_strays-clause-alone g c =
    strays_alike (named_in c.args.self.now) c.deref.result.now _ _ (subst (IsPermutation (named_in c.args.self.now)) (sym c.deref.ensures.value) c.in-Ok.ensures.named) c.remove_strays.ensures.alone

pub returns-in-Ok-remove_strays-clause-gone : goal.returns-in-Ok-remove_strays-clause-gone
returns-in-Ok-remove_strays-clause-gone g c = λ told had.
    gone_alike (named_in c.args.self.now) c.deref.result.now (g.D.Store.view c.remove_strays.new.store) (subst (IsPermutation (named_in c.args.self.now)) (sym c.deref.ensures.value) c.in-Ok.ensures.named) (c.in-Ok-remove_strays.ensures.gone told)

pub returns-clause-alone : goal.returns-clause-alone
returns-clause-alone g c =
    strays_alike (named_in c.args.self.now) c.deref.result.now _ _ (subst (IsPermutation (named_in c.args.self.now)) (sym c.deref.ensures.value) c.in-Ok.ensures.named) c.remove_strays.ensures.alone
