use Rattle.std.proofs.Common.{◌≡◌, ◌+◌, ℕ, List, [], ◌∷◌, length, drop, sym, ap, subst, ◌∙◌}
use Rattle.outside_traits.specs.View.{Now, Only}
use Rattle.gated_log.specs.Logs.{sealed}
use Rattle.journal_store.proofs.MakingLemmas.{first_bytes, one_file, ok_then}
use Rattle.journal_store.proofs.making.make_log.Goals as goal

pub returns-clause-made : goal.returns-clause-made
returns-clause-made g c = λ told. c.commit.ensures.committed told [] (c.in_ok-log.ensures.made told)

pub returns-clause-bytes : goal.returns-clause-bytes
returns-clause-bytes g c = λ told.
    ok_then c.commit.result _ _ (c.commit.ensures.bytes told [] (c.in_ok-log.ensures.made told))
    (λ wrote. first_bytes _ _ c.args.body.now c.in_ok-log.log.end c.in_ok-log.ensures.end
    (ap (g.D.Store.view c.create.new.store).files c.in_ok-log.ensures.file ∙ c.in_ok-log.ensures.bytes told)
    (ap (g.D.Store.view c.commit.new.store).files (sym c.in_ok-log.ensures.file) ∙ wrote))

pub returns-clause-stable : goal.returns-clause-stable
returns-clause-stable g c = λ told.
    ok_then c.commit.result _ _ (c.commit.ensures.stable told [] (c.in_ok-log.ensures.made told))
    (λ only. subst (λ f. Only ((g.D.Store.view c.commit.new.store).files f) (Now (g.D.Store.view c.commit.new.store) f)) c.in_ok-log.ensures.file only)

pub returns-clause-alone : goal.returns-clause-alone
returns-clause-alone g c = one_file c.args.file c.in_ok-log.log.file _ _ _ c.in_ok-log.ensures.file c.create.ensures.alone c.commit.ensures.alone
