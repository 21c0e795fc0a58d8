use Rattle.std.specs.Bool.{IsTrue}
use Rattle.std.proofs.Common.{sym, subst}
use Rattle.rewrite_core.proofs.Looking.{holds}
use Rattle.postfix_plans.proofs.Lists.{all_sound}
use Rattle.postfix_plans.proofs.soundness.+are_sound.Goals as goal

pub returns-then-are_apart : goal.returns-then-are_apart
returns-then-are_apart t c = λ is.
    all_sound c.args.results.now c.first-item.result c.in-len1-up.len_at_least c.first-item.is (c.in_ok-formed-in-len1-up.ensures (subst IsTrue (sym c.if-formed.true) holds))
    (c.in_ok-sound-in-len1-up.ensures (subst IsTrue (sym c.if-sound.true) holds)) (c.if-are_apart.ensures holds)
