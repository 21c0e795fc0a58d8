use Rattle.std.proofs.Common.{sym, ap, ◌∙◌}
use Rattle.estimator.specs.Bytes.{capped}
use Rattle.rewrite_core.specs.PlainRewriting.{Change, OfChild}
use Rattle.rewriter.proofs.prices.price_over_child.Goals as goal

pub returns-in-None : goal.returns-in-None
returns-in-None c = λ entries lengths q old new s by delta. by.none (rw c.in-None.is at delta)

pub returns-in-Some : goal.returns-in-Some
returns-in-Some c = λ entries lengths q old new s by delta.
    let l = rw c.in-Some.is at delta in
    let bytes = l.bytes ∙ ap capped (sym by.bytes) in
    record {
      of = Change q old new (OfChild l.of);
      least = by.makes l.of l.least;
      estimate = c.plus.ensures _ _ l.estimate bytes;
      bytes = bytes;
    }
