use Rattle.std.proofs.Common.{sym, ap, ◌∙◌}
use Rattle.estimator.specs.Bytes.{capped}
use Rattle.rewrite_core.specs.PlainRewriting.{Node, Tail}
use Rattle.rewriter.proofs.prices.estimate_of_tail.Goals as goal

pub returns-in-None : goal.returns-in-None
returns-in-None c = λ entries lengths q cuts s by delta. by.none (rw c.in-None.is at delta)

pub returns-in-Some : goal.returns-in-Some
returns-in-Some c = λ entries lengths q cuts s by delta.
    let l = rw c.in-Some.is at delta in
    record {
      of = Node q cuts (Tail c.args.hit.now l.of);
      least = by.makes l.of l.least;
      estimate = c.plus.ensures _ _ (c.plus-parts.ensures _ _ c.file_len.ensures l.estimate) (l.bytes ∙ ap capped (sym by.bytes));
    }
