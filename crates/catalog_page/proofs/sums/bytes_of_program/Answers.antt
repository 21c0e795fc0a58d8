use Rattle.std.proofs.Common.{rules, arith, ◌≡◌, ◌∙◌}
use Rattle.catalog_page.specs.Page.{has_key}
use Rattle.catalog_page.proofs.KeptSums.{sum_start, sum_more, sum_end}
use Rattle.catalog_page.proofs.sums.bytes_of_program.Goals as goal

pub loop-kept-init : goal.loop-kept-init
loop-kept-init c = record { sum = sum_start (has_key c.args.key.now); most = omega arith }

pub loop-kept-preserved : goal.loop-kept-preserved
loop-kept-preserved c =
    let same : c.from-bytes.result ≡ c.size_if.result = search rules in
    record {
      sum = sum_more (has_key c.args.key.now) _ _ _ _ _ _ c.loop-kept-test.true c.kept-item.is c.has_key.ensures (same ∙ c.size_if.ensures) c.loop-kept.invariant.sum;
      most = omega arith;
    }

pub returns : goal.returns
returns c = sum_end (has_key c.args.key.now) _ _ _ c.loop-kept-test.false c.loop-kept.invariant.sum
