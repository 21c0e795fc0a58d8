use Rattle.std.proofs.Common.{refl, sym, ap}
use Rattle.estimator.specs.Bytes.{capped}
use Rattle.rewrite_core.specs.PlainRewriting.{Change, Unchanged}
use Rattle.rewriter.proofs.LeastParts as law
use Rattle.rewriter.proofs.PartBytes.{none_new}
use Rattle.rewriter.proofs.prices.price_of_nothing.Goals as goal

pub returns : goal.returns
returns c = λ entries lengths q old new same. record {
  of = Change q old new Unchanged;
  least = law.delta_unchanged entries lengths q old new same;
  estimate = refl;
  bytes = sym (ap capped (none_new lengths q old new same));
}
