use Rattle.std.proofs.Common.{refl}
use Rattle.plan_laws.specs.GroupBounds.{IsAccOf}
use Rattle.group_fold.proofs.Places.{each_length}
use Rattle.group_fold.proofs.accumulate.take_in.Goals as goal

pub loop-i-init : goal.loop-i-init
loop-i-init c = record {
  long = each_length IsAccOf c.args.aggs.now c.args.accs.now.items c.requires;
  rest = c.requires;
  joined = refl;
  numbers = tt;
}
