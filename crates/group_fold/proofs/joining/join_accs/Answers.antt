use Rattle.std.proofs.Common.{rules, refl, ◌∙◌, ◌+◌, ◌<◌, length, arith}
use Rattle.std.proofs.lemmas.List.{length-set, drop-set-lt}
use Rattle.plan_core.specs.declared.agg.Agg.TheVariants.{Count}
use Rattle.plan_laws.specs.GroupBounds.{IsAccOf}
use Rattle.group_fold.proofs.Places.{each_length, joined_more, rest_behind, rest_behind_once}
use Rattle.group_fold.proofs.joining.join_accs.Goals as goal

pub loop-i-init : goal.loop-i-init
loop-i-init c = record {
  long = each_length IsAccOf c.args.aggs.now c.args.olds.now.items c.requires.old;
  new_long = each_length IsAccOf c.args.aggs.now c.args.news.items c.requires.new;
  rest = c.requires.old;
  new_rest = c.requires.new;
  joined = refl;
}

pub loop-i-preserved : goal.loop-i-preserved
loop-i-preserved c =
    let at = c.loop-i in
    let aggs = c.args.aggs.now in
    let olds = at.olds.items in
    let news = at.news.items in
    let within : at.i < length aggs = c.loop-i-test.true in
    let long = at.invariant.long in
    let new_long = at.invariant.new_long in
    let inside : at.i < length olds = omega (arith, within, long) in
    let inside_new : at.i < length news = omega (arith, within, new_long) in
    let next : at.i < at.i + 1 = omega arith in
    record {
      long = length-set _ at.i _ ∙ length-set olds at.i _ ∙ long;
      new_long = length-set news at.i _ ∙ new_long;
      rest = rest_behind IsAccOf aggs olds at.i Count c.replace-old.result _ _ within inside at.invariant.rest;
      new_rest = rest_behind_once IsAccOf aggs news at.i Count c.replace-new.result _ within inside_new at.invariant.new_rest;
      joined =
          at.invariant.joined
          ∙ joined_more aggs olds news _ at.i _ c.replace-old.result c.replace-new.result _ c.joined_acc.result within inside inside_new c.joined_acc.ensures (search rules) (search rules) (search rules) (drop-set-lt (at.i + 1) news at.i _ next);
    }
