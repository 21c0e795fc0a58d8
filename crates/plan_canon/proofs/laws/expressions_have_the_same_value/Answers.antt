use Rattle.std.proofs.Common.{refl}
use Rattle.plan_canon.proofs.SameValues.{call1_value, call2_value, with_true, with_false, and_left_value, or_left_value}
use Rattle.plan_canon.proofs.laws.expressions_have_the_same_value.Goals as goal

pub returns : goal.returns
returns c = record {
  computed_of_one = λ row a value cells e. call1_value row a value e cells;
  computed_of_two = λ row a b value cells e. call2_value row a b value e cells;
  true_and = λ a row. refl;
  and_true = λ a row typed. with_true row a typed;
  false_or = λ a row. refl;
  or_false = λ a row typed. with_false row a typed;
  false_and = λ a row. refl;
  true_or = λ a row. refl;
  if_true = λ a b row. refl;
  if_false = λ a b row. refl;
  and_to_the_left = λ x y z row. and_left_value row x y z;
  or_to_the_left = λ x y z row. or_left_value row x y z;
}
