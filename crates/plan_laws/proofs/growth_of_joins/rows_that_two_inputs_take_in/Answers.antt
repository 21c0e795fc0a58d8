use Rattle.plan_laws.proofs.GrowingTwo.{join_takes_in, concat_takes_in}
use Rattle.plan_laws.proofs.growth_of_joins.rows_that_two_inputs_take_in.Goals as goal

pub returns : goal.returns
returns c = record {
  join = λ left right on before after left_old left_new right_old right_new left_more right_more lefts rights.
      join_takes_in left right before after left_old left_new right_old right_new left_more right_more lefts rights on;
  concat = concat_takes_in;
}
