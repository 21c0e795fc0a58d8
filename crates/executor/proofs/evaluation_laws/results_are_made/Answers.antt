use Rattle.executor.proofs.evaluation_laws.results_are_made.Goals as goal

pub returns : goal.returns
returns c = record {
  typed = c.typed_plans_give_typed_rows.ensures;
  valid = c.typed_plans_give_valid_rows.ensures;
  makes = c.results_of_rewritings.ensures.made;
  adds = c.results_of_deltas.ensures;
}
