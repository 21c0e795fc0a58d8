use Rattle.growth_laws.proofs.AddedRows.{passed_extends, distinct_added}
use Rattle.growth_laws.proofs.added.rows_added_to_one_input.Goals as goal

pub returns : goal.returns
returns c = record { passed = passed_extends; distinct = distinct_added }
