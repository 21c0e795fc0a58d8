use Rattle.growth_laws.proofs.NamedResults.{is_whole, made_whole, one_added}
use Rattle.growth_laws.proofs.trees.one_result_of_lists.Goals as goal

pub returns : goal.returns
returns c = record { made = λ plan lists given. (is_whole plan lists given, made_whole plan lists given); added = one_added }
