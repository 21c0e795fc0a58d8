-- By the length of each line.
use Rattle.workload_gen.proofs.LengthLemmas.{length-generated_script}
use Rattle.workload_gen.proofs.laws.script_is_short.Goals as goal

pub returns : goal.returns
returns c = length-generated_script
