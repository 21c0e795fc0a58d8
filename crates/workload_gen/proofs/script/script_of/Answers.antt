-- The streams and the rounds are the script, whose length is known.
use Rattle.std.proofs.Common.{arith, ap, length}
use Rattle.std.proofs.lemmas.Grind.{common_steps}
use Rattle.workload_gen.specs.Script.{generated_script}
use Rattle.workload_gen.proofs.script.script_of.Goals as goal

pub returns-clause-script : goal.returns-clause-script
unfolding generated_script
returns-clause-script c = grind (arith, common_steps)

pub returns-clause-short : goal.returns-clause-short
returns-clause-short c = let same = ap length (returns-clause-script c) in omega (arith, same, c.script_is_short.ensures c.args.number)
