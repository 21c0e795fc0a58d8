use Rattle.std.proofs.Common.{ℕ, ◌≤◌, List, length, arith, rules}
use Rattle.std.proofs.lemmas.Bool.Decides.{nat_tests}
use Rattle.rows_core.specs.Name.{IsName, is_name}
use Rattle.script_text.proofs.laws.name_is_short.Goals as goal

name_len : (bytes : List ℕ) → IsName bytes → length bytes ≤ 64
unfolding is_name
name_len bytes h = grind (arith, nat_tests)

pub returns : goal.returns
returns c = name_len c.args.name.now (search rules)
