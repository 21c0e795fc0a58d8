use Rattle.std.proofs.Common.{◌^◌, ◌<◌, arith, rules}
use Rattle.std.proofs.lemmas.Fmt.{length-decimal-le}
use Rattle.script_text.proofs.laws.number_is_short.Goals as goal

pub returns : goal.returns
returns c = let fits : c.args.number < 2 ^ 64 = search rules in length-decimal-le 20 c.args.number (omega arith) (omega arith) fits
