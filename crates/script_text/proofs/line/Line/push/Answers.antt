use Rattle.std.proofs.Common.{rules}
use Rattle.script_text.proofs.LineLemmas.{Holds-push}
use Rattle.script_text.proofs.line.Line.push.Goals as goal

pub returns : goal.returns
returns c = λ bytes held.
    Holds-push c.args.outside c.args.self.now.text.items c.args.piece.now bytes c.counted_part-counted.result.now _ c.args.self.now.len c.min.result _ (search rules) (search rules) (search rules) (search rules) (search rules) held
