use Rattle.std.proofs.Common.{◌≡◌, Some, codes, ap, ◌∙◌, rules, arith}
use Rattle.std.proofs.lemmas.Bool.Decides.{nat_tests}
use Rattle.script_text.specs.Words.{behind_word, behind_append}
use Rattle.script_text.proofs.LineLemmas.{IsWhole-from_short}
use Rattle.script_text.proofs.block.OpenBlock.new.Goals as goal

pub returns : goal.returns
returns c = λ bytes held.
    let whole = IsWhole-from_short _ _ bytes c.args.line.now.len (search rules) held in
    let fits = whole.fits in
    let behind : behind_append bytes ≡ Some c.args.rest.now = ap (behind_word (codes "append")) whole.text_is ∙ c.requires in
    record {
      size = record { lines_fit = grind (arith, nat_tests); len = omega arith };
      keeps = c.kept_head-kept.ensures bytes behind;
    }
