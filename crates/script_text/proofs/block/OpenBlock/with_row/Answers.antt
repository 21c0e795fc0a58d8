use Rattle.std.proofs.Common.{◌≡◌, ◌∷◌, [], None, sym, ◌∙◌, subst, arith}
use Rattle.script_text.specs.Script.{block_limit}
use Rattle.script_text.specs.Reader.{Keeps, with_rows}
use Rattle.script_text.proofs.LineLemmas.{IsWhole-from_short}
use Rattle.script_text.proofs.BlockLemmas.{row_fits}
use Rattle.script_text.proofs.block.OpenBlock.with_row.Goals as goal

pub returns-in-Some : goal.returns-in-Some
returns-in-Some c = λ block bytes is held.
    let size = c.with_row-size.ensures block bytes is.size held in
    let passed = c.limit.ensures (with_rows block (bytes ∷ [])) size in
    let some = c.in-Some.is in
    record { size = size; keeps = c.without_rows-kept.ensures (with_rows block (bytes ∷ [])) (λ none. absurd (cc)) }

pub returns-in-None : goal.returns-in-None
returns-in-None c = λ block bytes is held.
    let size = c.with_row-size.ensures block bytes is.size held in
    let none : block_limit (with_rows block (bytes ∷ [])) ≡ None = sym (c.limit.ensures (with_rows block (bytes ∷ [])) size) ∙ c.in-None.is in
    let whole = IsWhole-from_short _ _ bytes c.args.line.now.len (omega (arith, held.len_is, row_fits block bytes none)) held in
    record {
      size = size;
      keeps = subst (λ row. Keeps c.with_row-kept.result (with_rows block (row ∷ []))) (c.deref.ensures.value ∙ sym whole.text_is) (c.with_row-kept.ensures block is.keeps);
    }
