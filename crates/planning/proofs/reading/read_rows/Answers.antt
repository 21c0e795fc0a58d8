use Rattle.std.proofs.Common.{◌≡◌, ◌++◌, ◌∷◌, [], arith}
use Rattle.std.proofs.lemmas.Grind.{common_steps}
use Rattle.planning.proofs.ReadingLemmas.{ReadSoFar-more, IsFirstBad-next, SpellLong-first}
use Rattle.planning.proofs.reading.read_rows.Goals as goal

pub returns-in-Err-NotRow-clause-refused : goal.returns-in-Err-NotRow-clause-refused
returns-in-Err-NotRow-clause-refused c = IsFirstBad-next _ _ _ _ c.loop-index-test.true c.index-lines-index.is _ c.loop-index.invariant.spell (rw c.items.ensures at (c.in-Err-NotRow.ensures.not_row (cc)))

pub after_long-requires-clause-long : goal.after_long-requires-clause-long
after_long-requires-clause-long c = SpellLong-first _ _ _ _ c.loop-index-test.true c.index-lines-index.is _ c.loop-index.invariant.spell (rw c.items.ensures at (c.in-Err-TooLong.ensures.too_long (cc)))

pub loop-index-preserved : goal.loop-index-preserved
loop-index-preserved c =
    let so_far = ReadSoFar-more _ _ _ _ c.loop-index-test.true c.index-lines-index.is _ c.in-Ok-read_row.row c.loop-index.invariant c.in-Ok-read_row.ensures.kinds c.in-Ok-read_row.ensures.short (rw c.items.ensures at c.in-Ok-read_row.ensures.spelling) in
    let pushed : c.push.new.self.items ≡ c.loop-index.rows.items ++ c.in-Ok-read_row.row ∷ [] = grind (arith, common_steps) in
    rw pushed so_far
