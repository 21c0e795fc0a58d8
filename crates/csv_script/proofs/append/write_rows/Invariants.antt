-- What stands of the records so far.
use Rattle.std.proofs.Common.{◌≤◌, ◌∷◌, [], ℕ, List, length}
use Rattle.csv_script.specs.Reading.{task_of, IsReading, IsUnderWay}
use Rattle.csv_script.specs.Records.{ArePicks}
use Rattle.csv_script.proofs.append.write_rows.Given as goal

abbrev pub invariant-loop-turn : goal.invariant-loop-turn
invariant-loop-turn g l = record {
  few : l.skipped ≤ l.turn;
  under_way : (header : List (List ℕ)) (text : List ℕ) → length l.fn.request.schema.now ≤ 32 → ArePicks header l.fn.request.schema.now l.fn.picks
      → IsReading g.R.Read.remaining text (header ∷ []) l.fn.file
      → IsUnderWay g.R.Read.remaining text header (task_of l.fn.request.skips l.fn.request.name.now l.fn.request.schema.now l.fn.picks l.fn.width (g.W.Write.contents l.fn.script))
      l.file (g.W.Write.contents l.script) l.lines.items l.turn l.skipped;
}
