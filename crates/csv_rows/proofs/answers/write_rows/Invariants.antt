-- The rows so far were written, and the writer is at the start of a record.
use Rattle.std.proofs.Common.{◌≡◌, ℕ, List, Some}
use Rattle.csv.specs.Writing.{text_written}
use Rattle.csv_rows.specs.Results.{AreWritten, IsFresh}
use Rattle.csv_rows.proofs.answers.write_rows.Given as goal

abbrev pub invariant-loop-number : goal.invariant-loop-number
invariant-loop-number g l = record {
  fresh : IsFresh l.fn.writer → IsFresh l.writer;
  written : (bytes : List ℕ) → g.R.Read.remaining l.fn.answers ≡ Some bytes → IsFresh l.fn.writer
      → AreWritten bytes l.number (g.R.Read.remaining l.answers) (text_written g.W.Write.contents l.fn.writer) (text_written g.W.Write.contents l.writer);
}
