-- A row more was written.
use Rattle.std.proofs.Common.{◌≡◌, ◌+◌, ◌<◌, ℕ, true, false, subst, arith, rules}
use Rattle.csv.specs.Records.{fields_of}
use Rattle.csv.specs.Writing.{text_written}
use Rattle.csv_rows.specs.Results.{AreWritten}
use Rattle.csv_rows.proofs.Refused.{AreUnwritten-record, IsAtRow-next, IsCut-here}
use Rattle.csv_rows.proofs.RowLemmas.{next_fresh, plain_style, AreWritten-more}
use Rattle.csv_rows.proofs.answers.write_rows.Goals as goal

pub loop-number-preserved : goal.loop-number-preserved
loop-number-preserved g c =
    let i = c.loop-number.invariant in
    let is : c.in_ok-read_line.field-0 ≡ true = search rules in
    let whole : c.in_ok-put_cells.field-0 ≡ true = search rules in
    record {
      fresh = λ start. next_fresh c.loop-number.writer c.write_byte_record.new.self (i.fresh start) c.in_default.ensures.setup c.in_default.ensures.ended c.in_default.ensures.clean;
      written = λ bytes known start.
          let was = i.written bytes known start in
          let fresh = i.fresh start in
          let row = rw c.as_slice.ensures.value at (c.in_ok-put_cells.ensures whole) in
          let wrote = rw fresh.setup at (c.in_default.ensures.bytes fresh.fields fresh.wrote (plain_style c.loop-number.writer fresh)) in
          AreWritten-more bytes c.read_line.new.line.items row.row (fields_of c.put_cells.new.fields) c.loop-number.number (g.R.Read.remaining c.loop-number.answers) (g.R.Read.remaining c.read_line.new.answers)
          (text_written g.W.Write.contents c.args.writer.now) (text_written g.W.Write.contents c.loop-number.writer) (text_written g.W.Write.contents c.write_byte_record.new.self) was
          (c.in_ok-read_line.ensures.next is was.are_rows.rest was.are_rows.left_is) row.loose row.line_is row.cells wrote;
    }

pub returns-clause-written : goal.returns-clause-written
returns-clause-written g c bytes known start =
    let all : c.loop-number.number ≡ c.args.count = omega arith in
    subst (λ (n : ℕ). AreWritten bytes n (g.R.Read.remaining c.loop-number.answers) (text_written g.W.Write.contents c.args.writer.now) (text_written g.W.Write.contents c.loop-number.writer)) all
    (c.loop-number.invariant.written bytes known start)

pub returns-then-not-branch-clause-refused : goal.returns-then-not-branch-clause-refused
returns-then-not-branch-clause-refused g c bytes known start =
    let none : c.in_ok-read_line.field-0 ≡ false = search rules in
    let was = c.loop-number.invariant.written bytes known start in
    let within : c.loop-number.number < c.args.count = omega arith in
    IsCut-here bytes c.args.count c.loop-number.number (g.R.Read.remaining c.loop-number.answers) (text_written g.W.Write.contents c.args.writer.now) (text_written g.W.Write.contents c.loop-number.writer) was within
    (c.in_ok-read_line.ensures.none none was.are_rows.rest was.are_rows.left_is)

pub returns-then-not-branch-2-clause-refused : goal.returns-then-not-branch-2-clause-refused
returns-then-not-branch-2-clause-refused g c bytes known start =
    let was = c.loop-number.invariant.written bytes known start in
    let within : c.loop-number.number < c.args.count = omega arith in
    IsAtRow-next bytes c.args.count c.loop-number.number (g.R.Read.remaining c.loop-number.answers) (text_written g.W.Write.contents c.args.writer.now) (text_written g.W.Write.contents c.loop-number.writer) was within

pub returns-in-Err-clause-refused : goal.returns-in-Err-clause-refused
returns-in-Err-clause-refused g c bytes known start =
    let was = c.loop-number.invariant.written bytes known start in
    let within : c.loop-number.number < c.args.count = omega arith in
    AreUnwritten-record bytes c.args.count (c.loop-number.number + 1) c.unwritten.result
    (IsAtRow-next bytes c.args.count c.loop-number.number (g.R.Read.remaining c.loop-number.answers) (text_written g.W.Write.contents c.args.writer.now) (text_written g.W.Write.contents c.loop-number.writer) was within)
    c.unwritten.ensures
