-- A record more was taken, and at the end the open block was written.
use Rattle.std.proofs.Common.{◌≡◌, ◌+◌, ◌∷◌, ◌++◌, [], true, false, length-append, refl, ap, ◌∙◌, arith, rules}
use Rattle.csv.specs.Records.{fields_of}
use Rattle.rows_core.specs.Schema.{kinds_of}
use Rattle.csv_script.specs.Reading.{task_of}
use Rattle.std.proofs.lemmas.Result.{err_from_is_err_and}
use Rattle.csv_script.proofs.Stops.{IsUnwritten-here}
use Rattle.csv_script.proofs.Written.{IsBlocked-none}
use Rattle.csv_script.proofs.append.write_rows.Goals as goal

pub loop-turn-init : goal.loop-turn-init
loop-turn-init g c = record {
  few = omega arith;
  under_way = λ header text small picks start. record {
    records = [];
    count_is = refl;
    reading = start;
    taken = record {
      rows = [];
      rows_are = (refl, refl);
      blocked = rw c.new-lines.ensures.items (IsBlocked-none (kinds_of c.args.request.now.schema.now) c.args.request.now.name.now (g.W.Write.contents c.args.script.now));
    };
  };
}

pub loop-turn-preserved : goal.loop-turn-preserved
loop-turn-preserved g c =
    let found : c.in_ok-read.field-0 ≡ true = search rules in
    record {
      few = (let was = c.loop-turn.invariant.few in let one = c.in_ok-skipped.ensures.count in omega arith);
      under_way = λ header text small picks start.
          let was = c.loop-turn.invariant.under_way header text small picks start in
          record {
            records = was.records ++ fields_of c.read.new.fields ∷ [];
            count_is = length-append was.records (fields_of c.read.new.fields ∷ []) ∙ ap (λ n. n + 1) was.count_is;
            reading = c.in_ok-read.ensures.more found text (header ∷ was.records) was.reading;
            taken = c.in_ok-skipped.ensures.taken header c.args.request.now.schema.now (g.W.Write.contents c.args.script.now) small picks was.records was.taken.rows c.loop-turn.skipped was.taken.rows_are was.taken.blocked;
          };
    }

pub returns-then-not-branch-clause-done : goal.returns-then-not-branch-clause-done
returns-then-not-branch-clause-done g c header text small picks start =
    let none : c.in_ok-read.field-0 ≡ false = search rules in
    let was = c.loop-turn.invariant.under_way header text small picks start in
    record {
      records = was.records;
      rows = was.taken.rows;
      are_records = c.in_ok-read.ensures.none none text (header ∷ was.records) was.reading;
      rows_are = was.taken.rows_are;
      written = (rw c.as_slice.ensures.value at c.in_ok-finish.ensures) (kinds_of c.args.request.now.schema.now) (g.W.Write.contents c.args.script.now) was.taken.rows was.taken.blocked;
    }

pub returns-in_err-skipped-clause-refused : goal.returns-in_err-skipped-clause-refused
returns-in_err-skipped-clause-refused g c =
    let handed = err_from_is_err_and c.from_residual-in_err-skipped.result c.from_residual-in_err-skipped.ensures.1 in
    let found : c.in_ok-read.field-0 ≡ true = search rules in
    rw (handed.1, handed.2)
    (λ header text small picks start.
    let was = c.loop-turn.invariant.under_way header text small picks start in
    IsUnwritten-here g.R.Read.remaining text header (task_of c.args.request.now.skips c.args.request.now.name.now c.args.request.now.schema.now c.args.picks.now c.args.width (g.W.Write.contents c.args.script.now))
    c.loop-turn.file _ (fields_of c.read.new.fields) (g.W.Write.contents c.loop-turn.script) _ c.loop-turn.lines.items c.loop-turn.turn c.loop-turn.skipped _ _ was
    (c.in_ok-read.ensures.more found text (header ∷ was.records) was.reading) refl c.in_err-skipped.ensures.refused)
