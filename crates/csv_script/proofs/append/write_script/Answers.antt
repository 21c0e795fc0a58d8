-- The header, and what stands behind it.
use Rattle.std.proofs.Common.{◌≡◌, [], true, rules}
use Rattle.csv_script.proofs.RowLemmas.{if_ok}
use Rattle.csv_script.proofs.Stops.{if_err}
use Rattle.csv_script.proofs.append.write_script.Goals as goal

pub returns-clause-script : goal.returns-clause-script
returns-clause-script g c =
    let found : c.in_ok-read.field-0 ≡ true = search rules in
    if_ok c.write_behind.result (λ skipped ok text start. (rw ok at c.write_behind.ensures.script) text (c.in_ok-read.ensures.more found text [] start))

pub returns-clause-refused : goal.returns-clause-refused
returns-clause-refused g c =
    let found : c.in_ok-read.field-0 ≡ true = search rules in
    if_err c.write_behind.result (λ why err text start. (rw err at c.write_behind.ensures.refused) text (c.in_ok-read.ensures.more found text [] start))
