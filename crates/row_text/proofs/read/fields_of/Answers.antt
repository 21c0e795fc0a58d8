-- Where reading stops, no row of these kinds is spelled so.
use Rattle.std.proofs.Common.{sym, subst, drop, arith, length-drop}
use Rattle.std.proofs.lemmas.List.{take_all}
use Rattle.rows_core.specs.Schema.{kinds_of}
use Rattle.row_text.specs.RowSpelling.{IsLooseRow}
use Rattle.row_text.specs.Fields.{value_of}
use Rattle.row_text.proofs.Lines.{no_first, no_others}
use Rattle.row_text.proofs.read.fields_of.Goals as goal

pub returns-in_default-2-clause-none : goal.returns-in_default-2-clause-none
returns-in_default-2-clause-none c row p h =
    let none = rw c.in_default-2.is at c.in_ok-field.ensures.none in
    no_first c.args.columns.now c.first-item.result c.args.line.now c.in-len1-up.len_at_least c.first-item.is none row p h

pub returns-in_default-3-clause-none : goal.returns-in_default-3-clause-none
returns-in_default-3-clause-none c row p h =
    let found = rw c.in-Some.is at c.in_ok-field.ensures.found in
    let loose = rw c.in-Some.is at c.in_ok-field.ensures.loose in
    let ends = rw c.in-Some.is at c.in_ok-field.ensures.ends in
    let none = rw c.in_default-3.is at c.in_ok-fields.ensures.none in
    no_others c.args.columns.now (value_of c.in-Some.field) c.args.line.now c.in-Some.rest.now c.in-len1-up.len_at_least loose ends found
    (λ more q. none more (subst (λ columns. IsLooseRow (kinds_of columns) more) (sym (take_all _ (drop 1 c.args.columns.now) (omega (arith, length-drop 1 c.args.columns.now)))) q)) row p h
