-- Where reading stops, no row of these kinds is spelled so.
use Rattle.std.proofs.Common.{◌∙◌, ◌++◌, refl, sym, arith}
use Rattle.std.proofs.lemmas.Bool.{false≢true}
use Rattle.row_text.specs.RowSpelling.{value_spelling}
use Rattle.row_text.specs.Fields.{values_of}
use Rattle.row_text.proofs.Lines.{no_next, no_end}
use Rattle.row_text.proofs.read.more_fields.Goals as goal

pub returns-in_default-clause-none : goal.returns-in_default-clause-none
returns-in_default-clause-none c more row h =
    let i = c.loop-column.invariant in
    no_next c.args.columns.now c.loop-column.column-index c.column-item.result (values_of c.loop-column.fields.items) more c.loop-column.rest.now c.args.bytes.now (omega arith) c.column-item.is
    i.row i.ends i.spelling (λ value after kind loose ends e. c.in_default.ensures.none (value_spelling value ++ after) e) row h

pub returns-in_default-2-clause-none : goal.returns-in_default-2-clause-none
returns-in_default-2-clause-none c more row h =
    let i = c.loop-column.invariant in
    let none = rw c.in_default-2.is at c.in_ok-field.ensures.none in
    no_next c.args.columns.now c.loop-column.column-index c.column-item.result (values_of c.loop-column.fields.items) more c.loop-column.rest.now c.args.bytes.now (omega arith) c.column-item.is
    i.row i.ends i.spelling (λ value after kind loose ends e. none value after kind loose ends (cc (c.in-Some.ensures.found, e))) row h

pub returns-else-is_empty-clause-none : goal.returns-else-is_empty-clause-none
returns-else-is_empty-clause-none c more row h =
    let i = c.loop-column.invariant in
    no_end c.args.columns.now c.loop-column.column-index (values_of c.loop-column.fields.items) more c.loop-column.rest.now c.args.bytes.now (omega arith)
    i.row i.ends i.spelling (λ e. false≢true (sym c.if-is_empty.false ∙ c.is_empty.ensures ∙ rw e refl)) row h
