use Rattle.std.proofs.Common.{sym, ap, ◌∙◌, ◌++◌}
use Rattle.plan_text.specs.PlainNamed.{column_of}
use Rattle.plan_text.specs.Canonical.{text_of, column_pieces}
use Rattle.plan_text.proofs.Printing.{listed-map, OnOk-map}
use Rattle.plan_text.proofs.print.put_columns.Goals as goal

pub returns : goal.returns
returns c = OnOk-map c.put_parts.result (λ put. put ∙ ap (λ pieces. c.args.to.now.items ++ text_of pieces) (sym (listed-map column_pieces column_of c.args.columns.now))) c.put_parts.ensures
