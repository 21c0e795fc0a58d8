-- The row's line.
use Rattle.std.proofs.Common.{◌≡◌, ◌++◌, ◌∷◌, [], ℕ, List, length, ap, ◌∙◌, arith}
use Rattle.csv.specs.Records.{fields_of}
use Rattle.row_text.specs.RowSpelling.{row_spelling}
use Rattle.csv_script.proofs.record.put_record.Goals as goal

pub returns-clause-ok : goal.returns-clause-ok
returns-clause-ok c =
    let put = c.in_ok-put_values.ensures.ok in
    let width : length (fields_of c.args.fields.now) ≡ c.args.width = omega arith in (
      put.0,
      record { width_is = width; values = put.1 },
      c.in_ok-put_byte.ensures.ok ∙ ap (λ (l : List ℕ). l ++ 10 ∷ []) (put.2 ∙ ap (λ (l : List ℕ). l ++ row_spelling put.0) c.clear.ensures.items),
    )
