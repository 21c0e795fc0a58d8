-- The text between its two marks.
use Rattle.std.proofs.Common.{◌∷◌, ◌++◌, [], ℕ, List, ap, ◌∙◌, rules}
use Rattle.rows_core.specs.Txt.{IsText}
use Rattle.rows_core.specs.declared.value.Value.TheVariants.{Text}
use Rattle.csv.specs.Records.{fields_of}
use Rattle.csv_rows.proofs.RowLemmas.{closed_text}
use Rattle.csv_rows.proofs.row_cells.put_text.Goals as goal

pub returns-clause-found : goal.returns-clause-found
returns-clause-found c =
    let is : IsText c.read_text.new.text.items = search rules in
    record {
      value = Text c.read_text.new.text.items;
      loose = is;
      spelled = closed_text c.args.quoted.now c.read_text.new.text.items c.in_ok-rest.rest.now c.in-Some.behind.now c.in_ok-rest.ensures c.in-Some.ensures;
      added = λ none. c.in_ok-push_field.ensures.fields
          ∙ ap (λ (f : List ℕ). fields_of c.args.fields.now ++ f ∷ []) (ap (λ (p : List ℕ). p ++ c.as_slice-bytes.result.now) none ∙ c.as_slice-bytes.ensures.value);
    }
