-- The word is a value.
use Rattle.std.proofs.Common.{◌≡◌, ◌++◌, ◌∷◌, [], ℕ, List, true, ap, ◌∙◌, rules}
use Rattle.csv.specs.Records.{fields_of}
use Rattle.csv_rows.proofs.row_cells.put_word.Goals as goal

pub returns-clause-found : goal.returns-clause-found
returns-clause-found c =
    let holds : c.is_word.result ≡ true = search rules in
    let is = c.is_word.ensures holds in
    let joined : c.args.bytes.now ≡ c.split_at.result.0.now ++ c.split_at.result.1.now = search rules in
    record {
      value = is.value;
      loose = is.loose;
      spelled = joined ∙ ap (λ (w : List ℕ). w ++ c.split_at.result.1.now) is.spelled;
      added = λ none. c.in_ok-push_field.ensures.fields ∙ ap (λ (f : List ℕ). fields_of c.args.fields.now ++ f ∷ []) (ap (λ (p : List ℕ). p ++ c.split_at.result.0.now) none ∙ is.cell);
    }
