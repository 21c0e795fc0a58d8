-- Each field is a value with a text of any length.
use Rattle.std.proofs.Common.{◌≡◌, ◌++◌, ◌∷◌, [], List, length, sym, ap, subst, ◌∙◌, append_assoc, append-nil, arith, Err}
use Rattle.std.specs.List.{AllByRecursion}
use Rattle.std.specs.Vec.Iter.{into_iter_items}
use Rattle.std.proofs.lemmas.Grind.{common_steps}
use Rattle.std.proofs.lemmas.Result.{err_from_is_err_and}
use Rattle.rows_core.specs.declared.value.Value.{Value}
use Rattle.row_text.specs.declared.field.Field.{Field}
use Rattle.row_text.specs.declared.read.RowRefusal.TheVariants.{TooLong}
use Rattle.row_text.specs.RowSpelling.{IsLoose, IsShort, HasLong}
use Rattle.row_text.specs.Fields.{values_of}
use Rattle.row_text.proofs.Lines.{IsLoose-within, HasLong-within, values_of-more, short-more, none_left}
use Rattle.row_text.proofs.read.row_of.Goals as goal

pub value_of_field-requires : goal.value_of_field-requires
value_of_field-requires c =
    let at = c.loop-field in
    let steps : into_iter_items at.field-iterator ≡ c.in-Some.field ∷ into_iter_items c.next.new.self = c.in-Some.ensures.steps.0 in
    let whole : at.yielded ++ c.in-Some.field ∷ into_iter_items c.next.new.self ≡ c.args.fields.items = ap (λ (l : List Field). at.yielded ++ l) (sym steps) ∙ at.invariant.whole in
    IsLoose-within at.yielded c.in-Some.field (into_iter_items c.next.new.self) (subst (λ (l : List Field). AllByRecursion IsLoose (values_of l)) (sym whole) c.requires)

pub returns-in_err-value-clause-too_long : goal.returns-in_err-value-clause-too_long
returns-in_err-value-clause-too_long c =
    let at = c.loop-field in
    let steps : into_iter_items at.field-iterator ≡ c.in-Some.field ∷ into_iter_items c.next.new.self = c.in-Some.ensures.steps.0 in
    let whole : at.yielded ++ c.in-Some.field ∷ into_iter_items c.next.new.self ≡ c.args.fields.items = ap (λ (l : List Field). at.yielded ++ l) (sym steps) ∙ at.invariant.whole in
    let handed = err_from_is_err_and c.from_residual.result c.from_residual.ensures.1 in
    rw (handed.1, handed.2)
    (λ long. subst (λ (l : List Field). HasLong (values_of l)) whole
    (HasLong-within at.yielded c.in-Some.field (into_iter_items c.next.new.self) (let same : c.in_err-value.field-0.0 ≡ TooLong = cc in c.in_err-value.ensures.too_long (ap Err same))))

pub loop-field-preserved : goal.loop-field-preserved
loop-field-preserved c =
    let at = c.loop-field in
    let steps : into_iter_items at.field-iterator ≡ c.in-Some.field ∷ into_iter_items c.next.new.self = c.in-Some.ensures.steps.0 in
    let pushed : c.push.new.self.items ≡ at.values.items ++ c.in_ok-value.value ∷ [] = grind (arith, common_steps) in
    record {
      whole = append_assoc at.yielded (c.in-Some.field ∷ []) (into_iter_items c.next.new.self) ∙ ap (λ (l : List Field). at.yielded ++ l) (sym steps) ∙ at.invariant.whole;
      left = (let was = at.invariant.left in let gone = c.in-Some.ensures.steps.1 in let short = ap length steps in omega arith);
      values =
          pushed ∙ ap (λ (l : List Value). l ++ c.in_ok-value.value ∷ []) at.invariant.values ∙ ap (λ (v : Value). values_of at.yielded ++ v ∷ []) c.in_ok-value.ensures.value
          ∙ sym (values_of-more at.yielded c.in-Some.field);
      short = subst (λ (l : List Value). AllByRecursion IsShort l) (sym pushed) (short-more at.values.items c.in_ok-value.value at.invariant.short c.in_ok-value.ensures.short);
    }

pub returns-clause-row : goal.returns-clause-row
returns-clause-row c =
    let at = c.loop-field in
    let none = c.in-None.ensures.steps in
    let empty : into_iter_items at.field-iterator ≡ [] = none_left _ (sym at.invariant.left ∙ none.0) in
    let all : at.yielded ≡ c.args.fields.items = sym (append-nil at.yielded) ∙ ap (λ (l : List Field). at.yielded ++ l) (sym empty) ∙ at.invariant.whole in
    c.new.ensures ∙ at.invariant.values ∙ ap values_of all

pub returns-clause-short : goal.returns-clause-short
returns-clause-short c = subst (λ (l : List Value). AllByRecursion IsShort l) (sym c.new.ensures) c.loop-field.invariant.short
