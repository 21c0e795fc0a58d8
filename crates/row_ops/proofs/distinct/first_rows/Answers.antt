use Rattle.std.proofs.Common.{Ok, [], ap, map-id, sym, ◌∙◌}
use Rattle.std.proofs.lemmas.Iterator.Adapters.{YieldsList-from_vec, fact_from_extend}
use Rattle.indexmap.specs.IndexSet.{insert_all}
use Rattle.plan_core.specs.Columns.{Rows}
use Rattle.row_ops.proofs.Sets.{derived_eq, set_of_rows}
use Rattle.row_ops.proofs.distinct.first_rows.Goals as goal

pub returns : goal.returns
returns c =
    fact_from_extend {E = Unit {0}} (λ x. x) (Ok tt) c.in_ok-extend.ensures.ran (λ it b. YieldsList-from_vec {s = it} _ b.0 (b.1 ∙ c.args.rows.ok.0))
    (λ xs e h. h.0 ∙ ap (λ (keys : Rows). insert_all derived_eq keys xs) c.new-first.ensures.empty ∙ ap (insert_all derived_eq []) (sym (map-id xs) ∙ e) ∙ set_of_rows c.args.rows.items)
