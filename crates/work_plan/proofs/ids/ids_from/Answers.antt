use Rattle.std.proofs.Common.{◌≡◌, ◌∙◌, sym, ap, ℕ, ◌+◌, ◌-◌, ◌≤◌, List, [], ◌∷◌, ◌++◌, arith}
use Rattle.std.proofs.lemmas.List.{map-id}
use Rattle.std.proofs.lemmas.List.FromFn.{map-range_with_len_more}
use Rattle.work_plan.specs.Planning.{ids_from}
use Rattle.work_plan.proofs.ids.ids_from.Goals as goal

-- one more
ids-more : (first id : ℕ) → first ≤ id → ids_from first (id + 1 - first) ≡ ids_from first (id - first) ++ id ∷ []
ids-more first id most =
    let count : id + 1 - first ≡ id - first + 1 = omega (arith, most) in
    ap (ids_from first) count ∙ sym (map-id (ids_from first (id - first + 1))) ∙ map-range_with_len_more (λ (i : ℕ). i) first (id - first) id (omega (arith, most))
    ∙ ap (λ (ids : List ℕ). ids ++ id ∷ []) (map-id (ids_from first (id - first)))

pub loop-id-preserved : goal.loop-id-preserved
loop-id-preserved c =
    c.in_ok-push.ensures.items ∙ ap (λ (ids : List ℕ). ids ++ c.loop-id.id ∷ []) c.loop-id.invariant ∙ sym (ids-more c.args.first c.loop-id.id (omega arith))

pub returns : goal.returns
returns c =
    let count : c.loop-id.id - c.args.first ≡ c.args.count = omega arith in
    c.loop-id.invariant ∙ ap (ids_from c.args.first) count
