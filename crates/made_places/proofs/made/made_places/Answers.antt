-- The marks are those of the rewriting's plan at its own cut, and the marked places that count are the made ones.
use Rattle.std.proofs.Common.{◌≡◌, ap, subst, ◌∙◌, Bool, List, ◌++◌, length, drop, IfOk}
use Rattle.plan_core.specs.PlainPlan.{PlainPlan, plan_of}
use Rattle.estimator.specs.Cuts.{Cuts}
use Rattle.rewrite_core.specs.PlainRewriting.{rewriting_of}
use Rattle.growth_laws.specs.MadePlaces.{Place, place, places, standing_of, counts_at_root, made_places}
use Rattle.made_places.specs.Marks.{marks}
use Rattle.made_places.specs.Picking.{places_said, places_below, if_marked, picked}
use Rattle.made_places.proofs.PickLemmas.{made_are_picked}
use Rattle.made_places.proofs.made.made_places.Goals as goal

pub returns : goal.returns
returns c =
    let r = c.args.rewriting.now in
    let p : PlainPlan = plan_of r.plan in
    let ms : List Bool = c.in_ok-marks.marks.items in
    let own = c.items-cuts.ensures in
    let are : ms ≡ marks (places p r.cuts) (standing_of (rewriting_of r)) =
    c.in_ok-marks.ensures ∙ ap (λ (cuts : Cuts). marks (places p cuts) (standing_of (rewriting_of r))) own in
    let of : Cuts → List Bool → List Place =
    λ cuts l. picked (places_below p cuts) l ++ if_marked (counts_at_root p) (place p cuts) (drop (length (places_below p cuts)) l) in
    let same : of c.items-cuts.result.now c.as_slice.result.now ≡ made_places p r.cuts (rewriting_of r) =
    (λ i. of (own i) (c.as_slice.ensures.value i)) ∙ made_are_picked (rewriting_of r) r.cuts ms c.requires.formed are in
    subst (λ (l : List Place). IfOk c.picked.result (λ found. places_said found.items ≡ l)) same c.picked.ensures
