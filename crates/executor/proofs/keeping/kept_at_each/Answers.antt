use Rattle.std.proofs.Common.{◌≡◌, ◌++◌, ◌∷◌, [], List, length, sym, ap, ◌∙◌, append_assoc, arith}
use Rattle.std.specs.Vec.Iter.{into_iter_items}
use Rattle.made_places.specs.declared.place.Place.{Place}
use Rattle.made_places.specs.Picking.{place_of, places_said}
use Rattle.executor.proofs.KeptAt.{keep_more, said_among, from_more}
use Rattle.executor.proofs.keeping.kept_at_each.Goals as goal

pub loop-place-preserved : goal.loop-place-preserved
loop-place-preserved c =
    let at = c.loop-place in
    let rest = into_iter_items c.next.new.self in
    let steps : into_iter_items at.place-iterator ≡ c.in-Some.place ∷ rest = c.in-Some.ensures.steps.0 in
    let whole : at.yielded ++ c.in-Some.place ∷ rest ≡ c.args.places.items = ap (λ (l : List Place). at.yielded ++ l) (sym steps) ∙ at.invariant.whole in
    record {
      whole = append_assoc at.yielded (c.in-Some.place ∷ []) rest ∙ whole;
      left = (let was = at.invariant.left in let gone = c.in-Some.ensures.steps.1 in let short = ap length steps in omega arith);
      kept = keep_more (c.args.own.now ∷ c.args.found.now) at.yielded c.in-Some.place at.kept.items c.put_kept.new.kept.items at.invariant.kept c.in_ok-put_kept.ensures;
      of_places = from_more (c.args.own.now ∷ c.args.found.now) (places_said c.args.places.items) (place_of c.in-Some.place) at.kept.items c.put_kept.new.kept.items
          (said_among (c.args.own.now ∷ c.args.found.now) at.yielded c.in-Some.place rest c.args.places.items whole) at.invariant.of_places c.in_ok-put_kept.ensures;
    }
