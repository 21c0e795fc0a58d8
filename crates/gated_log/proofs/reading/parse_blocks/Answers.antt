use Rattle.std.proofs.Common.{◌≡◌, ◌++◌, List, ℕ, [], ◌∷◌, sym, ap, subst, arith, rules}
use Rattle.std.specs.List.{All}
use Rattle.std.proofs.lemmas.List.Elements.{All-nil, All-push}
use Rattle.gated_log.specs.Logs.{contents, IsBody}
use Rattle.gated_log.proofs.Parse.{parse_start, parse_more, contents_push}
use Rattle.gated_log.proofs.reading.parse_blocks.Goals as goal

pub loop-rest-init : goal.loop-rest-init
loop-rest-init c = record {
  is = parse_start c.args.bytes.now c.new-bodies.result.items c.requires c.new-bodies.ensures.items;
  sizes = subst (λ (l : List (List ℕ)). All IsBody l) (sym (ap contents c.new-bodies.ensures.items)) (All-nil IsBody);
}

pub loop-rest-preserved : goal.loop-rest-preserved
loop-rest-preserved c =
    let pushed : c.push.new.self.items ≡ c.loop-rest.bodies.items ++ c.in_ok-from_slice-in-Some.field-0 ∷ [] = search rules in
    let bodies : contents c.push.new.self.items ≡ contents c.loop-rest.bodies.items ++ c.in-Some.body.now ∷ [] =
    contents_push c.loop-rest.bodies.items c.push.new.self.items c.in_ok-from_slice-in-Some.field-0 c.in-Some.body.now pushed c.in_ok-from_slice-in-Some.ensures.items in
    record {
      is = parse_more (contents c.loop-rest.bodies.items) (contents c.push.new.self.items) c.args.bytes.now c.loop-rest.rest.now c.in-Some.body.now c.in-Some.after.now
          c.loop-rest.invariant.is bodies (omega arith) (omega arith) c.in-Some.ensures.1;
      sizes = subst (λ (l : List (List ℕ)). All IsBody l) (sym bodies)
          (All-push IsBody (contents c.loop-rest.bodies.items) c.in-Some.body.now c.loop-rest.invariant.sizes c.in-Some.ensures.0);
    }
