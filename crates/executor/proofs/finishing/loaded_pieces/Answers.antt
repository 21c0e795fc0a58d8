use Rattle.executor.proofs.ReadParts.{first_read, others_read, left_rest, given_next}
use Rattle.executor.proofs.finishing.loaded_pieces.Goals as goal

pub loaded_piece-requires : goal.loaded_piece-requires
loaded_piece-requires c = first_read _ _ _ c.in-Some.ensures.steps.0 c.loop-part.invariant.nothing

pub loop-part-preserved : goal.loop-part-preserved
loop-part-preserved c =
    let at = c.loop-part in
    let steps = c.in-Some.ensures.steps in
    record {
      left = left_rest _ _ _ steps.0 _ _ at.invariant.left steps.1;
      nothing = others_read _ _ _ steps.0 at.invariant.nothing;
      given = given_next _ _ _ steps.0 _ at.pieces.items _ _ at.invariant.given c.in_ok-loaded_piece.ensures c.in_ok-push.ensures.items;
    }
