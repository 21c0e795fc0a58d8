use Rattle.std.proofs.Common.{◌≡◌, ◌++◌, ◌∷◌, [], List, length, sym, ap, ◌∙◌, subst, append_assoc, arith}
use Rattle.std.specs.Vec.Iter.{into_iter_items}
use Rattle.row_blob.specs.Kept.{AreEach}
use Rattle.executor.specs.declared.piece.Piece.{Piece}
use Rattle.executor.specs.Pieces.{piece_of, pieces_said, IsPiece}
use Rattle.executor.specs.declared.part.Part.{Part}
use Rattle.executor.specs.Beginning.{IsBegun}
use Rattle.executor.proofs.Joined.{said_of, each_more}
use Rattle.executor.proofs.beginning.parts_of.Goals as goal

pub part_of-requires : goal.part_of-requires
part_of-requires c =
    let at = c.loop-piece in
    let rest = into_iter_items c.next.new.self in
    let steps : into_iter_items at.piece-iterator ≡ c.in-Some.piece ∷ rest = c.in-Some.ensures.steps.0 in
    let whole : at.yielded ++ c.in-Some.piece ∷ rest ≡ c.args.pieces.items = ap (λ (l : List Piece). at.yielded ++ l) (sym steps) ∙ at.invariant.whole in
    (c.requires.0, said_of piece_of (IsPiece c.requires.0) at.yielded c.in-Some.piece rest c.args.pieces.items whole c.requires.1)

pub loop-piece-preserved : goal.loop-piece-preserved
loop-piece-preserved c =
    let at = c.loop-piece in
    let rest = into_iter_items c.next.new.self in
    let steps : into_iter_items at.piece-iterator ≡ c.in-Some.piece ∷ rest = c.in-Some.ensures.steps.0 in
    let whole : at.yielded ++ c.in-Some.piece ∷ rest ≡ c.args.pieces.items = ap (λ (l : List Piece). at.yielded ++ l) (sym steps) ∙ at.invariant.whole in
    record {
      whole = append_assoc at.yielded (c.in-Some.piece ∷ []) rest ∙ whole;
      left = (let was = at.invariant.left in let gone = c.in-Some.ensures.steps.1 in let short = ap length steps in omega arith);
      begun =
          subst (λ (parts : List Part). AreEach IsBegun (pieces_said (at.yielded ++ c.in-Some.piece ∷ [])) parts) (sym {A = List Part} c.in_ok-push.ensures.items)
          (each_more piece_of IsBegun at.yielded at.parts.items c.in-Some.piece c.part_of.result at.invariant.begun c.part_of.ensures);
    }
