use Rattle.std.proofs.Common.{sym, ◌∙◌, subst, List}
use Rattle.row_blob.specs.Kept.{AreEach}
use Rattle.plan_core.specs.PlainPlan.{plan_of}
use Rattle.plan_core.specs.PlanTyping.{Kinds}
use Rattle.rewrite_core.specs.PlainRewriting.{rewriting_of}
use Rattle.growth_laws.specs.KeptResults.{KeptResults}
use Rattle.growth_laws.specs.Lists.{Extents}
use Rattle.growth_laws.specs.Pieces.{Piece, pieces_of}
use Rattle.executor.specs.Pieces.{HasTyping, IsPiece}
use Rattle.std.specs.List.{AllByRecursion}
use Rattle.executor.specs.Beginning.{IsBegun}
use Rattle.executor.proofs.Begun.{all_left, all_parts, all_read}
use Rattle.executor.proofs.job.prepare.Goals as goal

pub parts_of-requires : goal.parts_of-requires
parts_of-requires c =
    let typed = c.requires.typed in (
      typed.0,
      subst (λ (ps : List Piece). AllByRecursion (IsPiece typed.0) ps) (sym c.in_ok-pieces.ensures)
          (c.pieces_of_typed_rewritings.ensures typed.0 (plan_of c.args.rewriting.plan) c.requires.formed.0 (rewriting_of c.args.rewriting) c.requires.formed.1 typed.1),
    )

pub returns-clause-left : goal.returns-clause-left
returns-clause-left c =
    let begun = subst (λ (ps : List Piece). AreEach IsBegun ps c.in_ok-parts.parts.items) c.in_ok-pieces.ensures c.in_ok-parts.ensures in
    all_left (pieces_of (rewriting_of c.args.rewriting)) c.in_ok-parts.parts.items begun
    ∙ sym (c.files_of_pieces.ensures.rewriting (plan_of c.args.rewriting.plan) c.requires.formed.0 (rewriting_of c.args.rewriting) c.requires.formed.1)

pub returns-clause-parts : goal.returns-clause-parts
returns-clause-parts c =
    let begun = subst (λ (ps : List Piece). AreEach IsBegun ps c.in_ok-parts.parts.items) c.in_ok-pieces.ensures c.in_ok-parts.ensures in
    λ (schemas : List Kinds) (typed : HasTyping schemas (plan_of c.args.rewriting.plan)).
    all_parts schemas (pieces_of (rewriting_of c.args.rewriting)) c.in_ok-parts.parts.items
    (c.pieces_of_typed_rewritings.ensures schemas (plan_of c.args.rewriting.plan) c.requires.formed.0 (rewriting_of c.args.rewriting) c.requires.formed.1 typed) begun

pub returns-clause-read : goal.returns-clause-read
returns-clause-read c =
    let begun = subst (λ (ps : List Piece). AreEach IsBegun ps c.in_ok-parts.parts.items) c.in_ok-pieces.ensures c.in_ok-parts.ensures in
    λ (schemas : List Kinds) (extents : Extents) (results : KeptResults) (typed : HasTyping schemas (plan_of c.args.rewriting.plan)).
    all_read schemas extents results (pieces_of (rewriting_of c.args.rewriting)) c.in_ok-parts.parts.items
    (c.pieces_of_typed_rewritings.ensures schemas (plan_of c.args.rewriting.plan) c.requires.formed.0 (rewriting_of c.args.rewriting) c.requires.formed.1 typed) begun
