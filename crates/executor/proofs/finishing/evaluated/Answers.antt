use Rattle.std.proofs.Common.{sym, subst}
use Rattle.growth_laws.specs.Pieces.{pieces_of}
use Rattle.rewrite_core.specs.PlainRewriting.{rewriting_of}
use Rattle.executor.specs.Loading.{Loads, HoldAll, AreFit}
use Rattle.executor.proofs.ReadAs.{hold_read}
use Rattle.executor.proofs.ReadParts.{are_fit}
use Rattle.executor.proofs.finishing.evaluated.Goals as goal

pub evaluate-requires-clause-fit : goal.evaluate-requires-clause-fit
evaluate-requires-clause-fit c =
    let parts = c.requires.parts in (
      parts.0,
      parts.1,
      subst (λ (loads : Loads). AreFit parts.0 (pieces_of (rewriting_of c.args.rewriting.now)) loads) (sym c.in_ok-pieces.ensures)
          (are_fit parts.0 (pieces_of (rewriting_of c.args.rewriting.now)) c.args.parts.items parts.2),
    )

pub returns : goal.returns
returns c =
    λ schemas extents results are.
    c.evaluate.ensures extents results
    (subst (λ (loads : Loads). HoldAll extents results (pieces_of (rewriting_of c.args.rewriting.now)) loads) (sym c.in_ok-pieces.ensures)
    (hold_read schemas extents results (rewriting_of c.args.rewriting.now) c.args.parts.items c.requires.left c.requires.formed are))
