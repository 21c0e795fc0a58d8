use Rattle.std.proofs.Common.{sym, subst, ◌∙◌, ap, map, List}
use Rattle.growth_laws.specs.Pieces.{pieces_of}
use Rattle.rewrite_core.specs.PlainRewriting.{rewriting_of}
use Rattle.executor.specs.Loading.{Loads, HoldAll, AreFit}
use Rattle.executor.specs.Loads.{load_of_part}
use Rattle.executor.proofs.ReadAs.{hold_read}
use Rattle.executor.proofs.ReadParts.{are_fit}
use Rattle.executor.proofs.finishing.into_outcome.Goals as goal

pub outcome_of-requires-clause-fit : goal.outcome_of-requires-clause-fit
outcome_of-requires-clause-fit c =
    let parts = c.requires.parts in (
      parts.0,
      parts.1,
      subst (λ (loads : Loads). AreFit parts.0 (pieces_of (rewriting_of c.args.job.rewriting)) loads) (sym c.in_ok-pieces.ensures)
          (are_fit parts.0 (pieces_of (rewriting_of c.args.job.rewriting)) c.args.job.parts.items parts.2),
    )

pub returns-clause-finishes : goal.returns-clause-finishes
returns-clause-finishes c =
    λ schemas extents results are.
    c.outcome_of.ensures.finishes extents results
    (subst (λ (loads : Loads). HoldAll extents results (pieces_of (rewriting_of c.args.job.rewriting)) loads) (sym c.in_ok-pieces.ensures)
    (hold_read schemas extents results (rewriting_of c.args.job.rewriting) c.args.job.parts.items c.requires.left c.requires.formed are))

pub returns-clause-kinds : goal.returns-clause-kinds
returns-clause-kinds c =
    λ schemas typed are.
    c.outcome_of.ensures.kinds schemas typed
    (subst (λ (loads : Loads). AreFit schemas (pieces_of (rewriting_of c.args.job.rewriting)) loads) (sym c.in_ok-pieces.ensures)
    (are_fit schemas (pieces_of (rewriting_of c.args.job.rewriting)) c.args.job.parts.items are))
