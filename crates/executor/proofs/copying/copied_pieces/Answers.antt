use Rattle.std.proofs.Common.{sym, ap, ◌∙◌, subst, List}
use Rattle.executor.specs.Progress.{files_left}
use Rattle.executor.specs.declared.part.Part.{Part}
use Rattle.executor.proofs.ReadParts.{nothing_at, load_next}
use Rattle.executor.proofs.copying.copied_pieces.Goals as goal

pub copied_piece-requires : goal.copied_piece-requires
copied_piece-requires c = nothing_at c.args.parts.now c.loop-part.part-index c.part-item.result c.loop-part-test.true c.part-item.is c.requires

pub loop-part-preserved : goal.loop-part-preserved
loop-part-preserved c =
    load_next c.args.parts.now c.loop-part.part-index c.part-item.result c.loop-part.pieces.items c.push.new.self.items c.in_ok-copied_piece.field-0 c.loop-part-test.true c.part-item.is c.loop-part.invariant c.in_ok-copied_piece.ensures c.in_ok-push.ensures.items
