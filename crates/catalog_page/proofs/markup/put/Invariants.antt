use Rattle.std.proofs.Common.{◌≡◌, ◌++◌, map, take}
use Rattle.catalog_page.specs.Markup.{written, piece_of}
use Rattle.catalog_page.proofs.markup.put.Given as goal

abbrev pub invariant-loop-piece : goal.invariant-loop-piece
invariant-loop-piece l = l.to.items ≡ l.fn.to.items ++ written (map piece_of (take l.piece-index l.pieces))
