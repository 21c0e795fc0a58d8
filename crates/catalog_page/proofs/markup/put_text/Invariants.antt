use Rattle.std.proofs.Common.{◌≡◌, ◌++◌, take}
use Rattle.catalog_page.specs.Markup.{escaped}
use Rattle.catalog_page.proofs.markup.put_text.Given as goal

abbrev pub invariant-loop-byte : goal.invariant-loop-byte
invariant-loop-byte l = l.to.items ≡ l.fn.to.items ++ escaped (take l.byte-index l.text)
