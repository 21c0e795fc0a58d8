-- The programs so far have their keys.
use Rattle.std.proofs.Common.{take}
use Rattle.catalog_page.specs.ProgramKeys.{AreKeyed}
use Rattle.catalog_page.proofs.program_keys.each_keyed.Given as goal

abbrev pub invariant-loop-program : goal.invariant-loop-program
invariant-loop-program l = AreKeyed l.streams (take l.program-index l.programs) l.keyed.items
