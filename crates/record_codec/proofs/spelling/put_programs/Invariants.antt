-- The count, and the items so far.
use Rattle.std.proofs.Common.{◌≡◌, ◌++◌, take}
use Rattle.std.specs.List.{flat_map}
use Rattle.record_codec.specs.Spelling.{program_spelling}
use Rattle.record_codec.proofs.spelling.put_programs.Given as goal

abbrev pub invariant-loop-program : goal.invariant-loop-program
invariant-loop-program l = l.out.items ≡ l.initial.out.items ++ flat_map program_spelling (take l.program-index l.programs)
