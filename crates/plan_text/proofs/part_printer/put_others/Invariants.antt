-- The items so far stand behind what was there.
use Rattle.std.proofs.Common.{◌≡◌, ◌++◌, ◌∷◌, take}
use Rattle.std.specs.List.{flat_map}
use Rattle.plan_text.specs.Canonical.{text_of}
use Rattle.plan_text.proofs.part_printer.put_others.Given as goal

abbrev pub invariant-loop-part : goal.invariant-loop-part
invariant-loop-part g l = l.to.items ≡ l.initial.to.items ++ flat_map (λ part. 44 ∷ 32 ∷ text_of (g.T.Part.pieces part)) (take l.part-index l.parts)
