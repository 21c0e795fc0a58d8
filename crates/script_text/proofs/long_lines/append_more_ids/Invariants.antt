-- The numbers so far stand behind what was there, and the capacity doesn't fall.
use Rattle.std.proofs.Common.{◌≡◌, ◌∷◌, ◌++◌, ◌≤◌, decimal, take, vec_capacity}
use Rattle.std.specs.List.{flat_map}
use Rattle.script_text.proofs.long_lines.append_more_ids.Given as goal

abbrev pub invariant-loop-id : goal.invariant-loop-id
invariant-loop-id l =
    record { items : l.to.items ≡ l.initial.to.items ++ flat_map (λ id. 32 ∷ decimal id) (take l.id-index l.ids); capacity : vec_capacity l.initial.to ≤ vec_capacity l.to }
