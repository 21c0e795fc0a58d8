-- What was found is there, and is no greater than each that is there so far.
use Rattle.std.proofs.Common.{◌≡◌, ℕ, ◌<◌, ◌≤◌, ◌++◌, true, List, length}
use Rattle.std.specs.Prelude.{IfSome, IsSomeAnd}
use Rattle.std.specs.Map.{values_of}
use Rattle.mem_outside.specs.declared.history.Version.{Version}
use Rattle.mem_outside.specs.Outcomes.{state_in}
use Rattle.mem_outside.specs.History.{current_of}
use Rattle.mem_outside.proofs.Nearest.{number_at}
use Rattle.mem_outside.proofs.files.next_from.Given as goal

abbrev pub invariant-loop-version : goal.invariant-loop-version
invariant-loop-version l =
    (seen : List Version) × (seen ++ l.version-iterator ≡ values_of l.history.versions.entries)
    × IfSome l.next (λ n. (l.from ≤ n) × ((state_in (current_of l.history) n).there ≡ true))
    × ((k : ℕ) → k < length seen → l.from ≤ number_at (current_of l.history) k → (state_in (current_of l.history) (number_at (current_of l.history) k)).there ≡ true
    → IsSomeAnd l.next (λ n. n ≤ number_at (current_of l.history) k))
