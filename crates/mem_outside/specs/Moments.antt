-- The view of a store in memory: its past states, and the present one.
use Rattle.std.specs.Prelude.{ℕ, List, length, slice_index_or}
use Rattle.outside_traits.specs.View.{View}
use Rattle.mem_outside.specs.Shown.{Shown}
use Rattle.mem_outside.specs.Outcomes.{state_in, Outcome}

-- the state at moment k
abbrev pub state_at : List (List Shown) → List Shown → ℕ → List Shown
state_at past current k = slice_index_or past k current

abbrev pub view_of : List (List Shown) → List Shown → View
view_of past current = record {
  files = λ file. (state_in current file).bytes;
  there = λ file. (state_in current file).there;
  moment = length past;
  left_at = λ k file x. Outcome (state_in (state_at past current k) file) x;
}
