-- The laws of a store, for one in memory.
use Rattle.std.specs.Prelude.{◌≡◌, ℕ, false, List, [], length, IsTrue}
use Rattle.std.proofs.Common.{sym, subst, arith}
use Rattle.std.specs.List.{list_all}
use Rattle.std.proofs.lemmas.List.{get_or_past}
use Rattle.outside_traits.specs.View.{Now}
use Rattle.mem_outside.specs.Shown.{Shown}
use Rattle.mem_outside.specs.Outcomes.{state_in, Outcome, is_sound}
use Rattle.mem_outside.specs.Moments.{view_of}
use Rattle.mem_outside.specs.Sound.{reads_outcome, absent_is_empty, state_sound}

-- What is read is an outcome now.
pub state_reads : (past : List (List Shown)) (current : List Shown) → IsTrue (list_all is_sound current) → (file : ℕ) → Now (view_of past current) file ((view_of past current).files file)
state_reads past current sound file =
    subst (λ (l : List Shown). Outcome (state_in l file) (state_in current file).bytes) (sym (get_or_past past (length past) current (omega arith)))
    (reads_outcome (state_in current file) (state_sound current file sound))

-- A file that isn't there reads as empty.
pub state_absent : (current : List Shown) → IsTrue (list_all is_sound current) → (file : ℕ) → (state_in current file).there ≡ false → (state_in current file).bytes ≡ []
state_absent current sound file gone = absent_is_empty (state_in current file) (state_sound current file sound) gone
