-- The states of the files that a history gives: the present one, and that before each change.
use Rattle.std.specs.Prelude.{ℕ, Bool, ◌&&◌, ◌==◌, nat_le, List, [], ◌∷◌, length, map, Option, if◌then◌else◌}
use Rattle.std.specs.List.{list_all}
use Rattle.std.specs.Map.{values_of}
use Rattle.std.specs.Option.{option_map_or}
use Rattle.mem_outside.specs.declared.history.Version.{Version}
use Rattle.mem_outside.specs.declared.history.Undo.{Undo}
use Rattle.mem_outside.specs.declared.history.History.{History}
use Rattle.mem_outside.specs.Shown.{Shown}
use Rattle.mem_outside.specs.Outcomes.{kept}

-- the newest version of each file, by number, and the moment after the last sync
pub record Newest : Type 0 where
  pub versions : List (ℕ × Version)
  pub synced : ℕ

-- the file, without its removed files where the version is older than the last sync
abbrev pub shown_at : ℕ → Version → Shown
shown_at synced v = kept (nat_le synced v.made) v.state

abbrev pub shown_of : Newest → List Shown
shown_of newest = map (shown_at newest.synced) (values_of newest.versions)

-- the earlier version of this file in place of its newest, or none
abbrev pub put_back : ℕ → Option Version → List (ℕ × Version) → List (ℕ × Version)
put_back number earlier [] = []
put_back number earlier (e ∷ es) = if number == e.0 then option_map_or (λ v. (e.0, v) ∷ es) earlier es else e ∷ put_back number earlier es

-- before one change
abbrev pub undone : Undo → Newest → Newest
undone u newest = record { versions = put_back u.number u.earlier newest.versions; synced = u.synced }

-- before these changes, the first of which comes first
abbrev pub before_all : List Undo → Newest → Newest
before_all [] newest = newest
before_all (u ∷ us) newest = undone u (before_all us newest)

-- before each of these changes
abbrev pub states_before : List Undo → Newest → List (List Shown)
states_before [] newest = []
states_before (u ∷ us) newest = shown_of (undone u (before_all us newest)) ∷ states_before us newest

-- the number is that of the version's file, and the version no newer than this moment
abbrev pub is_fine : ℕ → ℕ × Version → Bool
is_fine moment e = (e.1.state.number == e.0) && nat_le e.1.made moment

abbrev pub is_kept : ℕ → Newest → Bool
is_kept moment newest = nat_le newest.synced moment && list_all (is_fine moment) newest.versions

abbrev pub newest_of : History → Newest
newest_of history = record { versions = history.versions.entries; synced = history.synced }

-- the files now
abbrev pub current_of : History → List Shown
current_of history = shown_of (newest_of history)

-- the files before each change
abbrev pub past_of : History → List (List Shown)
past_of history = states_before history.undo.items (newest_of history)

abbrev pub is_history : History → Bool
is_history history = is_kept (length history.undo.items) (newest_of history)
