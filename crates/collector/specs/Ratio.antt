-- The ratio by which kept results go: the length of the result's file times the ticks since its last use, by how
-- often it was used times its machine time.
use Rattle.std.specs.Prelude.{◌≡◌, ℕ, ◌-◌, ◌*◌, ◌<◌, ◌≤◌, ◌⊎◌}
use Rattle.catalog_types.specs.PlainEntry.{PlainEntry}

-- what is so of each entry of a catalogue at this tick
pub record CanBeRanked (now : ℕ) (e : PlainEntry) : Type 0 where
  pub past : e.last ≤ now
  pub short : e.file.len ≤ 67108864
  pub used : 0 < e.uses
  pub worked : 0 < e.machine

abbrev pub idle_bytes : ℕ → PlainEntry → ℕ
idle_bytes now e = e.file.len * (now - e.last)

abbrev pub used_time : PlainEntry → ℕ
used_time e = e.uses * e.machine

-- a / b is above c / d where c * b is below a * d
abbrev pub HasGreaterRatio : ℕ → PlainEntry → PlainEntry → Type 0
HasGreaterRatio now e f = idle_bytes now f * used_time e < idle_bytes now e * used_time f

abbrev pub HasSameRatio : ℕ → PlainEntry → PlainEntry → Type 0
HasSameRatio now e f = idle_bytes now f * used_time e ≡ idle_bytes now e * used_time f

-- its ratio is greater, or the same with a smaller id
abbrev pub GoesBefore : ℕ → PlainEntry → PlainEntry → Type 0
GoesBefore now e f = HasGreaterRatio now e f ⊎ (HasSameRatio now e f × (e.id < f.id))
