-- What of an entry a collection goes by.
use Rattle.std.specs.Prelude.{ℕ, ◌-◌, ◌*◌, Bool, cond, not, ◌==◌, ◌&&◌, nat_le, List, [], ◌∷◌}
use Rattle.std.specs.List.{list_any}
use Rattle.std.specs.Ordering.{ordering_then, nat_cmp}
use Rattle.std.specs.declared.cmp.Ordering.{Ordering}
use Rattle.catalog_types.specs.PlainEntry.{PlainEntry}
use Rattle.collector.specs.Ratio.{idle_bytes, used_time}
use Rattle.collector.specs.Victims.{Collection}

pub record Standing : Type 0 where
  pub id : ℕ
  pub size : ℕ
  pub idle_bytes : ℕ
  pub used_time : ℕ

abbrev pub standing_of : ℕ → PlainEntry → Standing
standing_of now e = record { id = e.id; size = e.file.len; idle_bytes = idle_bytes now e; used_time = used_time e }

-- the greater ratio first, and of the same ones the smaller id
abbrev pub standing_cmp : Standing → Standing → Ordering
standing_cmp s t = ordering_then (nat_cmp (t.idle_bytes * s.used_time) (s.idle_bytes * t.used_time)) (nat_cmp s.id t.id)

-- whether it may go
abbrev pub may_go : Collection → PlainEntry → Bool
may_go c e = not (list_any (λ id. id == e.id) c.pinned) && nat_le c.lease (c.now - e.made)

-- from the front on, until they are large enough together
abbrev pub first_enough : {X : Type 0} → (X → ℕ) → ℕ → List X → List X
first_enough size wanted [] = []
first_enough size wanted (x ∷ xs) = cond (wanted == 0) [] (x ∷ first_enough size (wanted - size x) xs)
