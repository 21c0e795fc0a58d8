-- Which calls of a store in memory fail.
use Rattle.std.specs.Prelude.{ℕ, ◌+◌, ◌-◌, ◌^◌, ◌||◌, ◌==◌, Bool, false, nat_le, min, List, Option, None, Some}
use Rattle.std.specs.List.{list_any}

-- The numbers of calls that are to fail, the number from which on each call fails, and that of the next call.
pub record Schedule : Type 0 where
  pub listed : List ℕ
  pub from : Option ℕ
  pub next : ℕ

abbrev pub is_from : Option ℕ → ℕ → Bool
is_from None call = false
is_from (Some first) call = nat_le first call

-- the next call is to fail
abbrev pub next_fails : Schedule → Bool
next_fails s = is_from s.from s.next || list_any (λ call. s.next == call) s.listed

-- after a call: numbers go up to the greatest of a u64, and stay there
abbrev pub called : Schedule → Schedule
called s = record { listed = s.listed; from = s.from; next = min (s.next + 1) (2 ^ 64 - 1) }

-- each call from this number on fails
abbrev pub from_call : ℕ → Schedule → Schedule
from_call call s = record { listed = s.listed; from = Some call; next = s.next }
