-- A source and a sink in memory, as contracts see them, and what a call leaves of them.
use Rattle.std.specs.Prelude.{ℕ, ◌+◌, ◌-◌, ◌^◌, min, List, ◌++◌, length, drop}
use Rattle.mem_outside.specs.Schedule.{Schedule, called}

-- The bytes that are left, the most bytes of a read, which reads fail, and how many have failed.
pub record Given : Type 0 where
  pub left : List ℕ
  pub piece : ℕ
  pub schedule : Schedule
  pub faults : ℕ

-- The bytes that were written, which writes fail, and how many have failed.
pub record Taken : Type 0 where
  pub written : List ℕ
  pub schedule : Schedule
  pub faults : ℕ

-- one fault more, up to the greatest u64
abbrev pub one_more : ℕ → ℕ
one_more faults = min (faults + 1) (2 ^ 64 - 1)

-- how many bytes the next read gives, into this much room
abbrev pub next_piece : Given → ℕ → ℕ
next_piece s room = min (min s.piece room) (length s.left)

abbrev pub after_read : Given → ℕ → Given
after_read s room = record { left = drop (next_piece s room) s.left; piece = s.piece; schedule = called s.schedule; faults = s.faults }

abbrev pub after_failed_read : Given → Given
after_failed_read s = record { left = s.left; piece = s.piece; schedule = called s.schedule; faults = one_more s.faults }

abbrev pub after_write : Taken → List ℕ → Taken
after_write s bytes = record { written = s.written ++ bytes; schedule = called s.schedule; faults = s.faults }

abbrev pub after_failed_write : Taken → Taken
after_failed_write s = record { written = s.written; schedule = called s.schedule; faults = one_more s.faults }
