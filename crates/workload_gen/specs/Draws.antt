-- The draws of the generator: a linear congruential generator modulo 2^64 with the constants of Knuth's MMIX.
use Rattle.std.specs.Prelude.{ℕ, zero, suc, ◌+◌, ◌*◌, ◌/◌, ◌%◌, ◌^◌}

-- the state behind a state
abbrev pub next_state : ℕ → ℕ
next_state state = (state * 6364136223846793005 + 1442695040888963407) % 2 ^ 64

-- the state behind so many draws, from the number that the generator begins with
unfoldable pub state_after : ℕ → ℕ → ℕ
state_after number zero = number
state_after number (suc draws) = next_state (state_after number draws)

-- draw `at`, from 0, below a bound: the state behind it, without its lowest 33 bits, modulo the bound
unfoldable pub draw : ℕ → ℕ → ℕ → ℕ
draw number at bound = (state_after number (at + 1) / 2 ^ 33) % bound
