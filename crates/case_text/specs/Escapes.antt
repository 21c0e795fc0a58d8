-- What the byte behind a backslash stands for.
use Rattle.std.specs.Prelude.{ℕ, ◌==◌, if◌then◌else◌}

-- `n`, `r` and `t` stand for LF, CR and a tab, and each other byte for itself
abbrev pub escaped : ℕ → ℕ
escaped byte = if byte == 110 then 10 else if byte == 114 then 13 else if byte == 116 then 9 else byte
