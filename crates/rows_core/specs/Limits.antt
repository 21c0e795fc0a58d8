-- The limits of a folder, each told once.
use Rattle.std.specs.Prelude.{ℕ}

-- recorded commands
abbrev pub most_ticks : ℕ
most_ticks = 4294967295

-- streams at a time
abbrev pub most_streams : ℕ
most_streams = 1024

-- extents of one stream
abbrev pub most_extents : ℕ
most_extents = 65535

-- extents of all streams
abbrev pub most_extents_in_all : ℕ
most_extents_in_all = 262144

-- bytes of an extent's file
abbrev pub most_extent_bytes : ℕ
most_extent_bytes = 16777216

-- rows of an extent, and of any list that is counted in 32 bits
abbrev pub most_rows : ℕ
most_rows = 4294967295

-- named programs at a time
abbrev pub most_programs : ℕ
most_programs = 1024

-- kept results at a time
abbrev pub most_entries : ℕ
most_entries = 4096

-- bytes of a kept result's file
abbrev pub most_result_bytes : ℕ
most_result_bytes = 67108864

-- bytes of the spelling of a kept result's plan
abbrev pub most_plan_bytes : ℕ
most_plan_bytes = 65536

-- the machine time of one work
abbrev pub most_machine_time : ℕ
most_machine_time = 4294967295

-- the first number that no extent and no kept result may have as its file's: those of the logs begin there
abbrev pub file_end : ℕ
file_end = 4294967296
