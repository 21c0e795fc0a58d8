-- What a candidate stands for.
use Rattle.collector.specs.Standing.{Standing}
use Rattle.collector.specs.declared.candidate.Candidate.{Candidate}

abbrev pub standing : Candidate → Standing
standing c = record { id = c.id; size = c.size; idle_bytes = c.idle_bytes; used_time = c.used_time }
