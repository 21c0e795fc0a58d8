-- How far a run came that ended without an outcome.
use Rattle.std.specs.Prelude.{ℕ, ◌+◌, Option, None, Some}
use Rattle.estimator.specs.Bytes.{capped}
use Rattle.extent_files.specs.declared.read_refusal.ReadRefusal.{ReadRefusal}
use Rattle.extent_files.specs.declared.read_refusal.ReadRefusal.TheVariants as read
use Rattle.rewrite_core.specs.Files.{FileName, Extent, Result}
use Rattle.executor.specs.declared.refusal.EndedRun.{EndedRun}
use Rattle.executor.specs.declared.refusal.LostResult.{LostResult}
use Rattle.executor.specs.declared.refusal.RunRefusal.{RunRefusal}

-- it ended at no kept result's file
abbrev pub ended_by : RunRefusal → EndedRun
ended_by why = record { why = why; lost = None }

-- the kept result, if the file is that of one, where so many bytes were taken before and so many of it
abbrev pub lost_with : FileName → ℕ → ℕ → Option LostResult
lost_with (Extent stream number) before given = None
lost_with (Result id) before given = Some (record { id = id; taken = capped (before + given) })

-- at this file it ended by damaged or unreadable bytes, or by something else
abbrev pub lost_of : FileName → ℕ → ReadRefusal → Option LostResult
lost_of name before read.Fault = None
lost_of name before (read.Damaged file kept found taken) = lost_with name before taken
lost_of name before (read.Unreadable file at taken) = lost_with name before taken
lost_of name before read.Memory = None
