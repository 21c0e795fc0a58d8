-- Reasons of the crates below, as reasons why a kept form isn't given.
use Rattle.std.specs.Prelude.{ℕ}
use Rattle.row_blob.specs.declared.refusal.BlobRefusal.{BlobRefusal}
use Rattle.row_blob.specs.declared.refusal.BlobRefusal.TheVariants as of_blob
use Rattle.extent_files.specs.declared.refusal.FileRefusal.{FileRefusal}
use Rattle.extent_files.specs.declared.refusal.FileRefusal.TheVariants as of_file
use Rattle.extent_files.specs.declared.read_refusal.ReadRefusal.{ReadRefusal}
use Rattle.extent_files.specs.declared.read_refusal.ReadRefusal.TheVariants as read

-- why this file's bytes aren't given
abbrev pub file_as : ℕ → FileRefusal → ReadRefusal
file_as file of_file.Fault = read.Fault
file_as file (of_file.Damaged kept found taken) = read.Damaged file kept found taken
file_as file of_file.Memory = read.Memory

-- why they spell no form, of which so many were taken
abbrev pub blob_as : ℕ → ℕ → BlobRefusal → ReadRefusal
blob_as file taken (of_blob.NotBlob at) = read.Unreadable file at taken
blob_as file taken of_blob.Memory = read.Memory
