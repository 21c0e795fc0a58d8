-- What files of bytes are known by, and why one isn't given.
use Rattle.std.specs.Prelude.{◌≡◌, ◌≢◌, ℕ, List, length, ⊤}
use Rattle.sha2.specs.Sha256.{sha256}
use Rattle.rows_core.specs.declared.file_ref.Digest.{Digest}
use Rattle.outside_traits.specs.Counts.{Rose}
use Rattle.outside_traits.specs.View.{Counts}
use Rattle.outside_traits.specs.Calls.{CountsTaken}
use Rattle.outside_traits.specs.declared.front.Unread.{Unread}
use Rattle.outside_traits.specs.declared.front.Unread.TheVariants as unread
use Rattle.extent_files.specs.declared.refusal.FileRefusal.{FileRefusal}
use Rattle.extent_files.specs.declared.refusal.FileRefusal.TheVariants.{Fault, Damaged, Memory}

-- the SHA-256 digest of these bytes (FIPS 180-4)
abbrev pub digest_of : List ℕ → Digest
digest_of bytes = record { bytes = sha256 bytes }

-- why the first bytes weren't read, as a reason why the file isn't given
abbrev pub unread_as : Unread → FileRefusal
unread_as unread.Fault = Fault
unread_as unread.Memory = Memory

-- On every store: a fault comes only where the count of failed looks rose, and nothing else raises it; damage comes only
-- where the digests differ, the kept one is that of the reference, and what was taken is told; after a fault or want of
-- memory nothing was taken.
abbrev pub HasCause : Digest → Counts → Counts → FileRefusal → Type 0
HasCause digest old new Fault = Rose old.reads new.reads × (new.taken ≡ old.taken)
HasCause digest old new (Damaged kept found taken) = (kept ≡ digest) × (found ≢ digest) × (new.reads ≡ old.reads) × CountsTaken taken old new
HasCause digest old new Memory = (new.reads ≡ old.reads) × (new.taken ≡ old.taken)

-- where the store tells its files: the bytes found are the first ones of the file, as many as count, and all of these were
-- taken
abbrev pub FoundIn : List ℕ → FileRefusal → Type 0
FoundIn bytes Fault = ⊤
FoundIn bytes (Damaged kept found taken) = (found ≡ digest_of bytes) × (taken ≡ length bytes)
FoundIn bytes Memory = ⊤
