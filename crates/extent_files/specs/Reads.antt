-- What reading a kept form from its file gives, and why it doesn't give one.
use Rattle.std.specs.Prelude.{◌≡◌, ◌≢◌, ◌⊎◌, ℕ, List, length, ⊤}
use Rattle.rows_core.specs.declared.file_ref.FileRef.{FileRef}
use Rattle.row_blob.specs.Kept.{IsKept}
use Rattle.row_blob.specs.Place.{StopsAt}
use Rattle.row_blob.specs.Spelling.{kept_spelling}
use Rattle.row_blob.specs.declared.kept.Kept.{Kept}
use Rattle.row_blob.specs.declared.shape.Shape.{Shape}
use Rattle.outside_traits.specs.Counts.{Rose}
use Rattle.outside_traits.specs.View.{Counts}
use Rattle.outside_traits.specs.Calls.{CountsTaken}
use Rattle.extent_files.specs.Files.{digest_of}
use Rattle.extent_files.specs.declared.read_refusal.ReadRefusal.{ReadRefusal}
use Rattle.extent_files.specs.declared.read_refusal.ReadRefusal.TheVariants.{Fault, Damaged, Unreadable, Memory}

-- the bytes spell this form, and it is one of the shape
abbrev pub Spells : Shape → List ℕ → Kept → Type 0
Spells shape bytes kept = IsKept shape kept × (bytes ≡ kept_spelling kept)

-- no form of the shape is spelled so, and reading stops at this byte
abbrev pub SpellsNone : Shape → List ℕ → ℕ → Type 0
SpellsNone shape bytes place = ((kept : Kept) → Spells shape bytes kept → ⊥) × StopsAt shape bytes place

abbrev pub IsFaultOrMemory : ReadRefusal → Type 0
IsFaultOrMemory Fault = ⊤
IsFaultOrMemory (Damaged file kept found taken) = ⊥
IsFaultOrMemory (Unreadable file place taken) = ⊥
IsFaultOrMemory Memory = ⊤

-- On every store: a fault comes only where the count of failed looks rose, and nothing else raises it; each refusal names
-- the file; damage comes only where the digests differ; of damaged and unreadable bytes what was taken is told, and after a
-- fault nothing was.
abbrev pub HasCause : FileRef → Counts → Counts → ReadRefusal → Type 0
HasCause at old new Fault = Rose old.reads new.reads × (new.taken ≡ old.taken)
HasCause at old new (Damaged file kept found taken) =
    (file ≡ at.file) × (kept ≡ at.digest) × (found ≢ at.digest) × (new.reads ≡ old.reads) × CountsTaken taken old new
HasCause at old new (Unreadable file place taken) = (file ≡ at.file) × (new.reads ≡ old.reads) × CountsTaken taken old new
HasCause at old new Memory = new.reads ≡ old.reads

-- Where the store tells its files, and these are the first bytes of the one named: damage shows their digest; unreadable
-- bytes have the kept one, and where reading of them stops is told; and all of these were taken.
abbrev pub FoundIn : Shape → FileRef → List ℕ → Counts → Counts → ReadRefusal → Type 0
FoundIn shape at bytes old new Fault = ⊤
FoundIn shape at bytes old new (Damaged file kept found taken) = (found ≡ digest_of bytes) × (taken ≡ length bytes)
FoundIn shape at bytes old new (Unreadable file place taken) =
    (digest_of bytes ≡ at.digest) × SpellsNone shape bytes place × (taken ≡ length bytes)
FoundIn shape at bytes old new Memory = (new.taken ≡ old.taken) ⊎ CountsTaken (length bytes) old new
