-- Why reading of several files ended early: by the file that was read last.
use Rattle.std.proofs.Common.{◌≡◌, sym, ap, ◌∙◌, subst, ℕ, ◌+◌, ◌^◌, ◌-◌, ◌≤◌, min, Bool, inl, inr, List, ◌∷◌, ◌++◌, length, take, IsTrue, arith}
use Rattle.std.specs.List.{Contains}
use Rattle.std.proofs.lemmas.List.{length-take}
use Rattle.rows_core.specs.declared.file_ref.FileRef.{FileRef}
use Rattle.row_blob.specs.declared.shape.Shape.{Shape}
use Rattle.outside_traits.specs.Counts.{Rose}
use Rattle.outside_traits.specs.View.{Counts}
use Rattle.outside_traits.specs.Calls.{CountsTaken}
use Rattle.extent_files.specs.Reads.{HasCause, FoundIn}
use Rattle.extent_files.specs.declared.read_refusal.ReadRefusal.{ReadRefusal}
use Rattle.extent_files.specs.declared.read_refusal.ReadRefusal.TheVariants as read
use Rattle.plan_core.specs.PlanTyping.{Kinds}
use Rattle.rewrite_core.specs.Files.{FileName}
use Rattle.growth_laws.specs.Pieces.{Piece}
use Rattle.executor.specs.Progress.{left_in}
use Rattle.executor.specs.Running.{TookAtMost, TookAtLeast, bytes_of, ReadsOn, StopsAt, EndsBy, EndsOver, IsShapeOf}
use Rattle.executor.specs.Sources.{Sources, sources}
use Rattle.executor.specs.declared.part.Part.{Part}
use Rattle.executor.proofs.RestShapes.{contains_middle}

-- no more than count of the file was taken
pub refused_most : (shape : Shape) (at : FileRef) (file : List ℕ) (old new : Counts) (e : ReadRefusal) → HasCause at old new e → FoundIn shape at (take at.len file) old new e → TookAtMost at.len old new
refused_most shape at file old new read.Fault cause found = let same : new.taken ≡ old.taken = cause.1 in omega (arith, same)
refused_most shape at file old new (read.Damaged number kept digest taken) cause found =
    let now : new.taken ≡ min (old.taken + taken) (2 ^ 64 - 1) = cause.4 in let whole : taken ≡ length (take at.len file) = found.1 in omega (arith, now, whole, length-take at.len file)
refused_most shape at file old new (read.Unreadable number place taken) cause found =
    let now : new.taken ≡ min (old.taken + taken) (2 ^ 64 - 1) = cause.2 in let whole : taken ≡ length (take at.len file) = found.2 in omega (arith, now, whole, length-take at.len file)
refused_most shape at file old new read.Memory cause found = elim found [
  | inl none ↦ let same : new.taken ≡ old.taken = none in omega (arith, same)
  | inr now ↦ let taken : new.taken ≡ min (old.taken + length (take at.len file)) (2 ^ 64 - 1) = now in omega (arith, taken, length-take at.len file)
]

module _ (places : FileName → FileRef) (all names : List FileName) (name : FileName) (others : List FileName) (split : all ≡ names ++ name ∷ others) where
  among : Contains all name
  among = subst (λ (l : List FileName). Contains l name) (sym split) (contains_middle names name others)

  -- what was taken of the last file, behind what was taken before
  took_last : (old half new : Counts) (taken : ℕ) → old.taken ≤ half.taken → CountsTaken taken half new → TookAtLeast taken old new
  took_last old half new taken before now = let last : new.taken ≡ min (half.taken + taken) (2 ^ 64 - 1) = now in omega (arith, before, last)

  pub ends_by : (old half new : Counts) → half.reads ≡ old.reads → old.taken ≤ half.taken → (e : ReadRefusal) → HasCause (places name) half new e → EndsBy places all old new e
  ends_by old half new same before read.Fault cause = subst (λ (n : ℕ). Rose n new.reads) same cause.0
  ends_by old half new same before (read.Damaged number kept digest taken) cause =
      (name, (among, cause.0), cause.1, cause.2, cause.3 ∙ same, took_last old half new taken before cause.4)
  ends_by old half new same before (read.Unreadable number place taken) cause = (name, (among, cause.0), cause.1 ∙ same, took_last old half new taken before cause.2)
  ends_by old half new same before read.Memory cause = cause ∙ same

  module _ (tells : Bool) (files later : ℕ → List ℕ) (machines : ℕ → ℕ) (schemas : List Kinds) (same : (g : ℕ) → later g ≡ files g) (pieces : List Piece) (shape : Shape) (half new : Counts) where
    abbrev first_bytes : List ℕ → List ℕ
    first_bytes file = take (places name).len file

    -- the file still reads as it did
    pub found_first : (e : ReadRefusal) → FoundIn shape (places name) (first_bytes (later (places name).file)) half new e → FoundIn shape (places name) (first_bytes (files (places name).file)) half new e
    found_first e found = subst (λ (file : List ℕ). FoundIn shape (places name) (first_bytes file) half new e) (same (places name).file) found

    ends_of : (e : ReadRefusal) → IsShapeOf schemas pieces name shape → HasCause (places name) half new e → FoundIn shape (places name) (first_bytes (files (places name).file)) half new e
        → EndsOver (sources tells files places machines schemas) pieces all e
    ends_of read.Fault is cause found = tt
    ends_of (read.Damaged number kept digest taken) is cause found = (name, (among, cause.0), cause.1, found.0, found.1)
    ends_of (read.Unreadable number place taken) is cause found = (name, shape, (among, cause.0), is, found.0, found.1, found.2)
    ends_of read.Memory is cause found = tt

    pub ends_over : (e : ReadRefusal) → IsShapeOf schemas pieces name shape → HasCause (places name) half new e → FoundIn shape (places name) (first_bytes (later (places name).file)) half new e
        → EndsOver (sources tells files places machines schemas) pieces all e
    ends_over e is cause found = ends_of e is cause (found_first e found)

-- the parts are those of which the next file wasn't read
pub stops_at : (from : Sources) (before mid after : List Part) (old half new : Counts) (e : ReadRefusal) → after ≡ mid → ReadsOn from before mid old half
    → (name : FileName) (others : List FileName) → left_in mid ≡ name ∷ others → HasCause (from.places name) half new e
    → (IsTrue from.tells → (shape : Shape) × FoundIn shape (from.places name) (bytes_of from name) half new e) → StopsAt from before after old new e
stops_at from before mid after old half new e same read name others next cause found = record {
  half = half;
  read = subst (λ (parts : List Part). ReadsOn from before parts old half) (sym same) read;
  name = name;
  others = others;
  next = ap left_in same ∙ next;
  cause = cause;
  found = found;
}
