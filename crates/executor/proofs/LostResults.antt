-- The file at which reading of a rewriting's files ended.
use Rattle.std.proofs.Common.{◌≡◌, refl, sym, ap, ◌∙◌, subst, ℕ, ◌+◌, ◌-◌, ◌^◌, ◌≤◌, min, List, [], ◌∷◌, ◌++◌, length, Option, None, Some, IsTrue, sum_by, arith}
use Rattle.std.specs.List.{Contains}
use Rattle.std.proofs.lemmas.List.{length-take}
use Rattle.row_blob.specs.declared.shape.Shape.{Shape}
use Rattle.outside_traits.specs.View.{Counts}
use Rattle.outside_traits.specs.Calls.{CountsTaken}
use Rattle.estimator.specs.Bytes.{capped}
use Rattle.extent_files.specs.Reads.{HasCause, FoundIn}
use Rattle.extent_files.specs.declared.read_refusal.ReadRefusal.{ReadRefusal}
use Rattle.extent_files.specs.declared.read_refusal.ReadRefusal.TheVariants as read
use Rattle.rewrite_core.specs.Files.{FileName, Extent, Result, files_of}
use Rattle.rewrite_core.specs.PlainRewriting.{PlainRewriting}
use Rattle.growth_laws.specs.KeptResults.{KeptResults}
use Rattle.growth_laws.specs.Lists.{Extents}
use Rattle.growth_laws.specs.Pieces.{pieces_of}
use Rattle.executor.specs.Ended.{lost_of}
use Rattle.executor.specs.Running.{held_bytes, HaveTaken, bytes_of, kept_bytes}
use Rattle.executor.specs.Runs.{of_reading, EndsAt}
use Rattle.executor.specs.Sources.{Sources, HoldFiles}
use Rattle.executor.specs.declared.refusal.LostResult.{LostResult}
use Rattle.executor.proofs.RestShapes.{contains_middle}

-- what the files before hold was taken, and then so many bytes
took_behind : (extents : Extents) (results : KeptResults) (names : List FileName) (given : ℕ) (old half new : Counts) → HaveTaken extents results names old half → CountsTaken given half new
    → CountsTaken (sum_by (held_bytes extents results) names + given) old new
took_behind extents results [] given old half new before now =
    let none : sum_by (held_bytes extents results) [] ≡ 0 = refl in
    let same : half.taken ≡ old.taken = before in
    let taken : new.taken ≡ min (half.taken + given) (2 ^ 64 - 1) = now in omega (arith, none, same, taken)
took_behind extents results (n ∷ names) given old half new before now =
    let some : half.taken ≡ min (old.taken + sum_by (held_bytes extents results) (n ∷ names)) (2 ^ 64 - 1) = before in
    let taken : new.taken ≡ min (half.taken + given) (2 ^ 64 - 1) = now in omega (arith, some, taken)

module _ (from : Sources) (r : PlainRewriting) (old half new : Counts) (before : List FileName)
    (took : (extents : Extents) (results : KeptResults) → HoldFiles from extents results (pieces_of r) → HaveTaken extents results before old half) (same : half.reads ≡ old.reads)
    (taken : ℕ) (taken_is : taken ≡ capped (0 + kept_bytes from.places before)) where
  few : (name : FileName) (given : ℕ) → given ≡ length (bytes_of from name) → given ≤ (from.places name).len
  few name given is = let most = length-take (from.places name).len (from.files (from.places name).file) in omega (arith, is, most)

  counted : (given : ℕ) → capped (taken + given) ≡ capped (kept_bytes from.places before + given)
  counted given = let is : taken ≡ min (0 + kept_bytes from.places before) (2 ^ 64 - 1) = taken_is in omega (arith, is)

  among : (name : FileName) (others : List FileName) → files_of r ≡ before ++ name ∷ others → Contains (files_of r) name
  among name others split = subst (λ (names : List FileName). Contains names name) (sym split) (contains_middle before name others)

  ends : (name : FileName) (others : List FileName) (e : ReadRefusal) → files_of r ≡ before ++ name ∷ others → HasCause (from.places name) half new e
      → (IsTrue from.tells → (shape : Shape) × FoundIn shape (from.places name) (bytes_of from name) half new e) → EndsAt from r old new (of_reading e) (lost_of name taken e)
  ends name others read.Fault split cause found = tt
  ends name others read.Memory split cause found = tt
  ends (Extent stream number) others (read.Damaged file kept other given) split cause found = (stream, number, (among (Extent stream number) others split, cause.0))
  ends (Extent stream number) others (read.Unreadable file at given) split cause found = (stream, number, (among (Extent stream number) others split, cause.0))
  ends (Result id) others (read.Damaged file kept other given) split cause found = record {
    before = before;
    others = others;
    names = split;
    of_file = (cause.0, cause.1, cause.2);
    given = given;
    taken_is = counted given;
    few = λ tells. few (Result id) given (found tells).1.1;
    took = λ extents results hold. took_behind extents results before given old half new (took extents results hold) cause.4;
    no_fault = cause.3 ∙ same;
  }
  ends (Result id) others (read.Unreadable file at given) split cause found = record {
    before = before;
    others = others;
    names = split;
    of_file = cause.0;
    given = given;
    taken_is = counted given;
    few = λ tells. few (Result id) given (found tells).1.2;
    took = λ extents results hold. took_behind extents results before given old half new (took extents results hold) cause.2;
    no_fault = cause.1 ∙ same;
  }

  pub ends_at : (name : FileName) (others : List FileName) (e : ReadRefusal) (lost : Option LostResult) → files_of r ≡ before ++ name ∷ others → HasCause (from.places name) half new e
      → (IsTrue from.tells → (shape : Shape) × FoundIn shape (from.places name) (bytes_of from name) half new e) → lost ≡ lost_of name taken e → EndsAt from r old new (of_reading e) lost
  ends_at name others e lost split cause found is = subst (EndsAt from r old new (of_reading e)) (sym is) (ends name others e split cause found)
