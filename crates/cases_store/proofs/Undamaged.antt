-- A file that has the bytes of its digest isn't damaged.
use Rattle.std.proofs.Common.{◌≡◌, ℕ, List, Result, IfErr, IsErrOf, ap, sym, ◌∙◌, subst}
use Rattle.rows_core.specs.declared.file_ref.Digest.{Digest}
use Rattle.outside_traits.specs.View.{Counts}
use Rattle.extent_files.specs.Files.{digest_of, HasCause, FoundIn}
use Rattle.extent_files.specs.declared.refusal.FileRefusal.{FileRefusal}
use Rattle.extent_files.specs.declared.refusal.FileRefusal.TheVariants.{Damaged}

-- the kept digest is that of these bytes, and they are what was found
pub not_damaged : {A : Type 0} (r : Result A FileRefusal) (bytes front : List ℕ) (digest : Digest) (old new : Counts) → digest ≡ digest_of bytes → front ≡ bytes
    → IfErr r (HasCause digest old new) → IfErr r (FoundIn front)
    → (kept found : Digest) (taken : ℕ) → IsErrOf r (Damaged kept found taken) → ⊥
not_damaged r bytes front digest old new kept_is same cause told kept found taken is =
    let why : HasCause digest old new (Damaged kept found taken) = subst (λ s. IfErr s (HasCause digest old new)) is cause in
    let here : FoundIn front (Damaged kept found taken) = subst (λ s. IfErr s (FoundIn front)) is told in
    why.1 (here.0 ∙ ap digest_of same ∙ sym kept_is)
