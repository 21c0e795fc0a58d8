-- Why a folder isn't loaded.
use Rattle.std.proofs.Common.{◌≡◌, ◌⊎◌, ℕ, Result, Err, ap, refl, inl, inr}
use Rattle.std.specs.Prelude.{IsErrOf}
use Rattle.folder.specs.declared.refusal.LoadRefusal.{LoadRefusal}
use Rattle.folder.specs.declared.refusal.LoadRefusal.TheVariants.{Fault, NotAStore, Memory}

-- whatever would have been loaded
pub same_err : {T U : Type 0} (r e : LoadRefusal) → IsErrOf {T = T} (Err r) e → IsErrOf {T = U} (Err r) e
same_err {T} {U} r e is = let first : ◌≡◌ {A = Result T LoadRefusal} (Err r) (Err e) = is in let same : r ≡ e = cc in ap Err same

-- a place that is told is that one
pub only_of : {T : Type 0} (r : LoadRefusal) (file at : ℕ) → ((h b : ℕ) → r ≡ NotAStore h b → (h ≡ file) × (b ≡ at)) → IsErrOf {T = T} (Err r) (NotAStore file at) ⊎ (IsErrOf {T = T} (Err r) Fault ⊎ IsErrOf {T = T} (Err r) Memory)
only_of Fault file at place = inr (inl refl)
only_of (NotAStore h b) file at place =
    let same = place h b refl in
    let first = same.0 in
    let second = same.1 in
    let whole : NotAStore h b ≡ NotAStore file at = cc in
    inl (ap Err whole)
only_of Memory file at place = inr (inr refl)
