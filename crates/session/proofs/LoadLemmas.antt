-- Why a session isn't loaded: for what its folder session isn't.
use Rattle.std.proofs.Common.{◌≡◌, ◌⊎◌, inl, inr, ap, ℕ, Result, Ok, Err}
use Rattle.std.specs.Prelude.{IsErrOf}
use Rattle.folder.specs.declared.refusal.LoadRefusal.{LoadRefusal}
use Rattle.folder.specs.declared.refusal.LoadRefusal.TheVariants.{Fault, NotAStore, Memory}

-- the refusal that another call's was
pub same_err : {T U : Type 0} (r e : LoadRefusal) → IsErrOf {T = T} (Err r) e → IsErrOf {T = U} (Err r) e
same_err {T} {U} r e is = let first : ◌≡◌ {A = Result T LoadRefusal} (Err r) (Err e) = is in let same : r ≡ e = cc in ap Err same

pub same_only : {T U : Type 0} (r : LoadRefusal) (file at : ℕ) → IsErrOf {T = T} (Err r) (NotAStore file at) ⊎ (IsErrOf {T = T} (Err r) Fault ⊎ IsErrOf {T = T} (Err r) Memory)
    → IsErrOf {T = U} (Err r) (NotAStore file at) ⊎ (IsErrOf {T = U} (Err r) Fault ⊎ IsErrOf {T = U} (Err r) Memory)
same_only {T} {U} r file at (inl is) = inl (same_err {T = T} {U = U} r (NotAStore file at) is)
same_only {T} {U} r file at (inr (inl is)) = inr (inl (same_err {T = T} {U = U} r Fault is))
same_only {T} {U} r file at (inr (inr is)) = inr (inr (same_err {T = T} {U = U} r Memory is))

-- what was loaded isn't refused
never : {T : Type 0} (x : T) (e : LoadRefusal) → IsErrOf {T = T} (Ok x) e → ⊥
never {T} x e is = let both : ◌≡◌ {A = Result T LoadRefusal} (Ok x) (Err e) = is in absurd (cc)

pub not_refused : {T : Type 0} (x : T) (file at : ℕ) → IsErrOf {T = T} (Ok x) (NotAStore file at) ⊎ (IsErrOf {T = T} (Ok x) Fault ⊎ IsErrOf {T = T} (Ok x) Memory) → ⊥
not_refused {T} x file at (inl is) = never x (NotAStore file at) is
not_refused {T} x file at (inr (inl is)) = never x Fault is
not_refused {T} x file at (inr (inr is)) = never x Memory is
