-- Clauses on an `Option`, by what it is.
use Rattle.std.proofs.Common.{◌≡◌, false, is_some, Option, Some, None, IfSome, IfNone, refl, subst}

pub IfNone-by : {A : Type 0} {P : Type 0} (o : Option A) → (o ≡ None → P) → IfNone o P
IfNone-by None f = f refl
IfNone-by (Some x) f = tt

pub IfSome-by : {A : Type 0} {P : A → Type 0} (o : Option A) → ((x : A) → o ≡ Some x → P x) → IfSome o P
IfSome-by None f = tt
IfSome-by (Some x) f = f x refl

pub at_none : {A : Type 0} (o : Option A) (P : Type 0) → IfNone o P → o ≡ None → P
at_none o P h e = subst (λ p. IfNone p P) e h

pub at_some : {A : Type 0} (o : Option A) (P : A → Type 0) (x : A) → IfSome o P → o ≡ Some x → P x
at_some o P x h e = subst (λ p. IfSome p P) e h

pub none_from_test : {A : Type 0} (o : Option A) → is_some o ≡ false → o ≡ None
none_from_test None e = refl
none_from_test (Some x) e = absurd (cc)
