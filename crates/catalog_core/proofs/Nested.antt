-- What is said of a value that may be there, in an answer that may be want of memory.
use Rattle.std.proofs.Common.{◌≡◌, ◌↔◌, Bool, false, IsTrue, Option, None, Some, Result, Ok, Err, IfOk, OnOk, IfSome, IfNone, subst}

pub ok-some : {A E : Type 0} {P Q : A → Type 0} (r : Result (Option A) E) → ((x : A) → P x → Q x) → IfOk r (λ found. IfSome found P) → IfOk r (λ found. IfSome found Q)
ok-some (Ok (Some x)) f given = f x given
ok-some (Ok None) f given = tt
ok-some (Err e) f given = tt

pub ok-none : {A E : Type 0} {P Q : Type 0} (r : Result (Option A) E) → (P → Q) → IfOk r (λ (found : Option A). IfNone found P) → IfOk r (λ (found : Option A). IfNone found Q)
ok-none (Ok (Some x)) f given = tt
ok-none (Ok None) f given = f given
ok-none (Err e) f given = tt

pub some-at : {A : Type 0} (P : A → Type 0) (found : Option A) (x : A) → found ≡ Some x → IfSome found P → P x
some-at {A = A} P (Some y) x e given = subst P (some-injective y x e) given
  where
    some-injective : (y x : A) → Some y ≡ Some x → y ≡ x
    some-injective y x e = cc
some-at P None x e given = absurd (cc)

pub none-at : {A : Type 0} (P : Type 0) (found : Option A) → found ≡ None → IfNone found P → P
none-at P None e given = given
none-at P (Some x) e given = absurd (cc)

-- two facts of an answer, and one that holds anyway
pub all-three : {A E : Type 0} (P Q R : Type 0) (r : Result A E) → P → OnOk r Q → OnOk r R → OnOk r (P × (Q × R))
all-three P Q R (Ok x) p q r = (p, (q, r))
all-three P Q R (Err e) p q r = tt

-- ---- tests that may be want of memory

pub decided-with : {E : Type 0} {Q R : Type 0} (r : Result Bool E) → (Q → R) → (R → Q) → IfOk r (λ b. IsTrue b ↔ Q) → IfOk r (λ b. IsTrue b ↔ R)
decided-with (Ok b) f g decided = (λ e. f (decided.0 e), λ x. decided.1 (g x))
decided-with (Err e) f g decided = tt

pub holds-anyway : {E : Type 0} {P : Type 0} (r : Result Bool E) → P → IfOk r (λ b. IsTrue b → P)
holds-anyway (Ok b) p = λ _. p
holds-anyway (Err e) p = tt

pub never-true : {R : Type 0} → (R → ⊥) → IsTrue false ↔ R
never-true none = (λ e. absurd cc, λ x. absurd (none x))
