-- What holds of a tree holds of what was made as that tree.
use Rattle.std.proofs.Common.{◌≡◌, Result, Ok, Err, IfOk, subst, sym}

pub made_along : {A T E : Type 0} (P : A → Type 0) (v : T → A) (a : A) (r : Result T E) → P a → IfOk r (λ t. v t ≡ a) → IfOk r (λ t. P (v t))
made_along P v a (Ok t) p e = subst P (sym e) p
made_along P v a (Err x) p e = tt

pub ok_along : {T E : Type 0} (P Q : T → Type 0) (r : Result T E) → ((t : T) → P t → Q t) → IfOk r P → IfOk r Q
ok_along P Q (Ok t) f p = f t p
ok_along P Q (Err x) f p = tt
