-- Two calls that append, one after the other.
use Rattle.std.proofs.Common.{◌≡◌, ℕ, List, ◌++◌, Result, OnOk, ap, ◌∙◌, append_assoc}
use Rattle.std.proofs.lemmas.Result.{on_ok_weaker}

pub append_two : {T E : Type 0} (r : Result T E) (old x mid y new : List ℕ) → mid ≡ old ++ x → OnOk r (new ≡ mid ++ y) → OnOk r (new ≡ old ++ (x ++ y))
append_two r old x mid y new e h =
    on_ok_weaker r (λ (p : new ≡ mid ++ y). p ∙ ap (λ (l : List ℕ). l ++ y) e ∙ append_assoc old x y) h
