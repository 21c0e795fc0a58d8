-- What holds of each value of a table by number.
use Rattle.std.proofs.Common.{◌≡◌, ℕ, Bool, true, false, cond, nat_eq, [], Some, IfSome, subst, sym}
use Rattle.std.specs.Map.{lookup}
use Rattle.indexmap.specs.IndexMap.{IndexMap, get}

module _ {X S : Type 0} (P : X → Type 0) where
  abbrev pub Holds : IndexMap ℕ X S → Type 0
  Holds m = (key : ℕ) → IfSome (get nat_eq m key) P

  pub holds_nothing : (m : IndexMap ℕ X S) → m.entries ≡ [] → Holds m
  holds_nothing m e key = subst (λ entries. IfSome (lookup (nat_eq key) entries) P) (sym e) tt

  pub holds_more : (m n : IndexMap ℕ X S) (k : ℕ) (v : X) → ((q : ℕ) → get nat_eq n q ≡ cond (nat_eq k q) (Some v) (get nat_eq m q)) → P v → Holds m → Holds n
  holds_more m n k v updates p h q = subst (λ o. IfSome o P) (sym (updates q)) (by (nat_eq k q))
    where
      by : (b : Bool) → IfSome (cond b (Some v) (get nat_eq m q)) P
      by true = p
      by false = h q

  pub held : (m : IndexMap ℕ X S) (key : ℕ) (x : X) → Some x ≡ get nat_eq m key → Holds m → P x
  held m key x e h = subst (λ o. IfSome o P) (sym e) (h key)
