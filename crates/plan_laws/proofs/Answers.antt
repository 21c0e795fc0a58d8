-- Answers that may be an overflow or may be none, one after another.
use Rattle.std.proofs.Common.{◌≡◌, refl, sym, ap, ◌∙◌, subst, List, [], ◌∷◌, map, Result, Ok, Err, Option, None, Some}
use Rattle.std.specs.List.{AllByRecursion}
use Rattle.std.specs.Option.{option_and_then}
use Rattle.std.proofs.lemmas.Option.{cond_some}
use Rattle.rows_core.specs.declared.kind.Kind.{Kind}
use Rattle.rows_core.specs.declared.overflow.Overflow.{Overflow}
use Rattle.rows_core.specs.declared.value.Value.{Value}
use Rattle.rows_core.specs.Value.{kind_of}
use Rattle.plan_core.specs.ExpressionKind.{of_both}
use Rattle.plan_core.specs.ExpressionValue.{◌>>=◌, all_of}
use Rattle.plan_core.specs.PlanTyping.{all_there}
use Rattle.plan_core.proofs.ValueKinds.{unless_some}

pub both_ok : {A B : Type 0} (x : Result A Overflow) (f : A → Result B Overflow) (b : B) → (x >>= f) ≡ Ok b → (a : A) × (x ≡ Ok a) × (f a ≡ Ok b)
both_ok (Ok a) f b is = (a, refl, is)
both_ok (Err e) f b is = absurd (cc)

pub both_some : {A B C : Type 0} (f : A → B → Option C) (x : Option A) (y : Option B) (c : C) → of_both f x y ≡ Some c → (a : A) × (b : B) × (x ≡ Some a) × (y ≡ Some b) × (f a b ≡ Some c)
both_some f (Some a) (Some b) c is = (a, b, refl, refl, is)
both_some f (Some a) None c is = absurd (cc)
both_some f None y c is = absurd (cc)

pub there_front : {A : Type 0} (x : Option A) (xs : List (Option A)) (ys : List A) → all_there (x ∷ xs) ≡ Some ys → (a : A) × (others : List A) × (x ≡ Some a) × (all_there xs ≡ Some others) × (a ∷ others ≡ ys)
there_front None xs ys is = absurd (cc)
there_front {A = A} (Some a) xs ys is = by (all_there xs) refl is
  where
    by : (o : Option (List A)) → all_there xs ≡ o → option_and_then (λ others. Some (a ∷ others)) o ≡ Some ys → (b : A) × (others : List A) × (Some a ≡ Some b) × (all_there xs ≡ Some others) × (b ∷ others ≡ ys)
    by None e h = absurd (cc)
    by (Some others) e h = (a, others, refl, e, cc)

module _ {X A : Type 0} (f : X → Result A Overflow) where
  pub all_front : (x : X) (xs : List X) (out : List A) → all_of (map f (x ∷ xs)) ≡ Ok out → (a : A) × (others : List A) × (f x ≡ Ok a) × (all_of (map f xs) ≡ Ok others) × (a ∷ others ≡ out)
  all_front x xs out is =
      let first = both_ok (f x) (λ a. all_of (map f xs) >>= λ others. Ok (a ∷ others)) out is in
      let rest = both_ok (all_of (map f xs)) (λ others. Ok (first.0 ∷ others)) out first.2 in
      (first.0, rest.0, first.1, rest.1, (let same : first.0 ∷ rest.0 ≡ out = let e = rest.2 in cc in same))

  -- each of them
  pub each_of : (Q : X → Type 0) (P : A → Type 0) → ((x : X) (a : A) → Q x → f x ≡ Ok a → P a) → (xs : List X) (out : List A) → AllByRecursion Q xs → all_of (map f xs) ≡ Ok out → AllByRecursion P out
  each_of Q P gives [] out all is = let same : [] ≡ out = cc in subst (AllByRecursion P) same tt
  each_of Q P gives (x ∷ xs) out all is =
      let got = all_front x xs out is in
      subst (AllByRecursion P) got.4 (gives x got.0 all.0 got.2, each_of Q P gives xs got.1 all.1 got.3)

-- values and their kinds, one for one
pub zipped : {X : Type 0} (f : X → Result Value Overflow) (g : X → Option Kind) → ((x : X) (v : Value) (k : Kind) → f x ≡ Ok v → g x ≡ Some k → kind_of v ≡ k)
    → (xs : List X) (kinds : List Kind) (out : List Value) → all_there (map g xs) ≡ Some kinds → all_of (map f xs) ≡ Ok out → map kind_of out ≡ kinds
zipped f g gives [] kinds out there is = let k : [] ≡ kinds = cc in let o : [] ≡ out = cc in ap (map kind_of) (sym o) ∙ k
zipped f g gives (x ∷ xs) kinds out there is =
    let k = there_front (g x) (map g xs) kinds there in
    let o = all_front f x xs out is in
    ap (map kind_of) (sym o.4) ∙ ap (λ c. c ∷ map kind_of o.1) (gives x o.0 k.0 o.2 k.2) ∙ ap (λ l. k.0 ∷ l) (zipped f g gives xs k.1 o.1 k.3 o.3) ∙ k.4
