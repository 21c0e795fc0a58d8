-- Lists with one more at their ends.
use Rattle.std.proofs.Common.{◌≡◌, sym, subst, List, [], ◌∷◌, ◌++◌}
use Rattle.std.specs.Prelude.{map}
use Rattle.std.specs.List.{AllByRecursion}
use Rattle.row_blob.specs.Kept.{AreEach}

module _ {C K : Type 0} (f : C → K) where
  within : (P : K → Type 0) (before : List C) (c : C) (after : List C) → AllByRecursion P (map f (before ++ c ∷ after)) → P (f c)
  within P [] c after all = all.0
  within P (b ∷ before) c after all = within P before c after all.1

  pub said_of : (P : K → Type 0) (before : List C) (c : C) (after all : List C) → before ++ c ∷ after ≡ all → AllByRecursion P (map f all) → P (f c)
  said_of P before c after all whole holds = within P before c after (subst (λ (l : List C). AllByRecursion P (map f l)) (sym whole) holds)

  pub each_more : {A : Type 0} (P : K → A → Type 0) (cs : List C) (xs : List A) (c : C) (x : A) → AreEach P (map f cs) xs → P (f c) x
      → AreEach P (map f (cs ++ c ∷ [])) (xs ++ x ∷ [])
  each_more P [] [] c x each one = (one, tt)
  each_more P [] (y ∷ xs) c x each one = absurd each
  each_more P (b ∷ cs) [] c x each one = absurd each
  each_more P (b ∷ cs) (y ∷ xs) c x each one = (each.0, each_more P cs xs c x each.1 one)
