-- The next file of a job's parts, and the shape of what it should hold.
use Rattle.std.proofs.Common.{◌≡◌, refl, sym, ap, ◌∙◌, subst, ℕ, ◌-◌, inl, inr, List, [], ◌∷◌, ◌++◌, Some, None}
use Rattle.std.specs.List.{Contains}
use Rattle.std.proofs.lemmas.List.Elements.{Contains-append_right}
use Rattle.row_blob.specs.declared.shape.Shape.{Shape}
use Rattle.plan_core.specs.PlanTyping.{Kinds}
use Rattle.plan_core.specs.PlainPlan.{Scan, plan_of}
use Rattle.plan_laws.specs.PlanShape.{plan_shape}
use Rattle.rewrite_core.specs.Files.{FileName, Extent, Result}
use Rattle.rewrite_core.proofs.Looking.{Contains-first, Contains-behind}
use Rattle.growth_laws.specs.Pieces.{Piece, Entry, Gathered}
use Rattle.executor.specs.Progress.{files_left, left_in, next_shape, IsNextPart, IsPartOf, ArePartsOf}
use Rattle.executor.specs.Running.{IsShapeOf}
use Rattle.executor.specs.declared.part.Part.{Part}
use Rattle.executor.specs.declared.part.Part.TheVariants as part
use Rattle.executor.proofs.PartSteps.{first_extent}

pub contains_middle : {A : Type 0} (xs : List A) (y : A) (ys : List A) → Contains (xs ++ y ∷ ys) y
contains_middle xs y ys = Contains-append_right xs (y ∷ ys) y (Contains-first y ys)

module _ (schemas : List Kinds) where
  among_more : (piece : Piece) (pieces : List Piece) (name : FileName) (shape : Shape) → IsShapeOf schemas pieces name shape → IsShapeOf schemas (piece ∷ pieces) name shape
  among_more piece pieces (Extent stream number) shape is = is
  among_more piece pieces (Result id) shape is = (is.0, Contains-behind piece pieces (Entry is.0 id) is.1, is.2)

  shape_here : (piece : Piece) (pieces : List Piece) (p : Part) (name : FileName) (others : List FileName) → IsPartOf schemas piece p → files_left p ≡ name ∷ others
      → IsShapeOf schemas (piece ∷ pieces) name (next_shape schemas p)
  shape_here (Entry plan id) pieces (part.Entry boxed id' (Some l)) name others is left = absurd (cc)
  shape_here (Entry plan id) pieces (part.Entry boxed id' None) name others is left =
      let named : Result id' ≡ name = cc in
      let there : Contains (Entry plan id ∷ pieces) (Entry plan id') = subst (λ (n : ℕ). Contains (Entry plan id ∷ pieces) (Entry plan n)) (sym is.1) (Contains-first (Entry plan id) pieces) in
      subst (λ (n : FileName). IsShapeOf schemas (Entry plan id ∷ pieces) n (plan_shape schemas (plan_of boxed.value))) named (plan, there, ap (plan_shape schemas) is.0)
  shape_here (Entry plan id) pieces (part.Gathered gathering stream next end) name others is left = absurd is
  shape_here (Gathered plan cuts) pieces (part.Entry boxed id' l) name others is left = absurd is
  shape_here (Gathered plan cuts) pieces (part.Gathered gathering stream next end) name others is left =
      subst (λ (n : FileName). IsShapeOf schemas (Gathered plan cuts ∷ pieces) n (plan_shape schemas (Scan stream))) (first_extent stream next (end - next) name others left) refl

  abbrev HasNext : List Piece → List Part → FileName → Type 0
  HasNext pieces parts name = (next : Part) × IsNextPart parts next × IsShapeOf schemas pieces name (next_shape schemas next)

  of_first : (piece : Piece) (pieces : List Piece) (p : Part) (parts : List Part) (name : FileName) (others : List FileName) (here : List FileName) → files_left p ≡ here → IsPartOf schemas piece p
      → (left_in parts ≡ name ∷ others → HasNext pieces parts name) → here ++ left_in parts ≡ name ∷ others → HasNext (piece ∷ pieces) (p ∷ parts) name
  of_first piece pieces p parts name others [] none is rest left =
      let next = rest left in (next.0, inr (none, next.1), among_more piece pieces name (next_shape schemas next.0) next.2)
  of_first piece pieces p parts name others (b ∷ bs) some is rest left =
      let first : b ≡ name = cc in
      let whole : files_left p ≡ name ∷ bs = some ∙ ap (λ (n : FileName). n ∷ bs) first in
      (p, inl ((λ (none : files_left p ≡ []). absurd (let no : name ∷ bs ≡ [] = sym whole ∙ none in cc)), refl), shape_here piece pieces p name bs is whole)

  pub has_next : (pieces : List Piece) (parts : List Part) (name : FileName) (others : List FileName) → ArePartsOf schemas pieces parts → left_in parts ≡ name ∷ others → HasNext pieces parts name
  has_next [] [] name others are left = absurd (cc)
  has_next [] (p ∷ parts) name others are left = absurd are
  has_next (piece ∷ pieces) [] name others are left = absurd are
  has_next (piece ∷ pieces) (p ∷ parts) name others are left =
      of_first piece pieces p parts name others (files_left p) refl are.0 (has_next pieces parts name others are.1) left
