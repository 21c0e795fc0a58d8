-- Marks of places that stand behind each other, and of trees that stand at the same places.
use Rattle.std.proofs.Common.{◌≡◌, refl, ap, ◌∙◌, Bool, false, ◌||◌, List, [], ◌∷◌, ◌++◌}
use Rattle.std.specs.List.{list_any}
use Rattle.std.proofs.lemmas.List.Folds.{list_any-append}
use Rattle.plan_core.specs.PlainPlan.{PlainPlan, Scan, Filter, Project, Distinct, Group, Join, Concat, Order}
use Rattle.estimator.specs.Cuts.{Cuts}
use Rattle.rewrite_core.specs.IsRewriting.{IsScan, lefts, rights}
use Rattle.rewrite_core.specs.PlainRewriting.{PlainRewriting}
use Rattle.growth_laws.specs.MadePlaces.{Place, place, places, Standing, nowhere, both_standing, before_tail, is_made_at}
use Rattle.made_places.specs.Marks.{marks, unmarked, either, tail_cuts, places_before}
use Rattle.made_places.proofs.Covered.{Covers, no_trees, none_before}
use Rattle.made_places.proofs.Shapes.{HasOne, HasTwo, HasTail}

marks-append : (ps qs : List Place) (xs ys : Standing) → Covers ps xs → marks (ps ++ qs) (xs ++ ys) ≡ marks ps xs ++ marks qs ys
marks-append [] qs [] ys is = refl
marks-append [] qs (x ∷ xs) ys is = absurd is
marks-append (p ∷ ps) qs [] ys is = absurd is
marks-append (p ∷ ps) qs (x ∷ xs) ys is = ap (λ (ms : List Bool). list_any (is_made_at p) x ∷ ms) (marks-append ps qs xs ys is)

pub marks-both : (ps : List Place) (xs ys : Standing) → Covers ps xs → Covers ps ys → marks ps (both_standing xs ys) ≡ either (marks ps xs) (marks ps ys)
marks-both [] [] [] first second = refl
marks-both [] (x ∷ xs) ys first second = absurd first
marks-both [] [] (y ∷ ys) first second = absurd second
marks-both (p ∷ ps) [] ys first second = absurd first
marks-both (p ∷ ps) (x ∷ xs) [] first second = absurd second
marks-both (p ∷ ps) (x ∷ xs) (y ∷ ys) first second =
    let here : list_any (is_made_at p) (x ++ y) ≡ (list_any (is_made_at p) x || list_any (is_made_at p) y) = list_any-append (is_made_at p) x y in
    let rest = marks-both ps xs ys first second in
    λ i. here i ∷ rest i

-- ---- where nothing is made

abbrev AreEmpty : Standing → Type 0
AreEmpty [] = Unit {0}
AreEmpty ([] ∷ standing) = AreEmpty standing
AreEmpty ((tree ∷ trees) ∷ standing) = ⊥

none_marked : (ps : List Place) (xs : Standing) → Covers ps xs → AreEmpty xs → marks ps xs ≡ unmarked xs
none_marked [] [] is empty = refl
none_marked [] (x ∷ xs) is empty = absurd is
none_marked (p ∷ ps) [] is empty = absurd is
none_marked (p ∷ ps) ([] ∷ xs) is empty = ap (λ (ms : List Bool). false ∷ ms) (none_marked ps xs is empty)
none_marked (p ∷ ps) ((tree ∷ trees) ∷ xs) is empty = absurd empty

both_empty : (xs ys : Standing) → AreEmpty xs → AreEmpty ys → AreEmpty (xs ++ ys)
both_empty [] ys first second = second
both_empty ([] ∷ xs) ys first second = both_empty xs ys first second
both_empty ((tree ∷ trees) ∷ xs) ys first second = absurd first

nowhere_empty : (plan : PlainPlan) → AreEmpty (nowhere plan)
nowhere_empty (Scan stream) = tt
nowhere_empty (Filter child test) = both_empty (nowhere child) _ (nowhere_empty child) tt
nowhere_empty (Project child columns) = both_empty (nowhere child) _ (nowhere_empty child) tt
nowhere_empty (Distinct child) = both_empty (nowhere child) _ (nowhere_empty child) tt
nowhere_empty (Group child keys aggs) = both_empty (nowhere child) _ (nowhere_empty child) tt
nowhere_empty (Join left right on) = both_empty (nowhere left) _ (nowhere_empty left) (both_empty (nowhere right) _ (nowhere_empty right) tt)
nowhere_empty (Concat left right) = both_empty (nowhere left) _ (nowhere_empty left) (both_empty (nowhere right) _ (nowhere_empty right) tt)
nowhere_empty (Order child keys) = both_empty (nowhere child) _ (nowhere_empty child) tt

before_empty : (plan : PlainPlan) → AreEmpty (before_tail plan)
before_empty (Scan stream) = tt
before_empty (Filter child test) = tt
before_empty (Project child columns) = tt
before_empty (Distinct child) = tt
before_empty (Group child keys aggs) = tt
before_empty (Join left right on) = tt
before_empty (Concat left right) = nowhere_empty left
before_empty (Order child keys) = tt

pub nowhere_marked : (plan : PlainPlan) (at : Cuts) → marks (places plan at) (nowhere plan) ≡ unmarked (nowhere plan)
nowhere_marked plan at = none_marked (places plan at) (nowhere plan) (no_trees plan at) (nowhere_empty plan)

-- ---- the marks of the inputs, and that of the root

module _ (plan : PlainPlan) (at : Cuts) (root : List PlainRewriting) (own : Bool) (is_own : list_any (is_made_at (place plan at)) root ≡ own) where
  with_own : (qs : List Place) (ys : Standing) → Covers qs ys → marks (qs ++ place plan at ∷ []) (ys ++ root ∷ []) ≡ marks qs ys ++ own ∷ []
  with_own qs ys is = marks-append qs (place plan at ∷ []) ys (root ∷ []) is ∙ ap (λ (b : Bool). marks qs ys ++ b ∷ []) is_own

  behind_own : (ps qs : List Place) (xs ys : Standing) → Covers ps xs → Covers qs ys
      → marks (ps ++ (qs ++ place plan at ∷ [])) (xs ++ (ys ++ root ∷ [])) ≡ marks ps xs ++ (marks qs ys ++ own ∷ [])
  behind_own ps qs xs ys first second =
      marks-append ps (qs ++ place plan at ∷ []) xs (ys ++ root ∷ []) first ∙ ap (λ (ms : List Bool). marks ps xs ++ ms) (with_own qs ys second)

  pub marks_of_one : (child : PlainPlan) (xs : Standing) → HasOne plan child → Covers (places child at) xs
      → marks (places plan at) (xs ++ root ∷ []) ≡ marks (places child at) xs ++ own ∷ []
  marks_of_one child xs shape is = ap (λ (ps : List Place). marks ps (xs ++ root ∷ [])) (shape at) ∙ with_own (places child at) xs is

  pub marks_of_two : (left right : PlainPlan) (xs ys : Standing) → HasTwo plan left right → Covers (places left (lefts left at)) xs → Covers (places right (rights left at)) ys
      → marks (places plan at) (xs ++ (ys ++ root ∷ [])) ≡ marks (places left (lefts left at)) xs ++ (marks (places right (rights left at)) ys ++ own ∷ [])
  marks_of_two left right xs ys shape first second =
      ap (λ (ps : List Place). marks ps (xs ++ (ys ++ root ∷ []))) (shape at) ∙ behind_own (places left (lefts left at)) (places right (rights left at)) xs ys first second

  pub marks_of_tail : (child : PlainPlan) (xs : Standing) → HasTail plan child → Covers (places child (tail_cuts plan at)) xs
      → marks (places plan at) (before_tail plan ++ (xs ++ root ∷ [])) ≡ unmarked (before_tail plan) ++ (marks (places child (tail_cuts plan at)) xs ++ own ∷ [])
  marks_of_tail child xs shape is =
      let behind : List Bool = marks (places child (tail_cuts plan at)) xs ++ own ∷ [] in
      ap (λ (ps : List Place). marks ps (before_tail plan ++ (xs ++ root ∷ []))) (shape at)
      ∙ behind_own (places_before plan at) (places child (tail_cuts plan at)) (before_tail plan) xs (none_before plan at) is
      ∙ ap (λ (ms : List Bool). ms ++ behind) (none_marked (places_before plan at) (before_tail plan) (none_before plan at) (before_empty plan))

  pub scan_marks : IsScan plan → marks (places plan at) (root ∷ []) ≡ own ∷ []
  scan_marks is = by plan is ∙ ap (λ (b : Bool). b ∷ []) is_own
    where
      by : (q : PlainPlan) → IsScan q → marks (places q at) (root ∷ []) ≡ list_any (is_made_at (place q at)) root ∷ []
      by (Scan stream) is = refl
      by (Filter child test) is = absurd is
      by (Project child columns) is = absurd is
      by (Distinct child) is = absurd is
      by (Group child keys aggs) is = absurd is
      by (Join left right on) is = absurd is
      by (Concat left right) is = absurd is
      by (Order child keys) is = absurd is
