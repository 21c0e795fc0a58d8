-- Lists of parts of which the first one of which a file is left is read further.
use Rattle.std.proofs.Common.{◌≡◌, ◌≢◌, refl, sym, ap, ◌∙◌, subst, ℕ, zero, suc, inl, inr, List, [], ◌∷◌, get_or}
use Rattle.std.proofs.Math.ListN.{set}
use Rattle.std.specs.List.{AllByRecursion}
use Rattle.row_blob.specs.Kept.{AreEach}
use Rattle.row_blob.specs.declared.shape.Shape.{Shape}
use Rattle.outside_traits.specs.View.{Counts}
use Rattle.plan_core.specs.PlanTyping.{Kinds}
use Rattle.rewrite_core.specs.Files.{FileName}
use Rattle.growth_laws.specs.KeptResults.{KeptResults}
use Rattle.growth_laws.specs.Lists.{Extents}
use Rattle.growth_laws.specs.Pieces.{Piece}
use Rattle.executor.specs.declared.part.Part.{Part}
use Rattle.executor.specs.Firsts.{IsFirst}
use Rattle.executor.specs.Progress.{files_left, left_in, next_shape, IsNextPart, IsPartOf, ArePartsOf, HasRead, HaveRead}
use Rattle.executor.specs.Sources.{Sources, HoldsPiece, HoldFiles, HasTaken, HasReadNext}
use Rattle.executor.proofs.Updates.{is_within, is_left, all_left, one_less, first_left, each_at, each_with, each_set}

next_is : (parts : List Part) (at : ℕ) (d next : Part) → IsFirst files_left parts at → IsNextPart parts next → next ≡ get_or parts at d
next_is [] at d next first is = absurd is
next_is (p ∷ parts) zero d next first is = elim is [ inl h ↦ h.1 | inr h ↦ absurd (first h.0) ]
next_is (p ∷ parts) (suc at) d next first is = elim is [ inl h ↦ absurd (h.0 first.0) | inr h ↦ next_is parts at d next first.1 h.1 ]

module _ {K A : Type 0} (P Q : K → A → Type 0) where
  both_each : (ks : List K) (xs : List A) → AreEach P ks xs → AreEach Q ks xs → AreEach (λ k x. P k x × Q k x) ks xs
  both_each [] [] p q = tt
  both_each [] (x ∷ xs) p q = absurd p
  both_each (k ∷ ks) [] p q = absurd p
  both_each (k ∷ ks) (x ∷ xs) p q = ((p.0, q.0), both_each ks xs p.1 q.1)

  second_each : (ks : List K) (xs : List A) → AreEach (λ k x. P k x × Q k x) ks xs → AreEach Q ks xs
  second_each [] [] both = tt
  second_each [] (x ∷ xs) both = absurd both
  second_each (k ∷ ks) [] both = absurd both
  second_each (k ∷ ks) (x ∷ xs) both = (both.0.1, second_each ks xs both.1)

no_premise : {K : Type 0} (ks : List K) → AllByRecursion (λ (k : K). Unit {0}) ks
no_premise [] = tt
no_premise (k ∷ ks) = (tt, no_premise ks)

pub some_first : {B : Type 0} (bs : List B) → bs ≢ [] → (b : B) × (rest : List B) × (bs ≡ b ∷ rest)
some_first [] left = absurd (left refl)
some_first (b ∷ rest) left = (b, rest, refl)

-- of the part at the place of the first one of which a file is left
module _ (parts : List Part) (at : ℕ) (x : Part) (first : IsFirst files_left parts at) (here : x ≡ get_or parts at x) where
  pub left_of_next : files_left x ≢ []
  left_of_next = subst (λ (p : Part). files_left p ≢ []) (sym here) (is_left files_left parts at x first)

  pub next_there : (Has : FileName → Type 0) → AllByRecursion Has (left_in parts) → AllByRecursion Has (files_left x)
  next_there Has all = subst (λ (p : Part). AllByRecursion Has (files_left p)) (sym here) (all_left files_left Has parts at x first all)

  pub next_part : (schemas : List Kinds) (pieces : List Piece) → ArePartsOf schemas pieces parts → (piece : Piece) × IsPartOf schemas piece x
  next_part schemas pieces are =
      let one : (piece : Piece) × IsPartOf schemas piece (get_or parts at x) = each_at (IsPartOf schemas) pieces parts at x (is_within files_left parts at first) are in
      (one.0, subst (λ (p : Part). IsPartOf schemas one.0 p) (sym here) one.1)

  pub next_name : (F : FileName → Type 0) → ((name : FileName) (others : List FileName) → files_left x ≡ name ∷ others → F name) → (name : FileName) (others : List FileName) → left_in parts ≡ name ∷ others → F name
  next_name F gives name others left =
      let some : (b : FileName) × (rest : List FileName) × (files_left x ≡ b ∷ rest) = some_first (files_left x) left_of_next in
      subst (λ (n : FileName). F n) (first_left files_left parts at x some.0 name some.1 others first (ap files_left (sym here) ∙ some.2) left) (gives some.0 some.1 some.2)

  pub next_found : (F : Shape → FileName → Type 0) (schemas : List Kinds) → ((name : FileName) (others : List FileName) → files_left x ≡ name ∷ others → F (next_shape schemas x) name)
      → (next : Part) (name : FileName) (others : List FileName) → IsNextPart parts next → left_in parts ≡ name ∷ others → F (next_shape schemas next) name
  next_found F schemas gives next name others is left =
      let same : next ≡ x = next_is parts at x next first is ∙ sym here in
      subst (λ (q : Part). F (next_shape schemas q) name) (sym same) (next_name (λ (n : FileName). F (next_shape schemas x) n) gives name others left)

  module _ (after : Part) where
    pub next_less : (b : FileName) → files_left x ≡ b ∷ files_left after → left_in parts ≡ b ∷ left_in (set parts at after)
    next_less b less = one_less files_left parts at x after b first (ap files_left (sym here) ∙ less)

    pub job_parts : (schemas : List Kinds) → ((piece : Piece) → IsPartOf schemas piece x → IsPartOf schemas piece after)
        → (pieces : List Piece) → ArePartsOf schemas pieces parts → ArePartsOf schemas pieces (set parts at after)
    job_parts schemas gives pieces are =
        each_set (λ (k : Piece). Unit {0}) (IsPartOf schemas) pieces parts at x after (no_premise pieces)
        (λ (k : Piece) (u : Unit {0}) (is : IsPartOf schemas k (get_or parts at x)). gives k (subst (λ (p : Part). IsPartOf schemas k p) (sym here) is)) are

    pub job_read : (from : Sources) (extents : Extents) (results : KeptResults) (old new : Counts)
        → ((piece : Piece) → IsPartOf from.schemas piece x → IsPartOf from.schemas piece after)
        → ((piece : Piece) → HasReadNext from extents results piece x after old new)
        → (b : FileName) → files_left x ≡ b ∷ files_left after
        → (pieces : List Piece) (name : FileName) (others : List FileName) → left_in parts ≡ name ∷ others → HoldFiles from extents results pieces → ArePartsOf from.schemas pieces parts
        → HaveRead from.schemas extents results pieces parts
        → HaveRead from.schemas extents results pieces (set parts at after) × HasTaken extents results name old new
    job_read from extents results old new keeps reads b less pieces name others left hold are have =
        let P : Piece → Part → Type 0 = IsPartOf from.schemas in
        let Q : Piece → Part → Type 0 = HasRead from.schemas extents results in
        let R : Piece → Part → Type 0 = λ (k : Piece) (p : Part). P k p × Q k p in
        let H : Piece → Type 0 = HoldsPiece from extents results in
        let each : AreEach R pieces parts = both_each P Q pieces parts are have in
        let same : b ≡ name = first_left files_left parts at x b name (files_left after) others first (ap files_left (sym here) ∙ less) left in
        let gives : (k : Piece) → H k → R k x → R k after × HasTaken extents results b old new =
        λ (k : Piece) (held : H k) (both : R k x). (let step = reads k b (files_left after) less held both.0 both.1 in ((keeps k both.0, step.0), step.1)) in
        let one : (k : Piece) × H k × R k (get_or parts at x) = each_with H R pieces parts at x (is_within files_left parts at first) hold each in (
          second_each P Q pieces (set parts at after)
              (each_set H R pieces parts at x after hold (λ (k : Piece) (held : H k) (both : R k (get_or parts at x)). (gives k held (subst (λ (p : Part). R k p) (sym here) both)).0) each),
          subst (λ (n : FileName). HasTaken extents results n old new) same (gives one.0 one.1 (subst (λ (p : Part). R one.0 p) (sym here) one.2)).1,
        )
