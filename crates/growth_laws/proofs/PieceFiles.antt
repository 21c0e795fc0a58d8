-- The files of a rewriting are those of its pieces.
use Rattle.std.proofs.Common.{◌≡◌, refl, sym, ap, ◌∙◌, subst, ℕ, Bool, true, false, cond, List, [], ◌∷◌, ◌++◌, append_assoc}
use Rattle.std.specs.List.{flat_map}
use Rattle.std.proofs.lemmas.Bool.{false≢true}
use Rattle.std.proofs.lemmas.Grind.{flat_map-append}
use Rattle.std.proofs.lemmas.List.{append-nil}
use Rattle.plan_core.specs.PlainPlan.{PlainPlan, leaves}
use Rattle.plan_core.specs.PlainPlan as plan
use Rattle.rewrite_core.specs.declared.rewriting.Hit.{Hit}
use Rattle.estimator.specs.Cuts.{Cuts, added_cuts}
use Rattle.rewrite_core.specs.Files.{FileName, Result as ResultFile, scan_files, new_files, files_of, way_files, delta_files, delta_way_files}
use Rattle.rewrite_core.specs.IsRewriting.{IsRewriting, IsWay, IsDelta, IsDeltaWay, OfOne, OfTwo, OfSides, OfTail, OfDeltaTail, OfDistinctChild, IsScan, IsLonger, lefts, rights, whichever}
use Rattle.rewrite_core.specs.PlainRewriting.{PlainRewriting, Node, PlainWay, Scan, One, Two, Read, Tail, LeftGrew, RightGrew, BothGrew, PlainDelta, Change, PlainDeltaWay, Unchanged, NewRows, OfChild, OfDistinct, OfJoin}
use Rattle.growth_laws.specs.Pieces.{Piece, Entry, Gathered, is_chain_of, is_gathered, is_chain_delta, pieces_of, pieces_in, pieces_of_delta, pieces_in_delta, gathered_files, piece_files}
use Rattle.growth_laws.proofs.PieceResults.{subst_both}

-- ---- gathered pieces

scan_gathered : (p : PlainPlan) (c : Cuts) → IsScan p → scan_files p c ≡ gathered_files (leaves p) c
scan_gathered (plan.Scan stream) [] is = refl
scan_gathered (plan.Scan stream) (cut ∷ []) is = refl
scan_gathered (plan.Scan stream) (cut ∷ next ∷ cuts) is = refl
scan_gathered _ c is = absurd is

abbrev AreChainFiles : PlainRewriting → PlainPlan → Cuts → Type 0
AreChainFiles r q c = files_of r ≡ gathered_files (leaves q) c

chain_files : (r : PlainRewriting) (q : PlainPlan) (c : Cuts) → IsRewriting whichever q c r → is_chain_of r ≡ true → AreChainFiles r q c
chain_files (Node p cuts Scan) q c (e, f, is) chain =
    subst_both (AreChainFiles (Node p cuts Scan)) p q cuts c e f (scan_gathered p cuts (subst IsScan (sym e) is))
chain_files (Node (plan.Filter child test) cuts (One r)) q c (e, f, is) chain =
    let of = subst_both (λ q c. OfOne (λ child. IsRewriting whichever child c r) q) q (plan.Filter child test) c cuts (sym e) (sym f) is in
    subst_both (AreChainFiles (Node (plan.Filter child test) cuts (One r))) (plan.Filter child test) q cuts c e f (chain_files r child cuts of chain)
chain_files (Node (plan.Project child columns) cuts (One r)) q c (e, f, is) chain =
    let of = subst_both (λ q c. OfOne (λ child. IsRewriting whichever child c r) q) q (plan.Project child columns) c cuts (sym e) (sym f) is in
    subst_both (AreChainFiles (Node (plan.Project child columns) cuts (One r))) (plan.Project child columns) q cuts c e f (chain_files r child cuts of chain)
chain_files (Node _ cuts _) q c is chain = absurd (false≢true chain)

all_gathered : (r : PlainRewriting) (q : PlainPlan) (c : Cuts) → IsRewriting whichever q c r → is_gathered r ≡ true → AreChainFiles r q c
all_gathered (Node (plan.Group child keys aggs) cuts (One r)) q c (e, f, is) chain =
    let of = subst_both (λ q c. OfOne (λ child. IsRewriting whichever child c r) q) q (plan.Group child keys aggs) c cuts (sym e) (sym f) is in
    subst_both (AreChainFiles (Node (plan.Group child keys aggs) cuts (One r))) (plan.Group child keys aggs) q cuts c e f (chain_files r child cuts of chain)
all_gathered (Node (plan.Distinct child) cuts (One r)) q c (e, f, is) chain =
    let of = subst_both (λ q c. OfOne (λ child. IsRewriting whichever child c r) q) q (plan.Distinct child) c cuts (sym e) (sym f) is in
    subst_both (AreChainFiles (Node (plan.Distinct child) cuts (One r))) (plan.Distinct child) q cuts c e f (chain_files r child cuts of chain)
all_gathered (Node p cuts way) q c is chain = chain_files (Node p cuts way) q c is chain

new_gathered : (p : PlainPlan) (old new : Cuts) → IsScan p → IsLonger old new → new_files p old new ≡ gathered_files (leaves p) (added_cuts old new)
new_gathered (plan.Scan stream) (o ∷ []) (n ∷ []) is longer = refl
new_gathered (plan.Scan stream) [] new is longer = absurd longer
new_gathered (plan.Scan stream) (o ∷ []) [] is longer = absurd longer
new_gathered (plan.Scan stream) (o ∷ []) (n ∷ m ∷ new) is longer = absurd longer
new_gathered (plan.Scan stream) (o ∷ p ∷ old) new is longer = absurd longer
new_gathered _ old new is longer = absurd is

abbrev AreNewFiles : PlainDelta → PlainPlan → Cuts → Cuts → Type 0
AreNewFiles d q old new = delta_files d ≡ gathered_files (leaves q) (added_cuts old new)

moved : (d : PlainDelta) (p q : PlainPlan) (o old n new : Cuts) → p ≡ q → o ≡ old → n ≡ new → AreNewFiles d p o n → AreNewFiles d q old new
moved d p q o old n new e f g has = subst (λ q. AreNewFiles d q old new) e (subst_both (AreNewFiles d p) o old n new f g has)

chain_delta_files : (d : PlainDelta) (q : PlainPlan) (old new : Cuts) → IsDelta whichever q old new d → is_chain_delta d ≡ true → AreNewFiles d q old new
chain_delta_files (Change p o n NewRows) q old new (e, f, g, is) chain =
    moved (Change p o n NewRows) p q o old n new e f g (new_gathered p o n (subst IsScan (sym e) is.0) (subst_both IsLonger old o new n (sym f) (sym g) is.1))
chain_delta_files (Change (plan.Filter child test) o n (OfChild d)) q old new (e, f, g, is) chain =
    let of = subst (λ q. OfDeltaTail (λ child o n. IsDelta whichever child o n d) q o n) (sym e) (subst_both (λ o n. OfDeltaTail (λ child o n. IsDelta whichever child o n d) q o n) old o new n (sym f) (sym g) is.1) in
    moved (Change (plan.Filter child test) o n (OfChild d)) (plan.Filter child test) q o old n new e f g (chain_delta_files d child o n of chain)
chain_delta_files (Change (plan.Project child columns) o n (OfChild d)) q old new (e, f, g, is) chain =
    let of = subst (λ q. OfDeltaTail (λ child o n. IsDelta whichever child o n d) q o n) (sym e) (subst_both (λ o n. OfDeltaTail (λ child o n. IsDelta whichever child o n d) q o n) old o new n (sym f) (sym g) is.1) in
    moved (Change (plan.Project child columns) o n (OfChild d)) (plan.Project child columns) q o old n new e f g (chain_delta_files d child o n of chain)
chain_delta_files (Change _ o n _) q old new is chain = absurd (false≢true chain)

-- ---- whole trees

files_in : List Piece → List FileName
files_in pieces = flat_map piece_files pieces

one_piece : (p : PlainPlan) (c : Cuts) → gathered_files (leaves p) c ≡ flat_map piece_files (Gathered p c ∷ [])
one_piece p c = sym (append-nil (gathered_files (leaves p) c))

both : (xs ys : List FileName) (ps qs : List Piece) → xs ≡ flat_map piece_files ps → ys ≡ flat_map piece_files qs → xs ++ ys ≡ flat_map piece_files (ps ++ qs)
both xs ys ps qs e f = ap (λ l. l ++ ys) e ∙ ap (λ l. flat_map piece_files ps ++ l) f ∙ sym (flat_map-append piece_files ps qs)

one_child : {P : PlainPlan → Type 0} (q : PlainPlan) → OfOne P q → (child : PlainPlan) × P child
one_child (plan.Filter child test) is = (child, is)
one_child (plan.Project child columns) is = (child, is)
one_child (plan.Distinct child) is = (child, is)
one_child (plan.Group child keys aggs) is = (child, is)
one_child (plan.Order child keys) is = (child, is)
one_child _ is = absurd is

two_children : {P : PlainPlan → PlainPlan → Type 0} (q : PlainPlan) → OfTwo P q → (left right : PlainPlan) × P left right
two_children (plan.Join left right on) is = (left, right, is)
two_children (plan.Concat left right) is = (left, right, is)
two_children _ is = absurd is

two_sides : {P : PlainPlan → PlainPlan → Type 0} (q : PlainPlan) → OfSides P q → (left right : PlainPlan) × P left right
two_sides (plan.Join left right on) is = (left, right, is)
two_sides _ is = absurd is

tail_child : {P : PlainPlan → Cuts → Cuts → Type 0} (q : PlainPlan) (old new : Cuts) → OfTail P q old new → (child : PlainPlan) × (o n : Cuts) × P child o n
tail_child (plan.Filter child test) old new is = (child, old, new, is)
tail_child (plan.Project child columns) old new is = (child, old, new, is)
tail_child (plan.Distinct child) old new is = (child, old, new, is)
tail_child (plan.Group child keys aggs) old new is = (child, old, new, is)
tail_child (plan.Order child keys) old new is = (child, old, new, is)
tail_child (plan.Concat left right) old new is = (right, rights left old, rights left new, is.1)
tail_child _ old new is = absurd is

passed_child : {P : PlainPlan → Cuts → Cuts → Type 0} (q : PlainPlan) (old new : Cuts) → OfDeltaTail P q old new → (child : PlainPlan) × (o n : Cuts) × P child o n
passed_child (plan.Filter child test) old new is = (child, old, new, is)
passed_child (plan.Project child columns) old new is = (child, old, new, is)
passed_child (plan.Concat left right) old new is = (right, rights left old, rights left new, is.1)
passed_child _ old new is = absurd is

distinct_child : {P : PlainPlan → Type 0} (q : PlainPlan) → OfDistinctChild P q → (child : PlainPlan) × P child
distinct_child (plan.Distinct child) is = (child, is)
distinct_child _ is = absurd is

pub scan_is_gathered : (p : PlainPlan) (c : Cuts) → is_gathered (Node p c Scan) ≡ true
scan_is_gathered (plan.Scan stream) c = refl
scan_is_gathered (plan.Filter child test) c = refl
scan_is_gathered (plan.Project child columns) c = refl
scan_is_gathered (plan.Distinct child) c = refl
scan_is_gathered (plan.Group child keys aggs) c = refl
scan_is_gathered (plan.Join left right on) c = refl
scan_is_gathered (plan.Concat left right) c = refl
scan_is_gathered (plan.Order child keys) c = refl

delta_by : (p : PlainPlan) (o n : Cuts) (way : PlainDeltaWay) → IsDeltaWay whichever p o n way → (b : Bool) → is_chain_delta (Change p o n way) ≡ b
    → (is_chain_delta (Change p o n way) ≡ false → delta_way_files p o n way ≡ flat_map piece_files (pieces_in_delta way))
    → delta_way_files p o n way ≡ flat_map piece_files (cond b (Gathered p (added_cuts o n) ∷ []) (pieces_in_delta way))
delta_by p o n way is true whole parts = chain_delta_files (Change p o n way) p o n (refl, refl, refl, is) whole ∙ one_piece p (added_cuts o n)
delta_by p o n way is false none parts = parts none

mutual
  pub files_are : (r : PlainRewriting) (q : PlainPlan) (c : Cuts) → IsRewriting whichever q c r → files_of r ≡ flat_map piece_files (pieces_of r)
  files_are (Node p cuts way) q c (e, f, is) = by (is_gathered (Node p cuts way)) refl (way_files_are p cuts way q c is)
    where
      by : (b : Bool) → is_gathered (Node p cuts way) ≡ b → (is_gathered (Node p cuts way) ≡ false → way_files p cuts way ≡ flat_map piece_files (pieces_in p way))
          → way_files p cuts way ≡ flat_map piece_files (cond b (Gathered p cuts ∷ []) (pieces_in p way))
      by true whole parts = all_gathered (Node p cuts way) p cuts (refl, refl, subst_both (λ q c. IsWay whichever q c way) q p c cuts (sym e) (sym f) is) whole ∙ one_piece p cuts
      by false none parts = parts none

  way_files_are : (p : PlainPlan) (cuts : Cuts) (way : PlainWay) (q : PlainPlan) (c : Cuts) → IsWay whichever q c way → is_gathered (Node p cuts way) ≡ false → way_files p cuts way ≡ flat_map piece_files (pieces_in p way)
  way_files_are p cuts Scan q c is parts = absurd (false≢true (sym parts ∙ scan_is_gathered p cuts))
  way_files_are p cuts (One r) q c is parts = let of = one_child q is in files_are r of.0 c of.1
  way_files_are p cuts (Two l r) q c is parts =
      let of = two_children q is in
      both (files_of l) (files_of r) (pieces_of l) (pieces_of r) (files_are l of.0 (lefts of.0 c) of.2.0) (files_are r of.1 (rights of.0 c) of.2.1)
  way_files_are p cuts (Read hit) q c is parts = refl
  way_files_are p cuts (Tail hit d) q c is parts = let of = tail_child q hit.cuts c is.1 in ap (λ l. ResultFile hit.id ∷ l) (delta_files_are d of.0 of.1 of.2 of.3)
  way_files_are p cuts (LeftGrew hit d r) q c is parts =
      let of = two_sides q is.1 in
      ap (λ l. ResultFile hit.id ∷ l) (both (delta_files d) (files_of r) (pieces_of_delta d) (pieces_of r) (delta_files_are d of.0 (lefts of.0 hit.cuts) (lefts of.0 c) of.2.1) (files_are r of.1 (rights of.0 c) of.2.2))
  way_files_are p cuts (RightGrew hit l d) q c is parts =
      let of = two_sides q is.1 in
      ap (λ l. ResultFile hit.id ∷ l) (both (files_of l) (delta_files d) (pieces_of l) (pieces_of_delta d) (files_are l of.0 (lefts of.0 c) of.2.1) (delta_files_are d of.1 (rights of.0 hit.cuts) (rights of.0 c) of.2.2))
  way_files_are p cuts (BothGrew hit l rd ld r) q c is parts =
      let of = two_sides q is.1 in
      ap (λ l. ResultFile hit.id ∷ l)
      (both (files_of l ++ delta_files rd ++ delta_files ld) (files_of r) (pieces_of l ++ pieces_of_delta rd ++ pieces_of_delta ld) (pieces_of r)
      (both (files_of l ++ delta_files rd) (delta_files ld) (pieces_of l ++ pieces_of_delta rd) (pieces_of_delta ld)
      (both (files_of l) (delta_files rd) (pieces_of l) (pieces_of_delta rd) (files_are l of.0 (lefts of.0 hit.cuts) of.2.2) (delta_files_are rd of.1 (rights of.0 hit.cuts) (rights of.0 c) of.2.3))
      (delta_files_are ld of.0 (lefts of.0 hit.cuts) (lefts of.0 c) of.2.4)) (files_are r of.1 (rights of.0 c) of.2.5))

  pub delta_files_are : (d : PlainDelta) (q : PlainPlan) (old new : Cuts) → IsDelta whichever q old new d → delta_files d ≡ flat_map piece_files (pieces_of_delta d)
  delta_files_are (Change p o n way) q old new (e, f, g, is) =
      let here : IsDeltaWay whichever p o n way = subst (λ q. IsDeltaWay whichever q o n way) (sym e) (subst_both (λ o n. IsDeltaWay whichever q o n way) old o new n (sym f) (sym g) is) in
      delta_by p o n way here (is_chain_delta (Change p o n way)) refl (delta_way_files_are p o n way here)

  delta_way_files_are : (p : PlainPlan) (o n : Cuts) (way : PlainDeltaWay) → IsDeltaWay whichever p o n way → is_chain_delta (Change p o n way) ≡ false → delta_way_files p o n way ≡ flat_map piece_files (pieces_in_delta way)
  delta_way_files_are p o n Unchanged is parts = refl
  delta_way_files_are p o n NewRows is parts = absurd (false≢true (sym parts))
  delta_way_files_are p o n (OfChild d) is parts = let of = passed_child p o n is.1 in delta_files_are d of.0 of.1 of.2 of.3
  delta_way_files_are p o n (OfDistinct r d) is parts =
      let of = distinct_child p is.2 in both (files_of r) (delta_files d) (pieces_of r) (pieces_of_delta d) (files_are r p o is.1) (delta_files_are d of.0 o n of.1)
  delta_way_files_are p o n (OfJoin d r) is parts =
      let of = two_sides p is.1 in
      both (delta_files d) (files_of r) (pieces_of_delta d) (pieces_of r) (delta_files_are d of.0 (lefts of.0 o) (lefts of.0 n) of.2.1) (files_are r of.1 (rights of.0 n) of.2.2)
