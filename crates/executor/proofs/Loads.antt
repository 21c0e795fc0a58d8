-- Loaded pieces of one part after another.
use Rattle.std.proofs.Common.{◌≡◌, refl, ap, subst, ◌∙◌, true, false, List, [], ◌∷◌, ◌++◌, append_assoc, cond}
use Rattle.plan_core.specs.PlainPlan.{PlainPlan}
use Rattle.plan_core.specs.PlainPlan as plan
use Rattle.plan_core.specs.PlanTyping.{Kinds}
use Rattle.estimator.specs.Cuts.{Cuts, added_cuts}
use Rattle.rewrite_core.specs.declared.rewriting.Hit.{Hit}
use Rattle.rewrite_core.specs.declared.rewriting.Parts as parts
use Rattle.rewrite_core.specs.PlainRewriting.{Node, PlainWay, Change, PlainDeltaWay, grown_way}
use Rattle.growth_laws.specs.KeptResults.{KeptResults}
use Rattle.growth_laws.specs.Lists.{Extents}
use Rattle.growth_laws.specs.Pieces.{Piece, Entry, Gathered, is_gathered, is_chain_delta, pieces_of, pieces_in, pieces_of_delta, pieces_in_delta}
use Rattle.growth_laws.proofs.PieceFiles.{scan_is_gathered}
use Rattle.executor.specs.Loading.{Loads, HoldAll, AreFit}
use Rattle.executor.specs.Parts.{pieces_behind}

-- ---- of two, three and four parts

pub two : (a b rest : List Piece) → (a ++ b) ++ rest ≡ a ++ (b ++ rest)
two a b rest = append_assoc a b rest

pub four : (a b c d rest : List Piece) → (((a ++ b) ++ c) ++ d) ++ rest ≡ a ++ (b ++ (c ++ (d ++ rest)))
four a b c d rest = two ((a ++ b) ++ c) d rest ∙ two (a ++ b) c (d ++ rest) ∙ two a b (c ++ (d ++ rest))

module _ (schemas : List Kinds) (loads : Loads) where
  pub fit_two : (a b rest : List Piece) → AreFit schemas ((a ++ b) ++ rest) loads → AreFit schemas (a ++ (b ++ rest)) loads
  fit_two a b rest are = subst (λ ps. AreFit schemas ps loads) (two a b rest) are

  pub fit_four : (a b c d rest : List Piece) → AreFit schemas ((((a ++ b) ++ c) ++ d) ++ rest) loads → AreFit schemas (a ++ (b ++ (c ++ (d ++ rest)))) loads
  fit_four a b c d rest are = subst (λ ps. AreFit schemas ps loads) (four a b c d rest) are

module _ (extents : Extents) (results : KeptResults) (loads : Loads) where
  pub hold_two : (a b rest : List Piece) → HoldAll extents results ((a ++ b) ++ rest) loads → HoldAll extents results (a ++ (b ++ rest)) loads
  hold_two a b rest all = subst (λ ps. HoldAll extents results ps loads) (two a b rest) all

  pub hold_four : (a b c d rest : List Piece) → HoldAll extents results ((((a ++ b) ++ c) ++ d) ++ rest) loads → HoldAll extents results (a ++ (b ++ (c ++ (d ++ rest)))) loads
  hold_four a b c d rest all = subst (λ ps. HoldAll extents results ps loads) (four a b c d rest) all

-- ---- of a tree

module _ (p : PlainPlan) (c : Cuts) (way : PlainWay) where
  pub gathered_pieces : is_gathered (Node p c way) ≡ true → pieces_of (Node p c way) ≡ Gathered p c ∷ []
  gathered_pieces is = ap (λ b. cond b (Gathered p c ∷ []) (pieces_in p way)) is

  pub other_pieces : is_gathered (Node p c way) ≡ false → pieces_of (Node p c way) ≡ pieces_in p way
  other_pieces is = ap (λ b. cond b (Gathered p c ∷ []) (pieces_in p way)) is

module _ (p : PlainPlan) (old new : Cuts) (way : PlainDeltaWay) where
  pub gathered_delta_pieces : is_chain_delta (Change p old new way) ≡ true → pieces_of_delta (Change p old new way) ≡ Gathered p (added_cuts old new) ∷ []
  gathered_delta_pieces is = ap (λ b. cond b (Gathered p (added_cuts old new) ∷ []) (pieces_in_delta way)) is

  pub other_delta_pieces : is_chain_delta (Change p old new way) ≡ false → pieces_of_delta (Change p old new way) ≡ pieces_in_delta way
  other_delta_pieces is = ap (λ b. cond b (Gathered p (added_cuts old new) ∷ []) (pieces_in_delta way)) is

-- ---- of a grown result, behind its earlier one

pub grown_pieces : (hit : Hit) (p : PlainPlan) (of : parts.Parts) → pieces_in p (grown_way hit of) ≡ Entry p hit.id ∷ pieces_behind (grown_way hit of)
grown_pieces hit p (parts.Tail' _ _ _ _) = refl
grown_pieces hit p (parts.LeftGrew' _ _ _ _ _ _ _) = refl
grown_pieces hit p (parts.RightGrew' _ _ _ _ _ _ _) = refl
grown_pieces hit p (parts.BothGrew' _ _ _ _ _ _ _ _ _ _ _ _ _ _) = refl
