-- Lists of pieces that are put behind each other.
use Rattle.std.proofs.Common.{◌≡◌, refl, sym, ap, subst, ◌∙◌, Bool, true, false, List, [], ◌∷◌, ◌++◌, drop, if◌then◌else◌}
use Rattle.std.proofs.lemmas.List.{append_assoc, append-nil, map-append}
use Rattle.plan_core.specs.PlainPlan.{PlainPlan}
use Rattle.estimator.specs.Cuts.{Cuts}
use Rattle.rewrite_core.specs.declared.rewriting.Hit.{Hit}
use Rattle.rewrite_core.specs.declared.rewriting.Parts as parts
use Rattle.rewrite_core.specs.PlainRewriting.{Node, PlainWay, grown_way}
use Rattle.growth_laws.specs.Pieces.{Piece, Entry, Gathered, is_gathered, pieces_in, pieces_of}

pub ruleset of_joined = (append_assoc, append-nil, map-append)

entry_first : (p : PlainPlan) (hit : Hit) (of : parts.Parts) → pieces_in p (grown_way hit of) ≡ Entry p hit.id ∷ drop 1 (pieces_in p (grown_way hit of))
entry_first p hit (parts.Tail' _ _ _ _) = refl
entry_first p hit (parts.LeftGrew' _ _ _ _ _ _ _) = refl
entry_first p hit (parts.RightGrew' _ _ _ _ _ _ _) = refl
entry_first p hit (parts.BothGrew' _ _ _ _ _ _ _ _ _ _ _ _ _ _) = refl

not_chosen : {A : Type 0} (test : Bool) (x y : A) → test ≡ false → (if test then x else y) ≡ y
not_chosen true x y is = absurd (cc)
not_chosen false x y is = refl

-- what is read of a grown result that is no piece by itself: its kept one, and what is behind that
grown_pieces : (p : PlainPlan) (c : Cuts) (hit : Hit) (of : parts.Parts) (before mid after : List Piece)
    → is_gathered (Node p c (grown_way hit of)) ≡ false → mid ≡ before ++ Entry p hit.id ∷ []
    → after ≡ mid ++ drop 1 (pieces_in p (grown_way hit of)) → after ≡ before ++ pieces_of (Node p c (grown_way hit of))
grown_pieces p c hit of before mid after whole entry behind =
    let rest : List Piece = drop 1 (pieces_in p (grown_way hit of)) in
    let first : mid ++ rest ≡ (before ++ Entry p hit.id ∷ []) ++ rest = ap (λ (l : List Piece). l ++ rest) entry in
    let joined : (before ++ Entry p hit.id ∷ []) ++ rest ≡ before ++ (Entry p hit.id ∷ rest) = append_assoc before (Entry p hit.id ∷ []) rest in
    let named : before ++ (Entry p hit.id ∷ rest) ≡ before ++ pieces_in p (grown_way hit of) = ap (λ (l : List Piece). before ++ l) (sym (entry_first p hit of)) in
    let chosen : pieces_in p (grown_way hit of) ≡ pieces_of (Node p c (grown_way hit of)) =
    sym (not_chosen (is_gathered (Node p c (grown_way hit of))) (Gathered p c ∷ []) (pieces_in p (grown_way hit of)) whole) in
    behind ∙ first ∙ joined ∙ named ∙ ap (λ (l : List Piece). before ++ l) chosen

pub pieces_of_grown : (p : PlainPlan) (c : Cuts) (way : PlainWay) (hit : Hit) (of : parts.Parts) (before mid after : List Piece)
    → way ≡ grown_way hit of → is_gathered (Node p c way) ≡ false → mid ≡ before ++ Entry p hit.id ∷ []
    → after ≡ mid ++ drop 1 (pieces_in p (grown_way hit of)) → after ≡ before ++ pieces_of (Node p c way)
pieces_of_grown p c way hit of before mid after is whole entry behind =
    subst (λ (w : PlainWay). after ≡ before ++ pieces_of (Node p c w)) (sym is)
    (grown_pieces p c hit of before mid after (subst (λ (w : PlainWay). is_gathered (Node p c w) ≡ false) is whole) entry behind)
