-- What follows of parts of which nothing is read yet.
use Rattle.std.proofs.Common.{◌≡◌, refl, sym, ap, ◌∙◌, subst, ℕ, ◌-◌, ◌++◌, List, [], ◌∷◌, Option, arith}
use Rattle.std.specs.Option.{IfSome}
use Rattle.std.specs.List.{AllByRecursion, flat_map}
use Rattle.rows_core.specs.declared.cut.Cut.{Cut}
use Rattle.row_blob.specs.Kept.{AreEach}
use Rattle.plan_core.specs.Columns.{Rows}
use Rattle.plan_core.specs.PlanTyping.{Kinds}
use Rattle.estimator.specs.Cuts.{Cuts}
use Rattle.rewrite_core.specs.Files.{FileName, Result, extents_from}
use Rattle.growth_laws.specs.KeptResults.{KeptResults}
use Rattle.growth_laws.specs.Lists.{Extents, extents_of, interval_rows}
use Rattle.growth_laws.specs.Pieces.{Piece, Entry, Gathered, piece_files, gathered_files}
use Rattle.gathering.specs.Gathered.{Gathers}
use Rattle.executor.specs.Pieces.{IsPiece}
use Rattle.executor.proofs.Typings.{kinds_there}
use Rattle.executor.specs.declared.part.Part.{Part}
use Rattle.executor.specs.declared.part.Part.TheVariants as part
use Rattle.executor.specs.Beginning.{IsOnlyInterval, IsBegun}
use Rattle.executor.specs.Loading.{IsFitLoad}
use Rattle.executor.specs.Progress.{Loaded, files_left, left_in, up_to, IsLoadOf, IsPartOf, ArePartsOf, HasRead, HaveRead}
use Rattle.executor.proofs.ExtentRows.{first_rows}

extents_left : (stream : ℕ) (cuts : Cuts) (next end : ℕ) → IsOnlyInterval cuts next end → extents_from stream next (end - next) ≡ gathered_files (stream ∷ []) cuts
extents_left stream [] next end is = let last : end ≡ 0 = is.1 in let none : end - next ≡ 0 = omega (arith, last) in ap (extents_from stream next) none
extents_left stream (cut ∷ []) next end is = ap (λ n. extents_from stream n (end - n)) is.0 ∙ ap (λ n. extents_from stream cut.from (n - cut.from)) is.1
extents_left stream (cut ∷ c ∷ cs) next end is = let last : end ≡ 0 = is.1 in let none : end - next ≡ 0 = omega (arith, last) in ap (extents_from stream next) none

begun_left : (piece : Piece) (p : Part) → IsBegun piece p → files_left p ≡ piece_files piece
begun_left (Entry plan id) (part.Entry boxed id' loaded) is =
    ap (λ o. files_left (part.Entry boxed id' o)) is.2 ∙ ap (λ n. Result n ∷ []) is.1
begun_left (Entry plan id) (part.Gathered gathering stream next end) is = absurd is
begun_left (Gathered plan cuts) (part.Entry boxed id' loaded) is = absurd is
begun_left (Gathered plan cuts) (part.Gathered gathering stream next end) is =
    extents_left stream cuts next end is.2 ∙ ap (λ (l : List ℕ). gathered_files l cuts) (sym is.1)

pub all_left : (pieces : List Piece) (parts : List Part) → AreEach IsBegun pieces parts → left_in parts ≡ flat_map piece_files pieces
all_left [] [] are = refl
all_left [] (p ∷ parts) are = absurd are
all_left (piece ∷ pieces) [] are = absurd are
all_left (piece ∷ pieces) (p ∷ parts) are =
    ap (λ (l : List FileName). l ++ left_in parts) (begun_left piece p are.0) ∙ ap (λ (l : List FileName). piece_files piece ++ l) (all_left pieces parts are.1)

begun_part : (schemas : List Kinds) (piece : Piece) (p : Part) → IsPiece schemas piece → IsBegun piece p → IsPartOf schemas piece p
begun_part schemas (Entry plan id) (part.Entry boxed id' loaded) typed is =
    (is.0, is.1, record { typed = typed; fit = subst (λ (o : Option Loaded). IfSome o (IsFitLoad schemas plan)) (sym is.2) tt })
begun_part schemas (Entry plan id) (part.Gathered gathering stream next end) typed is = absurd is
begun_part schemas (Gathered plan cuts) (part.Entry boxed id' loaded) typed is = absurd is
begun_part schemas (Gathered plan cuts) (part.Gathered gathering stream next end) typed is =
    record { typed = typed.0; one = typed.1; of_plan = is.0; of_stream = is.1; fed = []; gathers = is.3 schemas (kinds_there schemas plan typed.0) }

begun_read : (schemas : List Kinds) (extents : Extents) (results : KeptResults) (piece : Piece) (p : Part) → IsPiece schemas piece → IsBegun piece p → HasRead schemas extents results piece p
begun_read schemas extents results (Entry plan id) (part.Entry boxed id' loaded) typed is =
    subst (λ (o : Option Loaded). IfSome o (IsLoadOf plan (results id))) (sym is.2) tt
begun_read schemas extents results (Entry plan id) (part.Gathered gathering stream next end) typed is = absurd is
begun_read schemas extents results (Gathered plan cuts) (part.Entry boxed id' loaded) typed is = absurd is
begun_read schemas extents results (Gathered plan cuts) (part.Gathered gathering stream next end) typed is =
    λ (cut : Cut) (one : cuts ≡ cut ∷ []).
    let ends : (next ≡ cut.from) × (end ≡ cut.to) = subst (λ (cs : Cuts). IsOnlyInterval cs next end) one is.2 in
    let starts : next ≡ cut.from = ends.0 in
    let none : interval_rows (extents_of extents stream) (up_to cut next) ≡ [] = ap (λ n. interval_rows (extents_of extents stream) (up_to cut n)) starts ∙ first_rows extents stream cut in
    record {
      ends = ends.1;
      begun = omega (arith, starts);
      within = omega (arith, starts);
      gathers = subst (λ (rows : Rows). Gathers schemas rows gathering) (sym none) (is.3 schemas (kinds_there schemas plan typed.0));
    }

pub all_parts : (schemas : List Kinds) (pieces : List Piece) (parts : List Part) → AllByRecursion (IsPiece schemas) pieces → AreEach IsBegun pieces parts → ArePartsOf schemas pieces parts
all_parts schemas [] [] typed are = tt
all_parts schemas [] (p ∷ parts) typed are = absurd are
all_parts schemas (piece ∷ pieces) [] typed are = absurd are
all_parts schemas (piece ∷ pieces) (p ∷ parts) typed are = (begun_part schemas piece p typed.0 are.0, all_parts schemas pieces parts typed.1 are.1)

pub all_read : (schemas : List Kinds) (extents : Extents) (results : KeptResults) (pieces : List Piece) (parts : List Part) → AllByRecursion (IsPiece schemas) pieces → AreEach IsBegun pieces parts
    → HaveRead schemas extents results pieces parts
all_read schemas extents results [] [] typed are = tt
all_read schemas extents results [] (p ∷ parts) typed are = absurd are
all_read schemas extents results (piece ∷ pieces) [] typed are = absurd are
all_read schemas extents results (piece ∷ pieces) (p ∷ parts) typed are =
    (begun_read schemas extents results piece p typed.0 are.0, all_read schemas extents results pieces parts typed.1 are.1)
