-- Pieces of a table, and their files.
use Rattle.std.proofs.Common.{◌≡◌, refl, ap, ◌∙◌, subst, ℕ, zero, suc, ◌+◌, ◌-◌, ◌<◌, ◌==◌, List, [], ◌∷◌, length, arith}
use Rattle.std.specs.Prelude.{IsTrue}
use Rattle.std.specs.List.{AllByRecursion, Contains, flat_map}
use Rattle.std.proofs.lemmas.Bool.{eq-eqb}
use Rattle.std.proofs.lemmas.List.Folds.{list_any_at}
use Rattle.plan_core.specs.PlainPlan.{PlainPlan, leaves}
use Rattle.plan_laws.proofs.ValidPlans.{all-append}
use Rattle.estimator.specs.Bytes.{Lengths, lengths_at, AreInStreams}
use Rattle.estimator.specs.Cuts.{Cuts, added_cuts}
use Rattle.rewrite_core.specs.declared.rewriting.Hit.{Hit}
use Rattle.rewrite_core.specs.Entries as rewrite
use Rattle.rewrite_core.specs.Entries.{entry_of}
use Rattle.rewrite_core.specs.Files.{FileName, Extent, Result, extents_from, ids_in}
use Rattle.rewrite_core.specs.IsRewriting.{IsRewriting}
use Rattle.rewrite_core.specs.PlainRewriting.{PlainRewriting}
use Rattle.rewriter.specs.InStreams.{IsInStreams}
use Rattle.growth_laws.specs.Pieces.{Piece, Entry, Gathered, pieces_of, piece_files, gathered_files}
use Rattle.growth_laws.specs.There.{ExtentCounts, EndWithin}
use Rattle.cache_index.specs.Asked.{asked}
use Rattle.catalog_types.specs.PlainEntry.{PlainEntry}
use Rattle.entry_table.specs.Ids.{is_there}
use Rattle.catalog_core.specs.Named.{HasFile, lengths_of}
use Rattle.catalog_core.specs.Table.{Table}
use Rattle.catalog_core.proofs.AskedResults.{asked-is}
use Rattle.plan_choice.specs.Pieces.{counts_of, IsPieceOf}
use Rattle.plan_choice.specs.Taken.{kept_in}
use Rattle.plan_choice.proofs.NamedPieces.{pieces_hold}

-- ---- cuts within the extents

module _ (lengths : Lengths) (counts : ExtentCounts) (same : (stream : ℕ) → length (lengths_at lengths stream) ≡ counts stream) where
  whole_within : (ls : List ℕ) (cuts : Cuts) → AreInStreams lengths ls cuts → EndWithin counts ls cuts
  whole_within [] [] are = tt
  whole_within [] (cut ∷ cuts) are = absurd are
  whole_within (l ∷ ls) [] are = absurd are
  whole_within (l ∷ ls) (cut ∷ cuts) are = (omega (arith, are.1, same l), whole_within ls cuts are.2)

  added_within : (ls : List ℕ) (old new : Cuts) → AreInStreams lengths ls old → AreInStreams lengths ls new → EndWithin counts ls (added_cuts old new)
  added_within [] [] [] before after = tt
  added_within [] [] (n ∷ new) before after = absurd after
  added_within [] (o ∷ old) new before after = absurd before
  added_within (l ∷ ls) [] new before after = absurd before
  added_within (l ∷ ls) (o ∷ old) [] before after = absurd after
  added_within (l ∷ ls) (o ∷ old) (n ∷ new) before after = (omega (arith, after.1, same l), added_within ls old new before.2 after.2)

-- ---- the pieces of a rewriting

module _ (t : Table) (same : (stream : ℕ) → length (lengths_at (lengths_of t.streams) stream) ≡ counts_of t.streams stream) where
  kept_piece : (plan : PlainPlan) (hit : Hit) → Contains (asked [] t.entries) (entry_of plan hit) → IsPieceOf t (Entry plan hit.id)
  kept_piece plan hit has =
      let e = asked-is [] t.entries (entry_of plan hit) has in
      (e.0, e.1, ap (λ (x : rewrite.Entry). x.plan) e.2, ap (λ (x : rewrite.Entry). x.id) e.2)

  pub pieces_of_table : (r : PlainRewriting) (plan : PlainPlan) (cuts : Cuts) → IsRewriting (kept_in (asked [] t.entries)) plan cuts r → IsInStreams (lengths_of t.streams) r → AllByRecursion (IsPieceOf t) (pieces_of r)
  pieces_of_table =
      pieces_hold (asked [] t.entries) (lengths_of t.streams) (IsPieceOf t) kept_piece
      (λ plan cuts are. whole_within (lengths_of t.streams) (counts_of t.streams) same (leaves plan) cuts are)
      (λ plan old new are. added_within (lengths_of t.streams) (counts_of t.streams) same (leaves plan) old new are.before are.after)

-- ---- their files

module _ (t : Table) where
  abbrev Are : List FileName → Type 0
  Are = AllByRecursion (HasFile t)

  entry_there : (e : PlainEntry) → Contains t.entries e → IsTrue (is_there t.entries e.id)
  entry_there e has =
      list_any_at (λ (x : PlainEntry). x.id == e.id) t.entries has.0 e has.1 (ap (λ (x : PlainEntry). x.id == e.id) has.2 ∙ eq-eqb e.id e.id refl)

  extents_there : (stream number count : ℕ) → ((k : ℕ) → k < count → number + k < counts_of t.streams stream) → Are (extents_from stream number count)
  extents_there stream number zero there = tt
  extents_there stream number (suc count) there =
      ((let first = there 0 (omega arith) in omega (arith, first)), extents_there stream (number + 1) count (λ k less. (let next = there (suc k) (omega (arith, less)) in omega (arith, next))))

  gathered_there : (ls : List ℕ) (cuts : Cuts) → EndWithin (counts_of t.streams) ls cuts → Are (gathered_files ls cuts)
  gathered_there (stream ∷ []) (cut ∷ []) within = extents_there stream cut.from (cut.to - cut.from) (λ k less. omega (arith, less, within.0))
  gathered_there _ _ within = tt

  piece_there : (piece : Piece) → IsPieceOf t piece → Are (piece_files piece)
  piece_there (Entry plan id) is = (subst (λ (n : ℕ). IsTrue (is_there t.entries n)) is.3 (entry_there is.0 is.1), tt)
  piece_there (Gathered plan cuts) is = gathered_there (leaves plan) cuts is

  pub files_there : (pieces : List Piece) → AllByRecursion (IsPieceOf t) pieces → Are (flat_map piece_files pieces)
  files_there [] all = tt
  files_there (piece ∷ pieces) all = all-append (HasFile t) (piece_files piece) (flat_map piece_files pieces) (piece_there piece all.0) (files_there pieces all.1)

  pub ids_there : (names : List FileName) → Are names → AllByRecursion (λ (id : ℕ). IsTrue (is_there t.entries id)) (ids_in names)
  ids_there [] all = tt
  ids_there (Extent stream number ∷ names) all = ids_there names all.1
  ids_there (Result id ∷ names) all = (all.0, ids_there names all.1)
