-- What plans and programs see of streams that grow.
use Rattle.std.proofs.Common.{◌≡◌, refl, sym, ap, ◌∙◌, subst, ℕ, zero, suc, ◌≤◌, List, [], ◌∷◌, ◌++◌, length, map, IsOk, length-append, arith}
use Rattle.rows_core.specs.declared.schema.Column.{Column}
use Rattle.rows_core.specs.Schema.{kinds_of}
use Rattle.plan_core.specs.PlainPlan.{PlainPlan, leaves}
use Rattle.plan_core.specs.PlanTyping.{Kinds, plan_typing}
use Rattle.estimator.specs.Cuts.{Cuts}
use Rattle.plan_binder.specs.Binding.{binding}
use Rattle.catalog_types.specs.declared.extent.Extent.{Extent}
use Rattle.catalog_types.specs.declared.program.Program.{Program}
use Rattle.catalog_types.specs.declared.snapshot.StreamState.{StreamState}
use Rattle.catalog_core.specs.Programs.{names_of, columns_of, kinds_of_streams, extents_at, AreCuts, IsProgram}
use Rattle.catalog_core.specs.Results.{IsOver}
use Rattle.catalog_core.proofs.Bindings.{bound-still}
use Rattle.catalog_core.proofs.OverStreams.{cuts-stay}
use Rattle.catalog_core.proofs.Typings.{typed_still}
use Rattle.catalog_core.proofs.StoredPrograms.{as-many}
use Rattle.later_states.specs.Later.{IsGrown, AreGrown}

-- what is the same of each stream stands in front
mapped-grown : {B : Type 0} (h : StreamState → B) → ((old new : StreamState) → IsGrown old new → h new ≡ h old) → (olds news : List StreamState) → AreGrown olds news
    → (more : List B) × (map h news ≡ map h olds ++ more)
mapped-grown h same [] news are = (map h news, refl)
mapped-grown h same (old ∷ olds) [] are = absurd are
mapped-grown h same (old ∷ olds) (new ∷ news) are =
    let rest = mapped-grown h same olds news are.1 in
    (rest.0, λ i. same old new are.0 i ∷ rest.1 i)

pub kinds-grown : (olds news : List StreamState) → AreGrown olds news → (more : List Kinds) × (kinds_of_streams news ≡ kinds_of_streams olds ++ more)
kinds-grown = mapped-grown (λ (x : StreamState). kinds_of x.columns) (λ old new is. ap kinds_of is.columns)

names-grown : (olds news : List StreamState) → AreGrown olds news → (more : List (List ℕ)) × (names_of news ≡ names_of olds ++ more)
names-grown = mapped-grown (λ (x : StreamState). x.name) (λ old new is. is.name)

columns-grown : (olds news : List StreamState) → AreGrown olds news → (more : List (List Column)) × (columns_of news ≡ columns_of olds ++ more)
columns-grown = mapped-grown (λ (x : StreamState). x.columns) (λ old new is. is.columns)

-- so do a stream's extents
pub extents-grown : (olds news : List StreamState) → AreGrown olds news → (leaf : ℕ) → (more : List Extent) × (extents_at news leaf ≡ extents_at olds leaf ++ more)
extents-grown [] news are leaf = (extents_at news leaf, refl)
extents-grown (old ∷ olds) [] are leaf = absurd are
extents-grown (old ∷ olds) (new ∷ news) are zero = (are.0.more, are.0.extents)
extents-grown (old ∷ olds) (new ∷ news) are (suc leaf) = extents-grown olds news are.1 leaf

module _ (olds news : List StreamState) (are : AreGrown olds news) where
  not-fewer : (leaf : ℕ) → length (extents_at olds leaf) ≤ length (extents_at news leaf)
  not-fewer leaf =
      let more = extents-grown olds news are leaf in
      let long = length-append (extents_at olds leaf) more.0 in
      let same = ap (λ (l : List Extent). length l) more.1 in
      omega (arith, long, same)

  pub cuts-grown : (leaves : List ℕ) (cuts : Cuts) → AreCuts olds leaves cuts → AreCuts news leaves cuts
  cuts-grown = cuts-stay olds news not-fewer

  typing-same : (p : PlainPlan) → IsOk (plan_typing (kinds_of_streams olds) p) → plan_typing (kinds_of_streams news) p ≡ plan_typing (kinds_of_streams olds) p
  typing-same p is =
      let kinds = kinds-grown olds news are in
      ap (λ (ks : List Kinds). plan_typing ks p) kinds.1 ∙ typed_still (kinds_of_streams olds) kinds.0 p is

  pub typed-grown : (p : PlainPlan) → IsOk (plan_typing (kinds_of_streams olds) p) → IsOk (plan_typing (kinds_of_streams news) p)
  typed-grown p is = subst IsOk (sym (typing-same p is)) is

  pub over-grown : (p : PlainPlan) (cuts : Cuts) → IsOver olds p cuts → IsOver news p cuts
  over-grown p cuts is = record { typed = typed-grown p is.typed; are_cuts = cuts-grown (leaves p) cuts is.are_cuts }

  -- a program stays one over the streams
  pub program-grown : (program : Program) → IsProgram olds program → IsProgram news program
  program-grown program is =
      let of = is.is_plan in
      let names = names-grown olds news are in
      let columns = columns-grown olds news are in
      record {
        plan = is.plan;
        is_plan = record {
          tree = of.tree;
          canonical = of.canonical;
          bound = (λ i. binding (names.1 i) (columns.1 i) of.tree)
              ∙ bound-still (names_of olds) names.0 (columns_of olds) columns.0 of.tree is.plan (as-many olds) of.bound;
          kinds = of.kinds;
          typed = typing-same is.plan (subst IsOk (sym of.typed) refl) ∙ of.typed;
        };
        are_cuts = cuts-grown (leaves is.plan) program.cuts is.are_cuts;
        short = is.short;
      }
