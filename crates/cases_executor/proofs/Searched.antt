-- A rewriting over the kept results can be run over the files.
use Rattle.std.proofs.Common.{◌≡◌, refl, sym, subst, ℕ, ◌<◌, List, [], ◌∷◌, length, IsOk}
use Rattle.std.specs.List.{AllByRecursion}
use Rattle.std.proofs.lemmas.List.Elements.{All-contains, All-from_recursion}
use Rattle.rows_core.specs.declared.file_ref.FileRef.{FileRef}
use Rattle.plan_core.specs.PlainPlan.{PlainPlan, plan_of}
use Rattle.plan_core.specs.PlanTyping.{plan_typing}
use Rattle.plan_core.specs.TypedPlan.{TypedPlan, IsTypedOver}
use Rattle.estimator.specs.Bytes.{IsCutOf}
use Rattle.estimator.specs.Cuts.{Cuts}
use Rattle.rewrite_core.specs.Entries.{Entries}
use Rattle.rewrite_core.specs.Files.{FileName, Extent, Result, files_of}
use Rattle.rewrite_core.specs.IsRewriting.{IsRewriting, IsWay, whichever}
use Rattle.rewrite_core.specs.PlainRewriting.{PlainRewriting, Node, rewriting_of}
use Rattle.rewrite_core.specs.declared.rewriting.Rewriting.{Rewriting}
use Rattle.growth_laws.specs.Parts.{plan_at, cuts_at}
use Rattle.growth_laws.specs.There.{IsThere}
use Rattle.executor.specs.Parts.{IsFormed}
use Rattle.cases_executor.specs.Filed.{counts_of, HasFile, IsFiled, CanRun}
use Rattle.cases_executor.specs.declared.shelf.KeptFile.{KeptFile}
use Rattle.cases_executor.specs.declared.shelf.Shelf.{Shelf}

-- ---- a rewriting is one of its own plan and cut

own_root : (q : PlainPlan) (c : Cuts) (r : PlainRewriting) → IsRewriting whichever q c r → IsFormed r
own_root q c (Node p d way) h = (refl, refl, subst (λ (x : PlainPlan). IsWay whichever x d way) (sym h.0) (subst (λ (y : Cuts). IsWay whichever q y way) (sym h.1) h.2))

own_plan : (q : PlainPlan) (c : Cuts) (r : PlainRewriting) → IsRewriting whichever q c r → plan_at r ≡ q
own_plan q c (Node p d way) h = h.0

own_cuts : (q : PlainPlan) (c : Cuts) (r : PlainRewriting) → IsRewriting whichever q c r → cuts_at r ≡ c
own_cuts q c (Node p d way) h = h.1

-- ---- each named file is there

all_filed : (extents : List (List FileRef)) (kept : List KeptFile) (entries : Entries) (names : List FileName) → AllByRecursion (IsFiled kept) entries
    → AllByRecursion (IsThere entries (counts_of extents)) names → AllByRecursion (HasFile extents kept) names
all_filed extents kept entries [] filed there = tt
all_filed extents kept entries (Extent stream number ∷ names) filed there = (there.0, all_filed extents kept entries names filed there.1)
all_filed extents kept entries (Result id ∷ names) filed there =
    let below : there.0.0.id < length kept = All-contains (IsFiled kept) entries there.0.0 (All-from_recursion (IsFiled kept) entries filed) there.0.1 in
    (subst (λ (n : ℕ). n < length kept) there.0.2 below, all_filed extents kept entries names filed there.1)

pub can_run : (shelf : Shelf) (typed : TypedPlan) (c : Cuts) (entries : Entries) (tree : Rewriting) → IsTypedOver shelf.schemas.kinds typed → AllByRecursion (IsFiled shelf.kept.items) entries
    → IsCutOf shelf.lens.lens typed.plan c → IsRewriting whichever typed.plan c (rewriting_of tree)
    → AllByRecursion (IsThere entries (counts_of shelf.extents)) (files_of (rewriting_of tree)) → CanRun shelf tree
can_run shelf typed c entries tree over filed cut is there =
    let same_plan : plan_of tree.plan ≡ typed.plan = own_plan typed.plan c (rewriting_of tree) is in
    let same_cuts : tree.cuts ≡ c = own_cuts typed.plan c (rewriting_of tree) is in
    record {
      formed = own_root typed.plan c (rewriting_of tree) is;
      cuts = subst (λ (p : PlainPlan). IsCutOf shelf.lens.lens p tree.cuts) (sym same_plan) (subst (λ (d : Cuts). IsCutOf shelf.lens.lens typed.plan d) (sym same_cuts) cut);
      typed = subst (λ (p : PlainPlan). IsOk (plan_typing shelf.schemas.kinds p)) (sym same_plan) (subst IsOk (sym over) refl);
      there = all_filed shelf.extents shelf.kept.items entries (files_of (rewriting_of tree)) filed there;
    }
