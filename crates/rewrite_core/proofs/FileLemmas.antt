-- The files of scans, and the ids among joined files.
use Rattle.std.proofs.Common.{◌≡◌, ℕ, zero, suc, ◌+◌, ◌-◌, List, [], ◌∷◌, ◌++◌, length, refl, ap, ◌∙◌}
use Rattle.std.proofs.lemmas.List.{append_assoc, append-nil}
use Rattle.plan_core.specs.PlainPlan.{PlainPlan, Scan, Filter, Project, Distinct, Group, Join, Concat, Order}
use Rattle.estimator.specs.Cuts.{Cuts}
use Rattle.rewrite_core.specs.Files.{FileName, Extent, Result, extents_from, scan_files, new_files, ids_in}

pub ids_of_joined : (xs ys : List FileName) → ids_in (xs ++ ys) ≡ ids_in xs ++ ids_in ys
ids_of_joined [] ys = refl
ids_of_joined (Extent stream number ∷ xs) ys = ids_of_joined xs ys
ids_of_joined (Result id ∷ xs) ys = ap (λ (l : List ℕ). id ∷ l) (ids_of_joined xs ys)

pub ids_of_extents : (stream number count : ℕ) → ids_in (extents_from stream number count) ≡ []
ids_of_extents stream number zero = refl
ids_of_extents stream number (suc count) = ids_of_extents stream (number + 1) count

pub ids_of_scan : (p : PlainPlan) (c : Cuts) → ids_in (scan_files p c) ≡ []
ids_of_scan (Scan stream) [] = refl
ids_of_scan (Scan stream) (cut ∷ []) = ids_of_extents stream cut.from (cut.to - cut.from)
ids_of_scan (Scan stream) (cut ∷ next ∷ cuts) = refl
ids_of_scan (Filter child test) c = refl
ids_of_scan (Project child columns) c = refl
ids_of_scan (Distinct child) c = refl
ids_of_scan (Group child keys aggs) c = refl
ids_of_scan (Join l r on) c = refl
ids_of_scan (Concat l r) c = refl
ids_of_scan (Order child keys) c = refl

pub ids_of_new : (p : PlainPlan) (old new : Cuts) → ids_in (new_files p old new) ≡ []
ids_of_new (Scan stream) [] new = refl
ids_of_new (Scan stream) (old ∷ []) [] = refl
ids_of_new (Scan stream) (old ∷ []) (new ∷ []) = ids_of_extents stream old.to (new.to - old.to)
ids_of_new (Scan stream) (old ∷ []) (new ∷ next ∷ news) = refl
ids_of_new (Scan stream) (old ∷ next ∷ olds) new = refl
ids_of_new (Filter child test) old new = refl
ids_of_new (Project child columns) old new = refl
ids_of_new (Distinct child) old new = refl
ids_of_new (Group child keys aggs) old new = refl
ids_of_new (Join l r on) old new = refl
ids_of_new (Concat l r) old new = refl
ids_of_new (Order child keys) old new = refl

pub length_of_extents : (stream number count : ℕ) → length (extents_from stream number count) ≡ count
length_of_extents stream number zero = refl
length_of_extents stream number (suc count) = ap suc (length_of_extents stream (number + 1) count)

pub ruleset of_ids = (ids_of_joined, ids_of_scan, ids_of_new, append_assoc, append-nil)
