-- Lists of new results with one more at their ends.
use Rattle.std.proofs.Common.{◌≡◌, refl, ap, ◌∙◌, ℕ, zero, suc, ◌+◌, ◌<◌, List, [], ◌∷◌, ◌++◌, length, arith}
use Rattle.std.specs.List.{AllByRecursion}
use Rattle.catalog_types.specs.PlainEntry.{PlainEntry, PlainNewEntry}
use Rattle.entry_table.specs.Results.{IsOf, HaveNextFiles, Differ}
use Rattle.rows_core.specs.Limits.{file_end}

pub all-behind : {A : Type 0} (P : A → Type 0) (xs : List A) (x : A) → AllByRecursion P xs → P x → AllByRecursion P (xs ++ x ∷ [])
all-behind P [] x all one = (one, tt)
all-behind P (y ∷ xs) x all one = (all.0, all-behind P xs x all.1 one)

pub differ-behind : (news : List PlainNewEntry) (new : PlainNewEntry) → Differ news → AllByRecursion (λ (other : PlainNewEntry). ¬ (IsOf other.plan other.cuts new)) news → Differ (news ++ new ∷ [])
differ-behind [] new differ others = (tt, tt)
differ-behind (x ∷ news) new differ others =
    (all-behind (λ (other : PlainNewEntry). ¬ (IsOf x.plan x.cuts other)) news new differ.0 others.0, differ-behind news new differ.1 others.1)

pub files-behind : (file : ℕ) (news : List PlainNewEntry) (new : PlainNewEntry) → HaveNextFiles file news → new.file.file ≡ file + length news → file + length news < file_end
    → HaveNextFiles file (news ++ new ∷ [])
files-behind file [] new have is less = (omega (arith, is), omega (arith, less), tt)
files-behind file (x ∷ news) new have is less = (have.0, have.1, files-behind (file + 1) news new have.2 (omega (arith, is)) (omega (arith, less)))
