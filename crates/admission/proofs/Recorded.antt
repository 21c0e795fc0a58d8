-- The results that are admitted may be kept.
use Rattle.std.proofs.Common.{◌≡◌, refl, sym, ap, ◌∙◌, subst, inl, inr, ℕ, ◌+◌, ◌<◌, ◌≤◌, Bool, true, false, cond, List, [], ◌∷◌, ◌++◌, length, map, length-append, not, IsTrue, arith}
use Rattle.std.specs.List.{AllByRecursion}
use Rattle.std.proofs.lemmas.Bool.{false≢true}
use Rattle.std.proofs.lemmas.List.{length-map, map-append}
use Rattle.catalog_types.specs.PlainEntry.{PlainEntry, PlainNewEntry}
use Rattle.entry_table.specs.Ids.{is_among, without}
use Rattle.entry_table.specs.Results.{IsResult, IsShort, IsNewTo, IsOf, HaveNextFiles, Differ, MayBeKept}
use Rattle.rows_core.specs.Limits.{most_entries}
use Rattle.entry_table.proofs.Lists.{without-within}
use Rattle.admission.specs.declared.new_result.NewResult.{NewResult}
use Rattle.admission.specs.Admitting.{MadeResult, kept_in, entries_of, IsOther, MayBeAdmitted, next_of, Admits}
use Rattle.admission.proofs.Behind.{all-behind, differ-behind, files-behind}

-- a result that none of those has which stay is new to all
new-to : (file : ℕ) (made : MadeResult) (dropped : List ℕ) (entries : List PlainEntry) → AllByRecursion (λ e. IsOther made e.plan e.cuts) (without dropped entries)
    → IsNewTo entries dropped (kept_in file made).entry
new-to file made dropped [] others = tt
new-to file made dropped (e ∷ entries) others = by (not (is_among dropped e.id)) refl others (λ rest. new-to file made dropped entries rest)
  where
    by : (b : Bool) → not (is_among dropped e.id) ≡ b → AllByRecursion (λ e. IsOther made e.plan e.cuts) (cond b (e ∷ without dropped entries) (without dropped entries))
        → (AllByRecursion (λ e. IsOther made e.plan e.cuts) (without dropped entries) → IsNewTo entries dropped (kept_in file made).entry)
        → IsNewTo (e ∷ entries) dropped (kept_in file made).entry
    by true stays others rest = ((λ asked same. others.0 same), rest others.1)
    by false goes others rest = ((λ asked same. absurd (false≢true (sym goes ∙ asked))), rest others)

module _ (entries : List PlainEntry) (dropped : List ℕ) (file : ℕ) where
  -- what is known of those that were admitted so far
  record AreGood (news : List PlainNewEntry) : Type 0 where
    few : length (without dropped entries) + length news ≤ most_entries
    results : AllByRecursion IsResult news
    new : AllByRecursion (IsNewTo entries dropped) news
    differ : Differ news
    files : HaveNextFiles file news
    short : AllByRecursion IsShort news

  others-of : (made : MadeResult) (new : PlainNewEntry) → new.plan ≡ made.plan → new.cuts ≡ made.cuts → (before : List NewResult)
      → AllByRecursion (λ (other : NewResult). IsOther made other.entry.plan other.entry.cuts) before
      → AllByRecursion (λ (other : PlainNewEntry). ¬ (IsOf other.plan other.cuts new)) (entries_of before)
  others-of made new plan cuts [] all = tt
  others-of made new plan cuts (b ∷ before) all = ((λ same. all.0 (same.0 ∙ plan, same.1 ∙ cuts)), others-of made new plan cuts before all.1)

  one-more : (before : List NewResult) (made : MadeResult) → 0 < made.machine → AreGood (entries_of before) → MayBeAdmitted (without dropped entries) file before made
      → AreGood (entries_of before ++ (next_of file before made).entry ∷ [])
  one-more before made timed good may =
      let news = entries_of before in
      let new = (next_of file before made).entry in
      let same = length-map before (λ (result : NewResult). result.entry) in
      let long = length-append news (new ∷ []) in
      let few = may.few in
      record {
        few = omega (arith, few, same, long);
        results = all-behind IsResult news new good.results (may.short_file, timed);
        new = all-behind (IsNewTo entries dropped) news new good.new (new-to (file + length before) made dropped entries may.is_new);
        differ = differ-behind news new good.differ (others-of made new refl refl before may.differs);
        files = files-behind file news new good.files (omega (arith, same)) (let numbered = may.numbered in omega (arith, same, numbered));
        short = all-behind IsShort news new good.short may.short_plan;
      }

  all-good : (before : List NewResult) (mades : List MadeResult) (admitted : List NewResult) → AllByRecursion (λ (made : MadeResult). 0 < made.machine) mades
      → AreGood (entries_of before) → Admits (without dropped entries) file before mades admitted → AreGood (entries_of admitted)
  all-good before [] admitted timed good is = subst (λ (l : List NewResult). AreGood (entries_of l)) (sym is) good
  all-good before (made ∷ mades) admitted timed good (inl is) =
      all-good (before ++ next_of file before made ∷ []) mades admitted timed.1
      (subst AreGood (sym (map-append (λ (result : NewResult). result.entry) before (next_of file before made ∷ []))) (one-more before made timed.0 good is.0)) is.1
  all-good before (made ∷ mades) admitted timed good (inr is) = all-good before mades admitted timed.1 good is.1

  pub all-may-be-kept : length entries ≤ most_entries → (mades : List MadeResult) (admitted : List NewResult) → AllByRecursion (λ (made : MadeResult). 0 < made.machine) mades
      → Admits (without dropped entries) file [] mades admitted → MayBeKept entries dropped file (entries_of admitted)
  all-may-be-kept few mades admitted timed is =
      let stay = without-within dropped entries in
      let good = all-good [] mades admitted timed (record { few = omega (arith, few, stay); results = tt; new = tt; differ = tt; files = tt; short = tt }) is in
      record {
        are_new = record { few = good.few; results = good.results; new = good.new; differ = good.differ };
        files = good.files;
        short = good.short;
      }
