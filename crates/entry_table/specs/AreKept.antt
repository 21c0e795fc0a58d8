-- What is true of the kept results that work and collections make of none.
use Rattle.std.specs.Prelude.{◌≡◌, ℕ, ◌<◌, ◌≤◌, nat_lt, List, [], ◌∷◌, length, IsTrue}
use Rattle.std.specs.Coded.{Coded-set, coded_bool, le_prop}
use Rattle.std.specs.List.{AllByRecursion, AllByRecursion-prop, list_all}
use Rattle.plan_spelling.specs.Spelling.{plan_spelling}
use Rattle.catalog_types.specs.PlainEntry.{PlainEntry}
use Rattle.entry_table.specs.Ids.{ids_of, ascend_above}
use Rattle.rows_core.specs.Limits.{most_entries, most_plan_bytes, most_result_bytes}
use Rattle.entry_table.specs.Work.{Kept, most_uses}

-- it was used at least once, which is its making, its machine time isn't 0, and its file and its plan's spelling are short
-- enough
pub record IsEntry (e : PlainEntry) : Type 0 where
  pub used : 0 < e.uses
  pub counted : e.uses ≤ most_uses
  pub machine : 0 < e.machine
  pub short : e.file.len ≤ most_result_bytes
  pub plan : length (plan_spelling e.plan) ≤ most_plan_bytes

-- it was made at or before its last use, which was at or before this tick
abbrev pub IsPast : ℕ → PlainEntry → Type 0
IsPast tick e = (e.made ≤ e.last) × (e.last ≤ tick)

-- they are of the same plan and cut
abbrev pub AreAlike : PlainEntry → PlainEntry → Type 0
AreAlike e other = (e.plan ≡ other.plan) × (e.cuts ≡ other.cuts)

abbrev pub NoTwoAreAlike : List PlainEntry → Type 0
NoTwoAreAlike [] = Unit {0}
NoTwoAreAlike (e ∷ entries) = AllByRecursion (λ other. ¬ (AreAlike e other)) entries × NoTwoAreAlike entries

-- The ids ascend from 1 on and are below the next one, no two entries have the same plan and cut, and there are few enough.
pub record AreKept (k : Kept) : Type 0 where
  pub first : 0 < k.next_id
  pub ascend : IsTrue (ascend_above 0 (ids_of k.entries))
  pub below : IsTrue (list_all (λ id. nat_lt id k.next_id) (ids_of k.entries))
  pub few : length k.entries ≤ most_entries
  pub are_entries : AllByRecursion IsEntry k.entries
  pub differ : NoTwoAreAlike k.entries

-- ---- each of these facts has one proof, so that it may stand in a field

pub IsEntry-prop : (e : PlainEntry) → IsProp (IsEntry e)
IsEntry-prop e x y = λ i. record {
  used = le_prop x.used y.used i;
  counted = le_prop x.counted y.counted i;
  machine = le_prop x.machine y.machine i;
  short = le_prop x.short y.short i;
  plan = le_prop x.plan y.plan i;
}

pub not-prop : (A : Type 0) → IsProp (¬ A)
not-prop A x y = λ i a. (let same : x a ≡ y a = absurd (x a) in same i)

pub NoTwoAreAlike-prop : (entries : List PlainEntry) → IsProp (NoTwoAreAlike entries)
NoTwoAreAlike-prop [] x y = λ i. tt
NoTwoAreAlike-prop (e ∷ entries) x y = λ i.
    (AllByRecursion-prop (λ other. ¬ (AreAlike e other)) (λ other. not-prop (AreAlike e other)) entries x.0 y.0 i, NoTwoAreAlike-prop entries x.1 y.1 i)

pub AreKept-prop : (k : Kept) → IsProp (AreKept k)
AreKept-prop k x y = λ i. record {
  first = le_prop x.first y.first i;
  ascend = Coded-set coded_bool _ _ x.ascend y.ascend i;
  below = Coded-set coded_bool _ _ x.below y.below i;
  few = le_prop x.few y.few i;
  are_entries = AllByRecursion-prop IsEntry IsEntry-prop k.entries x.are_entries y.are_entries i;
  differ = NoTwoAreAlike-prop k.entries x.differ y.differ i;
}
