-- Which entries may be those of a table: those whose plans' spellings, with their cuts, are all different.
use Rattle.std.proofs.Common.{◌≡◌, ◌↔◌, ℕ, ◌<◌, ◌≤◌, Bool, true, false, not, ◌&&◌, ◌||◌, List, [], ◌∷◌, ◌++◌, length, get_or, nat_le, IsTrue, refl, ap, sym, ◌∙◌, arith}
use Rattle.std.specs.Bool.{Decides}
use Rattle.std.specs.Cmp.{unsigned_Decides}
use Rattle.std.specs.Cmp.Lexicographic.{pointwise_decides}
use Rattle.std.specs.List.{AllByRecursion, list_any}
use Rattle.std.proofs.Math.Bool.{or-false}
use Rattle.std.proofs.lemmas.Bool.{false_from_ne_true, or_from, or_parts}
use Rattle.std.proofs.lemmas.Bool.Decides.{Decides-and, Decides-like, not_from_Decides, nat_tests}
use Rattle.std.proofs.lemmas.List.Folds.{list_any-append}
use Rattle.rows_core.specs.declared.cut.Cut.{Cut}
use Rattle.rows_core.specs.contracts.cut.CutPartialEq.TheImpl as cut
use Rattle.plan_spelling.specs.Spelling.{HasPlanSpelling, plan_spelling}
use Rattle.plan_spelling.proofs.Told.{one_spelling}
use Rattle.catalog_types.specs.PlainEntry.{PlainEntry}
use Rattle.entry_table.specs.AreKept.{AreAlike, NoTwoAreAlike}
use Rattle.rows_core.specs.Limits.{most_plan_bytes}
use Rattle.entry_table.specs.Restoring.{HasShortPlan, are_fresh, is_fresh, is_same, plan_and_cut}
use Rattle.entry_table.specs.declared.restoring.PlanAndCut.{PlanAndCut}

cut-decides : (a b : Cut) → Decides (cut.eq-value.it a b) (a ≡ b)
cut-decides a b =
    Decides-like _ (λ (p : (a.from ≡ b.from) × (a.to ≡ b.to)). λ i. record { from = p.0 i; to = p.1 i }) (λ (e : a ≡ b). (ap (λ (c : Cut). c.from) e, ap (λ (c : Cut). c.to) e))
    (Decides-and _ _ (unsigned_Decides a.from b.from) (unsigned_Decides a.to b.to))

same-decides : (a b : PlanAndCut) → Decides (is_same a b) (a ≡ b)
same-decides a b =
    Decides-like _ (λ (p : (a.spelling ≡ b.spelling) × (a.cuts ≡ b.cuts)). λ i. record { spelling = p.0 i; cuts = p.1 i })
    (λ (e : a ≡ b). (ap (λ (x : PlanAndCut). x.spelling) e, ap (λ (x : PlanAndCut). x.cuts) e))
    (Decides-and _ _ (pointwise_decides unsigned_Decides a.spelling b.spelling) (pointwise_decides cut-decides a.cuts b.cuts))

abbrev Spelled : PlainEntry → Type 0
Spelled e = HasPlanSpelling e.plan

-- entries are alike exactly where their plans' spellings and their cuts are the same
alike-decides : (e other : PlainEntry) → Spelled e → Spelled other → Decides (is_same (plan_and_cut other) (plan_and_cut e)) (AreAlike e other)
alike-decides e other has others_has =
    Decides-like _ (λ (p : plan_and_cut other ≡ plan_and_cut e). (one_spelling e.plan other.plan has others_has (sym (ap (λ (x : PlanAndCut). x.spelling) p)), sym (ap (λ (x : PlanAndCut). x.cuts) p)))
    (λ (p : AreAlike e other). λ i. record { spelling = plan_spelling (sym p.0 i); cuts = sym p.1 i }) (same-decides (plan_and_cut other) (plan_and_cut e))

-- ---- entries that were seen

-- none of those that were seen has its plan and cut
abbrev IsUnseen : List PlanAndCut → PlainEntry → Type 0
IsUnseen seen e = list_any (is_same (plan_and_cut e)) seen ≡ false

decides-le : (a b : ℕ) → Decides (nat_le a b) (a ≤ b)
decides-le a b = (λ e. grind (arith, nat_tests), λ h. grind (arith, nat_tests))

decides-none : (b : Bool) → Decides (not b) (b ≡ false)
decides-none true = (λ e. absurd (cc), λ e. absurd (cc))
decides-none false = (λ e. refl, λ e. refl)

fresh-decides : (seen : List PlanAndCut) (e : PlainEntry) → Decides (is_fresh seen e) (HasShortPlan e × IsUnseen seen e)
fresh-decides seen e =
    Decides-and (nat_le (length (plan_spelling e.plan)) most_plan_bytes) (not (list_any (is_same (plan_and_cut e)) seen)) (decides-le (length (plan_spelling e.plan)) most_plan_bytes)
    (decides-none (list_any (is_same (plan_and_cut e)) seen))

-- where one more is seen
seen-next : (seen : List PlanAndCut) (e other : PlainEntry) → Spelled e → Spelled other → IsUnseen (seen ++ plan_and_cut e ∷ []) other ↔ (IsUnseen seen other × ¬ (AreAlike e other))
seen-next seen e other has others_has =
    let test = is_same (plan_and_cut other) in
    let all : list_any test (seen ++ plan_and_cut e ∷ []) ≡ (list_any test seen || test (plan_and_cut e)) =
    list_any-append test seen (plan_and_cut e ∷ []) ∙ ap (λ (b : Bool). list_any test seen || b) (or-false (test (plan_and_cut e))) in
    let alike = alike-decides e other has others_has in (
      λ unseen. (let parts = or_parts (list_any test seen) (test (plan_and_cut e)) (sym all ∙ unseen) in (parts.0, not_from_Decides (test (plan_and_cut e)) alike parts.1)),
      λ parts. all ∙ or_from (list_any test seen) (test (plan_and_cut e)) parts.0 (false_from_ne_true (test (plan_and_cut e)) (λ is. parts.1 (alike.0 is))),
    )

all-seen-next : (seen : List PlanAndCut) (e : PlainEntry) (es : List PlainEntry) → Spelled e → AllByRecursion Spelled es
    → AllByRecursion (IsUnseen (seen ++ plan_and_cut e ∷ [])) es ↔ (AllByRecursion (IsUnseen seen) es × AllByRecursion (λ other. ¬ (AreAlike e other)) es)
all-seen-next seen e [] has have = (λ _. (tt, tt), λ _. tt)
all-seen-next seen e (other ∷ es) has have =
    let one = seen-next seen e other has have.0 in
    let rest = all-seen-next seen e es has have.1 in (
      λ all. (((one.0 all.0).0, (rest.0 all.1).0), ((one.0 all.0).1, (rest.0 all.1).1)),
      λ parts. (one.1 (parts.0.0, parts.1.0), rest.1 (parts.0.1, parts.1.1)),
    )

all-fresh : (seen : List PlanAndCut) (es : List PlainEntry) → AllByRecursion Spelled es
    → Decides (are_fresh seen es) (AllByRecursion HasShortPlan es × NoTwoAreAlike es × AllByRecursion (IsUnseen seen) es)
all-fresh seen [] have = (λ _. (tt, tt, tt), λ _. refl)
all-fresh seen (e ∷ es) have =
    let next = all-seen-next seen e es have.0 have.1 in
    Decides-like (are_fresh seen (e ∷ es))
    (λ (p : (HasShortPlan e × IsUnseen seen e) × (AllByRecursion HasShortPlan es × NoTwoAreAlike es × AllByRecursion (IsUnseen (seen ++ plan_and_cut e ∷ [])) es)).
    ((p.0.0, p.1.0), ((next.0 p.1.2).1, p.1.1), (p.0.1, (next.0 p.1.2).0)))
    (λ (p : AllByRecursion HasShortPlan (e ∷ es) × NoTwoAreAlike (e ∷ es) × AllByRecursion (IsUnseen seen) (e ∷ es)).
    ((p.0.0, p.2.0), (p.0.1, p.1.1, next.1 (p.2.1, p.1.0))))
    (Decides-and (is_fresh seen e) (are_fresh (seen ++ plan_and_cut e ∷ []) es) (fresh-decides seen e) (all-fresh (seen ++ plan_and_cut e ∷ []) es have.1))

none-seen : (es : List PlainEntry) → AllByRecursion (IsUnseen []) es
none-seen [] = tt
none-seen (e ∷ es) = (refl, none-seen es)

pub differ-is : (es : List PlainEntry) (b : Bool) → AllByRecursion Spelled es → b ≡ are_fresh [] es → IsTrue b ↔ (AllByRecursion HasShortPlan es × NoTwoAreAlike es)
differ-is es b have is =
    let all = all-fresh [] es have in
    (λ true. (let parts = all.0 (sym is ∙ true) in (parts.0, parts.1)), λ parts. is ∙ all.1 (parts.0, parts.1, none-seen es))

-- the first of those that are left isn't fresh
pub stale-is : (seen : List PlanAndCut) (es : List PlainEntry) (e : PlainEntry) → 1 ≤ length es → e ≡ get_or es 0 e → is_fresh seen e ≡ false → are_fresh seen es ≡ false
stale-is seen [] e some is stale = absurd (omega (arith, some))
stale-is seen (x ∷ es) e some is stale = ap (λ (b : Bool). b && are_fresh (seen ++ plan_and_cut x ∷ []) es) (ap (is_fresh seen) (sym is) ∙ stale)

pub none-left : (seen : List PlanAndCut) (es : List PlainEntry) → length es < 1 → are_fresh seen es ≡ true
none-left seen [] none = refl
none-left seen (e ∷ es) none = absurd (omega (arith, none))
