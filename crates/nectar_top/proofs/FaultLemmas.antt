-- How often a failed read is told, and what the reader of scripts refuses.
use Rattle.std.proofs.Common.{◌≡◌, ◌∙◌, ◌+◌, ℕ, List, [], ◌∷◌, ◌++◌, Ok, Err, Result, IfOk, refl, sym, subst, inl, inr, arith}
use Rattle.std.specs.List.{AllByRecursion}
use Rattle.std.proofs.lemmas.List.Sums.{sum_by_push}
use Rattle.outside_traits.specs.Counts.{Rose}
use Rattle.outside_traits.specs.declared.failed.Failed.{Failed}
use Rattle.script_text.specs.Script.{items, all_items, Given, IsForBytes, IsRefusedForBytes}
use Rattle.script_text.specs.declared.answer.Answer.{Answer}
use Rattle.script_text.specs.declared.answer.Answer.TheVariants as answer
use Rattle.script_text.specs.declared.answer.Refusal.{Refusal}
use Rattle.script_text.specs.declared.answer.Refusal.TheVariants as refusal
use Rattle.script_text.specs.declared.item.Item.{Item}
use Rattle.script_text.specs.declared.item.Item.TheVariants as item
use Rattle.script_text.proofs.WholeLemmas.{items_refused, all_items_refused}
use Rattle.folder_session.specs.Causes.{SparesStore}
use Rattle.session.specs.declared.session.Session.{Session}
use Rattle.nectar_top.specs.Refusals.{IsSparingItem, fault_in, faults_in, RoseBy}

-- ---- counts

pub rose_by_none : (a b : ℕ) → b ≡ a → RoseBy 0 a b
rose_by_none a b same = (omega (arith, same), λ none. same)

pub rose_by_since : (n a b c : ℕ) → RoseBy n a b → c ≡ b → RoseBy n a c
rose_by_since n a b c rose same = (omega (arith, rose.0, same), λ none. same ∙ rose.1 none)

rose_by_on : (m n a b c : ℕ) → RoseBy m a b → RoseBy n b c → RoseBy (m + n) a c
rose_by_on m n a b c x y = (omega (arith, x.0, y.0), λ none. y.1 (omega (arith, none)) ∙ x.1 (omega (arith, none)))

-- one answer more
pub faults-push : (answers : List Answer) (answer : Answer) (a b c : ℕ) → RoseBy (faults_in answers) a b → RoseBy (fault_in answer) b c → RoseBy (faults_in (answers ++ answer ∷ [])) a c
faults-push answers answer a b c x y = subst (λ n. RoseBy n a c) (sym (sum_by_push fault_in answers answer)) (rose_by_on (faults_in answers) (fault_in answer) a b c x y)

-- ---- what a script spells is refused for its bytes alone

sparing_for_bytes : (i : Item) → IsRefusedForBytes i → IsSparingItem i
sparing_for_bytes (item.Command command) is = tt
sparing_for_bytes (item.Refused why) is = by why is
  where
    by : (why : Refusal) → IsForBytes why → SparesStore why
    by (refusal.Limit kind) is = tt
    by refusal.Syntax is = tt
    by _ is = absurd is

are_sparing : (commands : List Item) → AllByRecursion IsRefusedForBytes commands → AllByRecursion IsSparingItem commands
are_sparing [] are = tt
are_sparing (first ∷ more) are = (sparing_for_bytes first are.0, are_sparing more are.1)

pub all_items_are_sparing : (bytes : List ℕ) → AllByRecursion IsSparingItem (all_items bytes)
all_items_are_sparing bytes = are_sparing (all_items bytes) (all_items_refused bytes)

-- a command that ends in these bytes
pub sparing_front : (text : List ℕ) (spelled : Item) → items (text ++ []) ≡ spelled ∷ items [] → IsSparingItem spelled
sparing_front text spelled is = sparing_for_bytes spelled (subst (AllByRecursion IsRefusedForBytes) is (items_refused (text ++ []))).0

-- the last one
pub sparing_last : (text : List ℕ) (spelled : Item) → all_items text ≡ spelled ∷ [] → IsSparingItem spelled
sparing_last text spelled is = (subst (AllByRecursion IsSparingItem) is (all_items_are_sparing text)).0

-- the reader gives what is spelled, or wants memory
pub sparing_given : (spelled given : Item) → Given spelled given → IsSparingItem spelled → IsSparingItem given
sparing_given spelled given (inl same) is = subst IsSparingItem (sym same) is
sparing_given spelled given (inr none) is = subst IsSparingItem (sym none) tt

-- ---- a command's answer

-- no other answer is `refused fault`
pub not_a_fault : (a : Answer) → fault_in a ≡ 0 → a ≡ answer.Refused refusal.Fault → ⊥
not_a_fault a none is =
    let one : 1 ≡ 0 = subst (λ (x : Answer). fault_in x ≡ 0) is none in
    absurd (omega (arith, one))

pub fault_rose : (result : Result (Session × Answer) Failed) (before now : ℕ) → IfOk result (λ next. next.1 ≡ answer.Refused refusal.Fault → Rose before now)
    → IfOk result (λ next. (next.1 ≡ answer.Refused refusal.Fault → ⊥) → now ≡ before)
    → IfOk result (λ next. RoseBy (fault_in next.1) before now)
fault_rose (Ok next) before now fault other = by next.1 fault other
  where
    by : (a : Answer) → (a ≡ answer.Refused refusal.Fault → Rose before now) → ((a ≡ answer.Refused refusal.Fault → ⊥) → now ≡ before) → RoseBy (fault_in a) before now
    by (answer.Refused refusal.Fault) rose same = (rose refl, λ none. absurd (omega (arith, none)))
    by _ rose same = rose_by_none before now (same (not_a_fault _ refl))
fault_rose (Err failed) before now fault other = tt

pub fault_of_item : (i : Item) (why : Refusal) (n : ℕ) → i ≡ item.Refused why → IsSparingItem i → RoseBy (fault_in (answer.Refused why)) n n
fault_of_item i why n is sparing = by why (subst IsSparingItem is sparing)
  where
    by : (why : Refusal) → SparesStore why → RoseBy (fault_in (answer.Refused why)) n n
    by refusal.Fault spares = absurd spares
    by _ spares = rose_by_none n n refl
