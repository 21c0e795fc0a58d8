-- Which operator a plan has, by the inputs that it lacks, and what is known of its parts at equal cuts.
use Rattle.std.specs.Bool.{IsTrue}
use Rattle.std.proofs.Common.{◌≡◌, ◌≢◌, true, refl, subst, rules}
use Rattle.plan_core.specs.PlainPlan.{PlainPlan, Scan, Filter, Project, Distinct, Group, Join, Concat, Order}
use Rattle.rewrite_core.specs.declared.rewriting.Hit.{Hit}
use Rattle.rewrite_core.specs.Entries.{Entries, AreSound, IsEarlier}
use Rattle.rewrite_core.specs.IsRewriting.{IsScan, rights}
use Rattle.estimator.specs.Bytes.{Lengths}
use Rattle.estimator.specs.Cuts.{Cuts}
use Rattle.rewriter.specs.Forms.{IsGrown, HasNone, HasNoDelta}
use Rattle.rewriter.proofs.LeastParts.{none_grown_by_way, join_no_tail, sides_out, TailOf, LeftGrewOf, RightGrewOf, BothGrewOf}
use Rattle.rewriter.specs.Inputs.{HasChild, HasTwo, IsByRow, IsDistinct, IsWholeOnly, IsJoin, IsConcat}

pub scan_if : (q : PlainPlan) → ((x : PlainPlan) → HasChild q x → ⊥) → ((x y : PlainPlan) → HasTwo q x y → ⊥) → IsScan q
scan_if (Scan s) a b = tt
scan_if (Filter child test) a b = a child refl
scan_if (Project child columns) a b = a child refl
scan_if (Distinct child) a b = a child refl
scan_if (Group child keys aggs) a b = a child refl
scan_if (Join l r on) a b = b l r (refl, refl)
scan_if (Concat l r) a b = b l r (refl, refl)
scan_if (Order child keys) a b = a child refl

pub scan_by : (q : PlainPlan) → ((x : PlainPlan) → HasChild q x → ⊥) → ((x y : PlainPlan) → IsConcat q x y → ⊥) → ((x y : PlainPlan) → IsJoin q x y → ⊥) → IsScan q
scan_by (Scan s) a b d = tt
scan_by (Filter child test) a b d = a child refl
scan_by (Project child columns) a b d = a child refl
scan_by (Distinct child) a b d = a child refl
scan_by (Group child keys aggs) a b d = a child refl
scan_by (Join l r on) a b d = d l r (refl, refl)
scan_by (Concat l r) a b d = b l r (refl, refl)
scan_by (Order child keys) a b d = a child refl

pub whole_if : (q x : PlainPlan) → HasChild q x → (IsByRow q → ⊥) → (IsDistinct q → ⊥) → IsWholeOnly q
whole_if (Scan s) x h a b = h
whole_if (Filter child test) x h a b = a tt
whole_if (Project child columns) x h a b = a tt
whole_if (Distinct child) x h a b = b tt
whole_if (Group child keys aggs) x h a b = tt
whole_if (Join l r on) x h a b = h
whole_if (Concat l r) x h a b = h
whole_if (Order child keys) x h a b = tt

pub none_along : (entries : Entries) (x : PlainPlan) {o p n m : Cuts} → p ≡ o → m ≡ n → HasNoDelta entries x p m → HasNoDelta entries x o n
none_along entries x {o} {p} {n} {m} e f k = subst (λ a. HasNoDelta entries x a n) e (subst (λ b. HasNoDelta entries x p b) f k)

-- a join whose right input changed and has no delta isn't grown
pub no_right : (entries : Entries) (sound : AreSound entries) (lengths : Lengths) (q : PlainPlan) (c : Cuts) (hit : Hit) (here : IsEarlier entries q c hit) (x y : PlainPlan) →
    IsJoin q x y → rights x hit.cuts ≢ rights x c → HasNoDelta entries y (rights x hit.cuts) (rights x c) → HasNone IsGrown entries q c
no_right entries sound lengths q c hit here x y h differ none = none_grown_by_way entries sound lengths q c hit here
    (λ e k. join_no_tail (TailOf entries sound lengths q c hit here e) q x y hit.cuts c h k.1)
    (λ e s k. let p = sides_out (LeftGrewOf entries sound lengths q c hit here e s) q x y h k.1 in differ p.0)
    (λ s e k. let p = sides_out (RightGrewOf entries sound lengths q c hit here s e) q x y h k.1 in none e p.2)
    (λ s e f t k. let p = sides_out (BothGrewOf entries sound lengths q c hit here s e f t) q x y h k.1 in none e p.3)

pub holds : IsTrue true
holds = search rules
