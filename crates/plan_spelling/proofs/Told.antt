-- What is said of an answer, from what reading gives.
use Rattle.std.proofs.Common.{◌≡◌, ℕ, ◌+◌, ◌≤◌, max, List, length, take, Result, Ok, Err, refl, sym, subst, ◌∙◌, arith}
use Rattle.std.specs.Result.{IfOk, IfErr, MatchResult}
use Rattle.plan_core.specs.declared.plan.Plan as code
use Rattle.plan_core.specs.PlainPlan.{PlainPlan, plan_of}
use Rattle.plan_core.specs.Nesting.{nesting}
use Rattle.byte_formats.specs.Format.{StopsAt, all_of}
use Rattle.byte_formats.proofs.Readers.{IsBytes}
use Rattle.byte_formats.proofs.Whole as whole
use Rattle.plan_spelling.specs.declared.refusal.SpellRefusal.{SpellRefusal}
use Rattle.plan_spelling.specs.declared.refusal.SpellRefusal.TheVariants as refusal
use Rattle.plan_spelling.specs.Spelling.{plan_spelling, HasPlanSpelling}
use Rattle.plan_spelling.specs.Formats.{plan_format}
use Rattle.plan_spelling.specs.Parts.{plan_parts}
use Rattle.plan_spelling.specs.Place.{IsPlace, Reads, GoesOn, IsLast}
use Rattle.byte_formats.proofs.Readers.{IsBytes-take}
use Rattle.plan_spelling.proofs.Few.{few_of}
use Rattle.plan_spelling.proofs.PlanGoes.{plan_goes}
use Rattle.plan_spelling.proofs.PlanLaws.{plan_exact}

abbrev IsFound : List ℕ → PlainPlan → Type 0
IsFound bytes plan = HasPlanSpelling plan × (nesting plan ≤ 1024) × (bytes ≡ plan_spelling plan)

pub found : (bytes : List ℕ) (r : Result code.Plan SpellRefusal) → IsBytes bytes → Reads r (all_of (plan_format 1024) bytes) (length bytes) → IfOk r (λ plan. IsFound bytes (plan_of plan))
found bytes (Ok plan) wide e = let f = whole.is_found (plan_format 1024) (plan_exact 1024) bytes (plan_of plan) wide e in (f.0.0, f.0.1, f.1)
found bytes (Err e) wide told = tt

pub few : (bytes : List ℕ) (r : Result code.Plan SpellRefusal) → IfOk r (λ plan. IsFound bytes (plan_of plan)) → IfOk r (λ plan. plan_parts (plan_of plan) ≤ length bytes)
few bytes (Ok plan) is = few_of bytes (plan_of plan) is.2
few bytes (Err e) is = tt

answer : (r : Result code.Plan SpellRefusal) (read : Result PlainPlan ℕ) (len : ℕ) (plan : PlainPlan) → Reads r read len → read ≡ Ok plan → MatchResult r (λ found. plan_of found ≡ plan) (λ e. e ≡ refusal.Memory)
answer (Ok found) read len plan told e = let clash : Ok (plan_of found) ≡ Ok plan = sym told ∙ e in cc
answer (Err refusal.Memory) read len plan told e = refl
answer (Err (refusal.NotPlan at)) read len plan told e = absurd (let clash : Err told.0 ≡ Ok plan = sym told.1 ∙ e in cc)

pub only : (bytes : List ℕ) (r : Result code.Plan SpellRefusal) (plan : PlainPlan) → HasPlanSpelling plan → nesting plan ≤ 1024 → bytes ≡ plan_spelling plan → Reads r (all_of (plan_format 1024) bytes) (length bytes)
    → MatchResult r (λ found. plan_of found ≡ plan) (λ e. e ≡ refusal.Memory)
only bytes r plan fits deep e told = answer r (all_of (plan_format 1024) bytes) (length bytes) plan told (whole.is_read (plan_format 1024) (plan_exact 1024) bytes plan (fits, deep) e)

pub place : (bytes : List ℕ) (r : Result code.Plan SpellRefusal) → IsBytes bytes → Reads r (all_of (plan_format 1024) bytes) (length bytes) → IfErr r (λ e. IsPlace bytes e)
place bytes (Ok plan) wide told = tt
place bytes (Err refusal.Memory) wide told = tt
place bytes (Err (refusal.NotPlan at)) wide told = subst (λ (n : ℕ). StopsAt (plan_format 1024) bytes n) (sym told.2) (whole.is_place (plan_format 1024) (plan_exact 1024) bytes told.0 wide told.1)

-- plans of any nesting: the greater of the two
pub one_spelling : (a b : PlainPlan) → HasPlanSpelling a → HasPlanSpelling b → plan_spelling a ≡ plan_spelling b → a ≡ b
one_spelling a b p q e =
    let depth = max (nesting a) (nesting b) in
    whole.one_spelling (plan_format depth) (plan_exact depth) a b (p, omega arith) (q, omega arith) e

pub one_place : (bytes : List ℕ) (a b : ℕ) → StopsAt (plan_format 1024) bytes a → StopsAt (plan_format 1024) bytes b → a ≡ b
one_place = whole.one_place (plan_format 1024) (plan_exact 1024)

-- ---- the place in terms of spellings alone

goes_on : (front : List ℕ) → IsBytes front → (plan_format 1024).Begins front → GoesOn front
goes_on front wide begins = let f = (plan_goes 1024 (omega arith)).goes front wide begins in (f.value, f.fits, (f.more, f.spelled))

over : (front : List ℕ) → ((plan_format 1024).Begins front → ⊥) → GoesOn front → ⊥
over front dead goes = dead ((plan_exact 1024).fronts goes.0 front goes.2.0 goes.1 goes.2.1)

pub last : (bytes : List ℕ) (r : Result code.Plan SpellRefusal) → IsBytes bytes → IfErr r (λ e. IsPlace bytes e) → IfErr r (λ e. IsLast bytes e)
last bytes (Ok plan) wide p = tt
last bytes (Err refusal.Memory) wide p = tt
last bytes (Err (refusal.NotPlan at)) wide p = (p.0, goes_on (take at bytes) (IsBytes-take at bytes wide) p.1, λ lt. over (take (at + 1) bytes) (p.2 lt))
