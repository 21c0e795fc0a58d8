-- A plan within so many bytes: what is read of them alone, and where reading stops.
use Rattle.std.proofs.Common.{◌≡◌, ℕ, ◌+◌, ◌-◌, ◌<◌, ◌≤◌, min, inl, inr, Bool, cond, List, length, take, drop, Ok, Err, refl, sym, ap, subst, ◌∙◌, arith}
use Rattle.std.proofs.lemmas.Bool.{cases_lt, le-leb, lt-leb}
use Rattle.std.proofs.lemmas.List.{length-take, length-drop, length-append, take_min, drop_min}
use Rattle.plan_core.specs.PlainPlan.{PlainPlan}
use Rattle.byte_formats.specs.Reading.{Read}
use Rattle.byte_formats.specs.Format.{Format, all_of, settled, exactly}
use Rattle.byte_formats.proofs.Readers.{IsBytes, IsBytes-take}
use Rattle.byte_formats.proofs.Whole.{stops_whole}
use Rattle.plan_spelling.specs.declared.refusal.SpellRefusal.{SpellRefusal}
use Rattle.plan_spelling.specs.declared.refusal.SpellRefusal.TheVariants as refusal
use Rattle.plan_spelling.specs.Formats.{plan_format}
use Rattle.plan_spelling.specs.Place.{Reads}
use Rattle.plan_spelling.proofs.PlanLaws.{plan_exact}

abbrev inner : Format PlainPlan
inner = plan_format 1024

pub inner_stops : (n : ℕ) (bytes : List ℕ) (left at : ℕ) → IsBytes bytes → all_of inner (take (min n (length bytes)) bytes) ≡ Err left → at ≡ length (take (min n (length bytes)) bytes) - left
    → (exactly n inner).read bytes ≡ Err (length bytes - at)
inner_stops n bytes left at wide e is =
    let read : all_of inner (take n bytes) ≡ Err left = ap (all_of inner) (sym (take_min n bytes)) ∙ e in
    let s = stops_whole inner (plan_exact 1024) (take n bytes) left (IsBytes-take n bytes wide) read in
    let within : length (take n bytes) ≡ length s.front + length s.back = ap length s.parts ∙ length-append s.front s.back in
    let size = s.size in
    let same : at ≡ length (take n bytes) - left = is ∙ ap (λ (l : List ℕ). length l - left) (take_min n bytes) in
    let front = length-take n bytes in
    let back = length-drop n bytes in
    ap (settled n bytes) read ∙ ap (λ (m : ℕ). Err m) (let m : left + length (drop n bytes) ≡ length bytes - at = omega arith in m)

-- the same from what was answered
pub stops_from : (n : ℕ) (bytes front : List ℕ) (at : ℕ) (e : SpellRefusal) → IsBytes bytes → front ≡ take (min n (length bytes)) bytes → Reads (Err e) (all_of inner front) (length front) → e ≡ refusal.NotPlan at
    → (exactly n inner).read bytes ≡ Err (length bytes - at)
stops_from n bytes front at e wide cut reads is =
    let told : Reads (Err (refusal.NotPlan at)) (all_of inner front) (length front) = subst (λ (r : SpellRefusal). Reads (Err r) (all_of inner front) (length front)) is reads in
    inner_stops n bytes told.0 at wide (ap (all_of inner) (sym cut) ∙ told.1) (told.2 ∙ ap (λ (l : List ℕ). length l - told.0) cut)
