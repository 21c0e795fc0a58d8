-- An expression and a plan are read by their tag.
use Rattle.std.proofs.Common.{◌≡◌, ℕ, zero, suc, ◌-◌, ◌<◌, List, length, Ok, Err, refl, sym, ap, subst, ◌∙◌, arith}
use Rattle.byte_formats.specs.declared.unread.Unread.{Unread}
use Rattle.byte_formats.specs.declared.unread.Unread.TheVariants.{Left, Memory}
use Rattle.byte_formats.specs.Reading.{Fails}
use Rattle.byte_formats.specs.Format.{symbol_at, beside}
use Rattle.byte_formats.proofs.Nodes.{node_reads, node_stops}
use Rattle.plan_spelling.specs.declared.tag.ExprTag.{ExprTag}
use Rattle.plan_spelling.specs.declared.tag.PlanTag.{PlanTag}
use Rattle.plan_spelling.specs.Tags.{expr_tags_above, plan_tags_above}
use Rattle.plan_spelling.specs.Formats.{expr_tag_format, plan_tag_format, expr_fields, expr_made, expr_reading, expr_format, plan_fields, plan_made, plan_reading, plan_format}
use Rattle.plan_spelling.specs.Reading.{expr_behind, plan_behind}

one_less : (depth : ℕ) → suc depth - 1 ≡ depth
one_less depth = omega arith

pub expr_too_deep : (depth : ℕ) (bytes : List ℕ) → depth ≡ 0 → (expr_format depth).read bytes ≡ Err (length bytes)
unfolding expr_reading
expr_too_deep zero bytes e = refl
expr_too_deep (suc depth) bytes e = absurd (omega arith)

pub expr_reads : (depth : ℕ) (t : ExprTag) (bytes rest : List ℕ) → 0 < depth → symbol_at (beside (expr_tags_above (depth - 1))) bytes ≡ Ok (t, rest) → (expr_format depth).read bytes ≡ expr_behind (depth - 1) t rest
unfolding expr_reading
expr_reads zero t bytes rest lt e = absurd (omega arith)
expr_reads (suc depth) t bytes rest lt e =
    node_reads (expr_tag_format depth) (expr_fields (expr_format depth)) expr_made t bytes rest (subst (λ (n : ℕ). symbol_at (beside (expr_tags_above n)) bytes ≡ Ok (t, rest)) (one_less depth) e)
    ∙ ap (λ (n : ℕ). expr_behind n t rest) (sym (one_less depth))

pub expr_stops : (depth : ℕ) (bytes : List ℕ) (left : ℕ) → 0 < depth → symbol_at (beside (expr_tags_above (depth - 1))) bytes ≡ Err left → (expr_format depth).read bytes ≡ Err left
unfolding expr_reading
expr_stops zero bytes left lt e = absurd (omega arith)
expr_stops (suc depth) bytes left lt e = node_stops (expr_tag_format depth) (expr_fields (expr_format depth)) expr_made bytes left (subst (λ (n : ℕ). symbol_at (beside (expr_tags_above n)) bytes ≡ Err left) (one_less depth) e)

pub expr_fails : (e : Unread) (depth : ℕ) (bytes : List ℕ) → 0 < depth → Fails e (symbol_at (beside (expr_tags_above (depth - 1))) bytes) → Fails e ((expr_format depth).read bytes)
expr_fails Memory depth bytes lt fails = tt
expr_fails (Left left) depth bytes lt fails = expr_stops depth bytes left lt fails

-- ---- plans

pub plan_too_deep : (depth : ℕ) (bytes : List ℕ) → depth ≡ 0 → (plan_format depth).read bytes ≡ Err (length bytes)
unfolding plan_reading
plan_too_deep zero bytes e = refl
plan_too_deep (suc depth) bytes e = absurd (omega arith)

pub plan_reads : (depth : ℕ) (t : PlanTag) (bytes rest : List ℕ) → 0 < depth → symbol_at (beside (plan_tags_above (depth - 1))) bytes ≡ Ok (t, rest) → (plan_format depth).read bytes ≡ plan_behind (depth - 1) t rest
unfolding plan_reading
plan_reads zero t bytes rest lt e = absurd (omega arith)
plan_reads (suc depth) t bytes rest lt e =
    node_reads (plan_tag_format depth) (plan_fields (plan_format depth) (expr_format depth)) plan_made t bytes rest (subst (λ (n : ℕ). symbol_at (beside (plan_tags_above n)) bytes ≡ Ok (t, rest)) (one_less depth) e)
    ∙ ap (λ (n : ℕ). plan_behind n t rest) (sym (one_less depth))

pub plan_stops : (depth : ℕ) (bytes : List ℕ) (left : ℕ) → 0 < depth → symbol_at (beside (plan_tags_above (depth - 1))) bytes ≡ Err left → (plan_format depth).read bytes ≡ Err left
unfolding plan_reading
plan_stops zero bytes left lt e = absurd (omega arith)
plan_stops (suc depth) bytes left lt e = node_stops (plan_tag_format depth) (plan_fields (plan_format depth) (expr_format depth)) plan_made bytes left (subst (λ (n : ℕ). symbol_at (beside (plan_tags_above n)) bytes ≡ Err left) (one_less depth) e)

pub plan_fails : (e : Unread) (depth : ℕ) (bytes : List ℕ) → 0 < depth → Fails e (symbol_at (beside (plan_tags_above (depth - 1))) bytes) → Fails e ((plan_format depth).read bytes)
plan_fails Memory depth bytes lt fails = tt
plan_fails (Left left) depth bytes lt fails = plan_stops depth bytes left lt fails
