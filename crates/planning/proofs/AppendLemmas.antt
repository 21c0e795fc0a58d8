-- What an append is in each case.
use Rattle.std.proofs.Common.{◌≡◌, ◌⊎◌, ℕ, List, length, Result, Ok, Err, Some, IfOk, IfErr, refl, sym, subst, inl, inr}
use Rattle.rows_core.specs.declared.value.Value.{Value}
use Rattle.rows_core.specs.Schema.{kinds_of}
use Rattle.row_blob.specs.declared.kept.Kept.TheVariants as form
use Rattle.catalog_core.specs.Table.{Table, place_of}
use Rattle.script_text.specs.declared.answer.LimitKind.TheVariants as limit
use Rattle.script_text.specs.declared.answer.Refusal.{Refusal}
use Rattle.script_text.specs.declared.answer.Refusal.TheVariants as refusal
use Rattle.planning.specs.declared.accepting.Accepted.{Accepted}
use Rattle.planning.specs.Rows.{Spell, Rows, BadLine, AreRefused}
use Rattle.planning.specs.Appending.{Append, append_to, columns_at, appending, IsAppendingAt, IsAppending}

module _ (t : Table) (name : List ℕ) (lines : List (List ℕ)) (place : ℕ) (is : place_of t.streams name ≡ Some place) where
  at_place : (given : Result Append Refusal) → IsAppendingAt t (Some place) name lines given → IsAppending t name lines given
  at_place given appends = subst (λ o. IsAppendingAt t o name lines given) (sym is) appends

  -- the lines are refused
  pub IsAppending-refused : (why : Refusal) → AreRefused (kinds_of (columns_at t.streams place)) lines why → (IsAppending t name lines (Err why) ⊎ (why ≡ refusal.Memory))
  IsAppending-refused (refusal.Row number) bad = inl (at_place _ (BadLine number, bad, refl))
  IsAppending-refused (refusal.Limit limit.Text) long = inl (at_place _ (Rows long.0, long.1, rw long.2))
  IsAppending-refused refusal.Memory none = inr refl
  IsAppending-refused _ none = absurd none

  -- the lines spell rows
  module _ (rows : List (List Value)) (spell : Spell (kinds_of (columns_at t.streams place)) lines rows) where
    IsAppending-rows : (given : Result Append Refusal) → appending t place rows ≡ given → IsAppending t name lines given
    IsAppending-rows given e = at_place given (Rows rows, spell, sym e)

    pub IfOk-appending : (r : Result Accepted Refusal) → IfOk r (λ a. a.place ≡ place) → IfOk r (λ a. a.kept ≡ form.Rows rows) → IfOk r (λ a. a.count ≡ length rows) → IfOk r (λ _. appending t place rows ≡ Ok (append_to place rows))
        → IfOk r (λ a. (x : List (List Value)) × (a.kept ≡ form.Rows x) × IsAppending t name lines (Ok (append_to a.place x)) × (a.count ≡ length x))
    IfOk-appending (Ok a) there kept count e = (rows, kept, subst (λ (n : ℕ). IsAppending t name lines (Ok (append_to n rows))) (sym there) (IsAppending-rows _ e), count)
    IfOk-appending (Err why) there kept count e = tt

    pub IfErr-appending : (r : Result Accepted Refusal) → IfErr r (λ why. appending t place rows ≡ Err why) → IfErr r (λ why. IsAppending t name lines (Err why) ⊎ (why ≡ refusal.Memory))
    IfErr-appending (Ok a) e = tt
    IfErr-appending (Err why) e = inl (IsAppending-rows _ e)
