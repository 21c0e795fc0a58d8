-- A part that may be absent is read by its flag.
use Rattle.std.proofs.Common.{◌≡◌, Bool, true, false, List, ℕ, Some, None, Ok, refl, sym, ap, subst, ◌∙◌}
use Rattle.byte_formats.specs.declared.unread.Unread.{Unread}
use Rattle.byte_formats.specs.declared.unread.Unread.TheVariants.{Left, Memory}
use Rattle.byte_formats.specs.Reading.{Read, Fails}
use Rattle.byte_formats.specs.Format.{Format, flag, part, option_of, optional, read_as}
use Rattle.byte_formats.proofs.Nodes.{node_reads}

module _ {A : Type 0} (item : Format A) where
  pub none_read : (bytes rest : List ℕ) (there : Bool) → flag.read bytes ≡ Ok (there, rest) → there ≡ false → (optional item).read bytes ≡ Ok (None, rest)
  none_read bytes rest there e is = node_reads flag (part item) option_of false bytes rest (e ∙ ap (λ (t : Bool). Ok (t, rest)) is)

  some_reads : (bytes rest : List ℕ) (there : Bool) → flag.read bytes ≡ Ok (there, rest) → there ≡ true → (optional item).read bytes ≡ read_as Some (item.read rest)
  some_reads bytes rest there e is = node_reads flag (part item) option_of true bytes rest (e ∙ ap (λ (t : Bool). Ok (t, rest)) is)

  pub some_read : (bytes rest after : List ℕ) (there : Bool) (a : A) → flag.read bytes ≡ Ok (there, rest) → there ≡ true → item.read rest ≡ Ok (a, after) → (optional item).read bytes ≡ Ok (Some a, after)
  some_read bytes rest after there a e is read = some_reads bytes rest there e is ∙ ap (read_as Some) read

  pub some_fails : (failure : Unread) (bytes rest : List ℕ) (there : Bool) → flag.read bytes ≡ Ok (there, rest) → there ≡ true → Fails failure (item.read rest) → Fails failure ((optional item).read bytes)
  some_fails Memory bytes rest there e is fails = tt
  some_fails (Left left) bytes rest there e is fails = some_reads bytes rest there e is ∙ ap (read_as Some) fails
