-- A body that isn't read as a change stops where reading of it stops.
use Rattle.std.proofs.Common.{◌≡◌, inl, ℕ, Bool, List}
use Rattle.catalog_types.specs.declared.change.Change.{Change}
use Rattle.record_codec.specs.declared.form.Form.{Form}
use Rattle.record_codec.specs.Spelling.{spelling_in, HasSpellingIn}
use Rattle.record_codec.specs.Place.{IsPlace}
use Rattle.record_codec.specs.declared.refusal.ChangeRefusal.{ChangeRefusal}
use Rattle.record_codec.specs.declared.refusal.ChangeRefusal.TheVariants as of_change
use Rattle.catalog_core.specs.Table.{Table}
use Rattle.folder.specs.Refusals.{IsStop, change_as}

pub unread_stops : (f : Form) (due : Bool) (t : Table) (body : List ℕ) (r : ChangeRefusal) → IsPlace f body r
    → ((c : Change) → HasSpellingIn f c → body ≡ spelling_in f c → r ≡ of_change.Memory) → IsStop f due t body (change_as r)
unread_stops f due t body (of_change.NotChange at) place only = (inl ((λ c is. absurd (other at (only c is.0.0 is.1))), place), place.0)
  where
    other : (at : ℕ) → of_change.NotChange at ≡ of_change.Memory → ⊥
    other at is = absurd (cc)
unread_stops f due t body of_change.Memory place only = tt
