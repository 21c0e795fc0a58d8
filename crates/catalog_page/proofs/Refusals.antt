-- What a refusal says of what was told.
use Rattle.std.proofs.Common.{◌≡◌, ◌≢◌, refl, Result, Err}
use Rattle.catalog_page.specs.declared.refusal.ReadRefusal.{ReadRefusal}
use Rattle.catalog_page.specs.declared.refusal.ReadRefusal.TheVariants as refusal
use Rattle.catalog_page.specs.Tells.{Tells}

pub refused : {A B : Type 0} (view : A → B) (e : ReadRefusal) (told : Result B ReadRefusal) → Tells view (Err e) told → e ≢ refusal.Memory → told ≡ Err e
refused view refusal.NotJson told is other = is
refused view (refusal.Missing key) told is other = is
refused view (refusal.MissingIn of key) told is other = is
refused view refusal.Memory told is other = absurd (other refl)
