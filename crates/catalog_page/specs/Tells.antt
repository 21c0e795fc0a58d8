-- What an answer says of what is told: the same, or the same refusal; want of memory may be answered in place of either.
use Rattle.std.specs.Prelude.{◌≡◌, Result, Ok, Err}
use Rattle.catalog_page.specs.declared.refusal.Unread.{Unread}
use Rattle.catalog_page.specs.declared.refusal.Unread.TheVariants as unread
use Rattle.catalog_page.specs.declared.refusal.ReadRefusal.{ReadRefusal}
use Rattle.catalog_page.specs.declared.refusal.ReadRefusal.TheVariants as refusal
use Rattle.catalog_page.specs.declared.key.Key.{Key}

-- of the value of a key, or of an object
abbrev pub Finds : {A B : Type 0} → (A → B) → Result A Unread → Result B Key → Type 0
Finds view (Ok found) told = told ≡ Ok (view found)
Finds view (Err (unread.Missing key)) told = told ≡ Err key
Finds view (Err unread.Memory) told = Unit {0}

-- of the whole, or of a list of it
abbrev pub Tells : {A B : Type 0} → (A → B) → Result A ReadRefusal → Result B ReadRefusal → Type 0
Tells view (Ok found) told = told ≡ Ok (view found)
Tells view (Err refusal.Memory) told = Unit {0}
Tells view (Err refusal.NotJson) told = told ≡ Err refusal.NotJson
Tells view (Err (refusal.Missing key)) told = told ≡ Err (refusal.Missing key)
Tells view (Err (refusal.MissingIn list key)) told = told ≡ Err (refusal.MissingIn list key)

-- where what keeps an item from being read is of this list
abbrev pub located : {A : Type 0} → Key → Result A Unread → Result A ReadRefusal
located list_key (Ok x) = Ok x
located list_key (Err (unread.Missing key)) = Err (refusal.MissingIn list_key key)
located list_key (Err unread.Memory) = Err refusal.Memory
