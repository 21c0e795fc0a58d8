-- What an answer says of names that are resolved: what they stand for, or that one of them stands for nothing.
use Rattle.std.specs.Prelude.{◌≡◌, Option, None, Some, Result, Ok, Err}
use Rattle.plan_binder.specs.declared.refusal.BindRefusal.{BindRefusal}
use Rattle.plan_binder.specs.declared.refusal.BindRefusal.TheVariants as refusal

-- what is there, and ill typed exactly where nothing is; want of memory may be answered in place of either
abbrev pub Resolves : {A B : Type 0} → (A → B) → Result A BindRefusal → Option B → Type 0
Resolves view (Ok found) resolved = resolved ≡ Some (view found)
Resolves view (Err refusal.IllTyped) resolved = resolved ≡ None
Resolves view (Err (refusal.Unknown stream)) resolved = ⊥
Resolves view (Err refusal.Memory) resolved = Unit {0}
