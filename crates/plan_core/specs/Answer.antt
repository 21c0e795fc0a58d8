-- What a call's answer says, where want of memory may be answered in place of any answer.
use Rattle.std.specs.Prelude.{◌≡◌, Result, Ok, Err}
use Rattle.rows_core.specs.declared.overflow.Overflow.{Overflow}
use Rattle.scalar_ops.specs.Meaning.{overflow}
use Rattle.plan_core.specs.declared.refusal.EvRefusal.{EvRefusal}
use Rattle.plan_core.specs.declared.refusal.EvRefusal.TheVariants as refusal

-- the meaning is what was given, or it is the overflow
abbrev pub Means : {A : Type 0} → Result A EvRefusal → Result A Overflow → Type 0
Means (Ok given) meaning = meaning ≡ Ok given
Means (Err refusal.Overflow) meaning = meaning ≡ Err overflow
Means (Err refusal.Memory) meaning = Unit {0}
