-- The keys of programs: a text that is read, bound and typed over the streams has the key of its plan's normal form, in
-- hexadecimal digits; another text has none.
use Rattle.std.specs.Prelude.{◌≡◌, ℕ, List, [], ◌∷◌, map, Option, None, Some, Result, Ok, Err, IsOk, IsErr}
use Rattle.hex.specs.Hex.{encode_lower}
use Rattle.rows_core.specs.Schema.{kinds_of}
use Rattle.rows_core.specs.declared.schema.Column.{Column}
use Rattle.plan_core.specs.PlainPlan.{PlainPlan}
use Rattle.plan_core.specs.PlanTyping.{Kinds, plan_typing}
use Rattle.plan_text.specs.Answer.{TextReading, AsPlan, AsTooLarge, AsNone, text_reading}
use Rattle.plan_binder.specs.Binding.{binding}
use Rattle.plan_binder.specs.declared.refusal.BindRefusal.{BindRefusal}
use Rattle.plan_canon.specs.Normal.{IsNormalFormOf}
use Rattle.fingerprints.specs.Keys.{program_key}
use Rattle.catalog_page.specs.declared.catalogue.Keyed.{Keyed}
use Rattle.catalog_page.specs.declared.catalogue.ProgramLine.{ProgramLine}
use Rattle.catalog_page.specs.declared.catalogue.StreamLine.{StreamLine}

abbrev pub names_of : List StreamLine → List (List ℕ)
names_of streams = map (λ s. s.name) streams

abbrev pub columns_of : List StreamLine → List (List Column)
columns_of streams = map (λ s. s.schema) streams

abbrev pub schemas_of : List StreamLine → List Kinds
schemas_of streams = map (λ s. kinds_of s.schema) streams

-- the key of the normal form
abbrev pub IsNormalKey : List Kinds → PlainPlan → List ℕ → Type 0
IsNormalKey schemas plan key =
    (normal : PlainPlan) × IsNormalFormOf schemas plan normal × (key ≡ encode_lower (program_key normal).bytes)

-- where the plan has a typing
abbrev pub IsPlanKey : List Kinds → PlainPlan → Option (List ℕ) → Type 0
IsPlanKey schemas plan None = IsErr (plan_typing schemas plan)
IsPlanKey schemas plan (Some key) = IsOk (plan_typing schemas plan) × IsNormalKey schemas plan key

-- where the names are bound
abbrev pub IsBoundKey : List Kinds → Result PlainPlan BindRefusal → Option (List ℕ) → Type 0
IsBoundKey schemas (Ok plan) key = IsPlanKey schemas plan key
IsBoundKey schemas (Err refusal) key = key ≡ None

-- where the text is read as a plan
abbrev pub IsReadKey : List StreamLine → TextReading → Option (List ℕ) → Type 0
IsReadKey streams (AsPlan tree) key = IsBoundKey (schemas_of streams) (binding (names_of streams) (columns_of streams) tree) key
IsReadKey streams (AsTooLarge limit) key = key ≡ None
IsReadKey streams AsNone key = key ≡ None

abbrev pub IsKeyOf : List StreamLine → List ℕ → Option (List ℕ) → Type 0
IsKeyOf streams text key = IsReadKey streams (text_reading text) key

-- the program with its key
pub record IsKeyed (streams : List StreamLine) (program : ProgramLine) (k : Keyed) : Type 0 where
  pub name : k.name ≡ program.name
  pub text : k.text ≡ program.text
  pub key : IsKeyOf streams program.text k.key

-- each of them, in order
abbrev pub AreKeyed : List StreamLine → List ProgramLine → List Keyed → Type 0
AreKeyed streams [] [] = Unit {0}
AreKeyed streams (program ∷ programs) (k ∷ ks) = IsKeyed streams program k × AreKeyed streams programs ks
AreKeyed streams _ _ = ⊥
