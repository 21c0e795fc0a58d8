-- The programs of a table are read as plans, and the streams of its kept results are there.
use Prim.Native.Nat.{suc}
use Rattle.std.proofs.Common.{◌≡◌, refl, sym, ap, ◌∙◌, ℕ, cond, List, [], ◌∷◌, length, map, Option, None, Some, Result, Ok, Err, IsOk, arith}
use Rattle.std.proofs.lemmas.List.{length-map}
use Rattle.std.specs.List.{AllByRecursion}
use Rattle.std.specs.Str.{IsUtf8}
use Rattle.plan_core.specs.PlainPlan.{PlainPlan, leaves}
use Rattle.plan_core.specs.PlanTyping.{Kinds, absent_stream, typed_or, present_or, plan_kinds, has_too_many, plan_typing}
use Rattle.plan_core.specs.declared.refusal.PlanRefusal.TheVariants.{TooMany}
use Rattle.plan_text.specs.declared.token.Token.{Token}
use Rattle.plan_text.specs.PlainNamed.{PlainTree}
use Rattle.plan_text.specs.TextTokens.{tokens_in}
use Rattle.plan_text.proofs.TextTokenLaws.{tokens_are}
use Rattle.plan_text.specs.Answer.{TextReading, AsPlan, AsTooLarge, AsNone, tokens_reading, text_reading}
use Rattle.plan_text.specs.Draft.{limits}
use Rattle.plan_text.specs.PlanReading.{plan_at}
use Rattle.plan_text.proofs.Texts.{plan_texts}
use Rattle.plan_text.proofs.Whole.{plan_reading}
use Rattle.catalog_types.specs.PlainEntry.{PlainEntry}
use Rattle.catalog_types.specs.declared.program.Program.{Program}
use Rattle.catalog_types.specs.declared.snapshot.StreamState.{StreamState}
use Rattle.catalog_core.specs.IsTable.{IsTable}
use Rattle.catalog_core.specs.Programs.{kinds_of_streams, IsProgram, IsStored}
use Rattle.catalog_core.specs.Results.{IsEntryOver}
use Rattle.catalog_core.specs.Table.{Table}
use Rattle.catalog_core.proofs.Typings.{present}
use Rattle.catalog_line.specs.Readable.{IsReadable, HasStreams}
use Rattle.catalog_line.proofs.Utf8Texts.{tokens-utf8}

all-weaker : {A : Type 0} (P Q : A → Type 0) → ((x : A) → P x → Q x) → (xs : List A) → AllByRecursion P xs → AllByRecursion Q xs
all-weaker P Q so [] all = all
all-weaker P Q so (x ∷ xs) all = (so x all.0, all-weaker P Q so xs all.1)

-- ---- programs

program-is_read : (streams : List StreamState) (program : Program) → IsProgram streams program → (plan : PlainTree) × (text_reading program.text ≡ AsPlan plan)
program-is_read streams program is = let canonical = is.is_plan.canonical in (is.is_plan.tree, plan_reading plan_texts program.text is.is_plan.tree (canonical.0, canonical.1))

stored-is_readable : (streams : List StreamState) (program : Program) → IsStored streams program → IsReadable program
stored-is_readable streams program stored = by (text_reading program.text) refl
  where
    by : (r : TextReading) → text_reading program.text ≡ r → IsReadable program
    by (AsPlan plan) e = (plan, e)
    by (AsTooLarge what) e = absurd (stored (λ is. let read = program-is_read streams program is in cc (sym e ∙ read.1)))
    by AsNone e = absurd (stored (λ is. let read = program-is_read streams program is in cc (sym e ∙ read.1)))

pub programs-are_readable : (t : Table) → IsTable t → AllByRecursion IsReadable t.programs
programs-are_readable t is = all-weaker (IsStored t.streams) IsReadable (stored-is_readable t.streams) t.programs is.stored

pub readable-utf8 : (program : Program) → IsReadable program → IsUtf8 program.text
readable-utf8 program is = by (tokens_in program.text) refl is.1
  where
    by : (found : Option (List Token)) → tokens_in program.text ≡ found → tokens_reading (plan_at limits 32) found ≡ AsPlan is.0 → IsUtf8 program.text
    by None e read = absurd (cc read)
    by (Some tokens) e read = tokens-utf8 tokens program.text (tokens_are (suc (length program.text)) program.text tokens e)

-- ---- kept results

typed-none_absent : (schemas : List Kinds) (plan : PlainPlan) → IsOk (plan_typing schemas plan) → absent_stream schemas plan ≡ None
typed-none_absent schemas plan typed = by (absent_stream schemas plan) typed
  where
    by : (o : Option ℕ) → IsOk (present_or o (typed_or (plan_kinds schemas plan) (λ kinds. cond (has_too_many schemas plan) (Err TooMany) (Ok kinds)))) → o ≡ None
    by None typed = refl
    by (Some stream) typed = absurd (cc)

entry-has_streams : (streams : List StreamState) (e : PlainEntry) → IsEntryOver streams e → HasStreams streams e
entry-has_streams streams e over =
    let many : length (kinds_of_streams streams) ≡ length streams = length-map streams _ in
    rw (← many) (present (length (kinds_of_streams streams)) (leaves e.plan) (typed-none_absent (kinds_of_streams streams) e.plan over.typed))

pub entries-have_streams : (t : Table) → IsTable t → AllByRecursion (HasStreams t.streams) t.entries
entries-have_streams t is = all-weaker (IsEntryOver t.streams) (HasStreams t.streams) (entry-has_streams t.streams) t.entries is.over
