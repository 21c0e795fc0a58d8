-- What is said of an answer, from what reading gives.
use Rattle.std.proofs.Common.{◌≡◌, ℕ, ◌-◌, ◌≤◌, List, length, Result, Ok, Err, refl, sym, subst, ◌∙◌, arith}
use Rattle.std.specs.Result.{IfOk, IfErr, MatchResult}
use Rattle.byte_formats.specs.Format.{StopsAt, all_of}
use Rattle.byte_formats.proofs.Readers.{IsBytes}
use Rattle.byte_formats.proofs.Whole as whole
use Rattle.catalog_types.specs.declared.change.Change.{Change}
use Rattle.record_codec.specs.declared.refusal.ChangeRefusal.{ChangeRefusal}
use Rattle.record_codec.specs.declared.refusal.ChangeRefusal.TheVariants as refusal
use Rattle.record_codec.specs.declared.form.Form.{Form}
use Rattle.record_codec.specs.Spelling.{spelling_in, HasSpellingIn, keyless}
use Rattle.record_codec.specs.Formats.{format_in}
use Rattle.record_codec.specs.Parts.{change_parts}
use Rattle.record_codec.specs.Place.{IsPlace, Reads, Spells}
use Rattle.record_codec.proofs.ChangeLaws.{change_exact}
use Rattle.record_codec.proofs.Few.{few_of}
use Rattle.record_codec.proofs.Keyless.{keyless_spelled, keyless_is}

abbrev IsFound : Form → List ℕ → Change → Type 0
IsFound f bytes c = HasSpellingIn f c × (keyless c ≡ c) × (bytes ≡ spelling_in f c)

pub found : (f : Form) (bytes : List ℕ) (r : Result Change ChangeRefusal) → IsBytes bytes → Reads r (all_of (format_in f) bytes) (length bytes) → IfOk r (λ c. IsFound f bytes c)
found f bytes (Ok c) wide e = let is = whole.is_found (format_in f) (change_exact f) bytes c wide e in (is.0.0, is.0.1, is.1)
found f bytes (Err e) wide told = tt

pub few : (f : Form) (bytes : List ℕ) (r : Result Change ChangeRefusal) → IfOk r (λ c. IsFound f bytes c) → IfOk r (λ c. change_parts c ≤ length bytes)
few f bytes (Ok c) is = few_of f bytes c is.2
few f bytes (Err e) is = tt

answer : (r : Result Change ChangeRefusal) (read : Result Change ℕ) (len : ℕ) (c : Change) → Reads r read len → read ≡ Ok c → MatchResult r (λ found. found ≡ c) (λ e. e ≡ refusal.Memory)
answer (Ok found) read len c told e = let same : Ok found ≡ Ok c = sym told ∙ e in cc
answer (Err refusal.Memory) read len c told e = refl
answer (Err (refusal.NotChange at)) read len c told e = absurd (let clash : Err told.0 ≡ Ok c = sym told.1 ∙ e in cc)

pub only : (f : Form) (bytes : List ℕ) (r : Result Change ChangeRefusal) (c : Change) → HasSpellingIn f c → bytes ≡ spelling_in f c → Reads r (all_of (format_in f) bytes) (length bytes)
    → MatchResult r (λ found. found ≡ keyless c) (λ e. e ≡ refusal.Memory)
only f bytes r c has e told =
    answer r (all_of (format_in f) bytes) (length bytes) (keyless c) told (whole.is_read (format_in f) (change_exact f) bytes (keyless c) (keyless_is f c has) (e ∙ sym (keyless_spelled f c)))

pub place : (f : Form) (bytes : List ℕ) (r : Result Change ChangeRefusal) → IsBytes bytes → Reads r (all_of (format_in f) bytes) (length bytes) → IfErr r (λ e. IsPlace f bytes e)
place f bytes (Ok c) wide told = tt
place f bytes (Err refusal.Memory) wide told = tt
place f bytes (Err (refusal.NotChange at)) wide told =
    subst (λ (n : ℕ). StopsAt (format_in f) bytes n) (sym told.2) (whole.is_place (format_in f) (change_exact f) bytes told.0 wide told.1)

pub one_spelling : (f : Form) (a b : Change) → HasSpellingIn f a → HasSpellingIn f b → spelling_in f a ≡ spelling_in f b → keyless a ≡ keyless b
one_spelling f a b p q e =
    whole.one_spelling (format_in f) (change_exact f) (keyless a) (keyless b) (keyless_is f a p) (keyless_is f b q) (keyless_spelled f a ∙ e ∙ sym (keyless_spelled f b))

pub one_change : (f : Form) (bytes : List ℕ) (a b : Change) → Spells f a bytes → Spells f b bytes → a ≡ b
one_change f bytes a b p q = whole.one_spelling (format_in f) (change_exact f) a b p.0 q.0 (sym p.1 ∙ q.1)

pub one_place : (f : Form) (bytes : List ℕ) (a b : ℕ) → StopsAt (format_in f) bytes a → StopsAt (format_in f) bytes b → a ≡ b
one_place f = whole.one_place (format_in f) (change_exact f)
