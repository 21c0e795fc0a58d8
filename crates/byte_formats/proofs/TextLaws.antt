-- Texts that are read are spelled so, and what is spelled so is read.
use Rattle.std.proofs.Common.{◌≡◌, ℕ, ◌^◌, ◌≤◌, Bool, true, false, cond, ltb, List, ◌++◌, length, take, drop, Ok, Err, refl, sym, ap, subst, ◌∙◌, append_assoc, arith}
use Rattle.std.specs.Int.{w32, to_be_bytes}
use Rattle.std.proofs.lemmas.Bool.{ltb-false, le-ltb}
use Rattle.std.proofs.lemmas.List.{take_at, drop_at, take-append-drop, length-append, length-take}
use Rattle.rows_core.specs.Txt.{IsTxt}
use Rattle.byte_formats.specs.Reading.{bounded_at, any_following, left_in_text, is_text, text_at}
use Rattle.byte_formats.specs.Format.{text_spelling}
use Rattle.byte_formats.proofs.Texts.{is_text-true, is_text-parts}
use Rattle.byte_formats.proofs.Readers.{IsBytes, IsBytes-drop, bind_ok, guard_ok, HasFront}
use Rattle.byte_formats.proofs.Fields.{wide32, bounded_reader}

-- a test that did not fail, the other way round
kept_ok : {A : Type 0} (b : Bool) (x y : A) (d : ℕ) → cond b (Ok x) (Err d) ≡ Ok y → (b ≡ true) × (x ≡ y)
kept_ok true x y d e = (refl, cc)
kept_ok false x y d e = absurd cc

pub text_takes : (bytes : List ℕ) (x : List ℕ × List ℕ) → IsBytes bytes → text_at bytes ≡ Ok x → HasFront text_spelling IsTxt bytes x
unfolding text_at
text_takes bytes x fits e =
    let b = bind_ok (bounded_at w32 0 1000 bytes) (λ n. cond (ltb (length n.1) n.0) (Err (left_in_text (any_following 0) n.0 n.1)) (cond (is_text (take n.0 n.1)) (Ok (take n.0 n.1, drop n.0 n.1)) (Err (left_in_text (any_following 0) n.0 n.1)))) x e in
    let n = b.0 in
    let t = (bounded_reader w32 (2 ^ 32) wide32 0 1000 (omega arith)).takes bytes n fits b.1 in
    let left = left_in_text (any_following 0) n.0 n.1 in
    let g = guard_ok (ltb (length n.1) n.0) left (cond (is_text (take n.0 n.1)) (Ok (take n.0 n.1, drop n.0 n.1)) (Err left)) x b.2 in
    let k = kept_ok (is_text (take n.0 n.1)) (take n.0 n.1, drop n.0 n.1) x left g.1 in
    let long : n.0 ≤ length n.1 = ltb-false _ _ g.0 in
    let len : length (take n.0 n.1) ≡ n.0 = omega (arith, length-take n.0 n.1) in
    let small : n.0 ≤ 1000 = t.fits.1 in
    let parts : bytes ≡ text_spelling (take n.0 n.1) ++ drop n.0 n.1 =
    t.parts ∙ ap (λ (l : List ℕ). to_be_bytes w32 n.0 ++ l) (sym (take-append-drop n.0 n.1)) ∙ sym (append_assoc (to_be_bytes w32 n.0) (take n.0 n.1) (drop n.0 n.1))
    ∙ ap (λ (m : ℕ). (to_be_bytes w32 m ++ take n.0 n.1) ++ drop n.0 n.1) (sym len) in
    subst (λ y. HasFront text_spelling IsTxt bytes y) k.1
    (record { parts = parts; rest = IsBytes-drop n.0 n.1 t.rest; fits = (is_text-parts (take n.0 n.1) k.0, omega (arith, len, small)) })

pub text_again : (t rest : List ℕ) → IsTxt t → text_at (text_spelling t ++ rest) ≡ Ok (t, rest)
unfolding text_at
text_again t rest fits =
    let regrouped : text_spelling t ++ rest ≡ to_be_bytes w32 (length t) ++ (t ++ rest) = append_assoc (to_be_bytes w32 (length t)) t rest in
    let first = (bounded_reader w32 (2 ^ 32) wide32 0 1000 (omega arith)).again (length t) (t ++ rest) (omega arith, fits.1) in
    let long : ltb (length (t ++ rest)) (length t) ≡ false = le-ltb _ _ (omega (arith, length-append t rest)) in
    ap text_at regrouped ∙ rw (first, long, take_at t rest (length t) refl, drop_at t rest (length t) refl, is_text-true t fits.0) refl
