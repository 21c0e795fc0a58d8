-- Lengths and bodies read from bytes.
use Rattle.std.proofs.Common.{◌≡◌, ◌≢◌, ◌⊎◌, inl, inr, ℕ, zero, suc, ◌+◌, ◌-◌, ◌^◌, ◌<◌, ◌≤◌, List, [], ◌∷◌, ◌++◌, length, take, drop, get_or, refl, sym, ap, ◌∙◌, arith, length-append, length-take, append_assoc, take-append-drop}
use Rattle.std.specs.Prelude.{Vec}
use Rattle.std.specs.List.{All}
use Rattle.std.specs.Int.{w32, from_be_bytes, to_be_bytes}
use Rattle.std.specs.declared.alloc.Global.{Global}
use Rattle.std.proofs.lemmas.List.{take_at, take_rest, map-append, nil_from_length}
use Rattle.std.proofs.lemmas.Slice.{first_rest}
use Rattle.std.proofs.lemmas.Nat.{be_bytes_4}
use Rattle.gated_log.specs.Logs.{header, length_bytes, spelled, IsBody, NoBody, blocks, front, contents, Reads, StopsAt}
use Rattle.gated_log.proofs.Blocks.{length-length_bytes, length_bytes_back}
use Rattle.gated_log.proofs.Crash.{front_push}

spelled_len : (body after bytes : List ℕ) → bytes ≡ spelled body ++ after → length bytes ≡ 4 + length body + length after
spelled_len body after bytes is =
    omega (arith, ap length is, length-append (spelled body) after, length-append (length_bytes (length body)) body, length-length_bytes (length body))

-- bytes that are too few hold no body
pub short_has_none : (bytes : List ℕ) → length bytes < 4 → NoBody bytes
short_has_none bytes short = λ body after is_body is. omega (arith, short, spelled_len body after bytes is)

-- the length that stands in front of a body is its length
pub len_of_body : (body after bytes : List ℕ) → IsBody body → bytes ≡ spelled body ++ after → from_be_bytes w32 (take 4 bytes) ≡ length body
len_of_body body after bytes is_body is =
    ap (λ (l : List ℕ). from_be_bytes w32 (take 4 l)) (is ∙ append_assoc (length_bytes (length body)) body after)
    ∙ ap (λ (l : List ℕ). from_be_bytes w32 l) (take_at (length_bytes (length body)) (body ++ after) 4 (length-length_bytes (length body)))
    ∙ length_bytes_back (length body) is_body.1

-- no body has the length 0, and none is longer than what stands there
pub none_of_len : (a b c d : ℕ) (more : List ℕ) (len : ℕ) → len ≡ from_be_bytes w32 (a ∷ b ∷ c ∷ d ∷ []) → (len ≡ 0) ⊎ (length more < len) → NoBody (a ∷ b ∷ c ∷ d ∷ more)
none_of_len a b c d more len len_is (inl none) = λ body after is_body is.
    omega (arith, none, len_is ∙ len_of_body body after (a ∷ b ∷ c ∷ d ∷ more) is_body is, is_body.0)
none_of_len a b c d more len len_is (inr short) = λ body after is_body is.
    omega (arith, short, len_is ∙ len_of_body body after (a ∷ b ∷ c ∷ d ∷ more) is_body is, spelled_len body after (a ∷ b ∷ c ∷ d ∷ more) is)

-- else the body stands there
pub body_of_len : (a b c d : ℕ) (more : List ℕ) (len : ℕ) → len ≡ from_be_bytes w32 (a ∷ b ∷ c ∷ d ∷ []) → len < 2 ^ 32 → 0 < len → len ≤ length more
    → ((i : ℕ) → get_or (a ∷ b ∷ c ∷ d ∷ []) i 0 < 256) → IsBody (take len more) × (a ∷ b ∷ c ∷ d ∷ more ≡ spelled (take len more) ++ drop len more)
unfolding length_bytes
body_of_len a b c d more len len_is small some fits bytes =
    let size : length (take len more) ≡ len = omega (arith, length-take len more, fits) in
    let spelled_len_is : length_bytes (length (take len more)) ≡ a ∷ b ∷ c ∷ d ∷ [] =
    ap (λ (n : ℕ). to_be_bytes w32 n) size ∙ be_bytes_4 (a ∷ b ∷ c ∷ d ∷ []) len refl bytes len_is in (
      (omega (arith, size, some), omega (arith, size, small)),
      ap (λ (l : List ℕ). a ∷ b ∷ c ∷ d ∷ l) (sym (take-append-drop len more))
          ∙ ap (λ (l : List ℕ). (l ++ take len more) ++ drop len more) (sym spelled_len_is),
    )

-- the number that the first four bytes are
abbrev pub first_len : List ℕ → ℕ
first_len bytes = from_be_bytes w32 (get_or bytes 0 0 ∷ get_or bytes 1 0 ∷ get_or bytes 2 0 ∷ get_or bytes 3 0 ∷ [])

pub none_in : (bytes : List ℕ) (len : ℕ) → 4 ≤ length bytes → len ≡ first_len bytes → (len ≡ 0) ⊎ (length (drop 4 bytes) < len) → NoBody bytes
none_in [] len long len_is which = absurd (omega arith)
none_in (a ∷ []) len long len_is which = absurd (omega arith)
none_in (a ∷ b ∷ []) len long len_is which = absurd (omega arith)
none_in (a ∷ b ∷ c ∷ []) len long len_is which = absurd (omega arith)
none_in (a ∷ b ∷ c ∷ d ∷ more) len long len_is which = none_of_len a b c d more len len_is which

pub body_in : (bytes : List ℕ) (len : ℕ) → 4 ≤ length bytes → len ≡ first_len bytes → len < 2 ^ 32 → 0 < len → len ≤ length (drop 4 bytes)
    → ((i : ℕ) → get_or bytes i 0 < 256) → IsBody (take len (drop 4 bytes)) × (bytes ≡ spelled (take len (drop 4 bytes)) ++ drop len (drop 4 bytes))
body_in [] len long len_is small some fits bounds = absurd (omega arith)
body_in (a ∷ []) len long len_is small some fits bounds = absurd (omega arith)
body_in (a ∷ b ∷ []) len long len_is small some fits bounds = absurd (omega arith)
body_in (a ∷ b ∷ c ∷ []) len long len_is small some fits bounds = absurd (omega arith)
body_in (a ∷ b ∷ c ∷ d ∷ more) len long len_is small some fits bounds =
    body_of_len a b c d more len len_is small some fits (λ i. below i)
  where
    below : (i : ℕ) → get_or (a ∷ b ∷ c ∷ d ∷ []) i 0 < 256
    below zero = bounds 0
    below (suc zero) = bounds 1
    below (suc (suc zero)) = bounds 2
    below (suc (suc (suc zero))) = bounds 3
    below (suc (suc (suc (suc i)))) = omega arith

-- ## The loop over the bodies

-- what is read first
pub parse_start : (bytes : List ℕ) (vecs : List (Vec ℕ Global)) → take 8 bytes ≡ header → vecs ≡ [] → bytes ≡ front (contents vecs) ++ take (length bytes - 8) (drop 8 bytes)
unfolding front
parse_start bytes vecs starts none =
    sym (take-append-drop 8 bytes) ∙ ap (λ (l : List ℕ). l ++ drop 8 bytes) starts
    ∙ ap (λ (l : List ℕ). header ++ l) (sym (take_rest bytes 8))
    ∙ ap (λ (l : List (Vec ℕ Global)). (header ++ blocks (contents l)) ++ take (length bytes - 8) (drop 8 bytes)) (sym none)

pub contents_push : (vecs more : List (Vec ℕ Global)) (v : Vec ℕ Global) (body : List ℕ) → more ≡ vecs ++ v ∷ [] → v.items ≡ body → contents more ≡ contents vecs ++ body ∷ []
contents_push vecs more v body is items =
    ap contents is ∙ map-append (λ (w : Vec ℕ Global). w.items) vecs (v ∷ []) ∙ ap (λ (l : List ℕ). contents vecs ++ l ∷ []) items

-- one body more
pub parse_more : (ps qs : List (List ℕ)) (bytes rest body after : List ℕ) → bytes ≡ front ps ++ rest → qs ≡ ps ++ body ∷ []
    → 0 < length rest → get_or rest 0 0 ≡ 1 → take (length rest - 1) (drop 1 rest) ≡ spelled body ++ after → bytes ≡ front qs ++ after
parse_more ps qs bytes rest body after is qs_is some open_ more_is =
    let rest_is : rest ≡ 1 ∷ (spelled body ++ after) =
    first_rest rest 0 some ∙ ap (λ (g : ℕ). g ∷ take (length rest - 1) (drop 1 rest)) open_ ∙ ap (λ (l : List ℕ). 1 ∷ l) more_is in
    is ∙ ap (λ (l : List ℕ). front ps ++ l) rest_is
    ∙ sym (append_assoc (front ps) (1 ∷ spelled body) after)
    ∙ ap (λ (l : List ℕ). l ++ after) (sym (front_push ps body))
    ∙ ap (λ (l : List (List ℕ)). front l ++ after) (sym qs_is)

-- a closed gate ends the log
pub parse_closed : (ps : List (List ℕ)) (bytes rest : List ℕ) → bytes ≡ front ps ++ rest → All IsBody ps → 0 < length rest → get_or rest 0 0 ≢ 1 → Reads ps bytes
parse_closed ps bytes rest is sizes some closed = record {
  gate = get_or rest 0 0;
  rest = take (length rest - 1) (drop 1 rest);
  is = is ∙ ap (λ (l : List ℕ). front ps ++ l) (first_rest rest 0 some);
  closed = closed;
  sizes = sizes;
}

-- and nothing, or an open gate without a body, ends reading
pub parse_missing : (ps : List (List ℕ)) (bytes rest : List ℕ) (at : ℕ) → bytes ≡ front ps ++ rest → All IsBody ps → length rest ≡ 0 → at ≡ length bytes → StopsAt at bytes
parse_missing ps bytes rest at is sizes none place =
    let empty : rest ≡ [] = nil_from_length rest none in
    inr (
      ps,
      record {
        rest = [];
        is = is ∙ ap (λ (l : List ℕ). front ps ++ l) empty;
        place = omega (arith, place, ap length is, length-append (front ps) rest, none);
        bad = tt;
        sizes = sizes;
      },
    )

pub parse_bad : (ps : List (List ℕ)) (bytes rest : List ℕ) (at : ℕ) → bytes ≡ front ps ++ rest → All IsBody ps → 0 < length rest → get_or rest 0 0 ≡ 1
    → NoBody (take (length rest - 1) (drop 1 rest)) → at + length rest ≡ length bytes → StopsAt at bytes
parse_bad ps bytes rest at is sizes some open_ none place = inr (
  ps,
  record {
    rest = get_or rest 0 0 ∷ take (length rest - 1) (drop 1 rest);
    is = is ∙ ap (λ (l : List ℕ). front ps ++ l) (first_rest rest 0 some);
    place = omega (arith, place, ap length is, length-append (front ps) rest);
    bad = (open_, none);
    sizes = sizes;
  },
)

pub end_of_closed : (ps : List (List ℕ)) (bytes rest : List ℕ) (end : ℕ) → bytes ≡ front ps ++ rest → 0 < length rest → end + (length rest - 1) ≡ length bytes → end ≡ length (front ps) + 1
end_of_closed ps bytes rest end is some place = omega (arith, place, some, ap length is, length-append (front ps) rest)
