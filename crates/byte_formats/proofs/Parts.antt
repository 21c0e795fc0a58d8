-- A part that may be absent, items in order, a test that counts at the last byte, and bytes as they are.
use Rattle.std.proofs.Common.{◌≡◌, ℕ, zero, suc, ◌+◌, ◌^◌, ◌<◌, ◌≤◌, inl, inr, Bool, true, false, ltb, cond, List, [], ◌∷◌, ◌++◌, length, take, drop, Option, Some, None, Ok, Err, refl, sym, ap, subst, ◌∙◌, append_assoc, arith}
use Rattle.std.specs.Int.{w32, to_be_bytes}
use Rattle.std.proofs.lemmas.Bool.{ltb-true, ltb-false, le-ltb}
use Rattle.std.proofs.lemmas.List.{append-nil, length-append, length-take, take-append-drop, take_at, drop_at}
use Rattle.byte_formats.specs.Reading.{◌>>=◌, Read}
use Rattle.byte_formats.specs.Format.{Format, made, flag, ◌▷◌, u32, read_as, first_of, FitsChain, chain_spelling, AreChain, chain_at, chain, counted_chain, empty, Part, part, option_of, FitsOption, option_spelling, optional, passed, passing, run_at, run, digest, sized}
use Rattle.byte_formats.proofs.Readers.{IsBytes, bind_ok, guard_ok, ok_is}
use Rattle.byte_formats.proofs.Stopping.{bind_err}
use Rattle.byte_formats.proofs.Ranges.{err_cases}
use Rattle.byte_formats.proofs.Exact.{Takes, Stops, Exact, one_value, both_exact}
use Rattle.byte_formats.proofs.Laws.{alike, made_exact, nothing_left, u32_exact}
use Rattle.byte_formats.proofs.Told.{flag_exact}

-- ---- bytes as they are

run_takes : (n : ℕ) (bytes : List ℕ) (x : List ℕ × List ℕ) → run_at n bytes ≡ Ok x → Takes (run n) bytes x
run_takes n bytes x e =
    let g = guard_ok (ltb (length bytes) n) 0 (Ok (take n bytes, drop n bytes)) x e in
    let long : n ≤ length bytes = ltb-false _ _ g.0 in
    let len : length (take n bytes) ≡ n = omega (arith, length-take n bytes) in
    subst (λ y. Takes (run n) bytes y) (ok_is (take n bytes, drop n bytes) x g.1) (record { fits = len; parts = sym (take-append-drop n bytes) })

run_again : (n : ℕ) (a rest : List ℕ) → length a ≡ n → run_at n (a ++ rest) ≡ Ok (a, rest)
run_again n a rest fits =
    let long : ltb (length (a ++ rest)) n ≡ false = le-ltb _ _ (omega (arith, length-append a rest)) in
    rw (long, take_at a rest n fits, drop_at a rest n fits) refl

run_stops : (n : ℕ) (bytes : List ℕ) (left : ℕ) → run_at n bytes ≡ Err left → Stops (run n) bytes left
run_stops n bytes left e = elim (err_cases (ltb (length bytes) n) 0 left (Ok (take n bytes, drop n bytes)) e) [
  | inl p ↦ record { front = bytes; back = []; parts = sym (append-nil bytes); size = p.1; goes = (let lt = ltb-true (length bytes) n p.0 in omega arith); dead = λ b bs back. absurd cc }
  | inr p ↦ absurd (let clash = p.1 in cc)
]

pub run_exact : (n : ℕ) → Exact (run n)
run_exact n = record {
  again = run_again n;
  takes = λ bytes x wide e. run_takes n bytes x e;
  stops = λ bytes left wide e. run_stops n bytes left e;
  fronts = λ a front more fits e. (let both : length a ≡ length front + length more = ap length e ∙ length-append front more in omega arith);
  past = λ a c cs fits begins. (let both = length-append a (c ∷ cs) in omega arith);
  shorter = λ front more begins. (let both = length-append front more in omega arith);
}

pub digest_exact : Exact digest
digest_exact =
    made_exact (λ (bytes : List ℕ). record { bytes = bytes }) (λ digest. length digest.bytes ≡ 32) (λ digest. digest.bytes) (run 32) (run_exact 32)
    (record { to = λ bytes fits. (fits, refl); from = λ digest fits. (digest.bytes, fits, refl) })

sized_from : (a : List ℕ) → length a < 2 ^ 32 → (p : ℕ × List ℕ) × (u32 ▷ run).Fits p × (p.1 ≡ a)
sized_from a fits = ((length a, a), (fits, refl), refl)

pub sized_exact : Exact sized
sized_exact =
    made_exact (λ (p : ℕ × List ℕ). p.1) (λ bytes. length bytes < 2 ^ 32) (λ bytes. to_be_bytes w32 (length bytes) ++ bytes) (u32 ▷ run) (both_exact u32 run u32_exact (λ n fits. run_exact n))
    (record { to = λ p fits. (subst (λ (m : ℕ). m < 2 ^ 32) (sym fits.1) fits.0, ap (λ (m : ℕ). to_be_bytes w32 m ++ p.1) fits.1); from = sized_from })

-- ---- a part that may be absent

pub empty_exact : Exact empty
empty_exact = record {
  again = λ a rest fits. refl;
  takes = λ bytes x wide e. subst (λ y. Takes empty bytes y) (ok_is (tt, bytes) x e) (record { fits = tt; parts = refl });
  stops = λ bytes left wide e. absurd cc;
  fronts = λ a front more fits e. nothing_left front more e;
  past = λ a c cs fits begins. cc;
  shorter = λ front more begins. nothing_left front more (sym begins);
}

module _ {A : Type 0} (item : Format A) (exact : Exact item) where
  part_exact : (there : Bool) → Exact (part item there)
  part_exact true = exact
  part_exact false = empty_exact

  option_to : (there : Bool) (a : Part A there) → (part item there).Fits a → FitsOption item (option_of there a) × (option_spelling item (option_of there a) ≡ (flag ▷ part item).spell (there, a))
  option_to true a fits = (fits, refl)
  option_to false a fits = (tt, refl)

  option_from : (o : Option A) → FitsOption item o → (p : (there : Bool) × Part A there) × (flag ▷ part item).Fits p × (option_of p.0 p.1 ≡ o)
  option_from None fits = ((false, tt), (refl, tt), refl)
  option_from (Some a) fits = ((true, a), (refl, fits), refl)

  pub optional_exact : Exact (optional item)
  optional_exact =
      made_exact (λ (p : (there : Bool) × Part A there). option_of p.0 p.1) (FitsOption item) (option_spelling item) (flag ▷ part item) (both_exact flag (part item) flag_exact (λ there fits. part_exact there))
      (record { to = λ p fits. option_to p.0 p.1 fits.1; from = option_from })

-- ---- items in order

module _ {A S : Type 0} (item : S → Format A) (next : S → A → S) (exact : (s : S) → Exact (item s)) where
  abbrev follow : (n : ℕ) (s : S) → A → Format (List A)
  follow n s a = chain item next n (next s a)

  none_again : (s : S) (items : List A) (rest : List ℕ) → AreChain item next 0 s items → (chain item next 0 s).read (chain_spelling item next s items ++ rest) ≡ Ok (items, rest)
  none_again s [] rest fits = refl
  none_again s (x ∷ items) rest fits = absurd (let e = fits.0 in omega arith)

  none_fronts : (s : S) (items : List A) (front more : List ℕ) → AreChain item next 0 s items → chain_spelling item next s items ≡ front ++ more → front ≡ []
  none_fronts s [] front more fits e = nothing_left front more e
  none_fronts s (x ∷ items) front more fits e = absurd (let e = fits.0 in omega arith)

  none_past : (s : S) (items : List A) (c : ℕ) (cs : List ℕ) → AreChain item next 0 s items → chain_spelling item next s items ++ c ∷ cs ≡ [] → ⊥
  none_past s [] c cs fits e = cc
  none_past s (x ∷ items) c cs fits e = let e = fits.0 in omega arith

  none_takes : (s : S) (x : List A × List ℕ) (bytes : List ℕ) → ([], bytes) ≡ x → Takes (chain item next 0 s) bytes x
  none_takes s x bytes is = subst (λ y. Takes (chain item next 0 s) bytes y) is (record { fits = (refl, tt); parts = refl })

  behind_first : (a : A) (r : Read (List A)) → (r >>= λ x. Ok (a ∷ x.0, x.1)) ≡ read_as first_of (r >>= λ x. let p : A × List A = (a, x.0) in Ok (p, x.1))
  behind_first a (Err left) = refl
  behind_first a (Ok x) = refl

  one_step : (n : ℕ) (s : S) (r : Read A) → (r >>= λ a. chain_at item next n (next s a.0) a.1 >>= λ x. Ok (a.0 ∷ x.0, x.1)) ≡ read_as first_of (r >>= λ a. chain_at item next n (next s a.0) a.1 >>= λ x. Ok ((a.0, x.0), x.1))
  one_step n s (Err left) = refl
  one_step n s (Ok a) = behind_first a.0 (chain_at item next n (next s a.0) a.1)

  split_first : (n : ℕ) (s : S) (items : List A) → AreChain item next (suc n) s items → (p : A × List A) × (item s ▷ follow n s).Fits p × (first_of p ≡ items)
  split_first n s [] fits = absurd (let e = fits.0 in omega arith)
  split_first n s (x ∷ items) fits = ((x, items), (fits.1.0, ((let e = fits.0 in omega arith), fits.1.1)), refl)

  pub chain_exact : (n : ℕ) (s : S) → Exact (chain item next n s)
  chain_exact zero s = record {
    again = none_again s;
    takes = λ bytes x wide e. none_takes s x bytes (ok_is ([], bytes) x e);
    stops = λ bytes left wide e. absurd cc;
    fronts = none_fronts s;
    past = none_past s;
    shorter = λ front more begins. nothing_left front more (sym begins);
  }
  chain_exact (suc n) s =
      alike (made first_of (AreChain item next (suc n) s) (chain_spelling item next s) (item s ▷ follow n s)) (chain_at item next (suc n) s) (λ bytes. one_step n s ((item s).read bytes))
      (made_exact first_of (AreChain item next (suc n) s) (chain_spelling item next s) (item s ▷ follow n s) (both_exact (item s) (follow n s) (exact s) (λ x fits. chain_exact n (next s x)))
      (record { to = λ p fits. (((let e = fits.1.0 in omega arith), (fits.0, fits.1.1)), refl); from = split_first n s }))

  module _ (count : Format ℕ) (count_exact : Exact count) (s : S) where
    chain_parts : (items : List A) → count.Fits (length items) × FitsChain item next s items → (p : ℕ × List A) × (count ▷ λ n. chain item next n s).Fits p × (p.1 ≡ items)
    chain_parts items fits = ((length items, items), (fits.0, (refl, fits.1)), refl)

    pub counted_chain_exact : Exact (counted_chain count item next s)
    counted_chain_exact =
        made_exact (λ (p : ℕ × List A). p.1) (λ items. count.Fits (length items) × FitsChain item next s items) (λ items. count.spell (length items) ++ chain_spelling item next s items) (count ▷ λ n. chain item next n s)
        (both_exact count (λ n. chain item next n s) count_exact (λ n fits. chain_exact n s))
        (record { to = λ p fits. ((subst count.Fits (sym fits.1.0) fits.0, fits.1.1), ap (λ (n : ℕ). count.spell n ++ chain_spelling item next s p.1) fits.1.0); from = chain_parts })

-- ---- a test that counts at the last byte

-- a list that isn't empty, up to its last item
pub record Last (xs : List ℕ) : Type 0 where
  pub front : List ℕ
  pub last : ℕ
  pub parts : xs ≡ front ++ last ∷ []

last_of : (x : ℕ) (xs : List ℕ) → Last (x ∷ xs)
last_of x [] = record { front = []; last = x; parts = refl }
last_of x (y ∷ xs) = let l = last_of y xs in record { front = x ∷ l.front; last = l.last; parts = (λ i. x ∷ l.parts i) }

pub last_item : (xs : List ℕ) → 0 < length xs → Last xs
last_item [] lt = absurd (omega arith)
last_item (x ∷ xs) lt = last_of x xs

passed_ok : {A : Type 0} (t : Bool) (x y : A × List ℕ) → (let r : Read A = cond t (Ok x) (Err (suc (length x.1))) in r ≡ Ok y) → (t ≡ true) × (x ≡ y)
passed_ok true x y e = (refl, ok_is x y e)
passed_ok false x y e = absurd cc

passed_err : {A : Type 0} (t : Bool) (x : A × List ℕ) (left : ℕ) → (let r : Read A = cond t (Ok x) (Err (suc (length x.1))) in r ≡ Err left) → (t ≡ false) × (suc (length x.1) ≡ left)
passed_err true x left e = absurd cc
passed_err false x left e = (refl, cc)

module _ {A : Type 0} (test : A → Bool) (format : Format A) (exact : Exact format) (some_bytes : (a : A) → format.Fits a → 0 < length (format.spell a)) where
  abbrev own : Format A
  own = passing test format

  -- a value whose spelling is the front of another's is that one
  only_whole : (a b : A) (more : List ℕ) → format.Fits a → format.Fits b → format.spell a ≡ format.spell b ++ more → a ≡ b
  only_whole a b [] p q e = (one_value format exact a b [] [] p q (ap (λ (l : List ℕ). l ++ []) (e ∙ append-nil (format.spell b)))).value
  only_whole a b (c ∷ cs) p q e = absurd (exact.past b c cs q (subst format.Begins e (exact.fronts a (format.spell a) [] p (sym (append-nil (format.spell a))))))

  passing_takes : (bytes : List ℕ) (x : A × List ℕ) → IsBytes bytes → own.read bytes ≡ Ok x → Takes own bytes x
  passing_takes bytes x wide e =
      let a = bind_ok (format.read bytes) (λ y. cond (test y.0) (Ok y) (Err (suc (length y.1)))) x e in
      let t = exact.takes bytes a.0 wide a.1 in
      let p = passed_ok (test a.0.0) a.0 x a.2 in
      subst (λ y. Takes own bytes y) p.1 (record { fits = (t.fits, p.0); parts = t.parts })

  stops_before : (bytes : List ℕ) (left : ℕ) → Stops format bytes left → format.read bytes ≡ Err left → Stops own bytes left
  stops_before bytes left s e = record {
    front = s.front;
    back = s.back;
    parts = s.parts;
    size = s.size;
    goes = (
      s.goes,
      λ a fits whole.
          let read : Ok (a, s.back) ≡ Err left = sym (exact.again a s.back fits) ∙ ap (λ (l : List ℕ). format.read (l ++ s.back)) whole ∙ ap format.read (sym s.parts) ∙ e in
          absurd cc,
    );
    dead = λ b bs back begins. s.dead b bs back begins.0;
  }

  stops_last : (bytes : List ℕ) (left : ℕ) (x : A × List ℕ) → Takes format bytes x → test x.0 ≡ false → suc (length x.1) ≡ left → Stops own bytes left
  stops_last bytes left x t fails size =
      let l = last_item (format.spell x.0) (some_bytes x.0 t.fits) in
      record {
        front = l.front;
        back = l.last ∷ x.1;
        parts = t.parts ∙ ap (λ (s : List ℕ). s ++ x.1) l.parts ∙ append_assoc l.front (l.last ∷ []) x.1;
        size = size;
        goes = (
          exact.fronts x.0 l.front (l.last ∷ []) t.fits l.parts,
          λ a fits whole. absurd (exact.past a l.last [] fits (subst format.Begins (l.parts ∙ ap (λ (s : List ℕ). s ++ l.last ∷ []) (sym whole)) (exact.fronts x.0 (format.spell x.0) [] t.fits (sym (append-nil (format.spell x.0)))))),
        );
        dead = λ b bs back begins.
            let head : l.last ≡ b = cc in
            let passes : test x.0 ≡ true = begins.1 x.0 t.fits (l.parts ∙ ap (λ (c : ℕ). l.front ++ c ∷ []) head) in
            let clash : true ≡ false = sym passes ∙ fails in
            cc;
      }

  passing_stops : (bytes : List ℕ) (left : ℕ) → IsBytes bytes → own.read bytes ≡ Err left → Stops own bytes left
  passing_stops bytes left wide e = elim (bind_err (format.read bytes) (λ y. cond (test y.0) (Ok y) (Err (suc (length y.1)))) left e) [
    | inl h ↦ stops_before bytes left (exact.stops bytes left wide h) h
    | inr h ↦ let p = passed_err (test h.0.0) h.0 left h.2 in stops_last bytes left h.0 (exact.takes bytes h.0 wide h.1) p.0 p.1
  ]

  still : (b : A) (front more : List ℕ) → format.Fits b → format.spell b ≡ front → own.Begins (front ++ more) → test b ≡ true
  still b front [] q whole begins = begins.1 b q (whole ∙ sym (append-nil front))
  still b front (c ∷ cs) q whole begins = absurd (exact.past b c cs q (subst (λ (l : List ℕ). format.Begins (l ++ c ∷ cs)) (sym whole) begins.0))

  pub passing_exact : Exact (passing test format)
  passing_exact = record {
    again = λ a rest fits. ap (passed test) (exact.again a rest fits.0) ∙ ap (λ (t : Bool). cond t (Ok (a, rest)) (Err (suc (length rest)))) fits.1;
    takes = passing_takes;
    stops = passing_stops;
    fronts = λ a front more fits e. (
      exact.fronts a front more fits.0 e,
      λ b q whole. ap test (sym (only_whole a b more fits.0 q (e ∙ ap (λ (l : List ℕ). l ++ more) (sym whole)))) ∙ fits.1,
    );
    past = λ a c cs fits begins. exact.past a c cs fits.0 begins.0;
    shorter = λ front more begins. (
      exact.shorter front more begins.0,
      λ b q whole. still b front more q whole begins,
    );
  }
