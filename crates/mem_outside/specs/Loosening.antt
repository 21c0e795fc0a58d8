-- Each outcome after a write or a cut is an outcome before it after that step.
use Rattle.std.proofs.Common.{◌≡◌, inl, inr, ℕ, zero, suc, ◌+◌, ◌-◌, ◌≤◌, min, max, Bool, true, false, ◌&&◌, List, [], ◌∷◌, ◌++◌, Option, None, Some, IsTrue, length, take, drop, map, replicate, refl, sym, ap, ◌∙◌, subst, arith, length-append, length-take}
use Rattle.std.specs.Prelude.{◌==◌}
use Rattle.std.proofs.lemmas.Bool.Decides.{nat_tests}
use Rattle.std.proofs.lemmas.Bool.{cases_lt, false≢true}
use Rattle.std.proofs.lemmas.List.{append-nil, take_all, drop_all, take-take, take_min, take-append-le, length-replicate, nil_from_length}
use Rattle.outside_traits.specs.Calls.{Torn, Shortened}
use Rattle.mem_outside.specs.Outcomes.{fits, freed}

pub both : (a b : Bool) → IsTrue (a && b) → IsTrue a × IsTrue b
both true b h = (refl, h)
both false b h = absurd (false≢true h)

pub and_of : (a b : Bool) → IsTrue a → IsTrue b → IsTrue (a && b)
and_of true b ha hb = hb
and_of false b ha hb = absurd (false≢true ha)

-- the fixed bytes put back
refit : List (Option ℕ) → List ℕ → List ℕ
refit [] x = x
refit (p ∷ ps) [] = []
refit (None ∷ ps) (y ∷ ys) = y ∷ refit ps ys
refit (Some b ∷ ps) (y ∷ ys) = b ∷ refit ps ys

length-refit : (ps : List (Option ℕ)) (x : List ℕ) → length (refit ps x) ≡ length x
unfolding refit
length-refit [] x = refl
length-refit (p ∷ ps) [] = refl
length-refit (None ∷ ps) (y ∷ ys) = ap suc (length-refit ps ys)
length-refit (Some b ∷ ps) (y ∷ ys) = ap suc (length-refit ps ys)

pub same_test : (b : ℕ) → IsTrue (b == b)
same_test b = grind (arith, nat_tests)

pub test_same : (a b : ℕ) → IsTrue (a == b) → a ≡ b
test_same a b h = grind (arith, nat_tests)

fits_refit : (ps : List (Option ℕ)) (x : List ℕ) → length ps ≤ length x → IsTrue (fits ps (refit ps x))
unfolding refit
fits_refit [] x le = refl
fits_refit (p ∷ ps) [] le = absurd (omega arith)
fits_refit (None ∷ ps) (y ∷ ys) le = fits_refit ps ys (omega arith)
fits_refit (Some b ∷ ps) (y ∷ ys) le = and_of (b == b) (fits ps (refit ps ys)) (same_test b) (fits_refit ps ys (omega arith))

pub fits_long : (ps : List (Option ℕ)) (x : List ℕ) → IsTrue (fits ps x) → length ps ≤ length x
fits_long [] x h = omega arith
fits_long (p ∷ ps) [] h = absurd (false≢true h)
fits_long (None ∷ ps) (y ∷ ys) h = omega (arith, fits_long ps ys h)
fits_long (Some b ∷ ps) (y ∷ ys) h = omega (arith, fits_long ps ys (both (b == y) (fits ps ys) h).1)

fits_take : (ps : List (Option ℕ)) (x : List ℕ) (n : ℕ) → IsTrue (fits ps x) → length ps ≤ n → IsTrue (fits ps (take n x))
fits_take [] x n h le = refl
fits_take (p ∷ ps) [] n h le = absurd (false≢true h)
fits_take (p ∷ ps) (y ∷ ys) zero h le = absurd (omega arith)
fits_take (None ∷ ps) (y ∷ ys) (suc n) h le = fits_take ps ys n h (omega arith)
fits_take (Some b ∷ ps) (y ∷ ys) (suc n) h le =
    let parts = both (b == y) (fits ps ys) h in
    and_of (b == y) (fits ps (take n ys)) parts.0 (fits_take ps ys n parts.1 (omega arith))

pub fits_more : (ps : List (Option ℕ)) (x w : List ℕ) → IsTrue (fits ps x) → IsTrue (fits ps (x ++ w))
fits_more [] x w h = refl
fits_more (p ∷ ps) [] w h = absurd (false≢true h)
fits_more (None ∷ ps) (y ∷ ys) w h = fits_more ps ys w h
fits_more (Some b ∷ ps) (y ∷ ys) w h =
    let parts = both (b == y) (fits ps ys) h in
    and_of (b == y) (fits ps (ys ++ w)) parts.0 (fits_more ps ys w parts.1)

-- a cut keeps the front
pub fits_cut : (ps : List (Option ℕ)) (x : List ℕ) (n : ℕ) → IsTrue (fits ps x) → IsTrue (fits (take n ps) (take n x))
fits_cut ps x zero h = refl
fits_cut [] x (suc n) h = refl
fits_cut (p ∷ ps) [] (suc n) h = absurd (false≢true h)
fits_cut (None ∷ ps) (y ∷ ys) (suc n) h = fits_cut ps ys n h
fits_cut (Some b ∷ ps) (y ∷ ys) (suc n) h =
    let parts = both (b == y) (fits ps ys) h in
    and_of (b == y) (fits (take n ps) (take n ys)) parts.0 (fits_cut ps ys n parts.1)

pub fits_front : (ps : List (Option ℕ)) (x : List ℕ) (n : ℕ) → IsTrue (fits ps x) → IsTrue (fits (take n ps) x)
fits_front ps x zero h = refl
fits_front [] x (suc n) h = refl
fits_front (p ∷ ps) [] (suc n) h = absurd (false≢true h)
fits_front (None ∷ ps) (y ∷ ys) (suc n) h = fits_front ps ys n h
fits_front (Some b ∷ ps) (y ∷ ys) (suc n) h =
    let parts = both (b == y) (fits ps ys) h in
    and_of (b == y) (fits (take n ps) ys) parts.0 (fits_front ps ys n parts.1)

-- only what is fixed fits, where all is fixed
pub fits_all : (bytes x : List ℕ) → IsTrue (fits (map (λ b. Some b) bytes) x) → length x ≤ length bytes → x ≡ bytes
fits_all [] [] h le = refl
fits_all [] (y ∷ ys) h le = absurd (omega arith)
fits_all (b ∷ bytes) [] h le = absurd (false≢true h)
fits_all (b ∷ bytes) (y ∷ ys) h le =
    let parts = both (b == y) (fits (map (λ c. Some c) bytes) ys) h in
    let first : b ≡ y = test_same b y parts.0 in
    let rest : ys ≡ bytes = fits_all bytes ys parts.1 (omega arith) in
    λ i. sym first i ∷ rest i

pub fits_settled : (bytes : List ℕ) → IsTrue (fits (map (λ b. Some b) bytes) bytes)
fits_settled [] = refl
fits_settled (b ∷ bytes) = and_of (b == b) (fits (map (λ c. Some c) bytes) bytes) (same_test b) (fits_settled bytes)

-- what is put back is what stood there, in front of where bytes were freed and behind
take_refit : (ps : List (Option ℕ)) (x : List ℕ) (at n : ℕ) → IsTrue (fits (freed at n ps) x) → take at (refit ps x) ≡ take at x
unfolding refit
take_refit ps x zero n h = refl
take_refit [] x (suc at) n h = refl
take_refit (p ∷ ps) [] (suc at) n h = absurd (false≢true h)
take_refit (None ∷ ps) (y ∷ ys) (suc at) n h = ap (λ (l : List ℕ). y ∷ l) (take_refit ps ys at n h)
take_refit (Some b ∷ ps) (y ∷ ys) (suc at) n h =
    let parts = both (b == y) (fits (freed at n ps) ys) h in
    let first : b ≡ y = test_same b y parts.0 in
    let rest : take at (refit ps ys) ≡ take at ys = take_refit ps ys at n parts.1 in
    λ i. first i ∷ rest i

refit_same : (ps : List (Option ℕ)) (x : List ℕ) → IsTrue (fits ps x) → refit ps x ≡ x
unfolding refit
refit_same [] x h = refl
refit_same (p ∷ ps) [] h = refl
refit_same (None ∷ ps) (y ∷ ys) h = ap (λ (l : List ℕ). y ∷ l) (refit_same ps ys h)
refit_same (Some b ∷ ps) (y ∷ ys) h =
    let parts = both (b == y) (fits ps ys) h in
    let first : b ≡ y = test_same b y parts.0 in
    let rest : refit ps ys ≡ ys = refit_same ps ys parts.1 in
    λ i. first i ∷ rest i

drop_refit : (ps : List (Option ℕ)) (x : List ℕ) (at n m : ℕ) → m ≡ at + n → IsTrue (fits (freed at n ps) x) → drop m (refit ps x) ≡ drop m x
unfolding refit
drop_refit [] x at n m is h = refl
drop_refit (p ∷ ps) [] at n m is h = refl
drop_refit (p ∷ ps) (y ∷ ys) zero zero m is h = ap (λ (l : List ℕ). drop m l) (refit_same (p ∷ ps) (y ∷ ys) h)
drop_refit (p ∷ ps) (y ∷ ys) zero (suc n) zero is h = absurd (omega arith)
drop_refit (None ∷ ps) (y ∷ ys) zero (suc n) (suc m) is h = drop_refit ps ys zero n m (omega arith) h
drop_refit (Some b ∷ ps) (y ∷ ys) zero (suc n) (suc m) is h = drop_refit ps ys zero n m (omega arith) h
drop_refit (p ∷ ps) (y ∷ ys) (suc at) n zero is h = absurd (omega arith)
drop_refit (None ∷ ps) (y ∷ ys) (suc at) n (suc m) is h = drop_refit ps ys at n m (omega arith) h
drop_refit (Some b ∷ ps) (y ∷ ys) (suc at) n (suc m) is h =
    drop_refit ps ys at n m (omega arith) (both (b == y) (fits (freed at n ps) ys) h).1

length-freed : (at n : ℕ) (ps : List (Option ℕ)) → length (freed at n ps) ≡ length ps
length-freed at n [] = refl
length-freed (suc at) n (p ∷ ps) = ap suc (length-freed at n ps)
length-freed zero (suc n) (p ∷ ps) = ap suc (length-freed zero n ps)
length-freed zero zero (p ∷ ps) = refl

-- An outcome after a write is one before it, torn.
pub write_back : (at n : ℕ) (ps : List (Option ℕ)) (longest : ℕ) (x : List ℕ) → length ps ≤ longest → IsTrue (fits (freed at n ps) x) → length x ≤ max longest (at + n)
    → (d : List ℕ) × IsTrue (fits ps d) × (length d ≤ longest) × Torn at n d x
write_back at n ps longest x low h high =
    let whole : List ℕ = refit ps x in
    let size : length whole ≡ length x = length-refit ps x in
    let long : length ps ≤ length x = omega (arith, fits_long (freed at n ps) x h, length-freed at n ps) in
    let count : length (take longest whole) ≡ min longest (length x) = omega (arith, length-take longest whole, size) in (
      take longest whole,
      fits_take ps whole longest (fits_refit ps x long) low,
      omega (arith, count),
      record {
        before = elim (cases_lt longest at) [
          | inl less ↦
              ap (λ (m : ℕ). take m x) (let m_is : min at (length (take longest whole)) ≡ min longest (length x) = omega (arith, count, less) in m_is)
              ∙ take_min longest x
              ∙ sym (take-take longest at x (omega (arith, less)))
              ∙ ap (λ (l : List ℕ). take longest l) (sym (take_refit ps x at n h))
              ∙ take-take longest at whole (omega (arith, less))
              ∙ sym (take_all at (take longest whole) (omega (arith, count, less)))
          | inr more ↦
              ap (λ (m : ℕ). take m x) (let m_is : min at (length (take longest whole)) ≡ min at (length x) = omega (arith, count, more) in m_is)
              ∙ take_min at x
              ∙ sym (take_refit ps x at n h)
              ∙ sym (take-take at longest whole more)
        ];
        after = elim (cases_lt longest (length x)) [
          | inl less ↦
              drop_all (at + n) x (omega (arith, high, less))
              ∙ sym (drop_all (at + n) (take longest whole) (omega (arith, high, less, count)))
          | inr more ↦
              sym (drop_refit ps x at n (at + n) refl h)
              ∙ ap (λ (l : List ℕ). drop (at + n) l) (sym (take_all longest whole (omega (arith, size, more))))
        ];
        no_shorter = omega (arith, count);
        no_longer = omega (arith, count, high);
      },
    )

fits_cut_long : (ps : List (Option ℕ)) (len : ℕ) (x : List ℕ) → IsTrue (fits (take len ps) x) → min len (length ps) ≤ length x
fits_cut_long ps len x h = omega (arith, fits_long (take len ps) x h, length-take len ps)

take_refit_cut : (ps : List (Option ℕ)) (x : List ℕ) (len : ℕ) → IsTrue (fits (take len ps) x) → take len (refit ps x) ≡ take len x
unfolding refit
take_refit_cut ps x zero h = refl
take_refit_cut [] x (suc len) h = refl
take_refit_cut (p ∷ ps) [] (suc len) h = absurd (false≢true h)
take_refit_cut (None ∷ ps) (y ∷ ys) (suc len) h = ap (λ (l : List ℕ). y ∷ l) (take_refit_cut ps ys len h)
take_refit_cut (Some b ∷ ps) (y ∷ ys) (suc len) h =
    let parts = both (b == y) (fits (take len ps) ys) h in
    let first : b ≡ y = test_same b y parts.0 in
    let rest : take len (refit ps ys) ≡ take len ys = take_refit_cut ps ys len parts.1 in
    λ i. first i ∷ rest i

-- An outcome after a cut is one before it, shortened.
pub cut_back : (len : ℕ) (ps : List (Option ℕ)) (longest : ℕ) (x : List ℕ) → length ps ≤ longest → IsTrue (fits (take len ps) x) → length x ≤ longest
    → (d : List ℕ) × IsTrue (fits ps d) × (length d ≤ longest) × Shortened len d x
cut_back len ps longest x low h high =
    let fill : List ℕ = replicate (length ps - length x) 0 in
    let padded : List ℕ = x ++ fill in
    let fill_size : length fill ≡ length ps - length x = length-replicate {A = ℕ} (length ps - length x) 0 in
    let padded_size : length padded ≡ max (length x) (length ps) = omega (arith, length-append x fill, fill_size) in
    let d : List ℕ = refit ps padded in
    let size : length d ≡ max (length x) (length ps) = length-refit ps padded ∙ padded_size in
    let cut_fits : min len (length ps) ≤ length x = fits_cut_long ps len x h in
    let front : take len d ≡ take len padded = take_refit_cut ps padded len (fits_more (take len ps) x fill h) in (
      d,
      fits_refit ps padded (omega (arith, padded_size)),
      omega (arith, size, low, high),
      record {
        front = elim (cases_lt (length x) (length ps)) [
          | inl less ↦
              ap (λ (m : ℕ). take m x) (let m_is : min len (length d) ≡ len = omega (arith, size, cut_fits, less) in m_is)
              ∙ sym (take-append-le len x fill (omega (arith, cut_fits, less))) ∙ sym front
          | inr more ↦
              ap (λ (m : ℕ). take m x) (let m_is : min len (length d) ≡ min len (length x) = omega (arith, size, more) in m_is)
              ∙ take_min len x
              ∙ ap (λ (l : List ℕ). take len l) (sym (ap (λ (l : List ℕ). x ++ l) (none more fill fill_size) ∙ append-nil x))
              ∙ sym front
        ];
        no_shorter = omega (arith, size, cut_fits);
        no_longer = omega (arith, size);
      },
    )
  where
    none : length ps ≤ length x → (l : List ℕ) → length l ≡ length ps - length x → l ≡ []
    none more l is = nil_from_length l (omega (arith, is, more))

-- the rest of a torn write whose first byte is torn, and of one that begins further on
torn_first : (n b y : ℕ) (d x : List ℕ) → Torn zero (suc n) (b ∷ d) (y ∷ x) → Torn zero n d x
torn_first n b y d x torn =
    let none : min 0 (length d) ≡ 0 = omega arith in
    let one : 0 + suc n ≡ suc n = omega arith in
    let less : n ≡ 0 + n = omega arith in
    record {
      before = ap (λ (m : ℕ). take m x) none;
      after = subst (λ (m : ℕ). drop m x ≡ drop m d) less (subst (λ (m : ℕ). drop m (y ∷ x) ≡ drop m (b ∷ d)) one torn.after);
      no_shorter = omega (arith, torn.no_shorter);
      no_longer = omega (arith, torn.no_longer);
    }

torn_later : (at n b y : ℕ) (d x : List ℕ) → Torn (suc at) n (b ∷ d) (y ∷ x) → (y ≡ b) × Torn at n d x
torn_later at n b y d x torn =
    let count : min (suc at) (length (b ∷ d)) ≡ suc (min at (length d)) = omega arith in
    let front : y ∷ take (min at (length d)) x ≡ b ∷ take at d = subst (λ (m : ℕ). take m (y ∷ x) ≡ b ∷ take at d) count torn.before in
    let place : suc at + n ≡ suc (at + n) = omega arith in (
      cc,
      record {
        before = cc;
        after = subst (λ (m : ℕ). drop m (y ∷ x) ≡ drop m (b ∷ d)) place torn.after;
        no_shorter = omega (arith, torn.no_shorter);
        no_longer = omega (arith, torn.no_longer);
      },
    )

-- A torn write keeps what it hasn't freed.
pub torn_fits : (at n : ℕ) (ps : List (Option ℕ)) (d x : List ℕ) → IsTrue (fits ps d) → Torn at n d x → IsTrue (fits (freed at n ps) x)
torn_fits at n [] d x h torn = refl
torn_fits at n (p ∷ ps) [] x h torn = absurd (false≢true h)
torn_fits at n (p ∷ ps) (b ∷ d) [] h torn = absurd (omega (arith, torn.no_shorter))
torn_fits zero zero (p ∷ ps) (b ∷ d) (y ∷ x) h torn = subst (λ (l : List ℕ). IsTrue (fits (p ∷ ps) l)) (sym torn.after) h
torn_fits zero (suc n) (None ∷ ps) (b ∷ d) (y ∷ x) h torn = torn_fits zero n ps d x h (torn_first n b y d x torn)
torn_fits zero (suc n) (Some c ∷ ps) (b ∷ d) (y ∷ x) h torn =
    torn_fits zero n ps d x (both (c == b) (fits ps d) h).1 (torn_first n b y d x torn)
torn_fits (suc at) n (None ∷ ps) (b ∷ d) (y ∷ x) h torn = torn_fits at n ps d x h (torn_later at n b y d x torn).1
torn_fits (suc at) n (Some c ∷ ps) (b ∷ d) (y ∷ x) h torn =
    let parts = both (c == b) (fits ps d) h in
    let later = torn_later at n b y d x torn in
    and_of (c == y) (fits (freed at n ps) x) (subst (λ (m : ℕ). IsTrue (c == m)) (sym later.0) parts.0)
    (torn_fits at n ps d x parts.1 later.1)
