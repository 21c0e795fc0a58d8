-- Programs in the byte order of their names, and where a name belongs among them.
use Rattle.std.proofs.Common.{◌≡◌, ℕ, zero, suc, ◌+◌, ◌-◌, ◌<◌, ◌≤◌, Bool, true, false, cond, List, [], ◌∷◌, ◌++◌, length, map, take, drop, set, filter, get_or, slice_get, Some, IsTrue, ◌↔◌, refl, sym, ap, subst, ◌∙◌, arith, length-append, length-set}
use Rattle.std.specs.List.{AllByRecursion}
use Rattle.std.specs.List.Sorted.{IsStrictlySortedBy}
use Rattle.std.specs.Ordering.{is_lt, is_eq, nat_cmp, ordering_reverse}
use Rattle.std.specs.declared.cmp.Ordering.{Ordering}
use Rattle.std.specs.declared.cmp.Ordering.TheVariants.{Less, Equal, Greater}
use Rattle.std.specs.Cmp.Lexicographic.{slice_cmp, texts_ties, bytes_decides}
use Rattle.std.proofs.lemmas.Cmp.{nat_list_cmp_total}
use Rattle.std.proofs.lemmas.List.{take_all}
use Rattle.std.proofs.lemmas.List.Kept.{IsStrictlySortedBy-filter}
use Rattle.catalog_types.specs.declared.program.Program.{Program}
use Rattle.catalog_core.specs.Programs.{is_below, below, above, with_program, AreByName}

abbrev Bytes : Type 0
Bytes = List ℕ

abbrev order : Bytes → Bytes → Ordering
order = slice_cmp nat_cmp

abbrev names : List Program → List Bytes
names programs = map (λ (p : Program). p.name) programs

-- ---- the order of two names

turned : (a b : Bytes) (o : Ordering) → order a b ≡ o → order b a ≡ ordering_reverse o
turned a b o e = nat_list_cmp_total.antisymm b a ∙ ap ordering_reverse e

same-name : (a b : Bytes) → order a b ≡ Equal → a ≡ b
same-name a b e = (bytes_decides a b).0 (texts_ties a b ∙ ap is_eq e)

not-same : (a b : Bytes) → order a b ≡ Greater → a ≡ b → ⊥
not-same a b e same =
    let back : order b a ≡ Less = turned a b Greater e in
    let here : order a a ≡ Greater = ap (λ n. order a n) same ∙ e in
    let there : order a a ≡ Less = ap (λ n. order n a) same ∙ back in
    absurd (cc)

-- ---- where a name belongs

-- the programs that are all above the name
all-above : (name : Bytes) (programs : List Program) → AllByRecursion (λ key. order name key ≡ Less) (names programs) → (below name programs ≡ []) × (above name programs ≡ programs)
all-above name [] all = (refl, refl)
all-above name (p ∷ ps) all =
    let rest = all-above name ps all.1 in
    let back : order p.name name ≡ Greater = turned name p.name Less all.0 in (
      ap (λ o. cond (is_lt o) (p ∷ below name ps) (below name ps)) back ∙ rest.0,
      ap (λ o. cond (is_lt o) (p ∷ above name ps) (above name ps)) all.0 ∙ ap (λ qs. p ∷ qs) rest.1,
    )

weaker : {P Q : Bytes → Type 0} → ((key : Bytes) → P key → Q key) → (keys : List Bytes) → AllByRecursion P keys → AllByRecursion Q keys
weaker f [] all = tt
weaker f (k ∷ ks) all = (f k all.0, weaker f ks all.1)

-- the place, and what stands before and behind it
pub record Place (name : Bytes) (programs : List Program) : Type 0 where
  pub place : ℕ
  pub count : length (below name programs) ≡ place
  pub front : below name programs ≡ take place programs
  pub here : (p : Program) → slice_get programs place ≡ Some p → p.name ≡ name → above name programs ≡ drop (suc place) programs
  pub other : ((p : Program) → slice_get programs place ≡ Some p → p.name ≡ name → ⊥) → above name programs ≡ drop place programs

further : (name : Bytes) (p : Program) (ps : List Program) → order p.name name ≡ Less → Place name ps → Place name (p ∷ ps)
further name p ps less at =
    let lower : below name (p ∷ ps) ≡ p ∷ below name ps = ap (λ o. cond (is_lt o) (p ∷ below name ps) (below name ps)) less in
    let upper : above name (p ∷ ps) ≡ above name ps = ap (λ o. cond (is_lt o) (p ∷ above name ps) (above name ps)) (turned p.name name Less less) in
    record {
      place = suc at.place;
      count = ap length lower ∙ ap suc at.count;
      front = lower ∙ ap (λ qs. p ∷ qs) at.front;
      here = λ q there same. upper ∙ at.here q there same;
      other = λ none. upper ∙ at.other none;
    }

at-this : (name : Bytes) (p : Program) (ps : List Program) → order p.name name ≡ Equal → AllByRecursion (λ key. order p.name key ≡ Less) (names ps) → Place name (p ∷ ps)
at-this name p ps equal all =
    let rest = all-above name ps (weaker (λ key e. sym (nat_list_cmp_total.congr p.name name key equal) ∙ e) (names ps) all) in
    let lower : below name (p ∷ ps) ≡ [] = ap (λ o. cond (is_lt o) (p ∷ below name ps) (below name ps)) equal ∙ rest.0 in
    let upper : above name (p ∷ ps) ≡ ps = ap (λ o. cond (is_lt o) (p ∷ above name ps) (above name ps)) (turned p.name name Equal equal) ∙ rest.1 in
    record {
      place = 0;
      count = ap length lower;
      front = lower;
      here = λ q there same. upper;
      other = λ none. absurd (none p refl (same-name p.name name equal));
    }

before-this : (name : Bytes) (p : Program) (ps : List Program) → order p.name name ≡ Greater → AllByRecursion (λ key. order p.name key ≡ Less) (names ps) → Place name (p ∷ ps)
before-this name p ps greater all =
    let first : order name p.name ≡ Less = turned p.name name Greater greater in
    let rest = all-above name (p ∷ ps) (first, weaker (λ key e. nat_list_cmp_total.trans name p.name key first e) (names ps) all) in
    record {
      place = 0;
      count = ap length rest.0;
      front = rest.0;
      here = λ q there same. absurd (not-same p.name name greater (ap (λ (x : Program). x.name) (first-is p q ps there) ∙ same));
      other = λ none. rest.1;
    }
  where
    first-is : (p q : Program) (ps : List Program) → slice_get (p ∷ ps) 0 ≡ Some q → p ≡ q
    first-is p q ps e = cc

pub place-of : (name : Bytes) (programs : List Program) → AreByName programs → Place name programs
unfolding IsStrictlySortedBy
place-of name [] sorted = record { place = 0; count = refl; front = refl; here = λ p there same. refl; other = λ none. refl }
place-of name (p ∷ ps) sorted = by (order p.name name) refl (place-of name ps sorted.1) sorted.0
  where
    by : (o : Ordering) → order p.name name ≡ o → Place name ps → AllByRecursion (λ key. order p.name key ≡ Less) (names ps) → Place name (p ∷ ps)
    by Less e rest all = further name p ps e rest
    by Equal e rest all = at-this name p ps e all
    by Greater e rest all = before-this name p ps e all

-- ---- a program in its place

set-is : {A : Type 0} (xs : List A) (n : ℕ) (y : A) → n < length xs → set xs n y ≡ take n xs ++ y ∷ drop (suc n) xs
set-is [] n y low = absurd (omega (arith, low))
set-is (x ∷ xs) zero y low = refl
set-is (x ∷ xs) (suc n) y low = ap (λ zs. x ∷ zs) (set-is xs n y (omega (arith, low)))

-- in place of the one that has its name
pub replaced : (program : Program) (programs : List Program) (n : ℕ) (p : Program) → AreByName programs → n ≡ length (below program.name programs) → slice_get programs n ≡ Some p → p.name ≡ program.name
    → n < length programs → set programs n program ≡ with_program program programs
replaced program programs n p sorted count there same low =
    let at = place-of program.name programs sorted in
    let place : n ≡ at.place = count ∙ at.count in
    set-is programs n program low
    ∙ (λ i. take (place i) programs ++ program ∷ drop (suc (place i)) programs)
    ∙ (λ i. sym at.front i ++ program ∷ sym (at.here p (subst (λ k. slice_get programs k ≡ Some p) place there) same) i)

abbrev pub HasNameAt : List Program → ℕ → Bytes → Type 0
HasNameAt programs place name = (p : Program) × (slice_get programs place ≡ Some p) × (p.name ≡ name)

there-within : (programs : List Program) (n : ℕ) (p : Program) → slice_get programs n ≡ Some p → n < length programs
there-within [] n p e = absurd (cc)
there-within (q ∷ qs) zero p e = omega arith
there-within (q ∷ qs) (suc n) p e = let rest = there-within qs n p e in omega (arith, rest)

pub placed : (program : Program) (programs : List Program) (n : ℕ) → AreByName programs → n ≡ length (below program.name programs) → HasNameAt programs n program.name
    → set programs n program ≡ with_program program programs
placed program programs n sorted count at = replaced program programs n at.0 sorted count at.1 at.2 (there-within programs n at.0 at.1)

-- among the others
pub inserted : (program : Program) (programs : List Program) (n : ℕ) → AreByName programs → n ≡ length (below program.name programs)
    → ((p : Program) → slice_get programs n ≡ Some p → p.name ≡ program.name → ⊥) → take n programs ++ program ∷ drop n programs ≡ with_program program programs
inserted program programs n sorted count none =
    let at = place-of program.name programs sorted in
    let place : n ≡ at.place = count ∙ at.count in
    (λ i. take (place i) programs ++ program ∷ drop (place i) programs)
    ∙ (λ i. sym at.front i ++ program ∷ sym (at.other (λ p there same. none p (subst (λ k. slice_get programs k ≡ Some p) (sym place) there) same)) i)

pub as-many-replaced : (program : Program) (programs : List Program) (n : ℕ) (p : Program) → AreByName programs → n ≡ length (below program.name programs) → slice_get programs n ≡ Some p → p.name ≡ program.name
    → n < length programs → length (with_program program programs) ≡ length programs
as-many-replaced program programs n p sorted count there same low =
    ap length (sym (replaced program programs n p sorted count there same low)) ∙ length-set programs n program

pub as-many-inserted : (program : Program) (programs : List Program) (n : ℕ) → AreByName programs → n ≡ length (below program.name programs)
    → ((p : Program) → slice_get programs n ≡ Some p → p.name ≡ program.name → ⊥) → length (with_program program programs) ≡ length programs + 1
as-many-inserted program programs n sorted count none =
    ap length (sym (inserted program programs n sorted count none)) ∙ one-more programs n program
  where
    one-more : (xs : List Program) (k : ℕ) (y : Program) → length (take k xs ++ y ∷ drop k xs) ≡ length xs + 1
    one-more [] zero y = refl
    one-more [] (suc k) y = refl
    one-more (x ∷ xs) zero y = omega arith
    one-more (x ∷ xs) (suc k) y = let rest = one-more xs k y in omega (arith, rest)

-- ---- the order stays

names-of-filtered : (test : Bytes → Bool) (programs : List Program) → names (filter (λ p. test p.name) programs) ≡ filter test (names programs)
names-of-filtered test [] = refl
names-of-filtered test (p ∷ ps) = by (test p.name) (names-of-filtered test ps)
  where
    by : (b : Bool) → names (filter (λ q. test q.name) ps) ≡ filter test (names ps)
        → names (cond b (p ∷ filter (λ q. test q.name) ps) (filter (λ q. test q.name) ps)) ≡ cond b (p.name ∷ filter test (names ps)) (filter test (names ps))
    by true e = ap (λ ks. p.name ∷ ks) e
    by false e = e

all-passed : (test : Bytes → Bool) (keys : List Bytes) → AllByRecursion (λ key. test key ≡ true) (filter test keys)
all-passed test [] = tt
all-passed test (k ∷ ks) = by (test k) refl (all-passed test ks)
  where
    by : (b : Bool) → test k ≡ b → AllByRecursion (λ key. test key ≡ true) (filter test ks) → AllByRecursion (λ key. test key ≡ true) (cond b (k ∷ filter test ks) (filter test ks))
    by true e rest = (e, rest)
    by false e rest = rest

is-less : (o : Ordering) → is_lt o ≡ true → o ≡ Less
is-less Less e = refl
is-less Equal e = absurd (cc)
is-less Greater e = absurd (cc)

all-joined : (P : Bytes → Type 0) (xs ys : List Bytes) → AllByRecursion P xs → AllByRecursion P ys → AllByRecursion P (xs ++ ys)
all-joined P [] ys a b = b
all-joined P (x ∷ xs) ys a b = (a.0, all-joined P xs ys a.1 b)

sorted-around : (xs : List Bytes) (y : Bytes) (zs : List Bytes) → IsStrictlySortedBy order xs → AllByRecursion (λ key. order key y ≡ Less) xs → AllByRecursion (λ key. order y key ≡ Less) zs → IsStrictlySortedBy order zs
    → IsStrictlySortedBy order (xs ++ y ∷ zs)
unfolding IsStrictlySortedBy
sorted-around [] y zs front lower upper back = (upper, back)
sorted-around (x ∷ xs) y zs front lower upper back = (
  all-joined (λ key. order x key ≡ Less) xs (y ∷ zs) front.0 (lower.0, weaker (λ key e. nat_list_cmp_total.trans x y key lower.0 e) zs upper),
  sorted-around xs y zs front.1 lower.1 upper back,
)

names-joined : (ps qs : List Program) → names (ps ++ qs) ≡ names ps ++ names qs
names-joined [] qs = refl
names-joined (p ∷ ps) qs = ap (λ ks. p.name ∷ ks) (names-joined ps qs)

pub by-name-kept : (program : Program) (programs : List Program) → AreByName programs → AreByName (with_program program programs)
by-name-kept program programs sorted =
    let lower : Bytes → Bool = λ key. is_below key program.name in
    let upper : Bytes → Bool = λ key. is_below program.name key in
    let keys = names programs in
    let whole : names (with_program program programs) ≡ filter lower keys ++ program.name ∷ filter upper keys =
    names-joined (below program.name programs) (program ∷ above program.name programs)
    ∙ (λ i. names-of-filtered lower programs i ++ program.name ∷ names-of-filtered upper programs i) in
    subst (λ ks. IsStrictlySortedBy order ks) (sym whole)
    (sorted-around (filter lower keys) program.name (filter upper keys) (IsStrictlySortedBy-filter order lower keys sorted)
    (weaker (λ key e. is-less (order key program.name) e) (filter lower keys) (all-passed lower keys))
    (weaker (λ key e. is-less (order program.name key) e) (filter upper keys) (all-passed upper keys))
    (IsStrictlySortedBy-filter order upper keys sorted))

-- ---- how many there are

few-around : (name : Bytes) (programs : List Program) → length (below name programs) + length (above name programs) ≤ length programs
few-around name [] = omega arith
few-around name (p ∷ ps) = by (order p.name name) refl (few-around name ps)
  where
    by : (o : Ordering) → order p.name name ≡ o → length (below name ps) + length (above name ps) ≤ length ps → length (below name (p ∷ ps)) + length (above name (p ∷ ps)) ≤ length (p ∷ ps)
    by o e rest = each o (ap (λ o. length (cond (is_lt o) (p ∷ below name ps) (below name ps))) e) (ap (λ o. length (cond (is_lt o) (p ∷ above name ps) (above name ps))) (turned p.name name o e)) rest
      where
        each : (o : Ordering) → length (below name (p ∷ ps)) ≡ length (cond (is_lt o) (p ∷ below name ps) (below name ps)) → length (above name (p ∷ ps)) ≡ length (cond (is_lt (ordering_reverse o)) (p ∷ above name ps) (above name ps))
            → length (below name ps) + length (above name ps) ≤ length ps → length (below name (p ∷ ps)) + length (above name (p ∷ ps)) ≤ length (p ∷ ps)
        each Less lower upper rest = omega (arith, lower, upper, rest)
        each Equal lower upper rest = omega (arith, lower, upper, rest)
        each Greater lower upper rest = omega (arith, lower, upper, rest)

pub place-within : (name : Bytes) (programs : List Program) → length (below name programs) ≤ length programs
place-within name programs = let few = few-around name programs in omega (arith, few)

pub one-more-at-most : (program : Program) (programs : List Program) → length (with_program program programs) ≤ length programs + 1
one-more-at-most program programs =
    let few = few-around program.name programs in
    let long = length-append (below program.name programs) (program ∷ above program.name programs) in
    omega (arith, few, long)

-- where there are as many as there may be, there is room for the name of one of them alone
pub room-is : (program : Program) (programs : List Program) (n : ℕ) (here : Bool) → AreByName programs → n ≡ length (below program.name programs) → IsTrue here ↔ HasNameAt programs n program.name
    → length programs ≤ 1024 → 1024 ≤ length programs → IsTrue here ↔ (length (with_program program programs) ≤ 1024)
room-is program programs n true sorted count same most full = (
  λ _. let at = same.0 refl in
      let long = as-many-replaced program programs n at.0 sorted count at.1 at.2 (there-within programs n at.0 at.1) in
      omega (arith, long, most),
  λ _. refl,
)
room-is program programs n false sorted count same most full = (
  λ e. absurd (cc),
  λ few. absurd (let long = as-many-inserted program programs n sorted count (λ p there is. absurd (false-is (same.1 (p, there, is)))) in omega (arith, long, few, full)),
)
  where
    false-is : IsTrue false → ⊥
    false-is e = absurd (cc)

-- ---- the order by neighbours

-- in order where the first two are, and those from the second on
pub by-name-next : (p q : Program) (others : List Program) → AreByName (p ∷ q ∷ others) ↔ ((is_below p.name q.name ≡ true) × AreByName (q ∷ others))
unfolding IsStrictlySortedBy
by-name-next p q others = (
  λ sorted. (ap is_lt sorted.0.0, sorted.1),
  λ at. (let less = is-less (order p.name q.name) at.0 in ((less, weaker (λ key e. nat_list_cmp_total.trans p.name q.name key less e) (names others) at.1.0), at.1)),
)

pub by-name-short : (programs : List Program) → length programs < 2 → AreByName programs
unfolding IsStrictlySortedBy
by-name-short [] short = tt
by-name-short (p ∷ []) short = (tt, tt)
by-name-short (p ∷ q ∷ others) short = absurd (omega (arith, short))

-- the same at a list whose first two these are
pub by-name-at : (programs : List Program) (p q : Program) → 2 ≤ length programs → p ≡ get_or programs 0 p → q ≡ get_or programs 1 q
    → AreByName programs ↔ ((is_below p.name q.name ≡ true) × AreByName (take (length programs - 1) (drop 1 programs)))
by-name-at [] p q long first second = absurd (omega (arith, long))
by-name-at (a ∷ []) p q long first second = absurd (omega (arith, long))
by-name-at (a ∷ b ∷ others) p q long first second =
    let all : take (length (a ∷ b ∷ others) - 1) (b ∷ others) ≡ b ∷ others = take_all (length (a ∷ b ∷ others) - 1) (b ∷ others) (omega arith) in
    subst (λ (rest : List Program). AreByName (a ∷ b ∷ others) ↔ ((is_below p.name q.name ≡ true) × AreByName rest)) (sym all)
    (subst (λ (x : Program). AreByName (a ∷ b ∷ others) ↔ ((is_below x.name q.name ≡ true) × AreByName (b ∷ others))) (sym first)
    (subst (λ (y : Program). AreByName (a ∷ b ∷ others) ↔ ((is_below a.name y.name ≡ true) × AreByName (b ∷ others))) (sym second) (by-name-next a b others)))
