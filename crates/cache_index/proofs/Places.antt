-- Where the entry of an id stands among entries whose ids ascend.
use Rattle.std.proofs.Common.{◌≡◌, ℕ, zero, suc, ◌<◌, ◌≤◌, ◌+◌, ◌||◌, ◌==◌, Bool, true, false, cond, List, [], ◌∷◌, length, get_or, slice_get, position, nat_lt, Option, Some, None, Result, Ok, Err, IfSome, MatchOption, inl, inr, refl, sym, ap, subst, ◌∙◌, arith}
use Rattle.std.specs.List.{position_or_len, position_from, list_any, find, AllWithin}
use Rattle.std.specs.Option.{is_some}
use Rattle.std.proofs.lemmas.Iterator.Adapters.{position_from-zero}
use Rattle.std.specs.List.Sorted.{IsBinarySearchResult, IsSearchInRange}
use Rattle.std.specs.Ordering.{nat_cmp, ordering_index}
use Rattle.std.specs.declared.cmp.Ordering.TheVariants.{Less, Equal, Greater}
use Rattle.std.specs.Result.{result_ok}
use Rattle.std.proofs.lemmas.Bool.{ltb-true, cases_lt, and_parts, eq-eqb}
use Rattle.std.proofs.lemmas.Bool.Decides.{nat_tests}
use Rattle.std.proofs.lemmas.List.Sums.{position_or_len_is}
use Rattle.std.proofs.lemmas.List.Folds.{find_at}
use Rattle.catalog_types.specs.PlainEntry.{PlainEntry}
use Rattle.cache_index.specs.Ids.{ids_of, ascend_above}

-- each id is above the bound
above : (low : ℕ) (es : List PlainEntry) (i : ℕ) (d : PlainEntry) → ascend_above low (ids_of es) ≡ true → i < length es → low < (get_or es i d).id
above low [] i d up here = absurd (omega (arith, here))
above low (e ∷ es) zero d up here = ltb-true low e.id (and_parts (nat_lt low e.id) (ascend_above e.id (ids_of es)) up).0
above low (e ∷ es) (suc i) d up here =
    let parts = and_parts (nat_lt low e.id) (ascend_above e.id (ids_of es)) up in
    let first = ltb-true low e.id parts.0 in
    let rest = above e.id es i d parts.1 (omega (arith, here)) in
    omega (arith, first, rest)

-- each id is above those before it
rises : (low : ℕ) (es : List PlainEntry) (i j : ℕ) (d : PlainEntry) → ascend_above low (ids_of es) ≡ true → i < j → j < length es → (get_or es i d).id < (get_or es j d).id
rises low [] i j d up order here = absurd (omega (arith, here))
rises low (e ∷ es) i zero d up order here = absurd (omega (arith, order))
rises low (e ∷ es) zero (suc j) d up order here = above e.id es j d (and_parts (nat_lt low e.id) (ascend_above e.id (ids_of es)) up).1 (omega (arith, here))
rises low (e ∷ es) (suc i) (suc j) d up order here =
    rises e.id es i j d (and_parts (nat_lt low e.id) (ascend_above e.id (ids_of es)) up).1 (omega (arith, order)) (omega (arith, here))

cmp-equal : (x y : ℕ) → nat_cmp x y ≡ Equal → x ≡ y
cmp-equal x y e = grind (arith, nat_tests)

cmp-less : (x y : ℕ) → nat_cmp x y ≡ Less → (x == y) ≡ false
cmp-less x y e = grind (arith, nat_tests)

cmp-greater : (x y : ℕ) → nat_cmp x y ≡ Greater → (x == y) ≡ false
cmp-greater x y e = grind (arith, nat_tests)

less-other : (x y z : ℕ) → x < y → y ≡ z → (x == z) ≡ false
less-other x y z less e = grind (arith, nat_tests)

index-rises : (x y z : ℕ) → x ≤ y → ordering_index (nat_cmp x z) ≤ ordering_index (nat_cmp y z)
index-rises x y z most = grind (arith, nat_tests)

there : (n k : ℕ) → k ≡ n → (len : ℕ) → n < len → cond (nat_lt k len) (Some k) None ≡ Some n
there n k e len low = grind (arith, nat_tests)

nowhere : (n k : ℕ) → k ≡ n → cond (nat_lt k n) (Some k) None ≡ None
nowhere n k e = grind (arith, nat_tests)

-- the ids don't fall
not-below : (es : List PlainEntry) → ascend_above 0 (ids_of es) ≡ true → (a b : ℕ) (d : PlainEntry) → a ≤ b → b < length es → (get_or es a d).id ≤ (get_or es b d).id
not-below es up a b d order here = elim (cases_lt a b) [
  | inl less ↦ (let more = rises 0 es a b d up less here in omega (arith, more))
  | inr most ↦ (let same : a ≡ b = omega (arith, order, most) in omega (arith, ap (λ (k : ℕ). (get_or es k d).id) same))
]

-- none has the id where those in front are below it and those behind above it
apart : (es : List PlainEntry) (i id : ℕ) → AllWithin (λ (e : PlainEntry). nat_cmp e.id id ≡ Less) es 0 i → AllWithin (λ (e : PlainEntry). nat_cmp e.id id ≡ Greater) es i (length es)
    → (k : ℕ) (d : PlainEntry) → k < length es → ((get_or es k d).id == id) ≡ false
apart es i id front behind k d here = elim (cases_lt k i) [
  | inl less ↦ cmp-less _ _ (front k d (omega arith) less)
  | inr most ↦ cmp-greater _ _ (behind k d most here)
]

-- what a binary search finds is the place of the id
pub place-is : (es : List PlainEntry) (id : ℕ) (r : Result ℕ ℕ) → ascend_above 0 (ids_of es) ≡ true → IsSearchInRange r (length es) → IsBinarySearchResult (λ (e : PlainEntry). nat_cmp e.id id) es r
    → result_ok r ≡ position (λ (e : PlainEntry). e.id == id) es
place-is [] id (Ok i) up low found = absurd (omega (arith, low))
place-is (e ∷ es) id (Ok i) up low found =
    let is : (get_or (e ∷ es) i e).id ≡ id = cmp-equal _ _ (found e) in
    sym (there i _ (position_or_len_is (λ (x : PlainEntry). x.id == id) (e ∷ es) i e (omega (arith, low))
    (λ k before. less-other _ _ _ (rises 0 (e ∷ es) k i e up before low) is)
    (λ _. eq-eqb _ _ is)) (length (e ∷ es)) low)
place-is [] id (Err i) up low found = refl
place-is (e ∷ es) id (Err i) up low found =
    let parts = found (λ a b d order here. index-rises _ _ id (not-below (e ∷ es) up a b d order here)) in
    sym (nowhere (length (e ∷ es)) _ (position_or_len_is (λ (x : PlainEntry). x.id == id) (e ∷ es) (length (e ∷ es)) e (omega arith)
    (λ k here. apart (e ∷ es) i id parts.0 parts.1 k e here)
    (λ past. absurd (omega (arith, past)))))

pub place-low : (es : List PlainEntry) (r : Result ℕ ℕ) (o : Option ℕ) → o ≡ result_ok r → IsSearchInRange r (length es) → IfSome o (λ place. place < length es)
place-low es (Ok i) o is low = subst (λ (o : Option ℕ). IfSome o (λ place. place < length es)) (sym is) low
place-low es (Err i) o is low = subst (λ (o : Option ℕ). IfSome o (λ place. place < length es)) (sym is) tt

past : (xs : List PlainEntry) (n : ℕ) → length xs ≤ n → slice_get xs n ≡ None
past [] n most = refl
past (x ∷ xs) zero most = absurd (omega (arith, most))
past (x ∷ xs) (suc n) most = past xs n (omega (arith, most))

-- the entry at the place of the id is the one with the id
pub found-at : (es : List PlainEntry) (p : PlainEntry → Bool) → MatchOption (position p es) (find p es ≡ None) (λ place. find p es ≡ slice_get es place)
found-at es p = by (nat_lt (position_or_len p es) (length es)) refl
  where
    by : (b : Bool) → nat_lt (position_or_len p es) (length es) ≡ b → MatchOption (cond b (Some (position_or_len p es)) None) (find p es ≡ None) (λ place. find p es ≡ slice_get es place)
    by true e = find_at p es
    by false e = find_at p es ∙ past es (position_or_len p es) (grind (arith, nat_tests))

-- there is a place exactly where an entry passes
some-any : (p : PlainEntry → Bool) (i : ℕ) (es : List PlainEntry) → is_some (position_from p i es) ≡ list_any p es
some-any p i [] = refl
some-any p i (e ∷ es) = by (p e) (some-any p (i + 1) es)
  where
    by : (b : Bool) → is_some (position_from p (i + 1) es) ≡ list_any p es → is_some (cond b (Some i) (position_from p (i + 1) es)) ≡ b || list_any p es
    by true rest = refl
    by false rest = rest

pub has-place : (p : PlainEntry → Bool) (es : List PlainEntry) → is_some (position p es) ≡ list_any p es
has-place p es = ap is_some (position_from-zero p es) ∙ some-any p 0 es

pub none-found : (es : List PlainEntry) (p : PlainEntry → Bool) (o : Option ℕ) → o ≡ position p es → o ≡ None → find p es ≡ None
none-found es p o is none =
    subst (λ (o : Option ℕ). MatchOption o (find p es ≡ None) (λ place. find p es ≡ slice_get es place)) (sym is ∙ none) (found-at es p)

entry-there : (es : List PlainEntry) (place : ℕ) (x : PlainEntry) → place < length es → x ≡ get_or es place x → slice_get es place ≡ Some x
entry-there [] place x low is = absurd (omega (arith, low))
entry-there (y ∷ ys) zero x low is = ap Some (sym is)
entry-there (y ∷ ys) (suc n) x low is = entry-there ys n x (omega (arith, low)) is

pub entry-found : (es : List PlainEntry) (p : PlainEntry → Bool) (o : Option ℕ) (place : ℕ) (x : PlainEntry) → o ≡ position p es → o ≡ Some place → place < length es → x ≡ get_or es place x
    → find p es ≡ Some x
entry-found es p o place x is some low there =
    subst (λ (o : Option ℕ). MatchOption o (find p es ≡ None) (λ place. find p es ≡ slice_get es place)) (sym is ∙ some) (found-at es p)
    ∙ entry-there es place x low there
