-- Reading a count of items one after the other, as a loop does.
use Rattle.std.proofs.Common.{◌≡◌, ℕ, suc, ◌-◌, ◌+◌, ◌<◌, List, [], ◌∷◌, ◌++◌, Ok, Err, refl, sym, ap, ◌∙◌, arith}
use Rattle.byte_formats.specs.declared.unread.Unread.{Unread}
use Rattle.byte_formats.specs.declared.unread.Unread.TheVariants.{Left, Memory}
use Rattle.byte_formats.specs.Reading.{◌>>=◌, Read, Fails}
use Rattle.row_blob.specs.Reading.{items_at}

next : {A : Type 0} (read : List A → List ℕ → Read A) (n : ℕ) (front : List A) (bytes : List ℕ) → items_at read (suc n) front bytes ≡ (read front bytes >>= λ x. items_at read n (front ++ x.0 ∷ []) x.1)
next read n front bytes = refl

pub goes_on : {A : Type 0} (read : List A → List ℕ → Read A) (count i : ℕ) (front : List A) (bytes : List ℕ) (a : A) (after : List ℕ) (total : Read (List A)) → i < count → read front bytes ≡ Ok (a, after)
    → items_at read (count - i) front bytes ≡ total → items_at read (count - (i + 1)) (front ++ a ∷ []) after ≡ total
goes_on read count i front bytes a after total lt h so_far =
    let k : count - i ≡ suc (count - (i + 1)) = omega arith in
    let one : items_at read (count - i) front bytes ≡ items_at read (count - (i + 1)) (front ++ a ∷ []) after =
    ap (λ (n : ℕ). items_at read n front bytes) k ∙ ap (λ r. r >>= λ x. items_at read (count - (i + 1)) (front ++ x.0 ∷ []) x.1) h in
    sym one ∙ so_far

pub ends : {A : Type 0} (read : List A → List ℕ → Read A) (e : Unread) (count i : ℕ) (front : List A) (bytes : List ℕ) (total : Read (List A)) → i < count → Fails e (read front bytes)
    → items_at read (count - i) front bytes ≡ total → Fails e total
ends read Memory count i front bytes total lt h so_far = tt
ends read (Left left) count i front bytes total lt h so_far =
    let k : count - i ≡ suc (count - (i + 1)) = omega arith in
    let one : items_at read (count - i) front bytes ≡ Err left =
    ap (λ (n : ℕ). items_at read n front bytes) k ∙ ap (λ r. r >>= λ x. items_at read (count - (i + 1)) (front ++ x.0 ∷ []) x.1) h in
    sym so_far ∙ one
