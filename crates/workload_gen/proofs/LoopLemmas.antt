-- What each number below a count gives, with one number more.
use Prim.Native.Nat.{zero, suc}
use Rattle.std.proofs.Common.{◌≡◌, refl, ap, ◌∙◌, sym, ℕ, ◌+◌, List, [], ◌++◌, append_assoc, append-nil, add-zero, add-one, zero-add, arith}
use Rattle.std.specs.List.{flat_map, range_with_len}
use Rattle.workload_gen.specs.Script.{each_below}

range-more : (text : ℕ → List ℕ) (a n : ℕ) → flat_map text (range_with_len a (suc n)) ≡ flat_map text (range_with_len a n) ++ text (a + n)
range-more text a zero = append-nil (text a) ∙ ap text (sym (add-zero a))
range-more text a (suc n) =
    let next : (a + 1) + n ≡ a + suc n = omega arith in
    ap (λ more. text a ++ more) (range-more text (a + 1) n ∙ ap (λ k. flat_map text (range_with_len (a + 1) n) ++ text k) next)
    ∙ sym (append_assoc (text a) (flat_map text (range_with_len (a + 1) n)) (text (a + suc n)))

pub each_below-none : (text : ℕ → List ℕ) → each_below 0 text ≡ []
unfolding each_below
each_below-none text = refl

pub each_below-first : (text : ℕ → List ℕ) (before : List ℕ) → before ≡ before ++ each_below 0 text
each_below-first text before = sym (ap (λ texts. before ++ texts) (each_below-none text) ∙ append-nil before)

pub each_below-more : (text : ℕ → List ℕ) (n : ℕ) → each_below (n + 1) text ≡ each_below n text ++ text n
unfolding each_below
each_below-more text n =
    ap (λ k. flat_map text (range_with_len 0 k)) (add-one n) ∙ range-more text 0 n ∙ ap (λ k. flat_map text (range_with_len 0 n) ++ text k) (zero-add n)

-- one text more behind those so far
pub each_below-next : (text : ℕ → List ℕ) (n : ℕ) (before so_far after last : List ℕ) → so_far ≡ before ++ each_below n text → after ≡ so_far ++ last →
    last ≡ text n → after ≡ before ++ each_below (n + 1) text
each_below-next text n before so_far after last all more is =
    more ∙ (λ i. all i ++ is i) ∙ append_assoc before (each_below n text) (text n) ∙ ap (λ texts. before ++ texts) (sym (each_below-more text n))

pub each_below-same : (n : ℕ) (text other : ℕ → List ℕ) → ((k : ℕ) → text k ≡ other k) → each_below n text ≡ each_below n other
each_below-same n text other same = λ i. each_below n (λ k. same k i)
