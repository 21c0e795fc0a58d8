-- The programs and the kept results of a table stand in the order of a checkpoint.
use Rattle.std.proofs.Common.{◌≡◌, ℕ, Bool, true, false, ◌&&◌, ◌||◌, ◌==◌, nat_lt, cond, List, [], ◌∷◌, map, refl, arith}
use Rattle.std.specs.Cmp.Lexicographic.{slice_cmp}
use Rattle.std.specs.List.{AllByRecursion}
use Rattle.std.specs.List.Sorted.{IsStrictlySortedBy}
use Rattle.std.specs.Ordering.{nat_cmp, ordering_then}
use Rattle.std.specs.declared.cmp.Ordering.TheVariants.{Less, Equal, Greater}
use Rattle.std.proofs.lemmas.Bool.{and_parts, ltb-true}
use Rattle.catalog_types.specs.PlainEntry.{PlainEntry}
use Rattle.catalog_types.specs.declared.program.Program.{Program}
use Rattle.entry_table.specs.Ids.{ids_of, ascend_above}
use Rattle.record_codec.specs.Order.{not_below}
use Rattle.record_codec.specs.Spelling.{AreById}
use Rattle.record_codec.specs.Spelling as codec
use Rattle.catalog_core.specs.Programs.{AreByName}

-- ---- names

-- a name isn't below one that it is less than
not-below : (a b : List ℕ) → slice_cmp nat_cmp a b ≡ Less → not_below a b ≡ true
not-below [] b less = refl
not-below (c ∷ cs) [] less = absurd (cc)
not-below (c ∷ cs) (b ∷ bs) less = by (nat_lt c b) (c == b) (not-below cs bs) less
  where
    by : (lower same : Bool) → (slice_cmp nat_cmp cs bs ≡ Less → not_below cs bs ≡ true)
        → ordering_then (cond lower Less (cond same Equal Greater)) (slice_cmp nat_cmp cs bs) ≡ Less → lower || (same && not_below cs bs) ≡ true
    by true same rest less = refl
    by false true rest less = rest less
    by false false rest less = absurd (cc)

behind-name : (name : List ℕ) (programs : List Program) → AllByRecursion (λ key. slice_cmp nat_cmp name key ≡ Less) (map (λ (p : Program). p.name) programs) → AreByName programs
    → codec.AreByName name programs
unfolding IsStrictlySortedBy
behind-name name [] lower sorted = tt
behind-name name (p ∷ programs) lower sorted = (not-below name p.name lower.0, behind-name p.name programs sorted.0 sorted.1)

pub by-name : (programs : List Program) → AreByName programs → codec.AreByName [] programs
unfolding IsStrictlySortedBy
by-name [] sorted = tt
by-name (p ∷ programs) sorted = (refl, behind-name p.name programs sorted.0 sorted.1)

-- ---- ids

pub by-id : (low : ℕ) (entries : List PlainEntry) → ascend_above low (ids_of entries) ≡ true → AreById low entries
by-id low [] ascend = tt
by-id low (e ∷ entries) ascend =
    let parts = and_parts (nat_lt low e.id) (ascend_above e.id (ids_of entries)) ascend in
    let less = ltb-true low e.id parts.0 in
    (omega (arith, less), by-id e.id entries parts.1)
