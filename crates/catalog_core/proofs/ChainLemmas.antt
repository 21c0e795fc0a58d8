-- The chains that a stream keeps are those of its first extents.
use Rattle.std.proofs.Common.{◌≡◌, refl, sym, ap, ◌∙◌, ℕ, zero, suc, ◌+◌, ◌-◌, ◌<◌, ◌≤◌, inl, inr, min, List, [], ◌∷◌, ◌++◌, length, get_or, take, drop, Option, Some, None, option_map, slice_get, slice_range, unwrap_or, arith}
use Rattle.std.proofs.lemmas.Bool.{cases_lt}
use Rattle.std.proofs.lemmas.List.{length-map, length-take-le, take-append-le, take-map, drop-map}
use Rattle.std.proofs.Math.Seq.{take-add}
use Rattle.catalog_types.specs.declared.extent.Extent.{Extent}
use Rattle.rows_core.specs.declared.file_ref.Digest.{Digest}
use Rattle.fingerprints.specs.Keys.{chain, chain_of, chain_start}
use Rattle.entry_table.specs.Keyed.{chain_at}
use Rattle.catalog_core.specs.Chains.{chains_after}
use Rattle.catalog_core.specs.Results.{extent_digests, digests_of}
use Rattle.catalog_core.specs.Streams.{states_of}
use Rattle.catalog_core.specs.declared.stream.CatalogStream.{CatalogStream}

chains-length : (start : Digest) (ds : List Digest) → length (chains_after start ds) ≡ length ds
chains-length start [] = refl
chains-length start (d ∷ ds) = ap suc (chains-length (chain start d) ds)

-- the chain after each extent
chain-there : (start : Digest) (ds : List Digest) (i : ℕ) (x : Digest) → i < length ds → get_or (chains_after start ds) i x ≡ chain_of start (take (suc i) ds)
chain-there start [] i x low = absurd (omega (arith, low))
chain-there start (d ∷ ds) zero x low = refl
chain-there start (d ∷ ds) (suc i) x low = chain-there (chain start d) ds i x (omega (arith, low))

-- all of them where there are fewer
take-all : (ds : List Digest) (n : ℕ) → length ds ≤ n → take n ds ≡ ds
take-all [] zero most = refl
take-all [] (suc n) most = refl
take-all (d ∷ ds) zero most = absurd (omega (arith, most))
take-all (d ∷ ds) (suc n) most = ap (λ (es : List Digest). d ∷ es) (take-all ds n (omega (arith, most)))

take-least : (ds : List Digest) (n end : ℕ) → end ≡ min n (length ds) → take n ds ≡ take end ds
take-least ds n end is = elim (cases_lt n (length ds)) [
  | inl less ↦ (let same : n ≡ end = omega (arith, is, less) in ap (λ (n : ℕ). take n ds) same)
  | inr most ↦ take-all ds n most ∙ sym (take-all ds end (omega (arith, is, most)))
]

-- the first extents, and those between
first-and-between : (ds : List Digest) (place end : ℕ) → place ≤ end → take end ds ≡ take place ds ++ slice_range ds place end
first-and-between ds place end low =
    let sum : end ≡ place + (end - place) = omega (arith, low) in
    ap (λ (n : ℕ). take n ds) sum ∙ take-add place (end - place) ds

-- over the first of them, and then over the others
chain-append : (start : Digest) (ds es : List Digest) → chain_of start (ds ++ es) ≡ chain_of (chain_of start ds) es
chain-append start [] es = refl
chain-append start (d ∷ ds) es = chain-append (chain start d) ds es

chains-append : (start : Digest) (ds es : List Digest) → chains_after start (ds ++ es) ≡ chains_after start ds ++ chains_after (chain_of start ds) es
chains-append start [] es = refl
chains-append start (d ∷ ds) es = ap (λ (cs : List Digest). chain start d ∷ cs) (chains-append (chain start d) ds es)

between-digests : (es : List Extent) (place end : ℕ) → extent_digests (slice_range es place end) ≡ slice_range (extent_digests es) place end
between-digests es place end =
    let digest : Extent → Digest = λ (e : Extent). e.file.digest in
    sym (take-map digest (end - place) (drop place es)) ∙ ap (λ (ds : List Digest). take (end - place) ds) (sym (drop-map digest place es))

-- the chain of the first extents goes on from one that is known
pub chain-goes-on : (start : Digest) (es : List Extent) (count place end : ℕ) (known : Digest) → place ≤ end → end ≡ min count (length es)
    → known ≡ chain_of start (take place (extent_digests es))
    → chain_of known (extent_digests (slice_range es place end)) ≡ chain_of start (take count (extent_digests es))
chain-goes-on start es count place end known low is was =
    let ds = extent_digests es in
    let many : length ds ≡ length es = length-map es (λ (e : Extent). e.file.digest) in
    (λ i. chain_of (was i) (between-digests es place end i))
    ∙ sym (chain-append start (take place ds) (slice_range ds place end))
    ∙ ap (chain_of start) (sym (first-and-between ds place end low) ∙ sym (take-least ds count end (omega (arith, is, many))))

-- the chains of the first extents that are known are those of the first extents, as many as there are then
pub chains-go-on : (start : Digest) (es : List Extent) (chains more : List Digest) (place end : ℕ) (last : Digest) → place ≤ end → end ≤ length es → place ≡ length chains
    → chains ≡ chains_after start (take (length chains) (extent_digests es))
    → last ≡ chain_of start (take place (extent_digests es))
    → more ≡ chains ++ chains_after last (extent_digests (slice_range es place end))
    → (length more ≡ end) × (more ≡ chains_after start (take (length more) (extent_digests es)))
chains-go-on start es chains more place end last low most is were was made =
    let ds = extent_digests es in
    let many : length ds ≡ length es = length-map es (λ (e : Extent). e.file.digest) in
    let before : chains ≡ chains_after start (take place ds) = were ∙ ap (λ (n : ℕ). chains_after start (take n ds)) (sym is) in
    let all : more ≡ chains_after start (take end ds) =
    made ∙ (λ i. before i ++ chains_after (was i) (between-digests es place end i))
    ∙ sym (chains-append start (take place ds) (slice_range ds place end))
    ∙ ap (chains_after start) (sym (first-and-between ds place end low)) in
    let long : length more ≡ end = ap (λ (cs : List Digest). length cs) all ∙ chains-length start (take end ds) ∙ length-take-le end ds (omega (arith, most, many)) in
    (long, all ∙ ap (λ (n : ℕ). chains_after start (take n ds)) (sym long))

-- the first of the first
take-fewer : (n m : ℕ) (ds : List Digest) → n ≤ m → take n (take m ds) ≡ take n ds
take-fewer zero m ds few = refl
take-fewer (suc n) zero ds few = absurd (omega (arith, few))
take-fewer (suc n) (suc m) [] few = refl
take-fewer (suc n) (suc m) (d ∷ ds) few = ap (λ (es : List Digest). d ∷ es) (take-fewer n m ds (omega (arith, few)))

-- the chain at a place is known
pub chain-known : (start : Digest) (ds chains : List Digest) (place : ℕ) (x : Digest) → chains ≡ chains_after start (take (length chains) ds) → suc place ≤ length chains
    → get_or chains place x ≡ chain_of start (take (suc place) ds)
chain-known start ds chains place x were low =
    let n = length chains in
    let long : n ≡ length (take n ds) = ap (λ (cs : List Digest). length cs) were ∙ chains-length start (take n ds) in
    ap (λ (cs : List Digest). get_or cs place x) were
    ∙ chain-there start (take n ds) place x (omega (arith, long, low))
    ∙ ap (chain_of start) (take-fewer (suc place) n ds low)

-- an extent more leaves the first ones
pub still-chained : (start : Digest) (es : List Extent) (e : Extent) (chains : List Digest) → length chains ≤ length es
    → chains ≡ chains_after start (take (length chains) (extent_digests es))
    → chains ≡ chains_after start (take (length chains) (extent_digests (es ++ e ∷ [])))
still-chained start es e chains few were =
    let ds = extent_digests es in
    let many : length ds ≡ length es = length-map es (λ (e : Extent). e.file.digest) in
    were ∙ ap (chains_after start) (sym (take-append-le (length chains) ds (e.file.digest ∷ []) (omega (arith, few, many))) ∙ ap (λ (ds : List Digest). take (length chains) ds) (sym (digests-push es e)))
  where
    digests-push : (es : List Extent) (e : Extent) → extent_digests (es ++ e ∷ []) ≡ extent_digests es ++ e.file.digest ∷ []
    digests-push [] e = refl
    digests-push (x ∷ xs) e = ap (λ (ds : List Digest). x.file.digest ∷ ds) (digests-push xs e)

-- the digests of a stream's extents
digests-at : (streams : List CatalogStream) (i : ℕ) → slice_get (digests_of (states_of streams)) i ≡ option_map (λ (s : CatalogStream). extent_digests s.extents.items) (slice_get streams i)
digests-at [] i = refl
digests-at (x ∷ xs) zero = refl
digests-at (x ∷ xs) (suc i) = digests-at xs i

stream-there : (streams : List CatalogStream) (i : ℕ) (x : CatalogStream) → i < length streams → x ≡ get_or streams i x → slice_get streams i ≡ Some x
stream-there [] i x low is = absurd (omega (arith, low))
stream-there (y ∷ ys) zero x low is = ap Some (sym is)
stream-there (y ∷ ys) (suc i) x low is = stream-there ys i x (omega (arith, low)) is

no-stream : (streams : List CatalogStream) (i : ℕ) → length streams ≤ i → slice_get streams i ≡ None
no-stream [] i past = refl
no-stream (y ∷ ys) zero past = absurd (omega (arith, past))
no-stream (y ∷ ys) (suc i) past = no-stream ys i (omega (arith, past))

pub chain-there-at : (streams : List CatalogStream) (i count : ℕ) (x : CatalogStream) → i < length streams → x ≡ get_or streams i x
    → chain_of chain_start (take count (extent_digests x.extents.items)) ≡ chain_at (digests_of (states_of streams)) i count
chain-there-at streams i count x low is =
    let there = digests-at streams i ∙ ap (option_map (λ (s : CatalogStream). extent_digests s.extents.items)) (stream-there streams i x low is) in
    ap (λ (o : Option (List Digest)). chain_of chain_start (take count (unwrap_or o []))) (sym there)

pub chain-nowhere : (streams : List CatalogStream) (i count : ℕ) → length streams ≤ i → chain_start ≡ chain_at (digests_of (states_of streams)) i count
chain-nowhere streams i count past =
    let none = digests-at streams i ∙ ap (option_map (λ (s : CatalogStream). extent_digests s.extents.items)) (no-stream streams i past) in
    sym (chain-of-empty count) ∙ ap (λ (o : Option (List Digest)). chain_of chain_start (take count (unwrap_or o []))) (sym none)
  where
    chain-of-empty : (count : ℕ) → chain_of chain_start (take count []) ≡ chain_start
    chain-of-empty count = ap (chain_of chain_start) (take-all [] count (omega arith))
