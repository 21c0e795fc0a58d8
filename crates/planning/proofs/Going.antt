-- The ids of a collection are of kept results, differ, and are few.
use Rattle.std.proofs.Common.{◌≡◌, refl, sym, ap, ◌∙◌, subst, ℕ, ◌+◌, ◌*◌, ◌≤◌, ◌⊎◌, inl, inr, Bool, true, false, eqb, List, [], ◌∷◌, length, map, sum_by, arith}
use Rattle.std.specs.List.{All, AllByRecursion, Contains, IsDistinct, remove}
use Rattle.std.proofs.lemmas.Bool.{eqb-true}
use Rattle.std.proofs.lemmas.List.{length-map}
use Rattle.std.proofs.lemmas.List.Elements.{All-from_recursion}
use Rattle.std.proofs.lemmas.List.Sorted.{IsPermutation-remove, Contains-permutation, length_permutation}
use Rattle.std.proofs.lemmas.List.Sums.{sum_by-cons, sum_by-le}
use Rattle.catalog_types.specs.PlainEntry.{PlainEntry}
use Rattle.collector.specs.Ratio.{GoesBefore}
use Rattle.collector.specs.Victims.{size_of, AreInOrder, AreVictims}
use Rattle.collector.proofs.Choices.{AreKnown, first_goes}
use Rattle.collector.proofs.Lists.{first_in, behind_in, in_cases}
use Rattle.collector.proofs.Ranks.{not_before_itself}
use Rattle.collector.proofs.Taking.{CanGo, known_entries}
use Rattle.rows_core.specs.Limits.{most_entries, most_result_bytes}
use Rattle.catalog_core.specs.IsTable.{IsTable}
use Rattle.catalog_core.specs.Table.{Table}
use Rattle.catalog_core.proofs.AskedResults.{found-own}
use Rattle.planning.specs.Collecting.{collection_of, file_of, bytes_of}
use Rattle.planning.proofs.Entries.{ranked, own-ids, IsId, own-id}

-- what holds of the id of each entry holds of all their ids
all-ids : (P : ℕ → Type 0) (es : List PlainEntry) → ((e : PlainEntry) → Contains es e → P e.id) → AllByRecursion P (map (λ e. e.id) es)
all-ids P [] each = tt
all-ids P (e ∷ es) each = (each e (first_in e es), all-ids P es (λ f has. each f (behind_in e es f has)))

-- ---- entries in order

module _ (now : ℕ) (P : PlainEntry → Type 0) (known : AreKnown now P) where
  -- the first goes before each other
  first-before : (e : PlainEntry) (es : List PlainEntry) → ((f : PlainEntry) → Contains (e ∷ es) f → P f) → AreInOrder now (e ∷ es) → (f : PlainEntry) → Contains es f → e ≡ f → ⊥
  first-before e es each order f has same =
      not_before_itself now e (subst (λ (z : PlainEntry). GoesBefore now e z) (sym same)
      (first_goes now e es (known.ranked e (each e (first_in e es))) (λ g in'. known.ranked g (each g (behind_in e es g in'))) order.0 order.1 f has))

  pub ids-differ : (es : List PlainEntry) → ((f : PlainEntry) → Contains es f → P f) → AreInOrder now es → IsDistinct eqb (map (λ e. e.id) es)
  unfolding IsDistinct
  ids-differ [] each order = tt
  ids-differ (e ∷ es) each order = (
    all-ids (λ (id : ℕ). eqb e.id id ≡ false) es (λ f has. other f has (eqb e.id f.id) refl),
    ids-differ es (λ f has. each f (behind_in e es f has)) order.1,
  )
    where
      other : (f : PlainEntry) → Contains es f → (b : Bool) → eqb e.id f.id ≡ b → eqb e.id f.id ≡ false
      other f has false is = is
      other f has true is =
          absurd (first-before e es each order f has (known.same e f (each e (first_in e es)) (each f (behind_in e es f has)) (eqb-true e.id f.id is)))

  -- as few as the entries of which they are some
  pub few-of : (es of : List PlainEntry) → ((f : PlainEntry) → Contains es f → P f) → ((f : PlainEntry) → Contains es f → Contains of f) → AreInOrder now es → length es ≤ length of
  few-of [] of each some order = omega arith
  few-of (e ∷ es) of each some order =
      let at = some e (first_in e es) in
      let moved = IsPermutation-remove of at.0 e at.1 (sym at.2) in
      let rest = few-of es (remove of at.0) (λ f has. each f (behind_in e es f has)) (λ f has. there f has (remove of at.0) (in_cases e (remove of at.0) f (Contains-permutation of (e ∷ remove of at.0) f moved (some f (behind_in e es f has))))) order.1 in
      let long = length_permutation of (e ∷ remove of at.0) moved in
      omega (arith, rest, long)
    where
      there : (f : PlainEntry) → Contains es f → (others : List PlainEntry) → (e ≡ f) ⊎ Contains others f → Contains others f
      there f has others (inl same) = absurd (first-before e es each order f has same)
      there f has others (inr more) = more

-- ---- those that a collection takes

module _ (t : Table) (is : IsTable t) (held : List ℕ) (wanted : ℕ) (ids : List ℕ) (v : AreVictims t.entries (collection_of t held) wanted ids) where
  known : AreKnown (t.tick + 1) (CanGo t.entries (collection_of t held))
  known = known_entries t.entries (collection_of t held) (ranked t is) (own-ids t is)

  pub going-ids : All (IsId t) ids
  going-ids = subst (All (IsId t)) (sym v.named) (All-from_recursion (IsId t) (map (λ e. e.id) v.taken) (all-ids (IsId t) v.taken (λ e has. own-id t is e (v.can_go e has).0)))

  pub going-differ : IsDistinct eqb ids
  going-differ = subst (IsDistinct eqb) (sym v.named) (ids-differ (t.tick + 1) (CanGo t.entries (collection_of t held)) known v.taken v.can_go v.in_order)

  pub going-few : length ids ≤ most_entries
  going-few =
      let long = ap length v.named ∙ length-map v.taken (λ e. e.id) in
      let few = few-of (t.tick + 1) (CanGo t.entries (collection_of t held)) known v.taken t.entries v.can_go (λ e has. (v.can_go e has).0) v.in_order in
      let most = is.kept.few in
      omega (arith, long, few, most)

  pub going-bytes : bytes_of t ids ≤ 4096 * most_result_bytes
  going-bytes =
      let few : length ids ≤ 4096 = going-few in
      let most = sum_by-le (λ (id : ℕ). (file_of t id).len) most_result_bytes ids (λ k d here. (going-ids k d here).short) in
      omega (arith, few, most)

  -- their files are those of the entries that are taken
  pub taken-bytes : bytes_of t ids ≡ sum_by size_of v.taken
  taken-bytes = ap (bytes_of t) v.named ∙ each v.taken (λ e has. (v.can_go e has).0)
    where
      each : (es : List PlainEntry) → ((e : PlainEntry) → Contains es e → Contains t.entries e) → bytes_of t (map (λ e. e.id) es) ≡ sum_by size_of es
      each [] some = refl
      each (e ∷ es) some =
          let rest = each es (λ f has. some f (behind_in e es f has)) in
          let own : (file_of t e.id).len ≡ e.file.len = ap (λ file. file.len) (found-own t e is (some e (first_in e es))).0 in
          let files = sum_by-cons (λ (id : ℕ). (file_of t id).len) e.id (map (λ e. e.id) es) in
          let sizes = sum_by-cons size_of e es in
          omega (arith, rest, own, files, sizes)
