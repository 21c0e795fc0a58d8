-- That the entries taken are the victims, and that a collection has one list of them.
use Rattle.std.proofs.Common.{◌≡◌, ◌≢◌, refl, sym, ap, ◌∙◌, subst, ℕ, ◌<◌, inl, inr, Bool, true, false, cond, eqb, List, [], ◌∷◌, map, length, get_or, arith}
use Rattle.std.specs.List.{Contains, All, IsDistinct, filter}
use Rattle.std.specs.List.Sorted.{IsPermutation, IsSortedBy}
use Rattle.std.proofs.lemmas.Bool.{cases_lt}
use Rattle.std.proofs.lemmas.Bool.Decides.{Decides-eqb, Decides-like, same_from_decides}
use Rattle.std.proofs.lemmas.List.{get_or-map, get_or_default, length-map}
use Rattle.std.proofs.lemmas.List.Elements.{All-contains, All-filter, filter_passes, All-contains_itself}
use Rattle.std.proofs.lemmas.List.Kept.{AllPairs-filter}
use Rattle.std.proofs.lemmas.List.Sorted.{Contains-permutation, IsPermutation-sym, IsPermutation-map}
use Rattle.std.proofs.lemmas.Map.Keys.{IsDistinct-from_apart, IsDistinct-IsPermutation}
use Rattle.catalog_types.specs.PlainEntry.{PlainEntry}
use Rattle.collector.specs.Ratio.{CanBeRanked}
use Rattle.collector.specs.Victims.{Collection, MayGo, HaveOwnIds, size_of, AreVictims}
use Rattle.collector.specs.Standing.{Standing, standing_of, may_go, first_enough}
use Rattle.collector.specs.Candidates.{standing}
use Rattle.collector.specs.declared.candidate.Candidate.{Candidate}
use Rattle.collector.proofs.Lists.{none, first_in, behind_in, in_cases, moved_alike}
use Rattle.collector.proofs.Orders.{comes_first}
use Rattle.collector.proofs.Choices.{AreKnown, AreFirst, one_list}
use Rattle.collector.proofs.Sorting.{AreAll, first_of_all, enough_alike, order_of_sorted}
use Rattle.collector.proofs.Candidacy.{decides_may_go, with_pinned, same_candidates}

-- an entry of the list that may go
abbrev pub CanGo : List PlainEntry → Collection → PlainEntry → Type 0
CanGo entries c e = Contains entries e × MayGo c e

pub known_entries : (entries : List PlainEntry) (c : Collection) → All (CanBeRanked c.now) entries → HaveOwnIds entries → AreKnown c.now (CanGo entries c)
known_entries entries c ranked own = record {
  ranked = λ e p. All-contains (CanBeRanked c.now) entries e ranked p.0;
  same = λ e f p q. one_place e f p.0 q.0;
}
  where
    one_place : (e f : PlainEntry) → Contains entries e → Contains entries f → e.id ≡ f.id → e ≡ f
    one_place e f has too same =
        let e_at : get_or entries has.0 e ≡ e = has.2 in
        let f_at : get_or entries too.0 e ≡ f = get_or_default entries too.0 e f too.1 ∙ too.2 in
        elim (cases_lt has.0 too.0) [
          | inl less ↦ absurd (own has.0 too.0 e less too.1 (ap (λ z. z.id) e_at ∙ same ∙ ap (λ z. z.id) (sym f_at)))
          | inr most ↦ elim (cases_lt too.0 has.0) [
            | inl less ↦ absurd (own too.0 has.0 e less has.1 (ap (λ z. z.id) f_at ∙ sym same ∙ ap (λ z. z.id) (sym e_at)))
            | inr least ↦ (let at : has.0 ≡ too.0 = omega (arith, most, least) in sym e_at ∙ ap (λ k. get_or entries k e) at ∙ f_at)
          ]
        ]

-- ---- between the record and what goes first

pub victims_from_first : (entries : List PlainEntry) (c : Collection) (wanted : ℕ) (ids : List ℕ) (taken : List PlainEntry) → ids ≡ map (λ e. e.id) taken → AreFirst c.now (CanGo entries c) wanted taken → AreVictims entries c wanted ids
victims_from_first entries c wanted ids taken named of = record {
  taken = taken;
  named = named;
  can_go = of.can_go;
  in_order = of.in_order;
  greatest = λ others last is e has may lacks. of.greatest others last is e (has, may) lacks;
  enough = elim of.enough [ inl much ↦ inl much | inr all ↦ inr (λ e has may. all e (has, may)) ];
  needed = of.needed;
}

first_from_victims : (entries : List PlainEntry) (c : Collection) (wanted : ℕ) (ids : List ℕ) (v : AreVictims entries c wanted ids) → AreFirst c.now (CanGo entries c) wanted v.taken
first_from_victims entries c wanted ids v = record {
  can_go = v.can_go;
  in_order = v.in_order;
  greatest = λ others last is e p lacks. v.greatest others last is e p.0 p.1 lacks;
  enough = elim v.enough [ inl much ↦ inl much | inr all ↦ inr (λ e p. all e p.0 p.1) ];
  needed = v.needed;
}

pub at_most_one : (entries : List PlainEntry) (c : Collection) (wanted : ℕ) → All (CanBeRanked c.now) entries → HaveOwnIds entries → (v w : List ℕ) → AreVictims entries c wanted v → AreVictims entries c wanted w → v ≡ w
at_most_one entries c wanted ranked own v w first second =
    first.named ∙ ap (map (λ e. e.id)) (one_list first.taken second.taken c.now (CanGo entries c) wanted (known_entries entries c ranked own) (first_from_victims entries c wanted v first) (first_from_victims entries c wanted w second))
    ∙ sym second.named

-- ---- those that may go

contains_filter : (p : PlainEntry → Bool) (es : List PlainEntry) (e : PlainEntry) → Contains es e → p e ≡ true → Contains (filter p es) e
contains_filter p [] e has pass = absurd (none e has)
contains_filter p (x ∷ xs) e has pass = elim (in_cases x xs e has) [
  | inl is ↦ here (p x) (ap p is ∙ pass) is
  | inr more ↦ there (p x) (contains_filter p xs e more pass)
]
  where
    here : (b : Bool) → b ≡ true → x ≡ e → Contains (cond b (x ∷ filter p xs) (filter p xs)) e
    here true _ is = subst (Contains (x ∷ filter p xs)) is (first_in x (filter p xs))
    here false pass is = absurd (cc)

    there : (b : Bool) → Contains (filter p xs) e → Contains (cond b (x ∷ filter p xs) (filter p xs)) e
    there true has = behind_in x (filter p xs) e has
    there false has = has

pub filter_can_go : (entries : List PlainEntry) (c : Collection) (e : PlainEntry) → Contains (filter (may_go c) entries) e → CanGo entries c e
filter_can_go entries c e has = (
  All-contains (Contains entries) (filter (may_go c) entries) e (All-filter (may_go c) (Contains entries) entries (All-contains_itself entries)) has,
  (decides_may_go c e).0 (All-contains (λ x. may_go c x ≡ true) (filter (may_go c) entries) e (filter_passes (may_go c) entries) has),
)

pub can_go_in_filter : (entries : List PlainEntry) (c : Collection) (e : PlainEntry) → CanGo entries c e → Contains (filter (may_go c) entries) e
can_go_in_filter entries c e p = contains_filter (may_go c) entries e p.0 ((decides_may_go c e).1 p.1)

not_equal : (a b : ℕ) → (a ≡ b → ⊥) → eqb a b ≡ false
not_equal a b apart = by (eqb a b) (Decides-eqb a b)
  where
    by : (r : Bool) → ((r ≡ true → a ≡ b) × (a ≡ b → r ≡ true)) → r ≡ false
    by false is = refl
    by true is = absurd (apart (is.0 refl))

apart_at : (es : List PlainEntry) → HaveOwnIds es → (i j d : ℕ) → i < j → j < length es → eqb (get_or (map (λ (e : PlainEntry). e.id) es) i d) (get_or (map (λ (e : PlainEntry). e.id) es) j d) ≡ false
apart_at [] own i j d less low = absurd (omega (arith, low))
apart_at (e ∷ es) own i j d less low =
    let all = e ∷ es in
    let at_i : get_or (map (λ (x : PlainEntry). x.id) all) i d ≡ (get_or all i e).id = get_or-map (λ (x : PlainEntry). x.id) all i e d (omega (arith, less, low)) in
    let at_j : get_or (map (λ (x : PlainEntry). x.id) all) j d ≡ (get_or all j e).id = get_or-map (λ (x : PlainEntry). x.id) all j e d low in
    not_equal _ _ (λ same. own i j e less low (sym at_i ∙ same ∙ at_j))

distinct_ids : (es : List PlainEntry) → HaveOwnIds es → IsDistinct eqb (map (λ e. e.id) es)
distinct_ids es own = IsDistinct-from_apart eqb (map (λ e. e.id) es) (λ i j d less low. apart_at es own i j d less (subst (λ n. j < n) (length-map es (λ e. e.id)) low))

flips : (x y : ℕ) → eqb x y ≡ eqb y x
flips x y = same_from_decides (eqb x y) (eqb y x) (Decides-eqb x y) (Decides-like {P = y ≡ x} {Q = x ≡ y} (eqb y x) sym sym (Decides-eqb y x))

twice : {X Y Z : Type 0} (f : Y → Z) (g : X → Y) (xs : List X) → map f (map g xs) ≡ map (λ x. f (g x)) xs
twice f g [] = refl
twice f g (x ∷ xs) = ap (λ l. f (g x) ∷ l) (twice f g xs)

abbrev standing_id : Standing → ℕ
standing_id s = s.id

abbrev standing_size : Standing → ℕ
standing_size s = s.size

abbrev candidate_size : Candidate → ℕ
candidate_size c = c.size

alike_ids : (now wanted : ℕ) (cs : List Candidate) (es : List PlainEntry) → map standing cs ≡ map (standing_of now) es
    → map (λ c. c.id) (first_enough (λ c. c.size) wanted cs) ≡ map (λ e. e.id) (first_enough size_of wanted es)
alike_ids now wanted cs es alike =
    sym (twice standing_id standing (first_enough candidate_size wanted cs))
    ∙ ap (map standing_id) (enough_alike standing candidate_size standing_size (λ c. refl) cs wanted ∙ ap (first_enough standing_size wanted) alike ∙ sym (enough_alike (standing_of now) size_of standing_size (λ e. refl) es wanted))
    ∙ twice standing_id (standing_of now) (first_enough size_of wanted es)

victims_from_order : (entries : List PlainEntry) (c : Collection) (wanted : ℕ) (es : List PlainEntry) (sorted : List Candidate) (ids : List ℕ) → All (CanBeRanked c.now) entries → HaveOwnIds entries
    → IsPermutation (filter (may_go c) entries) es → map standing sorted ≡ map (standing_of c.now) es → IsSortedBy comes_first sorted → ids ≡ map (λ c. c.id) (first_enough (λ c. c.size) wanted sorted) → AreVictims entries c wanted ids
victims_from_order entries c wanted es sorted ids ranked own moved alike ascends are =
    victims_from_first entries c wanted ids (first_enough size_of wanted es) named (first_of_all es c.now (CanGo entries c) wanted (known_entries entries c ranked own) all)
  where
    apart : IsDistinct eqb (map (λ e. e.id) es)
    apart = IsDistinct-IsPermutation eqb flips _ _ (IsPermutation-map (λ (e : PlainEntry). e.id) (filter (may_go c) entries) es moved)
        (distinct_ids (filter (may_go c) entries) (AllPairs-filter (λ (e f : PlainEntry). e.id ≢ f.id) (may_go c) entries own))

    all : AreAll c.now (CanGo entries c) es
    all = record {
      in_order = order_of_sorted c.now sorted es alike ascends apart;
      each = λ e has. filter_can_go entries c e (Contains-permutation es (filter (may_go c) entries) e (IsPermutation-sym (filter (may_go c) entries) es moved) has);
      all = λ e p. Contains-permutation (filter (may_go c) entries) es e moved (can_go_in_filter entries c e p);
    }

    named : ids ≡ map (λ e. e.id) (first_enough size_of wanted es)
    named = are ∙ alike_ids c.now wanted sorted es alike

-- what is taken of the candidates, in order, are the victims
pub victims_of_candidates : (entries : List PlainEntry) (c : Collection) (held : List ℕ) (wanted : ℕ) (cs sorted : List Candidate) (ids : List ℕ) → All (CanBeRanked c.now) entries → IsPermutation c.pinned held
    → map standing cs ≡ map (standing_of c.now) (filter (may_go (with_pinned c held)) entries) → IsPermutation cs sorted → IsSortedBy comes_first sorted → ids ≡ map (λ c. c.id) (first_enough (λ c. c.size) wanted sorted)
    → HaveOwnIds entries → AreVictims entries c wanted ids
victims_of_candidates entries c held wanted cs sorted ids ranked pinned alike moved ascends are own =
    let too = moved_alike standing (standing_of c.now) cs sorted (filter (may_go c) entries) (alike ∙ ap (map (standing_of c.now)) (same_candidates c held pinned entries)) moved in
    victims_from_order entries c wanted too.0 sorted ids ranked own too.1 too.2 ascends are
