-- That a collection has a list of victims: entries can be put in order.
use Rattle.std.proofs.Common.{◌≡◌, ◌≢◌, refl, sym, ap, ◌∙◌, subst, ℕ, ◌⊎◌, inl, inr, List, [], ◌∷◌, map, suc, arith}
use Rattle.std.specs.List.{Contains, All, filter}
use Rattle.std.proofs.lemmas.List.Kept.{AllPairs-filter}
use Rattle.catalog_types.specs.PlainEntry.{PlainEntry}
use Rattle.collector.specs.Ratio.{CanBeRanked, GoesBefore}
use Rattle.collector.specs.Victims.{Collection, HaveOwnIds, size_of, GoesBeforeNext, AreInOrder, AreVictims}
use Rattle.collector.specs.Standing.{may_go, first_enough}
use Rattle.collector.proofs.Lists.{none, first_in, behind_in, in_cases}
use Rattle.collector.proofs.Ranks.{one_goes}
use Rattle.collector.proofs.Sorting.{AreAll, first_of_all}
use Rattle.collector.proofs.Taking.{CanGo, known_entries, victims_from_first, filter_can_go, can_go_in_filter}

-- a list in order with one entry more
record HasOneMore (now : ℕ) (e : PlainEntry) (es : List PlainEntry) (more : List PlainEntry) : Type 0 where
  in_order : AreInOrder now more
  next : (x : PlainEntry) → GoesBefore now x e → GoesBeforeNext now x es → GoesBeforeNext now x more
  has : Contains more e
  keeps : (f : PlainEntry) → Contains es f → Contains more f
  adds : (f : PlainEntry) → Contains more f → (e ≡ f) ⊎ Contains es f

inserted : (now : ℕ) (e : PlainEntry) (es : List PlainEntry) → ((f : PlainEntry) → Contains es f → e.id ≢ f.id) → AreInOrder now es → (more : List PlainEntry) × HasOneMore now e es more
inserted now e [] apart order = (
  e ∷ [],
  record {
    in_order = (tt, tt);
    next = λ x before _. before;
    has = first_in e [];
    keeps = λ f has. absurd (none f has);
    adds = λ f has. in_cases e [] f has;
  },
)
inserted now e (f ∷ fs) apart order = elim (one_goes now e f (apart f (first_in f fs))) [
  | inl before ↦ (
    e ∷ f ∷ fs,
    record {
      in_order = (before, order);
      next = λ x first _. first;
      has = first_in e (f ∷ fs);
      keeps = λ g has. behind_in e (f ∷ fs) g has;
      adds = λ g has. in_cases e (f ∷ fs) g has;
    },
  )
  | inr behind ↦
      let rest = inserted now e fs (λ g has. apart g (behind_in f fs g has)) order.1 in (
        f ∷ rest.0,
        record {
          in_order = (rest.1.next f behind order.0, rest.1.in_order);
          next = λ x _ next. next;
          has = behind_in f rest.0 e rest.1.has;
          keeps = λ g has. elim (in_cases f fs g has) [
            | inl is ↦ subst (Contains (f ∷ rest.0)) is (first_in f rest.0)
            | inr there ↦ behind_in f rest.0 g (rest.1.keeps g there)
          ];
          adds = λ g has. elim (in_cases f rest.0 g has) [
            | inl is ↦ inr (subst (Contains (f ∷ fs)) is (first_in f fs))
            | inr there ↦ elim (rest.1.adds g there) [ inl is ↦ inl is | inr old ↦ inr (behind_in f fs g old) ]
          ];
        },
      )
]

-- the same entries in order
record AreOrdered (now : ℕ) (es ordered : List PlainEntry) : Type 0 where
  in_order : AreInOrder now ordered
  keeps : (f : PlainEntry) → Contains es f → Contains ordered f
  adds : (f : PlainEntry) → Contains ordered f → Contains es f

-- each differs from the later ones
abbrev AreApart : List PlainEntry → Type 0
AreApart [] = Unit {0}
AreApart (e ∷ es) = ((f : PlainEntry) → Contains es f → e.id ≢ f.id) × AreApart es

ordered : (now : ℕ) (es : List PlainEntry) → AreApart es → (ordered : List PlainEntry) × AreOrdered now es ordered
ordered now [] apart = ([], record { in_order = tt; keeps = λ f has. has; adds = λ f has. has })
ordered now (e ∷ es) apart =
    let rest = ordered now es apart.1 in
    let more = inserted now e rest.0 (λ f has. apart.0 f (rest.1.adds f has)) rest.1.in_order in (
      more.0,
      record {
        in_order = more.1.in_order;
        keeps = λ f has. elim (in_cases e es f has) [ inl is ↦ subst (Contains more.0) is more.1.has | inr there ↦ more.1.keeps f (rest.1.keeps f there) ];
        adds = λ f has. elim (more.1.adds f has) [ inl is ↦ subst (Contains (e ∷ es)) is (first_in e es) | inr there ↦ behind_in e es f (rest.1.adds f there) ];
      },
    )

apart_from_pairs : (es : List PlainEntry) → HaveOwnIds es → AreApart es
apart_from_pairs [] own = tt
apart_from_pairs (e ∷ es) own = (
  λ f has. (λ same. own 0 (suc has.0) f (omega arith) (let low = has.1 in omega (arith, low)) (same ∙ ap (λ z. z.id) (sym has.2))),
  apart_from_pairs es (λ i j d less low. own (suc i) (suc j) d (omega (arith, less)) (omega (arith, low))),
)

pub at_least_one : (entries : List PlainEntry) (c : Collection) (wanted : ℕ) → All (CanBeRanked c.now) entries → HaveOwnIds entries → (v : List ℕ) × AreVictims entries c wanted v
at_least_one entries c wanted ranked own =
    let es = ordered c.now (filter (may_go c) entries) (apart_from_pairs (filter (may_go c) entries) (AllPairs-filter (λ (e f : PlainEntry). e.id ≢ f.id) (may_go c) entries own)) in
    let all : AreAll c.now (CanGo entries c) es.0 = record {
      in_order = es.1.in_order;
      each = λ e has. filter_can_go entries c e (es.1.adds e has);
      all = λ e p. es.1.keeps e (can_go_in_filter entries c e p);
    } in
    let taken = first_enough size_of wanted es.0 in
    (map (λ e. e.id) taken, victims_from_first entries c wanted (map (λ e. e.id) taken) taken refl (first_of_all es.0 c.now (CanGo entries c) wanted (known_entries entries c ranked own) all))
