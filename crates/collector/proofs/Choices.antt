-- The entries that go first: which they are, and that there is one list of them.
use Rattle.std.proofs.Common.{◌≡◌, ◌≢◌, refl, sym, ap, ◌∙◌, subst, ℕ, ◌-◌, ◌<◌, ◌≤◌, ◌⊎◌, inl, inr, List, [], ◌∷◌, ◌++◌, arith, sum_by}
use Rattle.std.specs.List.{Contains}
use Rattle.std.proofs.lemmas.Bool.{cases_eq}
use Rattle.std.proofs.lemmas.List.Sums.{sum_by-cons}
use Rattle.catalog_types.specs.PlainEntry.{PlainEntry}
use Rattle.collector.specs.Ratio.{CanBeRanked, GoesBefore}
use Rattle.collector.specs.Victims.{size_of, GoesBeforeNext, AreInOrder}
use Rattle.collector.proofs.Lists.{none, first_in, behind_in, in_cases, ends, ends_in}
use Rattle.collector.proofs.Ranks.{not_before_itself, goes_further}

-- those of which P holds can be ranked, and their ids differ
pub record AreKnown (now : ℕ) (P : PlainEntry → Type 0) : Type 0 where
  pub ranked : (e : PlainEntry) → P e → CanBeRanked now e
  pub same : (e f : PlainEntry) → P e → P f → e.id ≡ f.id → e ≡ f

-- these go first of those of which P holds
pub record AreFirst (now : ℕ) (P : PlainEntry → Type 0) (wanted : ℕ) (taken : List PlainEntry) : Type 0 where
  pub can_go : (e : PlainEntry) → Contains taken e → P e
  pub in_order : AreInOrder now taken
  pub greatest : (others : List PlainEntry) (last : PlainEntry) → taken ≡ others ++ last ∷ [] → (e : PlainEntry) → P e → (Contains taken e → ⊥) → GoesBefore now last e
  pub enough : (wanted ≤ sum_by size_of taken) ⊎ ((e : PlainEntry) → P e → Contains taken e)
  pub needed : (others : List PlainEntry) (last : PlainEntry) → taken ≡ others ++ last ∷ [] → sum_by size_of others < wanted

-- those of which P holds, but this one
abbrev pub But : (PlainEntry → Type 0) → PlainEntry → PlainEntry → Type 0
But P t e = P e × (e.id ≢ t.id)

pub known_but : (now : ℕ) (P : PlainEntry → Type 0) (t : PlainEntry) → AreKnown now P → AreKnown now (But P t)
known_but now P t known = record { ranked = λ e p. known.ranked e p.0; same = λ e f p q. known.same e f p.0 q.0 }

-- ---- in order

-- the first goes before each other
pub first_goes : (now : ℕ) (e : PlainEntry) (es : List PlainEntry) → CanBeRanked now e → ((f : PlainEntry) → Contains es f → CanBeRanked now f) → GoesBeforeNext now e es → AreInOrder now es
    → (f : PlainEntry) → Contains es f → GoesBefore now e f
first_goes now e [] can each next order f has = absurd (none f has)
first_goes now e (g ∷ gs) can each next order f has = elim (in_cases g gs f has) [
  | inl is ↦ subst (GoesBefore now e) is next
  | inr more ↦ goes_further now e g f can (each g (first_in g gs)) (each f has) next
      (first_goes now g gs (each g (first_in g gs)) (λ h in'. each h (behind_in g gs h in')) order.0 order.1 f more)
]

-- whether an entry is among others is told by its id
pub among : (now : ℕ) (P : PlainEntry → Type 0) → AreKnown now P → (es : List PlainEntry) → ((f : PlainEntry) → Contains es f → P f) → (e : PlainEntry) → P e → Contains es e ⊎ (Contains es e → ⊥)
among now P known [] each e p = inr (none e)
among now P known (x ∷ xs) each e p = elim (cases_eq x.id e.id) [
  | inl same ↦ inl (subst (Contains (x ∷ xs)) (known.same x e (each x (first_in x xs)) p same) (first_in x xs))
  | inr differ ↦ elim (among now P known xs (λ f has. each f (behind_in x xs f has)) e p) [
    | inl has ↦ inl (behind_in x xs e has)
    | inr lacks ↦ inr (λ has. elim (in_cases x xs e has) [ inl is ↦ differ (ap (λ z. z.id) is) | inr more ↦ lacks more ])
  ]
]

-- the first one taken goes before each other
pub head_goes : (now : ℕ) (P : PlainEntry → Type 0) (wanted : ℕ) (t : PlainEntry) (ts : List PlainEntry) → AreKnown now P → AreFirst now P wanted (t ∷ ts) → (e : PlainEntry) → P e → (t ≡ e) ⊎ GoesBefore now t e
head_goes now P wanted t ts known of e p = elim (among now P known (t ∷ ts) of.can_go e p) [
  | inl has ↦ before e has
  | inr lacks ↦
      let end = ends t ts in
      let after = of.greatest end.0 end.1 end.2 e p lacks in
      let has = ends_in (t ∷ ts) end.0 end.1 end.2 in
      elim (before end.1 has) [
        | inl is ↦ inr (subst (λ z. GoesBefore now z e) (sym is) after)
        | inr less ↦ inr (goes_further now t end.1 e (known.ranked t own) (known.ranked end.1 (of.can_go end.1 has)) (known.ranked e p) less after)
      ]
]
  where
    own : P t
    own = of.can_go t (first_in t ts)

    before : (f : PlainEntry) → Contains (t ∷ ts) f → (t ≡ f) ⊎ GoesBefore now t f
    before f has = elim (in_cases t ts f has) [
      | inl is ↦ inl is
      | inr more ↦ inr (first_goes now t ts (known.ranked t own) (λ g in'. known.ranked g (of.can_go g (behind_in t ts g in'))) of.in_order.0 of.in_order.1 f more)
    ]

-- ---- one list

-- those behind the first one go first of the others
pub rest_first : (now : ℕ) (P : PlainEntry → Type 0) (wanted : ℕ) (t : PlainEntry) (ts : List PlainEntry) → AreKnown now P → AreFirst now P wanted (t ∷ ts) → AreFirst now (But P t) (wanted - size_of t) ts
rest_first now P wanted t ts known of = record {
  can_go = λ e has. (of.can_go e (behind_in t ts e has), apart e has);
  in_order = of.in_order.1;
  greatest = λ others last is e p lacks. of.greatest (t ∷ others) last (ap (λ l. t ∷ l) is) e p.0
      (λ has. elim (in_cases t ts e has) [ inl same ↦ p.1 (ap (λ z. z.id) (sym same)) | inr more ↦ lacks more ]);
  enough = elim of.enough [
    | inl much ↦ inl (omega (arith, much, sum_by-cons size_of t ts))
    | inr all ↦ inr (λ e p. elim (in_cases t ts e (all e p.0)) [ inl same ↦ absurd (p.1 (ap (λ z. z.id) (sym same))) | inr more ↦ more ])
  ];
  needed = λ others last is. (let less : sum_by size_of (t ∷ others) < wanted = of.needed (t ∷ others) last (ap (λ l. t ∷ l) is) in omega (arith, less, sum_by-cons size_of t others));
}
  where
    own : P t
    own = of.can_go t (first_in t ts)

    apart : (e : PlainEntry) → Contains ts e → e.id ≢ t.id
    apart e has same =
        let is = known.same e t (of.can_go e (behind_in t ts e has)) own same in
        not_before_itself now t (subst (GoesBefore now t) is
        (first_goes now t ts (known.ranked t own) (λ g in'. known.ranked g (of.can_go g (behind_in t ts g in'))) of.in_order.0 of.in_order.1 e has))

-- no entries go first where some do
none_or_some : (now : ℕ) (P : PlainEntry → Type 0) (wanted : ℕ) (u : PlainEntry) (us : List PlainEntry) → AreFirst now P wanted [] → AreFirst now P wanted (u ∷ us) → ⊥
none_or_some now P wanted u us nothing some = elim nothing.enough [
  | inl zero ↦ (let end = ends u us in let less = some.needed end.0 end.1 end.2 in omega (arith, zero, less))
  | inr all ↦ none u (all u (some.can_go u (first_in u us)))
]

pub one_list : (ts us : List PlainEntry) (now : ℕ) (P : PlainEntry → Type 0) (wanted : ℕ) → AreKnown now P → AreFirst now P wanted ts → AreFirst now P wanted us → ts ≡ us
one_list [] [] now P wanted known first second = refl
one_list [] (u ∷ us) now P wanted known first second = absurd (none_or_some now P wanted u us first second)
one_list (t ∷ ts) [] now P wanted known first second = absurd (none_or_some now P wanted t ts second first)
one_list (t ∷ ts) (u ∷ us) now P wanted known first second =
    let moved = subst (λ x. AreFirst now (But P x) (wanted - size_of x) us) (sym heads) (rest_first now P wanted u us known second) in
    ap (λ x. x ∷ ts) heads ∙ ap (λ l. u ∷ l) (one_list ts us now (But P t) (wanted - size_of t) (known_but now P t known) (rest_first now P wanted t ts known first) moved)
  where
    heads : t ≡ u
    heads =
        let p = first.can_go t (first_in t ts) in
        let q = second.can_go u (first_in u us) in
        elim (head_goes now P wanted t ts known first u q) [
          | inl is ↦ is
          | inr before ↦ elim (head_goes now P wanted u us known second t p) [
            | inl is ↦ sym is
            | inr too ↦ absurd (not_before_itself now t (goes_further now t u t (known.ranked t p) (known.ranked u q) (known.ranked t p) before too))
          ]
        ]

-- ---- one entry more in front

pub more_first : (now : ℕ) (P : PlainEntry → Type 0) (wanted : ℕ) (t : PlainEntry) (ts : List PlainEntry) → AreKnown now P → P t → 0 < wanted → ((e : PlainEntry) → But P t e → GoesBefore now t e)
    → AreFirst now (But P t) (wanted - size_of t) ts → AreFirst now P wanted (t ∷ ts)
more_first now P wanted t ts known own some before of = record {
  can_go = λ e has. elim (in_cases t ts e has) [ inl is ↦ subst P is own | inr more ↦ (of.can_go e more).0 ];
  in_order = (next ts of.can_go, of.in_order);
  greatest = greatest;
  enough = elim of.enough [
    | inl much ↦ inl (omega (arith, much, sum_by-cons size_of t ts))
    | inr all ↦ inr (λ e p. elim (cases_eq e.id t.id) [
      | inl same ↦ subst (Contains (t ∷ ts)) (known.same t e own p (sym same)) (first_in t ts)
      | inr differ ↦ behind_in t ts e (all e (p, differ))
    ])
  ];
  needed = needed;
}
  where
    next : (us : List PlainEntry) → ((e : PlainEntry) → Contains us e → But P t e) → GoesBeforeNext now t us
    next [] each = tt
    next (u ∷ us) each = before u (each u (first_in u us))

    differs : (e : PlainEntry) → P e → (Contains (t ∷ ts) e → ⊥) → e.id ≢ t.id
    differs e p lacks same = lacks (subst (Contains (t ∷ ts)) (known.same t e own p (sym same)) (first_in t ts))

    greatest : (others : List PlainEntry) (last : PlainEntry) → t ∷ ts ≡ others ++ last ∷ [] → (e : PlainEntry) → P e → (Contains (t ∷ ts) e → ⊥) → GoesBefore now last e
    greatest [] last is e p lacks = let same : t ≡ last = cc in subst (λ z. GoesBefore now z e) same (before e (p, differs e p lacks))
    greatest (o ∷ os) last is e p lacks = let rest : ts ≡ os ++ last ∷ [] = cc in of.greatest os last rest e (p, differs e p lacks) (λ has. lacks (behind_in t ts e has))

    needed : (others : List PlainEntry) (last : PlainEntry) → t ∷ ts ≡ others ++ last ∷ [] → sum_by size_of others < wanted
    needed [] last is = some
    needed (o ∷ os) last is =
        let rest : ts ≡ os ++ last ∷ [] = cc in
        let same : t ≡ o = cc in
        let less : sum_by size_of os < wanted - size_of t = of.needed os last rest in
        let size = ap size_of same in
        omega (arith, less, size, sum_by-cons size_of o os)
