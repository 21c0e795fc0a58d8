-- The kept results that a state has and the one after work hasn't are those that the work drops.
use Rattle.std.proofs.Common.{◌≡◌, ◌∙◌, refl, sym, ap, subst, ℕ, ◌+◌, ◌<◌, ◌==◌, ◌&&◌, ◌||◌, nat_lt, Bool, true, false, not, cond, List, [], ◌∷◌, ◌++◌, Option, inl, inr, arith}
use Rattle.std.specs.List.{Contains, filter, list_all}
use Rattle.std.proofs.lemmas.Bool.{eqb-true, ltb-true, and_parts}
use Rattle.std.proofs.lemmas.List.Folds.{list_any-append}
use Rattle.std.proofs.lemmas.Map.Views.{any-filter_same}
use Rattle.std.proofs.Math.Bool.{not-not, and-true, or-false}
use Rattle.plan_laws.proofs.Members.{at_front, behind, front_or_behind, none_in_nothing}
use Rattle.catalog_types.specs.PlainEntry.{PlainEntry, PlainNewEntry}
use Rattle.catalog_types.specs.declared.program.Program.{Program}
use Rattle.entry_table.specs.Ids.{ids_of, is_among, is_there, without}
use Rattle.entry_table.specs.Keyed.{Digests}
use Rattle.entry_table.specs.Work.{new_entries, with_uses}
use Rattle.catalog_core.specs.IsTable.{IsTable}
use Rattle.catalog_core.specs.Results.{digests_of}
use Rattle.folder.specs.Next.{with_work}
use Rattle.folder.specs.State.{State, states_of, table}
use Rattle.folder_session.proofs.DroppedLemmas.{there_of, used_file}
use Rattle.work_turns.specs.Ends.{those_among}
use Rattle.work_turns.proofs.Dropped.{among-twice}
use Rattle.session.specs.Machine.{gone_between}

-- ---- which elements pass a test

alike : {X : Type 0} (p q : X → Bool) (xs : List X) → ((x : X) → Contains xs x → p x ≡ q x) → filter p xs ≡ filter q xs
alike p q [] same = refl
alike p q (x ∷ xs) same =
    let rest = alike p q xs (λ y has. same y (behind x xs y has)) in
    λ i. cond (same x (at_front x xs) i) (x ∷ rest i) (rest i)

none_that : {X : Type 0} (p : X → Bool) (xs : List X) → ((x : X) → Contains xs x → p x ≡ false) → filter p xs ≡ []
none_that p [] none = refl
none_that p (x ∷ xs) none = (λ i. cond (none x (at_front x xs) i) (x ∷ filter p xs) (filter p xs)) ∙ none_that p xs (λ y has. none y (behind x xs y has))

-- ---- the ids after work

below : (n : ℕ) (es : List PlainEntry) → list_all (λ id. nat_lt id n) (ids_of es) ≡ true → (e : PlainEntry) → Contains es e → e.id < n
below n [] all e has = absurd (none_in_nothing e has)
below n (x ∷ es) all e has =
    let parts = and_parts (nat_lt x.id n) (list_all (λ id. nat_lt id n) (ids_of es)) all in
    elim (front_or_behind x es e has) [
      | inl is ↦ subst (λ (y : PlainEntry). y.id < n) is (ltb-true x.id n parts.0)
      | inr more ↦ below n es parts.1 e more
    ]

-- new results have other ids
none_new : (digests : Digests) (tick next : ℕ) (news : List PlainNewEntry) (id : ℕ) → id < next → is_there (new_entries digests tick next news) id ≡ false
none_new digests tick next [] id low = refl
none_new digests tick next (new ∷ news) id low = by (next == id) refl (none_new digests tick (next + 1) news id (omega (arith, low)))
  where
    by : (b : Bool) → (next == id) ≡ b → is_there (new_entries digests tick (next + 1) news) id ≡ false → ((next == id) || is_there (new_entries digests tick (next + 1) news) id) ≡ false
    by true same rest = (let is = eqb-true next id same in absurd (omega (arith, low, is)))
    by false same rest = ap (λ (b : Bool). b || is_there (new_entries digests tick (next + 1) news) id) same ∙ rest

-- one use more changes no id
there_used : (tick : ℕ) (reads : List ℕ) (es : List PlainEntry) (id : ℕ) → is_there (with_uses tick reads es) id ≡ is_there es id
there_used tick reads [] id = refl
there_used tick reads (e ∷ es) id = λ i. ((used_file tick reads e).0 i == id) || there_used tick reads es id i

module _ (digests : Digests) (tick next : ℕ) (reads dropped : List ℕ) (es : List PlainEntry) (news : List PlainNewEntry) (low : list_all (λ id. nat_lt id next) (ids_of es) ≡ true) where
  abbrev after : List PlainEntry
  after = with_uses tick reads (without dropped es) ++ new_entries digests tick next news

  there_after : (e : PlainEntry) → Contains es e → is_there after e.id ≡ not (is_among dropped e.id)
  there_after e has =
      list_any-append (λ (x : PlainEntry). x.id == e.id) (with_uses tick reads (without dropped es)) (new_entries digests tick next news)
      ∙ ap (λ (b : Bool). is_there (with_uses tick reads (without dropped es)) e.id || b) (none_new digests tick next news e.id (below next es low e has))
      ∙ or-false (is_there (with_uses tick reads (without dropped es)) e.id)
      ∙ there_used tick reads (without dropped es) e.id
      ∙ any-filter_same (λ (x : PlainEntry). x.id == e.id) (λ (x : PlainEntry). not (is_among dropped x.id)) (not (is_among dropped e.id)) (λ x same. ap (λ (i : ℕ). not (is_among dropped i)) (eqb-true x.id e.id same)) es
      ∙ ap (λ (b : Bool). not (is_among dropped e.id) && b) (there_of es e.id e has refl)
      ∙ and-true (not (is_among dropped e.id))

  gone_after : ids_of (filter (λ (e : PlainEntry). not (is_there after e.id)) es) ≡ those_among dropped es
  gone_after = ap ids_of (alike (λ (e : PlainEntry). not (is_there after e.id)) (λ (e : PlainEntry). is_among dropped e.id) es (λ e has. ap not (there_after e has) ∙ not-not (is_among dropped e.id)))

-- those that work drops
pub gone_by_work : (s : State) → IsTable (table s) → (program : Option Program) (reads dropped lost : List ℕ) (news : List PlainNewEntry) → dropped ≡ those_among lost s.entries → gone_between s (with_work s program reads dropped news) ≡ dropped
gone_by_work s is_table program reads dropped lost news is =
    gone_after (digests_of (states_of s.streams)) (s.tick + 1) s.next_id reads dropped s.entries news is_table.kept.below
    ∙ ap (λ (ids : List ℕ). those_among ids s.entries) is ∙ ap ids_of (among-twice lost s.entries) ∙ sym is

-- none, where the state is as it was
pub gone_by_none : (s u : State) → u ≡ s → gone_between s u ≡ []
gone_by_none s u same =
    ap ids_of (none_that (λ (e : PlainEntry). not (is_there u.entries e.id)) s.entries (λ e has. ap (λ (x : State). not (is_there x.entries e.id)) same ∙ ap not (there_of s.entries e.id e has refl)))
