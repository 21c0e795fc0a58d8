-- Tables that come later: the table itself, those after a change, and those later still.
use Rattle.std.proofs.Common.{◌≡◌, ◌⊎◌, refl, sym, ap, ◌∙◌, subst, inl, inr, ℕ, zero, suc, Bool, true, false, not, ◌||◌, ◌==◌, cond, List, [], ◌∷◌, ◌++◌, append-nil, append_assoc}
use Rattle.std.specs.List.{Contains}
use Rattle.std.proofs.lemmas.Bool.{eqb-true, eq-eqb}
use Rattle.std.proofs.lemmas.List.Folds.{list_any_at}
use Rattle.std.proofs.lemmas.List.Elements.{Contains-append_left}
use Rattle.rewrite_core.proofs.Looking.{Contains-first, Contains-behind, Contains-cons_cases, Contains-none}
use Rattle.catalog_types.specs.PlainEntry.{PlainEntry}
use Rattle.catalog_types.specs.declared.change.Change.{Change}
use Rattle.catalog_types.specs.declared.change.Change.TheVariants.{Stream, Append, Work, Collect, Checkpoint}
use Rattle.catalog_types.specs.declared.extent.Extent.{Extent}
use Rattle.catalog_types.specs.declared.snapshot.StreamState.{StreamState}
use Rattle.entry_table.specs.Ids.{is_among, without}
use Rattle.entry_table.specs.Work.{used, with_use, with_uses}
use Rattle.catalog_core.specs.Table.{Table, Fits, after, keyed, updated, with_extent}
use Rattle.later_states.specs.Later.{IsGrown, AreGrown, IsSameResult, StayKept, IsLater, AreHeld, AreFree, SparesHeld}

-- ---- streams

same-stream : (x : StreamState) → IsGrown x x
same-stream x = record { name = refl; columns = refl; more = []; extents = sym (append-nil x.extents) }

same-streams : (xs : List StreamState) → AreGrown xs xs
same-streams [] = tt
same-streams (x ∷ xs) = (same-stream x, same-streams xs)

added-stream : (xs ys : List StreamState) → AreGrown xs (xs ++ ys)
added-stream [] ys = tt
added-stream (x ∷ xs) ys = (same-stream x, added-stream xs ys)

added-extent : (extent : Extent) (xs : List StreamState) (place : ℕ) → AreGrown xs (updated (with_extent extent) xs place)
added-extent extent [] place = tt
added-extent extent (x ∷ xs) zero = (record { name = refl; columns = refl; more = extent ∷ []; extents = refl }, same-streams xs)
added-extent extent (x ∷ xs) (suc n) = (same-stream x, added-extent extent xs n)

grown-twice : (xs ys zs : List StreamState) → AreGrown xs ys → AreGrown ys zs → AreGrown xs zs
grown-twice [] ys zs first second = tt
grown-twice (x ∷ xs) [] zs first second = absurd first
grown-twice (x ∷ xs) (y ∷ ys) [] first second = absurd second
grown-twice (x ∷ xs) (y ∷ ys) (z ∷ zs) first second = (
  record {
    name = second.0.name ∙ first.0.name;
    columns = second.0.columns ∙ first.0.columns;
    more = first.0.more ++ second.0.more;
    extents = second.0.extents ∙ ap (λ (l : List Extent). l ++ second.0.more) first.0.extents ∙ append_assoc x.extents first.0.more second.0.more;
  },
  grown-twice xs ys zs first.1 second.1,
)

-- ---- kept results

same-result : (e : PlainEntry) → IsSameResult e e
same-result e = record { id = refl; plan = refl; cuts = refl; file = refl; machine = refl }

same-twice : (e f g : PlainEntry) → IsSameResult e f → IsSameResult f g → IsSameResult e g
same-twice e f g first second = record {
  id = second.id ∙ first.id;
  plan = second.plan ∙ first.plan;
  cuts = second.cuts ∙ first.cuts;
  file = second.file ∙ first.file;
  machine = second.machine ∙ first.machine;
}

same-kept : (held : List ℕ) (es : List PlainEntry) → StayKept held es es
same-kept held es e has is = (e, has, same-result e)

pub among-is : (ids : List ℕ) (id : ℕ) → is_among ids id ≡ true → Contains ids id
among-is [] id is = absurd cc
among-is (x ∷ xs) id is = by (x == id) refl is (among-is xs id)
  where
    by : (b : Bool) → (x == id) ≡ b → b || is_among xs id ≡ true → (is_among xs id ≡ true → Contains xs id) → Contains (x ∷ xs) id
    by true same is rest = subst (Contains (x ∷ xs)) (eqb-true x id same) (Contains-first x xs)
    by false same is rest = Contains-behind x xs id (rest is)

pub among-has : (ids : List ℕ) (id : ℕ) → Contains ids id → is_among ids id ≡ true
among-has ids id has = list_any_at (λ (other : ℕ). other == id) ids has.0 id has.1 (ap (λ (other : ℕ). other == id) has.2 ∙ eq-eqb id id refl)

-- what isn't left out stays
stays-without : (ids : List ℕ) (es : List PlainEntry) (e : PlainEntry) → (Contains ids e.id → ⊥) → Contains es e → Contains (without ids es) e
stays-without ids [] e free has = absurd (Contains-none e has)
stays-without ids (x ∷ xs) e free has = by (is_among ids x.id) refl (Contains-cons_cases x xs e has) (stays-without ids xs e free)
  where
    by : (b : Bool) → is_among ids x.id ≡ b → (x ≡ e) ⊎ Contains xs e → (Contains xs e → Contains (without ids xs) e) → Contains (cond (not b) (x ∷ without ids xs) (without ids xs)) e
    by true is (inl same) rest = absurd (free (among-is ids e.id (ap (λ (y : PlainEntry). is_among ids y.id) (sym same) ∙ is)))
    by true is (inr more) rest = rest more
    by false is (inl same) rest = subst (Contains (x ∷ without ids xs)) same (Contains-first x (without ids xs))
    by false is (inr more) rest = Contains-behind x (without ids xs) e (rest more)

-- a use leaves it the same result
stays-used : (tick : ℕ) (ids : List ℕ) (es : List PlainEntry) (e : PlainEntry) → Contains es e → Contains (with_uses tick ids es) (used tick ids e)
stays-used tick ids [] e has = absurd (Contains-none e has)
stays-used tick ids (x ∷ xs) e has = elim (Contains-cons_cases x xs e has) [
  | inl same ↦ subst (λ (y : PlainEntry). Contains (with_uses tick ids (x ∷ xs)) (used tick ids y)) same (Contains-first (used tick ids x) (with_uses tick ids xs))
  | inr more ↦ Contains-behind (used tick ids x) (with_uses tick ids xs) (used tick ids e) (stays-used tick ids xs e more)
]

used-same : (tick : ℕ) (ids : List ℕ) (e : PlainEntry) → IsSameResult e (used tick ids e)
used-same tick ids e = by (is_among ids e.id)
  where
    by : (b : Bool) → IsSameResult e (cond b (with_use tick e) e)
    by true = record { id = refl; plan = refl; cuts = refl; file = refl; machine = refl }
    by false = same-result e

kept-without : (held ids : List ℕ) (es : List PlainEntry) → AreFree held ids → StayKept held es (without ids es)
kept-without held ids es free e has is = (e, stays-without ids es e (λ gone. free e.id gone is) has, same-result e)

kept-worked : (held : List ℕ) (tick : ℕ) (reads dropped : List ℕ) (es news : List PlainEntry) → AreFree held dropped → StayKept held es (with_uses tick reads (without dropped es) ++ news)
kept-worked held tick reads dropped es news free e has is =
    let stays = stays-without dropped es e (λ gone. free e.id gone is) has in (
      used tick reads e,
      Contains-append_left (with_uses tick reads (without dropped es)) news (used tick reads e) (stays-used tick reads (without dropped es) e stays),
      used-same tick reads e,
    )

-- ---- tables

pub later-same : (held : List ℕ) (t : Table) → IsLater held t t
later-same held t = record { streams = same-streams t.streams; kept = same-kept held t.entries }

pub later-changed : (held : List ℕ) (t : Table) (change : Change) → Fits change t → SparesHeld held change → IsLater held t (after change t)
later-changed held t (Stream name columns) fits spares = record { streams = added-stream t.streams _; kept = same-kept held t.entries }
later-changed held t (Append place extent) fits spares = record { streams = added-extent extent t.streams place; kept = same-kept held t.entries }
later-changed held t (Work program reads dropped kept) fits spares = record { streams = same-streams t.streams; kept = kept-worked held _ reads dropped t.entries _ spares }
later-changed held t (Collect ids) fits spares = record { streams = same-streams t.streams; kept = kept-without held ids t.entries spares }
-- a checkpoint comes behind the empty table
later-changed held t (Checkpoint whole) fits spares =
    subst (λ (x : Table). IsLater held x (keyed whole)) (sym fits.first) (record { streams = tt; kept = λ e has is. absurd (Contains-none e has) })

pub later-twice : (held : List ℕ) (t u v : Table) → IsLater held t u → IsLater held u v → IsLater held t v
later-twice held t u v first second = record {
  streams = grown-twice t.streams u.streams v.streams first.streams second.streams;
  kept = λ e has is.
      let f = first.kept e has is in
      let g = second.kept f.0 f.1 (subst (Contains held) (sym f.2.id) is) in
      (g.0, g.1, same-twice e f.0 g.0 f.2 g.2);
}

-- where fewer are held
pub later-fewer : (held others : List ℕ) (t u : Table) → AreHeld held others → IsLater held t u → IsLater others t u
later-fewer held others t u are later = record { streams = later.streams; kept = λ e has is. later.kept e has (are e.id is) }
