-- The change that is recorded of a collection fits the table, and has a spelling, which is short.
use Rattle.std.proofs.Common.{◌≡◌, refl, sym, ap, ◌∙◌, subst, ℕ, suc, ◌+◌, ◌*◌, ◌<◌, ◌≤◌, ◌==◌, ◌||◌, Bool, true, false, not, eqb, List, [], ◌∷◌, length, arith}
use Rattle.std.specs.List.{All, AllByRecursion, IsDistinct}
use Rattle.std.proofs.lemmas.Bool.{and_from}
use Rattle.std.proofs.lemmas.Cmp.{nat_eq_equiv}
use Rattle.std.proofs.lemmas.List.Sums.{list_all-from_AllPass}
use Rattle.catalog_types.specs.PlainEntry.{PlainEntry}
use Rattle.catalog_types.specs.declared.change.Change.TheVariants.{Collect}
use Rattle.collector.specs.Victims.{HaveOwnIds, AreVictims}
use Rattle.entry_table.specs.Ids.{differ, is_among, is_there}
use Rattle.rows_core.specs.Limits.{most_entries}
use Rattle.catalog_core.specs.IsTable.{IsTable}
use Rattle.catalog_core.specs.Table.{Table, Fits}
use Rattle.rows_core.specs.Limits.{most_ticks}
use Rattle.record_codec.specs.Spelling.{change_spelling, HasChangeSpelling, IsNumber}
use Rattle.planning.specs.declared.collecting.CollectionPlan.{CollectionPlan}
use Rattle.planning.specs.Collecting.{collection_of, files_of, bytes_of, IsCollectionPlan}
use Rattle.planning.proofs.Entries.{own-ids, IsId}
use Rattle.planning.proofs.Going.{going-ids, going-differ, going-few}

by-recursion : (P : ℕ → Type 0) (xs : List ℕ) → All P xs → AllByRecursion P xs
by-recursion P [] all = tt
by-recursion P (x ∷ xs) all = (all 0 x (omega arith), by-recursion P xs (λ k d here. all (suc k) d (omega (arith, here))))

-- what the collector gives of a table's entries
pub victims-of : (t : Table) → IsTable t → (held : List ℕ) (wanted : ℕ) (entries : List PlainEntry) → entries ≡ t.entries → (now : ℕ) → now ≡ t.tick + 1 → (ids : List ℕ)
    → (HaveOwnIds entries → AreVictims entries (record { now = now; pinned = held; lease = 0 }) wanted ids) → AreVictims t.entries (collection_of t held) wanted ids
victims-of t is held wanted entries same now next ids given =
    subst (λ (n : ℕ). AreVictims t.entries (record { now = n; pinned = held; lease = 0 }) wanted ids) next
    (subst (λ (es : List PlainEntry). HaveOwnIds es → AreVictims es (record { now = now; pinned = held; lease = 0 }) wanted ids) same given (own-ids t is))

-- ids of which no two are equal differ
not-among : (id : ℕ) (ids : List ℕ) → AllByRecursion (λ other. eqb id other ≡ false) ids → is_among ids id ≡ false
not-among id [] apart = refl
not-among id (other ∷ ids) apart =
    ap (λ (b : Bool). b || is_among ids id) (nat_eq_equiv.symm other id ∙ apart.0) ∙ not-among id ids apart.1

they-differ : (ids : List ℕ) → IsDistinct eqb ids → differ ids ≡ true
unfolding IsDistinct
they-differ [] apart = refl
they-differ (id ∷ ids) apart = and_from (not (is_among ids id)) (differ ids) (ap not (not-among id ids apart.0)) (they-differ ids apart.1)

pub record IsRecordable (t : Table) (ids : List ℕ) : Type 0 where
  pub fits : Fits (Collect ids) t
  pub spelled : HasChangeSpelling (Collect ids)

module _ (t : Table) (is : IsTable t) (counted : t.tick < most_ticks) (held : List ℕ) (wanted : ℕ) (ids : List ℕ) (v : AreVictims t.entries (collection_of t held) wanted ids) where
  pub recordable : IsRecordable t ids
  recordable =
      let all : All (IsId t) ids = going-ids t is held wanted ids v in
      let few : length ids ≤ 4096 = going-few t is held wanted ids v in
      record {
        fits = record {
          counted = counted;
          there = record {
            differ = they-differ ids (going-differ t is held wanted ids v);
            there = list_all-from_AllPass (is_there t.entries) ids (λ k d here. (all k d here).there);
          };
        };
        spelled = (omega (arith, few), by-recursion IsNumber ids (λ k d here. (all k d here).number));
      }

  pub is-plan : (plan : CollectionPlan) → ((ids : List ℕ) → length (change_spelling (Collect ids)) ≡ 5 + 4 * length ids)
      → plan.ids.items ≡ ids → plan.bytes ≡ bytes_of t ids → plan.change ≡ Collect ids → plan.body.items ≡ change_spelling plan.change → plan.files.items ≡ files_of t ids
      → IsCollectionPlan t held wanted plan
  is-plan plan law same bytes change body files =
      let good = recordable in
      let few : length ids ≤ 4096 = going-few t is held wanted ids v in
      let long = law ids in
      let size = ap length (body ∙ ap change_spelling change) in
      record {
        collection = record {
          victims = subst (AreVictims t.entries (collection_of t held) wanted) (sym same) v;
          is_bytes = bytes ∙ ap (bytes_of t) (sym same);
        };
        change = change ∙ ap Collect (sym same);
        fits = subst (λ change. Fits change t) (sym change) good.fits;
        spelled = subst HasChangeSpelling (sym change) good.spelled;
        is_body = body;
        short = omega (arith, few, long, size);
        files = files ∙ ap (files_of t) (sym same);
        few = subst (λ (ids : List ℕ). length ids ≤ most_entries) (sym same) few;
      }
