-- What stands in a table goes on standing in the one after a command.
use Rattle.std.proofs.Common.{◌≡◌, inl, inr, sym, subst, ℕ, List, [], ◌∷◌, map, Result, Ok, Err, IfOk, arith}
use Rattle.std.specs.List.{Contains}
use Rattle.outside_traits.specs.declared.failed.Failed.{Failed}
use Rattle.rewrite_core.proofs.Looking.{Contains-first, Contains-behind, Contains-cons_cases}
use Rattle.catalog_types.specs.PlainEntry.{PlainEntry}
use Rattle.catalog_core.specs.Table.{Table}
use Rattle.planning.specs.Collecting.{IsCollection, IsCollectionPlan}
use Rattle.planning.specs.declared.collecting.CollectionPlan.{CollectionPlan}
use Rattle.script_text.specs.declared.answer.Answer.{Answer}
use Rattle.folder.specs.Folders.{table_in}
use Rattle.later_states.specs.Later.{AreFree, IsLater, SparesHeld}
use Rattle.later_states.proofs.Tables.{later-same}
use Rattle.folder_session.specs.Standing.{folder_of}
use Rattle.folder_session.specs.declared.session.FolderSession.{FolderSession}

-- the same table
pub same_later : (held : List ℕ) (t u : Table) → u ≡ t → IsLater held t u
same_later held t u same = subst (IsLater held t) (sym same) (later-same held t)

-- from a session that is the same but for the memory that it has taken
pub prepared_later : (held : List ℕ) (t u : Table) → u ≡ t → (result : Result (FolderSession × Answer) Failed) → IfOk result (λ next. IsLater held u (table_in (folder_of next.0))) → IfOk result (λ next. IsLater held t (table_in (folder_of next.0)))
prepared_later held t u same (Ok next) later = subst (λ (x : Table). IsLater held x (table_in (folder_of next.0))) same later
prepared_later held t u same (Err failed) later = tt

-- a collection takes none that is held
named_taken : (taken : List PlainEntry) (id : ℕ) → Contains (map (λ (e : PlainEntry). e.id) taken) id → (e : PlainEntry) × Contains taken e × (e.id ≡ id)
named_taken [] id has = absurd (omega (arith, has.1))
named_taken (x ∷ taken) id has = elim (Contains-cons_cases x.id (map (λ (e : PlainEntry). e.id) taken) id has) [
  | inl is ↦ (x, Contains-first x taken, is)
  | inr more ↦ (let rest = named_taken taken id more in (rest.0, Contains-behind x taken rest.0 rest.1, rest.2))
]

pub collection_free : (t : Table) (held : List ℕ) (wanted bytes : ℕ) (ids : List ℕ) → IsCollection t held wanted ids bytes → AreFree held ids
collection_free t held wanted bytes ids is = λ id has holds.
    let of = named_taken is.victims.taken id (subst (λ (xs : List ℕ). Contains xs id) is.victims.named has) in
    (is.victims.can_go of.0 of.1).1.free (subst (Contains held) (sym of.2) holds)

pub collection_spares_held : (t : Table) (held : List ℕ) (reclaim : ℕ) (plan : CollectionPlan) → IsCollectionPlan t held reclaim plan → SparesHeld held plan.change
collection_spares_held t held reclaim plan is =
    subst (SparesHeld held) (sym is.change)
    (collection_free t held reclaim plan.bytes plan.ids.items is.collection)
