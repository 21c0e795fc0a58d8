-- Kept results of a table that are left out.
use Rattle.std.proofs.Common.{◌≡◌, inl, inr, refl, sym, ap, ◌∙◌, subst, ℕ, ◌==◌, Bool, true, false, not, cond, List, [], ◌∷◌, map, Some, unwrap_or}
use Rattle.std.specs.List.{Contains, find}
use Rattle.std.specs.Option.{option_map}
use Rattle.std.proofs.lemmas.Bool.{eqb-true, false≢true, and_parts}
use Rattle.std.proofs.lemmas.Map.Views.{any-filter_same}
use Rattle.rewrite_core.specs.Entries.{Entry}
use Rattle.rewrite_core.specs.Files.{FileName, Extent, Result}
use Rattle.rewrite_core.proofs.Looking.{Contains-first, Contains-behind, Contains-cons_cases}
use Rattle.catalog_types.specs.PlainEntry.{PlainEntry}
use Rattle.cache_index.specs.Asked.{entry}
use Rattle.entry_table.specs.Ids.{is_among, is_there, without}
use Rattle.catalog_core.specs.Named.{HasFile, no_file, file_at}
use Rattle.catalog_core.specs.Table.{Table}
use Rattle.catalog_core.proofs.IdleWork.{all-stay}
use Rattle.plan_choice.specs.Leaving.{leaving_out}

-- an id that is left is that of a kept result, and isn't among those that are left out
pub left-there : (ids : List ℕ) (es : List PlainEntry) (id : ℕ) → is_there (without ids es) id ≡ true → (not (is_among ids id) ≡ true) × (is_there es id ≡ true)
left-there ids es id there = and_parts (not (is_among ids id)) (is_there es id) (sym (any-filter_same (λ (e : PlainEntry). e.id == id) (λ (e : PlainEntry). not (is_among ids e.id)) (not (is_among ids id)) (λ e same. ap (λ (i : ℕ). not (is_among ids i)) (eqb-true e.id id same)) es) ∙ there)

-- it finds the same kept result
find-left : (ids : List ℕ) (id : ℕ) → not (is_among ids id) ≡ true → (es : List PlainEntry) → find (λ e. e.id == id) (without ids es) ≡ find (λ e. e.id == id) es
find-left ids id stays [] = refl
find-left ids id stays (e ∷ es) = by (not (is_among ids e.id)) (e.id == id) refl refl (find-left ids id stays es)
  where
    by : (b c : Bool) → not (is_among ids e.id) ≡ b → (e.id == id) ≡ c → find (λ e. e.id == id) (without ids es) ≡ find (λ e. e.id == id) es
        → find (λ e. e.id == id) (cond b (e ∷ without ids es) (without ids es)) ≡ cond c (Some e) (find (λ e. e.id == id) es)
    by true true left same rest = ap (λ b. cond b (Some e) (find (λ e. e.id == id) (without ids es))) same
    by true false left same rest = ap (λ b. cond b (Some e) (find (λ e. e.id == id) (without ids es))) same ∙ rest
    by false true gone same rest = absurd (false≢true (sym gone ∙ ap (λ (i : ℕ). not (is_among ids i)) (eqb-true e.id id same) ∙ stays))
    by false false gone same rest = rest

-- what look-ups find among those that are left they find among all
pub found-among : (ids : List ℕ) (es : List PlainEntry) (y : Entry) → Contains (map entry (without ids es)) y → Contains (map entry es) y
found-among ids [] y has = has
found-among ids (x ∷ xs) y has = by (not (is_among ids x.id)) has (found-among ids xs y)
  where
    by : (b : Bool) → Contains (map entry (cond b (x ∷ without ids xs) (without ids xs))) y → (Contains (map entry (without ids xs)) y → Contains (map entry xs) y)
        → Contains (map entry (x ∷ xs)) y
    by true has rest = elim (Contains-cons_cases (entry x) (map entry (without ids xs)) y has) [
      | inl is ↦ subst (Contains (map entry (x ∷ xs))) is (Contains-first (entry x) (map entry xs))
      | inr more ↦ Contains-behind (entry x) (map entry xs) y (rest more)
    ]
    by false has rest = Contains-behind (entry x) (map entry xs) y (rest has)

pub there-before : (t : Table) (ids : List ℕ) (name : FileName) → HasFile (leaving_out ids t) name → HasFile t name
there-before t ids (Extent stream number) has = has
there-before t ids (Result id) has = (left-there ids t.entries id has).1

pub file-left : (t : Table) (ids : List ℕ) (name : FileName) → HasFile (leaving_out ids t) name → file_at (leaving_out ids t) name ≡ file_at t name
file-left t ids (Extent stream number) has = refl
file-left t ids (Result id) has = ap (λ o. unwrap_or (option_map (λ (e : PlainEntry). e.file) o) no_file) (find-left ids id (left-there ids t.entries id has).0 t.entries)
