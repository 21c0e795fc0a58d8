-- The job of a name, in the machine and in the session.
use Rattle.std.proofs.Common.{◌≡◌, refl, sym, ap, ◌∙◌, subst, ℕ, zero, suc, ◌+◌, ◌<◌, Bool, true, false, cond, ◌||◌, List, [], ◌∷◌, ◌++◌, length, None, Some, bytes_eq, get_or, arith}
use Rattle.std.proofs.Math.ListN.{set}
use Rattle.std.specs.List.{AllByRecursion, position, position_from, remove}
use Rattle.std.proofs.lemmas.Iterator.Adapters.{position_from-zero}
use Rattle.row_blob.specs.Kept.{AreEach}
use Rattle.job_table.specs.declared.table.OpenJob.{OpenJob}
use Rattle.job_turns.specs.declared.job.JobWork.{JobWork}
use Rattle.session.specs.Jobs.{OpenJobs, open_named}
use Rattle.session.specs.Machine.{is_named, job_named, is_open, put_for}
use Rattle.session.specs.MachineJob.{Job}

module _ (name : List ℕ) where
  abbrev pub has_name : OpenJob JobWork → Bool
  has_name o = bytes_eq o.name name

  -- the job at this place has the name, and none before it
  abbrev pub IsFirstNamed : OpenJobs → ℕ → Type 0
  IsFirstNamed [] at = ⊥
  IsFirstNamed (o ∷ os) zero = has_name o ≡ true
  IsFirstNamed (o ∷ os) (suc at) = (has_name o ≡ false) × IsFirstNamed os at

  -- none has it
  abbrev pub NoneIsNamed : OpenJobs → Type 0
  NoneIsNamed opens = AllByRecursion (λ o. has_name o ≡ false) opens

  first_from : (i : ℕ) (opens : OpenJobs) (at : ℕ) → position_from has_name i opens ≡ Some at → (k : ℕ) × (at ≡ i + k) × IsFirstNamed opens k
  first_from i [] at is = let never : None ≡ Some at = is in absurd (cc)
  first_from i (o ∷ os) at is = by (has_name o) refl (first_from (i + 1) os at)
    where
      by : (b : Bool) → has_name o ≡ b → (position_from has_name (i + 1) os ≡ Some at → (k : ℕ) × (at ≡ i + 1 + k) × IsFirstNamed os k) → (k : ℕ) × (at ≡ i + k) × IsFirstNamed (o ∷ os) k
      by true e next =
          let here : Some i ≡ Some at = subst (λ (b : Bool). cond b (Some i) (position_from has_name (i + 1) os) ≡ Some at) e is in
          let same : i ≡ at = cc in (0, omega (arith, same), e)
      by false e next =
          let rest = next (subst (λ (b : Bool). cond b (Some i) (position_from has_name (i + 1) os) ≡ Some at) e is) in
          let same = rest.1 in (suc rest.0, omega (arith, same), (e, rest.2))

  none_from : (i : ℕ) (opens : OpenJobs) → position_from has_name i opens ≡ None → NoneIsNamed opens
  none_from i [] is = tt
  none_from i (o ∷ os) is = by (has_name o) refl (none_from (i + 1) os)
    where
      by : (b : Bool) → has_name o ≡ b → (position_from has_name (i + 1) os ≡ None → NoneIsNamed os) → NoneIsNamed (o ∷ os)
      by true e next = let here : Some i ≡ None = subst (λ (b : Bool). cond b (Some i) (position_from has_name (i + 1) os) ≡ None) e is in absurd (cc)
      by false e next = (e, next (subst (λ (b : Bool). cond b (Some i) (position_from has_name (i + 1) os) ≡ None) e is))

  pub first_at : (opens : OpenJobs) (at : ℕ) → position has_name opens ≡ Some at → IsFirstNamed opens at
  first_at opens at is =
      let from = first_from 0 opens at (sym (position_from-zero has_name opens) ∙ is) in
      let same = from.1 in subst (IsFirstNamed opens) (omega (arith, same)) from.2

  pub none_at : (opens : OpenJobs) → position has_name opens ≡ None → NoneIsNamed opens
  none_at opens is = none_from 0 opens (sym (position_from-zero has_name opens) ∙ is)

  pub within_first : (opens : OpenJobs) (at : ℕ) → IsFirstNamed opens at → at < length opens
  within_first [] at is = absurd is
  within_first (o ∷ os) zero is = omega arith
  within_first (o ∷ os) (suc at) is = let rest = within_first os at is.1 in omega (arith, rest)

  pub opened_at : (opens : OpenJobs) (at : ℕ) (d : OpenJob JobWork) → IsFirstNamed opens at → open_named opens name ≡ Some (get_or opens at d)
  opened_at [] at d is = absurd is
  opened_at (o ∷ os) zero d is = subst (λ (b : Bool). cond b (Some o) (open_named os name) ≡ Some o) (sym is) refl
  opened_at (o ∷ os) (suc at) d is = subst (λ (b : Bool). cond b (Some o) (open_named os name) ≡ Some (get_or os at d)) (sym is.0) (opened_at os at d is.1)

  pub none_opened : (opens : OpenJobs) → NoneIsNamed opens → open_named opens name ≡ None
  none_opened [] none = refl
  none_opened (o ∷ os) none = subst (λ (b : Bool). cond b (Some o) (open_named os name) ≡ None) (sym none.0) (none_opened os none.1)

  module _ (P : Job → OpenJob JobWork → Type 0) (same_name : (job : Job) (o : OpenJob JobWork) → P job o → o.name ≡ job.name) where
    named_so : (job : Job) (o : OpenJob JobWork) (b : Bool) → P job o → has_name o ≡ b → b ≡ is_named name job
    named_so job o b is e = sym e ∙ ap (λ (n : List ℕ). bytes_eq n name) (same_name job o is)

    -- no job of the machine has it either
    pub none_named : (jobs : List Job) (opens : OpenJobs) → AreEach P jobs opens → NoneIsNamed opens → (job_named jobs name ≡ None) × (is_open jobs name ≡ false)
    none_named [] [] are none = (refl, refl)
    none_named [] (o ∷ os) are none = absurd are
    none_named (j ∷ js) [] are none = absurd are
    none_named (j ∷ js) (o ∷ os) are none =
        let rest = none_named js os are.1 none.1 in
        let same = named_so j o false are.0 none.0 in (
          subst (λ (b : Bool). cond b (Some j) (job_named js name) ≡ None) same rest.0,
          subst (λ (b : Bool). (b || is_open js name) ≡ false) same rest.1,
        )

    -- the machine's job of the name
    pub job_at : (jobs : List Job) (opens : OpenJobs) (at : ℕ) (d : OpenJob JobWork) → AreEach P jobs opens → IsFirstNamed opens at → (job : Job) × (job_named jobs name ≡ Some job) × (is_open jobs name ≡ true) × P job (get_or opens at d)
    job_at [] [] at d are is = absurd is
    job_at [] (o ∷ os) at d are is = absurd are
    job_at (j ∷ js) [] at d are is = absurd is
    job_at (j ∷ js) (o ∷ os) zero d are is =
        let same = named_so j o true are.0 is in (
          j,
          subst (λ (b : Bool). cond b (Some j) (job_named js name) ≡ Some j) same refl,
          subst (λ (b : Bool). (b || is_open js name) ≡ true) same refl,
          are.0,
        )
    job_at (j ∷ js) (o ∷ os) (suc at) d are is =
        let rest = job_at js os at d are.1 is.1 in
        let same = named_so j o false are.0 is.0 in (
          rest.0,
          subst (λ (b : Bool). cond b (Some j) (job_named js name) ≡ Some rest.0) same rest.1,
          subst (λ (b : Bool). (b || is_open js name) ≡ true) same rest.2,
          rest.3,
        )

    -- another job in its place
    pub put_at : (jobs : List Job) (opens : OpenJobs) (at : ℕ) (job : Job) (x : OpenJob JobWork) → AreEach P jobs opens → IsFirstNamed opens at → P job x → AreEach P (put_for name (job ∷ []) jobs) (set opens at x)
    put_at [] [] at job x are is new = absurd is
    put_at [] (o ∷ os) at job x are is new = absurd are
    put_at (j ∷ js) [] at job x are is new = absurd is
    put_at (j ∷ js) (o ∷ os) zero job x are is new =
        subst (λ (b : Bool). AreEach P (cond b (job ∷ js) (j ∷ put_for name (job ∷ []) js)) (x ∷ os)) (named_so j o true are.0 is) (new, are.1)
    put_at (j ∷ js) (o ∷ os) (suc at) job x are is new =
        subst (λ (b : Bool). AreEach P (cond b (job ∷ js) (j ∷ put_for name (job ∷ []) js)) (o ∷ set os at x)) (named_so j o false are.0 is.0) (are.0, put_at js os at job x are.1 is.1 new)

    -- and without it
    pub gone_at : (jobs : List Job) (opens : OpenJobs) (at : ℕ) → AreEach P jobs opens → IsFirstNamed opens at → AreEach P (put_for name [] jobs) (remove opens at)
    gone_at [] [] at are is = absurd is
    gone_at [] (o ∷ os) at are is = absurd are
    gone_at (j ∷ js) [] at are is = absurd is
    gone_at (j ∷ js) (o ∷ os) zero are is = subst (λ (b : Bool). AreEach P (cond b js (j ∷ put_for name [] js)) os) (named_so j o true are.0 is) are.1
    gone_at (j ∷ js) (o ∷ os) (suc at) are is =
        subst (λ (b : Bool). AreEach P (cond b js (j ∷ put_for name [] js)) (o ∷ remove os at)) (named_so j o false are.0 is.0) (are.0, gone_at js os at are.1 is.1)

-- ---- what holds of each

module _ {A : Type 0} (P : A → Type 0) where
  pub each_at : (xs : List A) (at : ℕ) (d : A) → at < length xs → AllByRecursion P xs → P (get_or xs at d)
  each_at [] at d low all = absurd (omega (arith, low))
  each_at (x ∷ xs) zero d low all = all.0
  each_at (x ∷ xs) (suc at) d low all = each_at xs at d (omega (arith, low)) all.1

  pub each_set : (xs : List A) (at : ℕ) (y : A) → AllByRecursion P xs → P y → AllByRecursion P (set xs at y)
  each_set [] at y all new = tt
  each_set (x ∷ xs) zero y all new = (new, all.1)
  each_set (x ∷ xs) (suc at) y all new = (all.0, each_set xs at y all.1 new)

  pub each_but : (xs : List A) (at : ℕ) → AllByRecursion P xs → AllByRecursion P (remove xs at)
  each_but [] zero all = tt
  each_but [] (suc at) all = tt
  each_but (x ∷ xs) zero all = all.1
  each_but (x ∷ xs) (suc at) all = (all.0, each_but xs at all.1)

  pub each_more : (xs : List A) (y : A) → AllByRecursion P xs → P y → AllByRecursion P (xs ++ y ∷ [])
  each_more [] y all new = (new, tt)
  each_more (x ∷ xs) y all new = (all.0, each_more xs y all.1 new)

pub both_more : {K A : Type 0} (P : K → A → Type 0) (ks : List K) (xs : List A) (k : K) (x : A) → AreEach P ks xs → P k x → AreEach P (ks ++ k ∷ []) (xs ++ x ∷ [])
both_more P [] [] k x are new = (new, tt)
both_more P [] (y ∷ ys) k x are new = absurd are
both_more P (j ∷ ks) [] k x are new = absurd are
both_more P (j ∷ ks) (y ∷ ys) k x are new = (are.0, both_more P ks ys k x are.1 new)

pub as_many : {K A : Type 0} (P : K → A → Type 0) (ks : List K) (xs : List A) → AreEach P ks xs → length ks ≡ length xs
as_many P [] [] are = refl
as_many P [] (y ∷ ys) are = absurd are
as_many P (j ∷ ks) [] are = absurd are
as_many P (j ∷ ks) (y ∷ ys) are = ap suc (as_many P ks ys are.1)
