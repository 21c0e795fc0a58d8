-- The least tree of each form is made of least parts.
use Rattle.std.proofs.Common.{◌≡◌, ◌≢◌, ℕ, ◌+◌, ◌≤◌, ◌⊎◌, inl, inr, [], ◌∷◌, refl, arith, ap, ◌∙◌, ◌++◌, sym, subst, take, drop, take-append-drop}
use Rattle.plan_core.specs.PlainPlan.{PlainPlan, leaf_count}
use Rattle.plan_core.specs.PlainPlan as plan
use Rattle.rewrite_core.specs.declared.rewriting.Hit.{Hit}
use Rattle.estimator.specs.Cuts.{Cuts, reach}
use Rattle.estimator.specs.Bytes.{Lengths, whole_bytes, new_bytes, capped}
use Rattle.rewrite_core.specs.Entries.{Entries, entry_of, AreSound, IsWhole, IsEarlier, IsChosenOver}
use Rattle.rewrite_core.specs.PlainRewriting.{PlainRewriting, Node, PlainWay, Scan, One, Two, Read, Tail, LeftGrew, RightGrew, BothGrew, PlainDelta, Change, PlainDeltaWay, Unchanged, NewRows, OfChild, OfDistinct, OfJoin}
use Rattle.rewrite_core.specs.IsRewriting.{IsRewriting, IsWay, IsDelta, IsDeltaWay, among, IsScan, IsLonger, OfOne, OfTwo, OfSides, OfTail, OfDeltaTail, OfDistinctChild, lefts, rights}
use Rattle.rewrite_core.specs.Estimate.{way_cost, delta_way_cost, estimate_of, delta_estimate, IsLeast, IsLeastDelta}
use Rattle.rewriter.specs.Inputs.{HasChild, IsByRow, IsDistinct, IsWholeOnly, IsJoin, IsConcat, HasTwo}
use Rattle.rewriter.specs.Forms.{way_in, IsComputed, IsRead, IsGrown, IsLeastOf, HasNone, HasNoDelta}

-- ---- what a plan's inputs are

pub one_in : (P : PlainPlan → Type 0) (q x : PlainPlan) → HasChild q x → P x → OfOne P q
one_in P (plan.Scan s) x h p = absurd h
one_in P (plan.Filter child test) x h p = subst P (sym h) p
one_in P (plan.Project child columns) x h p = subst P (sym h) p
one_in P (plan.Distinct child) x h p = subst P (sym h) p
one_in P (plan.Group child keys aggs) x h p = subst P (sym h) p
one_in P (plan.Join l r on) x h p = absurd h
one_in P (plan.Concat l r) x h p = absurd h
one_in P (plan.Order child keys) x h p = subst P (sym h) p

pub one_out : (P : PlainPlan → Type 0) (q x : PlainPlan) → HasChild q x → OfOne P q → P x
one_out P (plan.Scan s) x h p = absurd h
one_out P (plan.Filter child test) x h p = subst P h p
one_out P (plan.Project child columns) x h p = subst P h p
one_out P (plan.Distinct child) x h p = subst P h p
one_out P (plan.Group child keys aggs) x h p = subst P h p
one_out P (plan.Join l r on) x h p = absurd h
one_out P (plan.Concat l r) x h p = absurd h
one_out P (plan.Order child keys) x h p = subst P h p

pub tail_in : (P : PlainPlan → Cuts → Cuts → Type 0) (q x : PlainPlan) (old new : Cuts) → HasChild q x → P x old new → OfTail P q old new
tail_in P (plan.Scan s) x old new h p = absurd h
tail_in P (plan.Filter child test) x old new h p = subst (λ y. P y old new) (sym h) p
tail_in P (plan.Project child columns) x old new h p = subst (λ y. P y old new) (sym h) p
tail_in P (plan.Distinct child) x old new h p = subst (λ y. P y old new) (sym h) p
tail_in P (plan.Group child keys aggs) x old new h p = subst (λ y. P y old new) (sym h) p
tail_in P (plan.Join l r on) x old new h p = absurd h
tail_in P (plan.Concat l r) x old new h p = absurd h
tail_in P (plan.Order child keys) x old new h p = subst (λ y. P y old new) (sym h) p

pub tail_out : (P : PlainPlan → Cuts → Cuts → Type 0) (q x : PlainPlan) (old new : Cuts) → HasChild q x → OfTail P q old new → P x old new
tail_out P (plan.Scan s) x old new h p = absurd h
tail_out P (plan.Filter child test) x old new h p = subst (λ y. P y old new) h p
tail_out P (plan.Project child columns) x old new h p = subst (λ y. P y old new) h p
tail_out P (plan.Distinct child) x old new h p = subst (λ y. P y old new) h p
tail_out P (plan.Group child keys aggs) x old new h p = subst (λ y. P y old new) h p
tail_out P (plan.Join l r on) x old new h p = absurd h
tail_out P (plan.Concat l r) x old new h p = absurd h
tail_out P (plan.Order child keys) x old new h p = subst (λ y. P y old new) h p

pub one_no_scan : (q x : PlainPlan) → HasChild q x → IsScan q → ⊥
one_no_scan (plan.Scan s) x h k = h
one_no_scan (plan.Filter child test) x h k = k
one_no_scan (plan.Project child columns) x h k = k
one_no_scan (plan.Distinct child) x h k = k
one_no_scan (plan.Group child keys aggs) x h k = k
one_no_scan (plan.Join l r on) x h k = h
one_no_scan (plan.Concat l r) x h k = h
one_no_scan (plan.Order child keys) x h k = k

pub one_no_two : (P : PlainPlan → PlainPlan → Type 0) (q x : PlainPlan) → HasChild q x → OfTwo P q → ⊥
one_no_two P (plan.Scan s) x h k = h
one_no_two P (plan.Filter child test) x h k = k
one_no_two P (plan.Project child columns) x h k = k
one_no_two P (plan.Distinct child) x h k = k
one_no_two P (plan.Group child keys aggs) x h k = k
one_no_two P (plan.Join l r on) x h k = h
one_no_two P (plan.Concat l r) x h k = h
one_no_two P (plan.Order child keys) x h k = k

pub one_no_sides : (P : PlainPlan → PlainPlan → Type 0) (q x : PlainPlan) → HasChild q x → OfSides P q → ⊥
one_no_sides P (plan.Scan s) x h k = h
one_no_sides P (plan.Filter child test) x h k = k
one_no_sides P (plan.Project child columns) x h k = k
one_no_sides P (plan.Distinct child) x h k = k
one_no_sides P (plan.Group child keys aggs) x h k = k
one_no_sides P (plan.Join l r on) x h k = h
one_no_sides P (plan.Concat l r) x h k = h
one_no_sides P (plan.Order child keys) x h k = k

pub scan_no_one : (P : PlainPlan → Type 0) (q : PlainPlan) → IsScan q → OfOne P q → ⊥
scan_no_one P (plan.Scan s) h k = k
scan_no_one P (plan.Filter child test) h k = h
scan_no_one P (plan.Project child columns) h k = h
scan_no_one P (plan.Distinct child) h k = h
scan_no_one P (plan.Group child keys aggs) h k = h
scan_no_one P (plan.Join l r on) h k = h
scan_no_one P (plan.Concat l r) h k = h
scan_no_one P (plan.Order child keys) h k = h

pub scan_no_two : (P : PlainPlan → PlainPlan → Type 0) (q : PlainPlan) → IsScan q → OfTwo P q → ⊥
scan_no_two P (plan.Scan s) h k = k
scan_no_two P (plan.Filter child test) h k = h
scan_no_two P (plan.Project child columns) h k = h
scan_no_two P (plan.Distinct child) h k = h
scan_no_two P (plan.Group child keys aggs) h k = h
scan_no_two P (plan.Join l r on) h k = h
scan_no_two P (plan.Concat l r) h k = h
scan_no_two P (plan.Order child keys) h k = h

pub along : (P : PlainPlan → PlainPlan → Type 0) {l x r y : PlainPlan} → l ≡ x → r ≡ y → P l r → P x y
along P {l} {x} {r} {y} e f p = subst (λ z. P z y) e (subst (λ z. P l z) f p)

pub two_in : (P : PlainPlan → PlainPlan → Type 0) (q x y : PlainPlan) → HasTwo q x y → P x y → OfTwo P q
two_in P (plan.Join l r on) x y h p = along P (sym h.0) (sym h.1) p
two_in P (plan.Concat l r) x y h p = along P (sym h.0) (sym h.1) p
two_in P _ x y h p = absurd h

pub two_out : (P : PlainPlan → PlainPlan → Type 0) (q x y : PlainPlan) → HasTwo q x y → OfTwo P q → P x y
two_out P (plan.Join l r on) x y h p = along P h.0 h.1 p
two_out P (plan.Concat l r) x y h p = along P h.0 h.1 p
two_out P _ x y h p = absurd h

pub sides_in : (P : PlainPlan → PlainPlan → Type 0) (q x y : PlainPlan) → IsJoin q x y → P x y → OfSides P q
sides_in P (plan.Join l r on) x y h p = along P (sym h.0) (sym h.1) p
sides_in P _ x y h p = absurd h

pub sides_out : (P : PlainPlan → PlainPlan → Type 0) (q x y : PlainPlan) → IsJoin q x y → OfSides P q → P x y
sides_out P (plan.Join l r on) x y h p = along P h.0 h.1 p
sides_out P _ x y h p = absurd h

pub two_no_scan : (q x y : PlainPlan) → HasTwo q x y → IsScan q → ⊥
two_no_scan (plan.Scan s) x y h k = h
two_no_scan _ x y h k = k

pub two_no_one : (P : PlainPlan → Type 0) (q x y : PlainPlan) → HasTwo q x y → OfOne P q → ⊥
two_no_one P (plan.Join l r on) x y h k = k
two_no_one P (plan.Concat l r) x y h k = k
two_no_one P _ x y h k = h

pub join_no_tail : (P : PlainPlan → Cuts → Cuts → Type 0) (q x y : PlainPlan) (old new : Cuts) → IsJoin q x y → OfTail P q old new → ⊥
join_no_tail P (plan.Join l r on) x y old new h k = k
join_no_tail P _ x y old new h k = h

pub scan_no_tail : (P : PlainPlan → Cuts → Cuts → Type 0) (q : PlainPlan) (old new : Cuts) → IsScan q → OfTail P q old new → ⊥
scan_no_tail P (plan.Scan s) old new h k = k
scan_no_tail P _ old new h k = h

pub scan_no_sides : (P : PlainPlan → PlainPlan → Type 0) (q : PlainPlan) → IsScan q → OfSides P q → ⊥
scan_no_sides P (plan.Scan s) h k = k
scan_no_sides P _ h k = h

pub concat_no_sides : (P : PlainPlan → PlainPlan → Type 0) (q x y : PlainPlan) → IsConcat q x y → OfSides P q → ⊥
concat_no_sides P (plan.Concat l r) x y h k = k
concat_no_sides P _ x y h k = h

-- the right part of a concatenation whose left part is unchanged
abbrev pub RightTail : (PlainPlan → Cuts → Cuts → Type 0) → Cuts → Cuts → PlainPlan → PlainPlan → Type 0
RightTail P old new x y = (lefts x old ≡ lefts x new) × P y (rights x old) (rights x new)

pub concat_in : (P : PlainPlan → Cuts → Cuts → Type 0) (q x y : PlainPlan) (old new : Cuts) → IsConcat q x y → RightTail P old new x y → OfTail P q old new
concat_in P (plan.Concat l r) x y old new h p = along (RightTail P old new) (sym h.0) (sym h.1) p
concat_in P _ x y old new h p = absurd h

pub concat_out : (P : PlainPlan → Cuts → Cuts → Type 0) (q x y : PlainPlan) (old new : Cuts) → IsConcat q x y → OfTail P q old new → RightTail P old new x y
concat_out P (plan.Concat l r) x y old new h p = along (RightTail P old new) h.0 h.1 p
concat_out P _ x y old new h p = absurd h

pub scan_no_child : (P : PlainPlan → Cuts → Cuts → Type 0) (q : PlainPlan) (old new : Cuts) → IsScan q → OfDeltaTail P q old new → ⊥
scan_no_child P (plan.Scan s) old new h k = k
scan_no_child P _ old new h k = h

pub scan_no_distinct : (P : PlainPlan → Type 0) (q : PlainPlan) → IsScan q → OfDistinctChild P q → ⊥
scan_no_distinct P (plan.Scan s) h k = k
scan_no_distinct P _ h k = h

pub row_in : (P : PlainPlan → Cuts → Cuts → Type 0) (q x : PlainPlan) (old new : Cuts) → IsByRow q → HasChild q x → P x old new → OfDeltaTail P q old new
row_in P (plan.Filter child test) x old new b h p = subst (λ y. P y old new) (sym h) p
row_in P (plan.Project child columns) x old new b h p = subst (λ y. P y old new) (sym h) p
row_in P _ x old new b h p = absurd b

pub row_out : (P : PlainPlan → Cuts → Cuts → Type 0) (q x : PlainPlan) (old new : Cuts) → IsByRow q → HasChild q x → OfDeltaTail P q old new → P x old new
row_out P (plan.Filter child test) x old new b h p = subst (λ y. P y old new) h p
row_out P (plan.Project child columns) x old new b h p = subst (λ y. P y old new) h p
row_out P _ x old new b h p = absurd b

pub row_no_distinct : (P : PlainPlan → Type 0) (q : PlainPlan) → IsByRow q → OfDistinctChild P q → ⊥
row_no_distinct P (plan.Distinct child) b k = b
row_no_distinct P _ b k = k

pub distinct_in : (P : PlainPlan → Type 0) (q x : PlainPlan) → IsDistinct q → HasChild q x → P x → OfDistinctChild P q
distinct_in P (plan.Distinct child) x b h p = subst P (sym h) p
distinct_in P _ x b h p = absurd b

pub distinct_out : (P : PlainPlan → Type 0) (q x : PlainPlan) → IsDistinct q → HasChild q x → OfDistinctChild P q → P x
distinct_out P (plan.Distinct child) x b h p = subst P h p
distinct_out P _ x b h p = absurd b

pub distinct_no_tail : (P : PlainPlan → Cuts → Cuts → Type 0) (q : PlainPlan) (old new : Cuts) → IsDistinct q → OfDeltaTail P q old new → ⊥
distinct_no_tail P (plan.Distinct child) old new b k = k
distinct_no_tail P _ old new b k = b

pub whole_no_tail : (P : PlainPlan → Cuts → Cuts → Type 0) (q : PlainPlan) (old new : Cuts) → IsWholeOnly q → OfDeltaTail P q old new → ⊥
whole_no_tail P (plan.Group child keys aggs) old new b k = k
whole_no_tail P (plan.Order child keys) old new b k = k
whole_no_tail P _ old new b k = b

pub whole_no_distinct : (P : PlainPlan → Type 0) (q : PlainPlan) → IsWholeOnly q → OfDistinctChild P q → ⊥
whole_no_distinct P (plan.Distinct child) b k = b
whole_no_distinct P _ b k = k

pub whole_no_scan : (q : PlainPlan) → IsWholeOnly q → IsScan q → ⊥
whole_no_scan (plan.Scan s) b k = b
whole_no_scan _ b k = k

pub whole_no_sides : (P : PlainPlan → PlainPlan → Type 0) (q : PlainPlan) → IsWholeOnly q → OfSides P q → ⊥
whole_no_sides P (plan.Join l r on) b k = b
whole_no_sides P _ b k = k

pub join_no_scan : (q x y : PlainPlan) → IsJoin q x y → IsScan q → ⊥
join_no_scan (plan.Scan s) x y h k = h
join_no_scan _ x y h k = k

pub join_no_child : (P : PlainPlan → Cuts → Cuts → Type 0) (q x y : PlainPlan) (old new : Cuts) → IsJoin q x y → OfDeltaTail P q old new → ⊥
join_no_child P (plan.Join l r on) x y old new h k = k
join_no_child P _ x y old new h k = h

pub join_no_distinct : (P : PlainPlan → Type 0) (q x y : PlainPlan) → IsJoin q x y → OfDistinctChild P q → ⊥
join_no_distinct P (plan.Distinct child) x y h k = h
join_no_distinct P _ x y h k = k

pub concat_no_scan : (q x y : PlainPlan) → IsConcat q x y → IsScan q → ⊥
concat_no_scan (plan.Scan s) x y h k = h
concat_no_scan _ x y h k = k

pub concat_no_distinct : (P : PlainPlan → Type 0) (q x y : PlainPlan) → IsConcat q x y → OfDistinctChild P q → ⊥
concat_no_distinct P (plan.Distinct child) x y h k = h
concat_no_distinct P _ x y h k = k

pub concat_child_in : (P : PlainPlan → Cuts → Cuts → Type 0) (q x y : PlainPlan) (old new : Cuts) → IsConcat q x y → RightTail P old new x y → OfDeltaTail P q old new
concat_child_in P (plan.Concat l r) x y old new h p = along (RightTail P old new) (sym h.0) (sym h.1) p
concat_child_in P _ x y old new h p = absurd h

pub concat_child_out : (P : PlainPlan → Cuts → Cuts → Type 0) (q x y : PlainPlan) (old new : Cuts) → IsConcat q x y → OfDeltaTail P q old new → RightTail P old new x y
concat_child_out P (plan.Concat l r) x y old new h p = along (RightTail P old new) h.0 h.1 p
concat_child_out P _ x y old new h p = absurd h

pub longer_differs : (old new : Cuts) → IsLonger old new → old ≡ new → ⊥
longer_differs [] new h e = h
longer_differs (a ∷ []) [] h e = h
longer_differs (a ∷ []) (b ∷ []) h e = let t = ap reach e in omega arith
longer_differs (a ∷ []) (b ∷ d ∷ bs) h e = h
longer_differs (a ∷ b ∷ cs) new h e = h

-- ---- sums that are cut

pub more : (a b w : ℕ) → capped a ≤ capped b → capped (a + w) ≤ capped (b + w)
more a b w h = omega arith

pub more_two : (a b x y w : ℕ) → capped a ≤ capped b → capped x ≤ capped y → capped (a + x + w) ≤ capped (b + y + w)
more_two a b x y w h k = omega arith

pub more_behind : (l a b w : ℕ) → capped a ≤ capped b → capped (l + a + w) ≤ capped (l + b + w)
more_behind l a b w h = omega arith

pub more_two_behind : (l a b x y w : ℕ) → capped a ≤ capped b → capped x ≤ capped y → capped (l + a + x + w) ≤ capped (l + b + y + w)
more_two_behind l a b x y w h k = omega arith

pub more_four : (l a b x y u v s t w : ℕ) → capped a ≤ capped b → capped x ≤ capped y → capped u ≤ capped v → capped s ≤ capped t → capped (l + a + x + u + s + w) ≤ capped (l + b + y + v + t + w)
more_four l a b x y u v s t w h k m n = omega arith

-- ---- entries

pub same_hit : (q : PlainPlan) (h k : Hit) → entry_of q h ≡ entry_of q k → h ≡ k
same_hit q h k e = λ i. record { id = (e i).id; cuts = (e i).cuts; len = (e i).len }

module _ (entries : Entries) (sound : AreSound entries) where
  pub one_whole : (q : PlainPlan) (c : Cuts) (h k : Hit) → IsWhole entries q c h → IsWhole entries q c k → h ≡ k
  one_whole q c h k a b = same_hit q h k (sound.places _ _ a.kept b.kept refl (a.here ∙ sym b.here))

  pub one_earlier : (q : PlainPlan) (c : Cuts) (h k : Hit) → IsEarlier entries q c h → IsEarlier entries q c k → h ≡ k
  one_earlier q c h k a b =
      let over = a.first k b.candidate in
      let under = b.first h a.candidate in
      same_hit q h k (sound.ids _ _ a.candidate.kept b.candidate.kept (one_id h k over under))
    where
      one_id : (h k : Hit) → IsChosenOver k h → IsChosenOver h k → h.id ≡ k.id
      one_id h k (inl a) (inl b) = absurd (omega arith)
      one_id h k (inl a) (inr b) = absurd (omega arith)
      one_id h k (inr a) (inl b) = absurd (omega arith)
      one_id h k (inr a) (inr b) = omega arith

-- ---- trees by their ways

module _ (entries : Entries) (lengths : Lengths) (q : PlainPlan) (c : Cuts) where
  pub by_way : (Form : PlainWay → Type 0) (way : PlainWay) → IsWay (among entries) q c way → Form way →
      ((other : PlainWay) → IsWay (among entries) q c other → Form other → capped (way_cost lengths q c way) ≤ capped (way_cost lengths q c other)) →
      IsLeastOf Form entries lengths q c (Node q c way)
  by_way Form way is form least = record {
    is = (refl, refl, is);
    form = form;
    least = go;
  }
    where
      go : (other : PlainRewriting) → IsRewriting (among entries) q c other → Form (way_in other) → estimate_of lengths (Node q c way) ≤ estimate_of lengths other
      go (Node p cs other) h f =
          let e : way_cost lengths q c other ≡ way_cost lengths p cs other = λ i. way_cost lengths (sym h.0 i) (sym h.1 i) other in
          subst (λ n. capped (way_cost lengths q c way) ≤ capped n) e (least other h.2 f)

  pub none_by_way : (Form : PlainWay → Type 0) → ((other : PlainWay) → IsWay (among entries) q c other → Form other → ⊥) → HasNone Form entries q c
  none_by_way Form none (Node p cs other) h f = none other h.2 f

  pub computed_scan : IsScan q → IsLeastOf IsComputed entries lengths q c (Node q c Scan)
  computed_scan h = by_way IsComputed Scan h tt go
    where
      go : (other : PlainWay) → IsWay (among entries) q c other → IsComputed other → capped (way_cost lengths q c Scan) ≤ capped (way_cost lengths q c other)
      go Scan k f = omega arith
      go (One r) k f = absurd (scan_no_one (λ child. IsRewriting (among entries) child c r) q h k)
      go (Two l r) k f = absurd (scan_no_two (λ x y. IsRewriting (among entries) x (lefts x c) l × IsRewriting (among entries) y (rights x c) r) q h k)
      go (Read hit) k f = absurd f
      go (Tail hit d) k f = absurd f
      go (LeftGrew hit d r) k f = absurd f
      go (RightGrew hit l d) k f = absurd f
      go (BothGrew hit l rd ld r) k f = absurd f

  pub computed_one : (x : PlainPlan) (r : PlainRewriting) → HasChild q x → IsLeast entries lengths x c r → IsLeastOf IsComputed entries lengths q c (Node q c (One r))
  computed_one x r h l = by_way IsComputed (One r) (one_in (λ child. IsRewriting (among entries) child c r) q x h l.is) tt go
    where
      go : (other : PlainWay) → IsWay (among entries) q c other → IsComputed other → capped (way_cost lengths q c (One r)) ≤ capped (way_cost lengths q c other)
      go Scan k f = absurd (one_no_scan q x h k)
      go (One s) k f = more _ _ (whole_bytes lengths q c) (l.least s (one_out (λ child. IsRewriting (among entries) child c s) q x h k))
      go (Two a b) k f = absurd (one_no_two (λ y z. IsRewriting (among entries) y (lefts y c) a × IsRewriting (among entries) z (rights y c) b) q x h k)
      go (Read hit) k f = absurd f
      go (Tail hit d) k f = absurd f
      go (LeftGrew hit d r) k f = absurd f
      go (RightGrew hit l d) k f = absurd f
      go (BothGrew hit l rd ld r) k f = absurd f

  -- what the two children of a computed plan are
  abbrev pub Both : PlainRewriting → PlainRewriting → PlainPlan → PlainPlan → Type 0
  Both a b x y = IsRewriting (among entries) x (lefts x c) a × IsRewriting (among entries) y (rights x c) b

  pub computed_two : (x y : PlainPlan) (r s : PlainRewriting) → HasTwo q x y → IsLeast entries lengths x (lefts x c) r → IsLeast entries lengths y (rights x c) s →
      IsLeastOf IsComputed entries lengths q c (Node q c (Two r s))
  computed_two x y r s h l m = by_way IsComputed (Two r s) (two_in (Both r s) q x y h (l.is, m.is)) tt go
    where
      go : (other : PlainWay) → IsWay (among entries) q c other → IsComputed other → capped (way_cost lengths q c (Two r s)) ≤ capped (way_cost lengths q c other)
      go Scan k f = absurd (two_no_scan q x y h k)
      go (One t) k f = absurd (two_no_one (λ child. IsRewriting (among entries) child c t) q x y h k)
      go (Two a b) k f =
          let p = two_out (Both a b) q x y h k in
          more_two _ _ _ _ (whole_bytes lengths q c) (l.least a p.0) (m.least b p.1)
      go (Read hit) k f = absurd f
      go (Tail hit d) k f = absurd f
      go (LeftGrew hit d t) k f = absurd f
      go (RightGrew hit t d) k f = absurd f
      go (BothGrew hit t rd ld u) k f = absurd f

  pub read_whole : AreSound entries → (hit : Hit) → IsWhole entries q c hit → IsLeastOf IsRead entries lengths q c (Node q c (Read hit))
  read_whole sound hit h = by_way IsRead (Read hit) h tt go
    where
      go : (other : PlainWay) → IsWay (among entries) q c other → IsRead other → capped (way_cost lengths q c (Read hit)) ≤ capped (way_cost lengths q c other)
      go Scan k f = absurd f
      go (One t) k f = absurd f
      go (Two a b) k f = absurd f
      go (Read other) k f = let e = ap (λ x. x.len) (one_whole entries sound q c hit other h k) in omega arith
      go (Tail hit d) k f = absurd f
      go (LeftGrew hit d t) k f = absurd f
      go (RightGrew hit t d) k f = absurd f
      go (BothGrew hit t rd ld u) k f = absurd f

  pub read_none : ((hit : Hit) → IsWhole entries q c hit → ⊥) → HasNone IsRead entries q c
  read_none none = none_by_way IsRead go
    where
      go : (other : PlainWay) → IsWay (among entries) q c other → IsRead other → ⊥
      go (Read hit) k f = none hit k
      go Scan k f = f
      go (One t) k f = f
      go (Two a b) k f = f
      go (Tail hit d) k f = f
      go (LeftGrew hit d t) k f = f
      go (RightGrew hit t d) k f = f
      go (BothGrew hit t rd ld u) k f = f

  pub grown_none : ((hit : Hit) → IsEarlier entries q c hit → ⊥) → HasNone IsGrown entries q c
  grown_none none = none_by_way IsGrown go
    where
      go : (other : PlainWay) → IsWay (among entries) q c other → IsGrown other → ⊥
      go Scan k f = f
      go (One t) k f = f
      go (Two a b) k f = f
      go (Read hit) k f = f
      go (Tail hit d) k f = none hit k.0
      go (LeftGrew hit d t) k f = none hit k.0
      go (RightGrew hit t d) k f = none hit k.0
      go (BothGrew hit t rd ld u) k f = none hit k.0

  pub grown_no_scan : IsScan q → HasNone IsGrown entries q c
  grown_no_scan h = none_by_way IsGrown go
    where
      go : (other : PlainWay) → IsWay (among entries) q c other → IsGrown other → ⊥
      go Scan k f = f
      go (One t) k f = f
      go (Two a b) k f = f
      go (Read hit) k f = f
      go (Tail hit d) k f = scan_no_tail (λ child o n. IsDelta (among entries) child o n d) q hit.cuts c h k.1
      go (LeftGrew hit d t) k f = scan_no_sides _ q h k.1
      go (RightGrew hit t d) k f = scan_no_sides _ q h k.1
      go (BothGrew hit t rd ld u) k f = scan_no_sides _ q h k.1

-- ---- grown trees

pub whole_of_sides : (n : ℕ) (a b : Cuts) → take n a ≡ take n b → drop n a ≡ drop n b → a ≡ b
whole_of_sides n a b t d = sym (take-append-drop n a) ∙ (λ i. t i ++ d i) ∙ take-append-drop n b

module _ (entries : Entries) (sound : AreSound entries) (lengths : Lengths) (q : PlainPlan) (c : Cuts) (hit : Hit) (here : IsEarlier entries q c hit) where
  -- a grown way of the same entry is enough
  pub grown_by_way : (way : PlainWay) → IsWay (among entries) q c way → IsGrown way →
      ((d : PlainDelta) → IsWay (among entries) q c (Tail hit d) → capped (way_cost lengths q c way) ≤ capped (way_cost lengths q c (Tail hit d))) →
      ((d : PlainDelta) (r : PlainRewriting) → IsWay (among entries) q c (LeftGrew hit d r) → capped (way_cost lengths q c way) ≤ capped (way_cost lengths q c (LeftGrew hit d r))) →
      ((r : PlainRewriting) (d : PlainDelta) → IsWay (among entries) q c (RightGrew hit r d) → capped (way_cost lengths q c way) ≤ capped (way_cost lengths q c (RightGrew hit r d))) →
      ((r : PlainRewriting) (d e : PlainDelta) (s : PlainRewriting) → IsWay (among entries) q c (BothGrew hit r d e s) → capped (way_cost lengths q c way) ≤ capped (way_cost lengths q c (BothGrew hit r d e s))) →
      IsLeastOf IsGrown entries lengths q c (Node q c way)
  grown_by_way way is form tails j1s j2s j3s = by_way entries lengths q c IsGrown way is form go
    where
      go : (other : PlainWay) → IsWay (among entries) q c other → IsGrown other → capped (way_cost lengths q c way) ≤ capped (way_cost lengths q c other)
      go Scan k f = absurd f
      go (One t) k f = absurd f
      go (Two a b) k f = absurd f
      go (Read h) k f = absurd f
      go (Tail h d) k f =
          let e = one_earlier entries sound q c hit h here k.0 in
          subst (λ z. capped (way_cost lengths q c way) ≤ capped (way_cost lengths q c (Tail z d))) e
          (tails d (subst (λ z. IsWay (among entries) q c (Tail z d)) (sym e) k))
      go (LeftGrew h d r) k f =
          let e = one_earlier entries sound q c hit h here k.0 in
          subst (λ z. capped (way_cost lengths q c way) ≤ capped (way_cost lengths q c (LeftGrew z d r))) e
          (j1s d r (subst (λ z. IsWay (among entries) q c (LeftGrew z d r)) (sym e) k))
      go (RightGrew h r d) k f =
          let e = one_earlier entries sound q c hit h here k.0 in
          subst (λ z. capped (way_cost lengths q c way) ≤ capped (way_cost lengths q c (RightGrew z r d))) e
          (j2s r d (subst (λ z. IsWay (among entries) q c (RightGrew z r d)) (sym e) k))
      go (BothGrew h r d b s) k f =
          let e = one_earlier entries sound q c hit h here k.0 in
          subst (λ z. capped (way_cost lengths q c way) ≤ capped (way_cost lengths q c (BothGrew z r d b s))) e
          (j3s r d b s (subst (λ z. IsWay (among entries) q c (BothGrew z r d b s)) (sym e) k))

  pub none_grown_by_way :
      ((d : PlainDelta) → IsWay (among entries) q c (Tail hit d) → ⊥) →
      ((d : PlainDelta) (r : PlainRewriting) → IsWay (among entries) q c (LeftGrew hit d r) → ⊥) →
      ((r : PlainRewriting) (d : PlainDelta) → IsWay (among entries) q c (RightGrew hit r d) → ⊥) →
      ((r : PlainRewriting) (d e : PlainDelta) (s : PlainRewriting) → IsWay (among entries) q c (BothGrew hit r d e s) → ⊥) →
      HasNone IsGrown entries q c
  none_grown_by_way tails j1s j2s j3s = none_by_way entries lengths q c IsGrown go
    where
      go : (other : PlainWay) → IsWay (among entries) q c other → IsGrown other → ⊥
      go Scan k f = f
      go (One t) k f = f
      go (Two a b) k f = f
      go (Read h) k f = f
      go (Tail h d) k f = tails d (subst (λ z. IsWay (among entries) q c (Tail z d)) (sym (one_earlier entries sound q c hit h here k.0)) k)
      go (LeftGrew h d r) k f = j1s d r (subst (λ z. IsWay (among entries) q c (LeftGrew z d r)) (sym (one_earlier entries sound q c hit h here k.0)) k)
      go (RightGrew h r d) k f = j2s r d (subst (λ z. IsWay (among entries) q c (RightGrew z r d)) (sym (one_earlier entries sound q c hit h here k.0)) k)
      go (BothGrew h r d b s) k f = j3s r d b s (subst (λ z. IsWay (among entries) q c (BothGrew z r d b s)) (sym (one_earlier entries sound q c hit h here k.0)) k)

  abbrev pub TailOf : PlainDelta → PlainPlan → Cuts → Cuts → Type 0
  TailOf d child old new = IsDelta (among entries) child old new d

  pub grown_one : (x : PlainPlan) (d : PlainDelta) → HasChild q x → IsLeastDelta entries lengths x hit.cuts c d → IsLeastOf IsGrown entries lengths q c (Node q c (Tail hit d))
  grown_one x d h l = grown_by_way (Tail hit d) (here, tail_in (TailOf d) q x hit.cuts c h l.is) tt
      (λ e k. more_behind hit.len _ _ (new_bytes lengths q hit.cuts c) (l.least e (tail_out (TailOf e) q x hit.cuts c h k.1)))
      (λ e r k. absurd (one_no_sides _ q x h k.1))
      (λ r e k. absurd (one_no_sides _ q x h k.1))
      (λ r e f s k. absurd (one_no_sides _ q x h k.1))

  pub grown_one_none : (x : PlainPlan) → HasChild q x → HasNoDelta entries x hit.cuts c → HasNone IsGrown entries q c
  grown_one_none x h none = none_grown_by_way
      (λ e k. none e (tail_out (TailOf e) q x hit.cuts c h k.1))
      (λ e r k. one_no_sides _ q x h k.1)
      (λ r e k. one_no_sides _ q x h k.1)
      (λ r e f s k. one_no_sides _ q x h k.1)

  pub grown_concat : (x y : PlainPlan) (d : PlainDelta) → IsConcat q x y → lefts x hit.cuts ≡ lefts x c →
      IsLeastDelta entries lengths y (rights x hit.cuts) (rights x c) d → IsLeastOf IsGrown entries lengths q c (Node q c (Tail hit d))
  grown_concat x y d h same l = grown_by_way (Tail hit d) (here, concat_in (TailOf d) q x y hit.cuts c h (same, l.is)) tt
      (λ e k. more_behind hit.len _ _ (new_bytes lengths q hit.cuts c) (l.least e (concat_out (TailOf e) q x y hit.cuts c h k.1).1))
      (λ e r k. absurd (concat_no_sides _ q x y h k.1))
      (λ r e k. absurd (concat_no_sides _ q x y h k.1))
      (λ r e f s k. absurd (concat_no_sides _ q x y h k.1))

  pub grown_concat_none : (x y : PlainPlan) → IsConcat q x y → ((d : PlainDelta) → lefts x hit.cuts ≡ lefts x c → IsDelta (among entries) y (rights x hit.cuts) (rights x c) d → ⊥) → HasNone IsGrown entries q c
  grown_concat_none x y h none = none_grown_by_way
      (λ e k. let p = concat_out (TailOf e) q x y hit.cuts c h k.1 in none e p.0 p.1)
      (λ e r k. concat_no_sides _ q x y h k.1)
      (λ r e k. concat_no_sides _ q x y h k.1)
      (λ r e f s k. concat_no_sides _ q x y h k.1)

  -- a join whose left input grew
  abbrev pub LeftGrewOf : PlainDelta → PlainRewriting → PlainPlan → PlainPlan → Type 0
  LeftGrewOf d r x y = (rights x hit.cuts ≡ rights x c) × IsDelta (among entries) x (lefts x hit.cuts) (lefts x c) d × IsRewriting (among entries) y (rights x c) r

  abbrev pub RightGrewOf : PlainRewriting → PlainDelta → PlainPlan → PlainPlan → Type 0
  RightGrewOf r d x y = (lefts x hit.cuts ≡ lefts x c) × IsRewriting (among entries) x (lefts x c) r × IsDelta (among entries) y (rights x hit.cuts) (rights x c) d

  abbrev pub BothGrewOf : PlainRewriting → PlainDelta → PlainDelta → PlainRewriting → PlainPlan → PlainPlan → Type 0
  BothGrewOf r d e s x y = (lefts x hit.cuts ≢ lefts x c) × (rights x hit.cuts ≢ rights x c)
      × IsRewriting (among entries) x (lefts x hit.cuts) r × IsDelta (among entries) y (rights x hit.cuts) (rights x c) d
      × IsDelta (among entries) x (lefts x hit.cuts) (lefts x c) e × IsRewriting (among entries) y (rights x c) s

  pub not_both : (x : PlainPlan) → lefts x hit.cuts ≡ lefts x c → rights x hit.cuts ≡ rights x c → ⊥
  not_both x l r = here.candidate.other (whole_of_sides (leaf_count x) hit.cuts c l r)

  pub grown_left : (x y : PlainPlan) (d : PlainDelta) (r : PlainRewriting) → IsJoin q x y → rights x hit.cuts ≡ rights x c →
      IsLeastDelta entries lengths x (lefts x hit.cuts) (lefts x c) d → IsLeast entries lengths y (rights x c) r →
      IsLeastOf IsGrown entries lengths q c (Node q c (LeftGrew hit d r))
  grown_left x y d r h same l m = grown_by_way (LeftGrew hit d r) (here, sides_in (LeftGrewOf d r) q x y h (same, l.is, m.is)) tt
      (λ e k. absurd (join_no_tail (TailOf e) q x y hit.cuts c h k.1))
      (λ e s k. let p = sides_out (LeftGrewOf e s) q x y h k.1 in more_two_behind hit.len _ _ _ _ (new_bytes lengths q hit.cuts c) (l.least e p.1) (m.least s p.2))
      (λ s e k. let p = sides_out (RightGrewOf s e) q x y h k.1 in absurd (not_both x p.0 same))
      (λ s e f t k. let p = sides_out (BothGrewOf s e f t) q x y h k.1 in absurd (p.1 same))

  pub grown_left_none : (x y : PlainPlan) → IsJoin q x y → rights x hit.cuts ≡ rights x c → HasNoDelta entries x (lefts x hit.cuts) (lefts x c) → HasNone IsGrown entries q c
  grown_left_none x y h same none = none_grown_by_way
      (λ e k. join_no_tail (TailOf e) q x y hit.cuts c h k.1)
      (λ e s k. let p = sides_out (LeftGrewOf e s) q x y h k.1 in none e p.1)
      (λ s e k. let p = sides_out (RightGrewOf s e) q x y h k.1 in not_both x p.0 same)
      (λ s e f t k. let p = sides_out (BothGrewOf s e f t) q x y h k.1 in p.1 same)

  pub grown_right : (x y : PlainPlan) (r : PlainRewriting) (d : PlainDelta) → IsJoin q x y → lefts x hit.cuts ≡ lefts x c →
      IsLeast entries lengths x (lefts x c) r → IsLeastDelta entries lengths y (rights x hit.cuts) (rights x c) d →
      IsLeastOf IsGrown entries lengths q c (Node q c (RightGrew hit r d))
  grown_right x y r d h same l m = grown_by_way (RightGrew hit r d) (here, sides_in (RightGrewOf r d) q x y h (same, l.is, m.is)) tt
      (λ e k. absurd (join_no_tail (TailOf e) q x y hit.cuts c h k.1))
      (λ e s k. let p = sides_out (LeftGrewOf e s) q x y h k.1 in absurd (not_both x same p.0))
      (λ s e k. let p = sides_out (RightGrewOf s e) q x y h k.1 in more_two_behind hit.len _ _ _ _ (new_bytes lengths q hit.cuts c) (l.least s p.1) (m.least e p.2))
      (λ s e f t k. let p = sides_out (BothGrewOf s e f t) q x y h k.1 in absurd (p.0 same))

  pub grown_right_none : (x y : PlainPlan) → IsJoin q x y → lefts x hit.cuts ≡ lefts x c → HasNoDelta entries y (rights x hit.cuts) (rights x c) → HasNone IsGrown entries q c
  grown_right_none x y h same none = none_grown_by_way
      (λ e k. join_no_tail (TailOf e) q x y hit.cuts c h k.1)
      (λ e s k. let p = sides_out (LeftGrewOf e s) q x y h k.1 in not_both x same p.0)
      (λ s e k. let p = sides_out (RightGrewOf s e) q x y h k.1 in none e p.2)
      (λ s e f t k. let p = sides_out (BothGrewOf s e f t) q x y h k.1 in p.0 same)

  pub grown_both : (x y : PlainPlan) (r : PlainRewriting) (d e : PlainDelta) (s : PlainRewriting) → IsJoin q x y → lefts x hit.cuts ≢ lefts x c → rights x hit.cuts ≢ rights x c →
      IsLeast entries lengths x (lefts x hit.cuts) r → IsLeastDelta entries lengths y (rights x hit.cuts) (rights x c) d →
      IsLeastDelta entries lengths x (lefts x hit.cuts) (lefts x c) e → IsLeast entries lengths y (rights x c) s →
      IsLeastOf IsGrown entries lengths q c (Node q c (BothGrew hit r d e s))
  grown_both x y r d e s h nl nr lr ld le ls = grown_by_way (BothGrew hit r d e s) (here, sides_in (BothGrewOf r d e s) q x y h (nl, nr, lr.is, ld.is, le.is, ls.is)) tt
      (λ d' k. absurd (join_no_tail (TailOf d') q x y hit.cuts c h k.1))
      (λ d' s' k. let p = sides_out (LeftGrewOf d' s') q x y h k.1 in absurd (nr p.0))
      (λ s' d' k. let p = sides_out (RightGrewOf s' d') q x y h k.1 in absurd (nl p.0))
      (λ r' d' e' s' k. let p = sides_out (BothGrewOf r' d' e' s') q x y h k.1 in
      more_four hit.len _ _ _ _ _ _ _ _ (new_bytes lengths q hit.cuts c) (lr.least r' p.2) (ld.least d' p.3) (le.least e' p.4) (ls.least s' p.5))

  pub grown_both_none : (x y : PlainPlan) → IsJoin q x y → lefts x hit.cuts ≢ lefts x c → rights x hit.cuts ≢ rights x c →
      ((d e : PlainDelta) → IsDelta (among entries) y (rights x hit.cuts) (rights x c) d → IsDelta (among entries) x (lefts x hit.cuts) (lefts x c) e → ⊥) → HasNone IsGrown entries q c
  grown_both_none x y h nl nr none = none_grown_by_way
      (λ d' k. join_no_tail (TailOf d') q x y hit.cuts c h k.1)
      (λ d' s' k. let p = sides_out (LeftGrewOf d' s') q x y h k.1 in nr p.0)
      (λ s' d' k. let p = sides_out (RightGrewOf s' d') q x y h k.1 in nl p.0)
      (λ r' d' e' s' k. let p = sides_out (BothGrewOf r' d' e' s') q x y h k.1 in none d' e' p.3 p.4)

-- ---- deltas by their ways

module _ (entries : Entries) (lengths : Lengths) (q : PlainPlan) (old new : Cuts) where
  pub delta_by_way : (way : PlainDeltaWay) → IsDeltaWay (among entries) q old new way →
      ((other : PlainDeltaWay) → IsDeltaWay (among entries) q old new other → capped (delta_way_cost lengths q old new way) ≤ capped (delta_way_cost lengths q old new other)) →
      IsLeastDelta entries lengths q old new (Change q old new way)
  delta_by_way way is least = record { is = (refl, refl, refl, is); least = go }
    where
      go : (other : PlainDelta) → IsDelta (among entries) q old new other → delta_estimate lengths (Change q old new way) ≤ delta_estimate lengths other
      go (Change p o n other) h =
          let e : delta_way_cost lengths q old new other ≡ delta_way_cost lengths p o n other = λ i. delta_way_cost lengths (sym h.0 i) (sym h.1 i) (sym h.2 i) other in
          subst (λ n. capped (delta_way_cost lengths q old new way) ≤ capped n) e (least other h.3)

  pub none_delta_by_way : ((other : PlainDeltaWay) → IsDeltaWay (among entries) q old new other → ⊥) → HasNoDelta entries q old new
  none_delta_by_way none (Change p o n other) h = none other h.3

  pub delta_unchanged : old ≡ new → IsLeastDelta entries lengths q old new (Change q old new Unchanged)
  delta_unchanged e = delta_by_way Unchanged e (λ other k. omega arith)

  pub delta_scan : IsScan q → IsLonger old new → IsLeastDelta entries lengths q old new (Change q old new NewRows)
  delta_scan s l = delta_by_way NewRows (s, l) go
    where
      go : (other : PlainDeltaWay) → IsDeltaWay (among entries) q old new other → capped (delta_way_cost lengths q old new NewRows) ≤ capped (delta_way_cost lengths q old new other)
      go Unchanged k = absurd (longer_differs old new l k)
      go NewRows k = omega arith
      go (OfChild d) k = absurd (scan_no_child (λ child o n. IsDelta (among entries) child o n d) q old new s k.1)
      go (OfDistinct r d) k = absurd (scan_no_distinct _ q s k.2)
      go (OfJoin d r) k = absurd (scan_no_sides _ q s k.1)

  pub delta_scan_none : IsScan q → old ≢ new → (IsLonger old new → ⊥) → HasNoDelta entries q old new
  delta_scan_none s differ short = none_delta_by_way go
    where
      go : (other : PlainDeltaWay) → IsDeltaWay (among entries) q old new other → ⊥
      go Unchanged k = differ k
      go NewRows k = short k.1
      go (OfChild d) k = scan_no_child (λ child o n. IsDelta (among entries) child o n d) q old new s k.1
      go (OfDistinct r d) k = scan_no_distinct _ q s k.2
      go (OfJoin d r) k = scan_no_sides _ q s k.1

  abbrev pub ChildOf : PlainDelta → PlainPlan → Cuts → Cuts → Type 0
  ChildOf d child o n = IsDelta (among entries) child o n d

  abbrev pub DistinctOf : PlainDelta → PlainPlan → Type 0
  DistinctOf d child = IsDelta (among entries) child old new d

  abbrev pub JoinOf : PlainDelta → PlainRewriting → PlainPlan → PlainPlan → Type 0
  JoinOf d r x y = (rights x old ≡ rights x new) × IsDelta (among entries) x (lefts x old) (lefts x new) d × IsRewriting (among entries) y (rights x new) r

  pub delta_row : (x : PlainPlan) (d : PlainDelta) → IsByRow q → HasChild q x → old ≢ new → IsLeastDelta entries lengths x old new d → IsLeastDelta entries lengths q old new (Change q old new (OfChild d))
  delta_row x d b h differ l = delta_by_way (OfChild d) (differ, row_in (ChildOf d) q x old new b h l.is) go
    where
      go : (other : PlainDeltaWay) → IsDeltaWay (among entries) q old new other → capped (delta_way_cost lengths q old new (OfChild d)) ≤ capped (delta_way_cost lengths q old new other)
      go Unchanged k = absurd (differ k)
      go NewRows k = absurd (one_no_scan q x h k.0)
      go (OfChild e) k = more _ _ (new_bytes lengths q old new) (l.least e (row_out (ChildOf e) q x old new b h k.1))
      go (OfDistinct r e) k = absurd (row_no_distinct _ q b k.2)
      go (OfJoin e r) k = absurd (one_no_sides _ q x h k.1)

  pub delta_row_none : (x : PlainPlan) → IsByRow q → HasChild q x → old ≢ new → HasNoDelta entries x old new → HasNoDelta entries q old new
  delta_row_none x b h differ none = none_delta_by_way go
    where
      go : (other : PlainDeltaWay) → IsDeltaWay (among entries) q old new other → ⊥
      go Unchanged k = differ k
      go NewRows k = one_no_scan q x h k.0
      go (OfChild e) k = none e (row_out (ChildOf e) q x old new b h k.1)
      go (OfDistinct r e) k = row_no_distinct _ q b k.2
      go (OfJoin e r) k = one_no_sides _ q x h k.1

  pub delta_distinct : (x : PlainPlan) (r : PlainRewriting) (d : PlainDelta) → IsDistinct q → HasChild q x → old ≢ new →
      IsLeast entries lengths q old r → IsLeastDelta entries lengths x old new d → IsLeastDelta entries lengths q old new (Change q old new (OfDistinct r d))
  delta_distinct x r d b h differ m l = delta_by_way (OfDistinct r d) (differ, m.is, distinct_in (DistinctOf d) q x b h l.is) go
    where
      go : (other : PlainDeltaWay) → IsDeltaWay (among entries) q old new other → capped (delta_way_cost lengths q old new (OfDistinct r d)) ≤ capped (delta_way_cost lengths q old new other)
      go Unchanged k = absurd (differ k)
      go NewRows k = absurd (one_no_scan q x h k.0)
      go (OfChild e) k = absurd (distinct_no_tail (ChildOf e) q old new b k.1)
      go (OfDistinct s e) k = more_two _ _ _ _ (new_bytes lengths q old new) (m.least s k.1) (l.least e (distinct_out (DistinctOf e) q x b h k.2))
      go (OfJoin e s) k = absurd (one_no_sides _ q x h k.1)

  pub delta_distinct_none : (x : PlainPlan) → IsDistinct q → HasChild q x → old ≢ new → HasNoDelta entries x old new → HasNoDelta entries q old new
  delta_distinct_none x b h differ none = none_delta_by_way go
    where
      go : (other : PlainDeltaWay) → IsDeltaWay (among entries) q old new other → ⊥
      go Unchanged k = differ k
      go NewRows k = one_no_scan q x h k.0
      go (OfChild e) k = distinct_no_tail (ChildOf e) q old new b k.1
      go (OfDistinct s e) k = none e (distinct_out (DistinctOf e) q x b h k.2)
      go (OfJoin e s) k = one_no_sides _ q x h k.1

  pub delta_whole_none : IsWholeOnly q → old ≢ new → HasNoDelta entries q old new
  delta_whole_none b differ = none_delta_by_way go
    where
      go : (other : PlainDeltaWay) → IsDeltaWay (among entries) q old new other → ⊥
      go Unchanged k = differ k
      go NewRows k = whole_no_scan q b k.0
      go (OfChild e) k = whole_no_tail (ChildOf e) q old new b k.1
      go (OfDistinct s e) k = whole_no_distinct _ q b k.2
      go (OfJoin e s) k = whole_no_sides _ q b k.1

  pub delta_concat : (x y : PlainPlan) (d : PlainDelta) → IsConcat q x y → old ≢ new → lefts x old ≡ lefts x new →
      IsLeastDelta entries lengths y (rights x old) (rights x new) d → IsLeastDelta entries lengths q old new (Change q old new (OfChild d))
  delta_concat x y d h differ same l = delta_by_way (OfChild d) (differ, concat_child_in (ChildOf d) q x y old new h (same, l.is)) go
    where
      go : (other : PlainDeltaWay) → IsDeltaWay (among entries) q old new other → capped (delta_way_cost lengths q old new (OfChild d)) ≤ capped (delta_way_cost lengths q old new other)
      go Unchanged k = absurd (differ k)
      go NewRows k = absurd (concat_no_scan q x y h k.0)
      go (OfChild e) k = more _ _ (new_bytes lengths q old new) (l.least e (concat_child_out (ChildOf e) q x y old new h k.1).1)
      go (OfDistinct r e) k = absurd (concat_no_distinct _ q x y h k.2)
      go (OfJoin e r) k = absurd (concat_no_sides _ q x y h k.1)

  pub delta_concat_none : (x y : PlainPlan) → IsConcat q x y → old ≢ new → ((d : PlainDelta) → lefts x old ≡ lefts x new → IsDelta (among entries) y (rights x old) (rights x new) d → ⊥) → HasNoDelta entries q old new
  delta_concat_none x y h differ none = none_delta_by_way go
    where
      go : (other : PlainDeltaWay) → IsDeltaWay (among entries) q old new other → ⊥
      go Unchanged k = differ k
      go NewRows k = concat_no_scan q x y h k.0
      go (OfChild e) k = let p = concat_child_out (ChildOf e) q x y old new h k.1 in none e p.0 p.1
      go (OfDistinct r e) k = concat_no_distinct _ q x y h k.2
      go (OfJoin e r) k = concat_no_sides _ q x y h k.1

  pub delta_join : (x y : PlainPlan) (d : PlainDelta) (r : PlainRewriting) → IsJoin q x y → old ≢ new → rights x old ≡ rights x new →
      IsLeastDelta entries lengths x (lefts x old) (lefts x new) d → IsLeast entries lengths y (rights x new) r →
      IsLeastDelta entries lengths q old new (Change q old new (OfJoin d r))
  delta_join x y d r h differ same l m = delta_by_way (OfJoin d r) (differ, sides_in (JoinOf d r) q x y h (same, l.is, m.is)) go
    where
      go : (other : PlainDeltaWay) → IsDeltaWay (among entries) q old new other → capped (delta_way_cost lengths q old new (OfJoin d r)) ≤ capped (delta_way_cost lengths q old new other)
      go Unchanged k = absurd (differ k)
      go NewRows k = absurd (join_no_scan q x y h k.0)
      go (OfChild e) k = absurd (join_no_child (ChildOf e) q x y old new h k.1)
      go (OfDistinct s e) k = absurd (join_no_distinct _ q x y h k.2)
      go (OfJoin e s) k = let p = sides_out (JoinOf e s) q x y h k.1 in more_two _ _ _ _ (new_bytes lengths q old new) (l.least e p.1) (m.least s p.2)

  pub delta_join_none : (x y : PlainPlan) → IsJoin q x y → old ≢ new → ((d : PlainDelta) → rights x old ≡ rights x new → IsDelta (among entries) x (lefts x old) (lefts x new) d → ⊥) → HasNoDelta entries q old new
  delta_join_none x y h differ none = none_delta_by_way go
    where
      go : (other : PlainDeltaWay) → IsDeltaWay (among entries) q old new other → ⊥
      go Unchanged k = differ k
      go NewRows k = join_no_scan q x y h k.0
      go (OfChild e) k = join_no_child (ChildOf e) q x y old new h k.1
      go (OfDistinct s e) k = join_no_distinct _ q x y h k.2
      go (OfJoin e s) k = let p = sides_out (JoinOf e s) q x y h k.1 in none e p.0 p.1

-- ---- the least of the three forms

pub forms : (way : PlainWay) → IsComputed way ⊎ (IsRead way ⊎ IsGrown way)
forms Scan = inl tt
forms (One r) = inl tt
forms (Two l r) = inl tt
forms (Read hit) = inr (inl tt)
forms (Tail hit d) = inr (inr tt)
forms (LeftGrew hit d r) = inr (inr tt)
forms (RightGrew hit l d) = inr (inr tt)
forms (BothGrew hit l rd ld r) = inr (inr tt)

pub least_of_forms : (entries : Entries) (lengths : Lengths) (q : PlainPlan) (c : Cuts) (r : PlainRewriting) → IsRewriting (among entries) q c r →
    ((other : PlainRewriting) → IsRewriting (among entries) q c other → IsComputed (way_in other) → estimate_of lengths r ≤ estimate_of lengths other) →
    ((other : PlainRewriting) → IsRewriting (among entries) q c other → IsRead (way_in other) → estimate_of lengths r ≤ estimate_of lengths other) →
    ((other : PlainRewriting) → IsRewriting (among entries) q c other → IsGrown (way_in other) → estimate_of lengths r ≤ estimate_of lengths other) →
    IsLeast entries lengths q c r
least_of_forms entries lengths q c r is computed read grown = record { is = is; least = λ other k. go other k (forms (way_in other)) }
  where
    go : (other : PlainRewriting) → IsRewriting (among entries) q c other → IsComputed (way_in other) ⊎ (IsRead (way_in other) ⊎ IsGrown (way_in other)) → estimate_of lengths r ≤ estimate_of lengths other
    go other k (inl f) = computed other k f
    go other k (inr (inl f)) = read other k f
    go other k (inr (inr f)) = grown other k f
