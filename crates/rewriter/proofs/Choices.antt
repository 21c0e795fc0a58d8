-- The cheapest of the three forms is a least rewriting's, and a least tree of the chosen form is a least one.
use Rattle.std.proofs.Common.{◌≡◌, ◌≢◌, refl, ℕ, ◌<◌, ◌≤◌, ◌⊎◌, inl, inr, Option, None, Some, IfSome, arith, ap, sym, subst, ◌∙◌}
use Rattle.plan_core.specs.PlainPlan.{PlainPlan}
use Rattle.estimator.specs.Bytes.{Lengths}
use Rattle.estimator.specs.Cuts.{Cuts}
use Rattle.rewrite_core.specs.Entries.{Entries}
use Rattle.rewrite_core.specs.Estimate.{estimate_of, IsLeast}
use Rattle.rewrite_core.specs.IsRewriting.{IsRewriting, among}
use Rattle.rewrite_core.specs.PlainRewriting.{PlainRewriting, PlainWay}
use Rattle.rewriter.specs.declared.priced.Choice.{Choice}
use Rattle.rewriter.specs.declared.priced.Form.{Form}
use Rattle.rewriter.specs.declared.priced.Form.TheVariants as form
use Rattle.rewriter.specs.declared.priced.Price.{Price}
use Rattle.rewriter.specs.Choosing.{IsCheaper, CostMore}
use Rattle.rewriter.specs.Forms.{way_in, IsComputed, IsRead, IsGrown, IsLeastOf, HasNone}
use Rattle.rewriter.specs.Search.{IsEstimate, IsEstimateIfAny, IsComputedPrice, ways_of, IsChoice}
use Rattle.rewriter.proofs.LeastParts.{forms}

-- of equal estimates the choice that was there stays
taken : (choice r : Choice) (f : Form) (o : Option ℕ) → IsCheaper choice f o r → (r ≡ choice) ⊎ ((r.form ≡ f) × (r.estimate < choice.estimate))
taken choice r f None e = inl e
taken choice r f (Some p) (inl e) = inl e.0
taken choice r f (Some p) (inr e) = let t = ap (λ x. x.estimate) e.0 in let k = e.1 in inr (ap (λ x. x.form) e.0, omega arith)

-- and where that is weighed, the result's estimate is no greater
none_over : (choice r : Choice) (f : Form) (o : Option ℕ) → IsCheaper choice f o r → IfSome o (λ p. r.estimate ≤ p)
none_over choice r f None e = tt
none_over choice r f (Some p) (inl e) = let t = ap (λ x. x.estimate) e.0 in let k = e.1 in omega arith
none_over choice r f (Some p) (inr e) = let t = ap (λ x. x.estimate) e.0 in omega arith

module _ (first second third : Choice) (read grown : Option ℕ) (is_second : IsCheaper first form.Read read second) (is_third : IsCheaper second form.Grown grown third) where
  pub under_first : first.form ≡ form.Computed → third.form ≢ form.Computed → third.estimate < first.estimate
  under_first is other = go (taken first second form.Read read is_second) (taken second third form.Grown grown is_third)
    where
      go : (second ≡ first) ⊎ ((second.form ≡ form.Read) × (second.estimate < first.estimate)) → (third ≡ second) ⊎ ((third.form ≡ form.Grown) × (third.estimate < second.estimate)) → third.estimate < first.estimate
      go (inl a) (inl b) = absurd (other (ap (λ x. x.form) (b ∙ a) ∙ is))
      go (inl a) (inr b) = let t = ap (λ x. x.estimate) a in let k = b.1 in omega arith
      go (inr a) (inl b) = let t = ap (λ x. x.estimate) b in let k = a.1 in omega arith
      go (inr a) (inr b) = let j = a.1 in let k = b.1 in omega arith

  pub under_read : first.form ≡ form.Computed → third.form ≡ form.Grown → IfSome read (λ p. third.estimate < p)
  under_read is grows = go read (none_over first second form.Read read is_second) (taken first second form.Read read is_second) (taken second third form.Grown grown is_third)
    where
      go : (o : Option ℕ) → IfSome o (λ p. second.estimate ≤ p) → (second ≡ first) ⊎ ((second.form ≡ form.Read) × (second.estimate < first.estimate)) → (third ≡ second) ⊎ ((third.form ≡ form.Grown) × (third.estimate < second.estimate)) → IfSome o (λ p. third.estimate < p)
      go None l a b = tt
      go (Some p) l (inl a) (inl b) = let wrong = sym (ap (λ x. x.form) (b ∙ a) ∙ is) ∙ grows in absurd (cc)
      go (Some p) l (inr a) (inl b) = let wrong = sym (ap (λ x. x.form) b ∙ a.0) ∙ grows in absurd (cc)
      go (Some p) l a (inr b) = let k = b.1 in omega arith

module _ (entries : Entries) (lengths : Lengths) (q : PlainPlan) (c : Cuts) where
  -- a least rewriting of the chosen form has the estimate
  record Holds (choice : Choice) : Type 0 where
    of : PlainRewriting
    least_of : IsLeastOf (ways_of choice.form) entries lengths q c of
    estimate : choice.estimate ≡ estimate_of lengths of

  -- no rewriting of the form has a smaller estimate
  abbrev Under : (PlainWay → Type 0) → ℕ → Type 0
  Under Ways n = (other : PlainRewriting) → IsRewriting (among entries) q c other → Ways (way_in other) → n ≤ estimate_of lengths other

  under_of : (Ways : PlainWay → Type 0) (p : ℕ) → IsEstimate Ways entries lengths q c p → Under Ways p
  under_of Ways p l = λ other k f. subst (λ n. n ≤ estimate_of lengths other) (sym l.estimate) (l.least.least other k f)

  more_above : (Ways : PlainWay → Type 0) (n m : ℕ) → m < n → Under Ways n → CostMore Ways entries lengths q c m
  more_above Ways n m less u = λ other k f. let h = u other k f in omega arith

  reads_more : (o : Option ℕ) (m : ℕ) → IsEstimateIfAny IsRead entries lengths q c o → IfSome o (λ p. m < p) → CostMore IsRead entries lengths q c m
  reads_more None m none less = λ other k f. absurd (none other k f)
  reads_more (Some p) m l less = more_above IsRead p m less (under_of IsRead p l)

  under_below : (Ways : PlainWay → Type 0) (n m : ℕ) → m ≤ n → Under Ways n → Under Ways m
  under_below Ways n m le u = λ other k f. let h = u other k f in omega arith

  lower : (choice r : Choice) (f : Form) (o : Option ℕ) → IsCheaper choice f o r → r.estimate ≤ choice.estimate
  lower choice r f None e = let t = ap (λ x. x.estimate) e in omega arith
  lower choice r f (Some p) (inl e) = let t = ap (λ x. x.estimate) e.0 in omega arith
  lower choice r f (Some p) (inr e) = let t = ap (λ x. x.estimate) e.0 in let k = e.1 in omega arith

  holds_next : (choice r : Choice) (f : Form) (o : Option ℕ) → IsEstimateIfAny (ways_of f) entries lengths q c o → IsCheaper choice f o r → Holds choice → Holds r
  holds_next choice r f None l e h = subst Holds (sym e) h
  holds_next choice r f (Some p) l (inl e) h = subst Holds (sym e.0) h
  holds_next choice r f (Some p) l (inr e) h = subst Holds (sym e.0) (record { of = l.of; least_of = l.least; estimate = l.estimate })

  same_bytes : (choice r : Choice) (f : Form) (o : Option ℕ) → IsCheaper choice f o r → r.bytes ≡ choice.bytes
  same_bytes choice r f None e = ap (λ x. x.bytes) e
  same_bytes choice r f (Some p) (inl e) = ap (λ x. x.bytes) e.0
  same_bytes choice r f (Some p) (inr e) = ap (λ x. x.bytes) e.0

  under_next : (choice r : Choice) (f : Form) (o : Option ℕ) → IsEstimateIfAny (ways_of f) entries lengths q c o → IsCheaper choice f o r → Under (ways_of f) r.estimate
  under_next choice r f None l e = λ other k w. absurd (l other k w)
  under_next choice r f (Some p) l (inl e) =
      let t = ap (λ x. x.estimate) e.0 in let k = e.1 in under_below (ways_of f) p r.estimate (omega arith) (under_of (ways_of f) p l)
  under_next choice r f (Some p) l (inr e) =
      let t = ap (λ x. x.estimate) e.0 in under_below (ways_of f) p r.estimate (omega arith) (under_of (ways_of f) p l)

  pub chosen : (computed : Price) (read grown : Option ℕ) (second third : Choice) → IsComputedPrice entries lengths q c computed →
      IsEstimateIfAny IsRead entries lengths q c read → IsEstimateIfAny IsGrown entries lengths q c grown →
      IsCheaper (record { form = form.Computed; estimate = computed.estimate; bytes = computed.bytes }) form.Read read second → IsCheaper second form.Grown grown third → IsChoice entries lengths q c third
  chosen computed read grown second third a b d e f =
      let first : Choice = record { form = form.Computed; estimate = computed.estimate; bytes = computed.bytes } in
      let holds = holds_next second third form.Grown grown d f (holds_next first second form.Read read b e (record { of = a.estimate.of; least_of = a.estimate.least; estimate = a.estimate.estimate })) in
      let below = lower second third form.Grown grown f in
      let under = under_of IsComputed computed.estimate a.estimate in
      let computes = under_below IsComputed second.estimate third.estimate below (under_below IsComputed computed.estimate second.estimate (lower first second form.Read read e) under) in
      let reads = under_below IsRead second.estimate third.estimate below (under_next first second form.Read read b e) in
      let grows = under_next second third form.Grown grown d f in
      record {
        of = holds.of;
        least_of = holds.least_of;
        estimate = holds.estimate;
        bytes = same_bytes second third form.Grown grown f ∙ (same_bytes first second form.Read read e ∙ a.bytes);
        least = λ other k. under_each other k computes reads grows;
        computed_first = λ other. more_above IsComputed computed.estimate third.estimate (under_first first second third read grown e f refl other) under;
        read_second = λ is. reads_more read third.estimate b (under_read first second third read grown e f refl is);
      }
    where
      under_each : (other : PlainRewriting) → IsRewriting (among entries) q c other → Under IsComputed third.estimate → Under IsRead third.estimate → Under IsGrown third.estimate → third.estimate ≤ estimate_of lengths other
      under_each other k u v w = go (forms (way_in other))
        where
          go : IsComputed (way_in other) ⊎ (IsRead (way_in other) ⊎ IsGrown (way_in other)) → third.estimate ≤ estimate_of lengths other
          go (inl x) = u other k x
          go (inr (inl x)) = v other k x
          go (inr (inr x)) = w other k x

  -- the choice's own tree is a least one
  pub least_there : (choice : Choice) → (h : IsChoice entries lengths q c choice) → IsLeast entries lengths q c h.of
  least_there choice h = record { is = h.least_of.is; least = λ other k. subst (λ n. n ≤ estimate_of lengths other) h.estimate (h.least other k) }

  -- and so is each least one of its form
  pub least_by_form : (choice : Choice) (f : Form) → choice.form ≡ f → IsChoice entries lengths q c choice → (r : PlainRewriting) → IsLeastOf (ways_of f) entries lengths q c r → IsLeast entries lengths q c r
  least_by_form choice f e h r l = record {
    is = l.is;
    least = λ other k.
        let mine = l.least h.of h.least_of.is (subst (λ x. ways_of x (way_in h.of)) e h.least_of.form) in
        let there = h.estimate in
        let under = h.least other k in
        omega arith;
  }

  -- a form that was chosen has a rewriting
  pub form_there : (choice : Choice) (f : Form) → choice.form ≡ f → IsChoice entries lengths q c choice → HasNone (ways_of f) entries q c → ⊥
  form_there choice f e h none = none h.of h.least_of.is (subst (λ x. ways_of x (way_in h.of)) e h.least_of.form)
