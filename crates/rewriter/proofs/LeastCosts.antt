-- What a rewriting of a form costs at least.
use Rattle.std.proofs.Common.{◌≡◌, ℕ, ◌+◌, ◌≤◌, ◌<◌, ◌⊎◌, inl, inr, arith, sym, subst}
use Rattle.plan_core.specs.PlainPlan.{PlainPlan}
use Rattle.estimator.specs.Bytes.{Lengths, whole_bytes, new_bytes, capped}
use Rattle.estimator.specs.Cuts.{Cuts}
use Rattle.rewrite_core.specs.declared.rewriting.Hit.{Hit}
use Rattle.rewrite_core.specs.Entries.{Entries, AreSound, IsEarlier}
use Rattle.rewrite_core.specs.Estimate.{cost, delta_cost, way_cost, estimate_of}
use Rattle.rewrite_core.specs.IsRewriting.{IsRewriting, IsWay, among}
use Rattle.rewrite_core.specs.PlainRewriting.{PlainRewriting, Node, PlainWay, Scan, One, Two, Read, Tail, LeftGrew, RightGrew, BothGrew}
use Rattle.rewriter.specs.declared.priced.Form.TheVariants as form
use Rattle.rewriter.specs.Choosing.{CostAtLeast, CostMore}
use Rattle.rewriter.specs.Forms.{way_in, IsComputed, IsRead, IsGrown, HasNone}
use Rattle.rewriter.specs.Search.{IsEstimate, IsChoice}
use Rattle.rewriter.proofs.LeastParts.{forms, one_earlier}

behind : (a w : ℕ) → capped w ≤ capped (a + w)
behind a w = omega arith

around : (l a w : ℕ) → capped (l + w) ≤ capped (l + a + w)
around l a w = omega arith

around_two : (l a b w : ℕ) → capped (l + w) ≤ capped (l + a + b + w)
around_two l a b w = omega arith

around_four : (l a b d e w : ℕ) → capped (l + w) ≤ capped (l + a + b + d + e + w)
around_four l a b d e w = omega arith

module _ (entries : Entries) (lengths : Lengths) (q : PlainPlan) (c : Cuts) where
  -- it is enough to know it of the ways
  by_ways : (Ways : PlainWay → Type 0) (n : ℕ) → ((way : PlainWay) → IsWay (among entries) q c way → Ways way → n ≤ capped (way_cost lengths q c way)) → CostAtLeast Ways entries lengths q c n
  by_ways Ways n each (Node p cs way) h f =
      let e : way_cost lengths q c way ≡ way_cost lengths p cs way = λ i. way_cost lengths (sym h.0 i) (sym h.1 i) way in
      subst (λ m. n ≤ capped m) e (each way h.2 f)

  to_compute : CostAtLeast IsComputed entries lengths q c (capped (whole_bytes lengths q c))
  to_compute = by_ways IsComputed (capped (whole_bytes lengths q c)) go
    where
      go : (way : PlainWay) → IsWay (among entries) q c way → IsComputed way → capped (whole_bytes lengths q c) ≤ capped (way_cost lengths q c way)
      go Scan k f = omega arith
      go (One r) k f = behind (cost lengths r) (whole_bytes lengths q c)
      go (Two l r) k f = behind (cost lengths l + cost lengths r) (whole_bytes lengths q c)
      go (Read hit) k f = absurd f
      go (Tail hit d) k f = absurd f
      go (LeftGrew hit d r) k f = absurd f
      go (RightGrew hit l d) k f = absurd f
      go (BothGrew hit l rd ld r) k f = absurd f

  pub to_grow : AreSound entries → (hit : Hit) → IsEarlier entries q c hit → CostAtLeast IsGrown entries lengths q c (capped (hit.len + new_bytes lengths q hit.cuts c))
  to_grow sound hit here = by_ways IsGrown (capped (hit.len + new_bytes lengths q hit.cuts c)) go
    where
      along : (n : ℕ) (h : Hit) → IsEarlier entries q c h → capped (h.len + new_bytes lengths q h.cuts c) ≤ n → capped (hit.len + new_bytes lengths q hit.cuts c) ≤ n
      along n h is = subst (λ z. capped (z.len + new_bytes lengths q z.cuts c) ≤ n) (one_earlier entries sound q c h hit is here)

      go : (way : PlainWay) → IsWay (among entries) q c way → IsGrown way → capped (hit.len + new_bytes lengths q hit.cuts c) ≤ capped (way_cost lengths q c way)
      go Scan k f = absurd f
      go (One r) k f = absurd f
      go (Two l r) k f = absurd f
      go (Read h) k f = absurd f
      go (Tail h d) k f = along _ h k.0 (around h.len (delta_cost lengths d) (new_bytes lengths q h.cuts c))
      go (LeftGrew h d r) k f = along _ h k.0 (around_two h.len (delta_cost lengths d) (cost lengths r) (new_bytes lengths q h.cuts c))
      go (RightGrew h l d) k f = along _ h k.0 (around_two h.len (cost lengths l) (delta_cost lengths d) (new_bytes lengths q h.cuts c))
      go (BothGrew h l rd ld r) k f = along _ h k.0 (around_four h.len (cost lengths l) (delta_cost lengths rd) (delta_cost lengths ld) (cost lengths r) (new_bytes lengths q h.cuts c))

  pub none_to_grow : (n : ℕ) → HasNone IsGrown entries q c → CostAtLeast IsGrown entries lengths q c n
  none_to_grow n none other k f = absurd (none other k f)

  pub more_to_compute : (n bytes : ℕ) → bytes ≡ capped (whole_bytes lengths q c) → n < bytes → CostMore IsComputed entries lengths q c n
  more_to_compute n bytes e below other k f = let most = to_compute other k f in omega arith

  pub read_is_least : (n bytes : ℕ) → IsEstimate IsRead entries lengths q c n → bytes ≡ capped (whole_bytes lengths q c) → n < bytes → CostAtLeast IsGrown entries lengths q c n →
      IsChoice entries lengths q c (record { form = form.Read; estimate = n; bytes = bytes })
  read_is_least n bytes l e below grown = record {
    of = l.of;
    least_of = l.least;
    estimate = l.estimate;
    bytes = e;
    least = λ other k. go other k (forms (way_in other));
    computed_first = λ other. more_to_compute n bytes e below;
    read_second = λ wrong. absurd (cc);
  }
    where
      go : (other : PlainRewriting) → IsRewriting (among entries) q c other → IsComputed (way_in other) ⊎ (IsRead (way_in other) ⊎ IsGrown (way_in other)) → n ≤ estimate_of lengths other
      go other k (inl f) = let most = to_compute other k f in omega arith
      go other k (inr (inl f)) = subst (λ m. m ≤ estimate_of lengths other) (sym l.estimate) (l.least.least other k f)
      go other k (inr (inr f)) = grown other k f
