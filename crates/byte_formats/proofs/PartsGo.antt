-- What begins a spelling of a part that may be absent, of items in order, of bytes as they are, or of a value behind its
-- length is the front of one.
use Rattle.std.proofs.Common.{◌≡◌, ℕ, zero, suc, ◌-◌, ◌^◌, ◌<◌, Bool, true, false, List, [], ◌∷◌, ◌++◌, length, Option, Some, None, refl, sym, ap, subst, ◌∙◌, arith}
use Rattle.std.specs.Int.{w32, w64, to_be_bytes}
use Rattle.std.proofs.lemmas.List.{append-nil, length-append}
use Rattle.byte_formats.specs.Format.{Format, flag, ◌▷◌, u32, u64, FitsChain, chain_spelling, chain, counted_chain, empty, Part, part, option_of, FitsOption, option_spelling, optional, run, digest, sized, exactly}
use Rattle.byte_formats.proofs.Fields.{wide64}
use Rattle.byte_formats.proofs.Goes.{Goes, zeros, length-zeros, number_goes, u32_goes, flag_goes, both_goes, made_goes}

pub u64_goes : Goes u64 (λ n. n < 2 ^ 64)
u64_goes = number_goes w64 (2 ^ 64) (omega arith) wide64

-- ---- bytes as they are

pub run_goes : (n : ℕ) → Goes (run n) (λ bytes. length bytes ≡ n)
run_goes n = record {
  some = zeros n;
  some_fits = length-zeros n;
  tight = λ bytes fits. fits;
  goes = λ front wide begins.
      let rest = zeros (n - length front) in
      record { value = front ++ rest; fits = length-append front rest ∙ (let l = length-zeros (n - length front) in omega arith); more = rest; spelled = refl };
}

pub digest_goes : Goes digest (λ digest. length digest.bytes ≡ 32)
digest_goes =
    made_goes (λ (bytes : List ℕ). record { bytes = bytes }) (λ digest. length digest.bytes ≡ 32) (λ digest. digest.bytes) (run 32) (λ bytes. length bytes ≡ 32) (λ digest. length digest.bytes ≡ 32) (run_goes 32)
    (λ bytes fits. (fits, refl)) (λ digest fits. fits)

pub sized_goes : Goes sized (λ bytes. length bytes < 2 ^ 32)
sized_goes =
    made_goes (λ (p : ℕ × List ℕ). p.1) (λ bytes. length bytes < 2 ^ 32) (λ bytes. to_be_bytes w32 (length bytes) ++ bytes) (u32 ▷ run) (λ p. (p.0 < 2 ^ 32) × (length p.1 ≡ p.0)) (λ bytes. length bytes < 2 ^ 32)
    (both_goes u32 run (λ n. n < 2 ^ 32) (λ n bytes. length bytes ≡ n) u32_goes (λ n fits. run_goes n))
    (λ p fits. (subst (λ (m : ℕ). m < 2 ^ 32) (sym fits.1) fits.0, ap (λ (m : ℕ). to_be_bytes w32 m ++ p.1) fits.1)) (λ bytes fits. fits)

-- ---- a part that may be absent

pub empty_goes : Goes empty (λ u. Unit {0})
empty_goes = record {
  some = tt;
  some_fits = tt;
  tight = λ u fits. tt;
  goes = λ front wide begins. record { value = tt; fits = tt; more = []; spelled = sym (append-nil front ∙ begins) };
}

abbrev pub LooseOption : {A : Type 0} → (A → Type 0) → Option A → Type 0
LooseOption Loose None = Unit {0}
LooseOption Loose (Some a) = Loose a

abbrev LoosePart : {A : Type 0} → (A → Type 0) → (there : Bool) → Part A there → Type 0
LoosePart Loose true a = Loose a
LoosePart Loose false u = Unit {0}

module _ {A : Type 0} (item : Format A) (Loose : A → Type 0) (ig : Goes item Loose) where
  part_goes : (there : Bool) → Goes (part item there) (LoosePart Loose there)
  part_goes true = ig
  part_goes false = empty_goes

  loose_to : (there : Bool) (a : Part A there) → LoosePart Loose there a → LooseOption Loose (option_of there a) × (option_spelling item (option_of there a) ≡ (flag ▷ part item).spell (there, a))
  loose_to true a fits = (fits, refl)
  loose_to false a fits = (tt, refl)

  loose_option : (o : Option A) → FitsOption item o → LooseOption Loose o
  loose_option None fits = tt
  loose_option (Some a) fits = ig.tight a fits

  pub optional_goes : Goes (optional item) (LooseOption Loose)
  optional_goes =
      made_goes (λ (p : (there : Bool) × Part A there). option_of p.0 p.1) (FitsOption item) (option_spelling item) (flag ▷ part item) (λ p. flag.Fits p.0 × LoosePart Loose p.0 p.1) (LooseOption Loose)
      (both_goes flag (part item) flag.Fits (LoosePart Loose) flag_goes (λ there fits. part_goes there)) (λ p fits. loose_to p.0 p.1 fits.1) loose_option

-- ---- items in order

abbrev pub LooseChain : {A S : Type 0} → (S → A → Type 0) → (S → A → S) → S → List A → Type 0
LooseChain Loose next state [] = Unit {0}
LooseChain Loose next state (a ∷ items) = Loose state a × LooseChain Loose next (next state a) items

module _ {A S : Type 0} (item : S → Format A) (next : S → A → S) (Loose : S → A → Type 0) (ig : (s : S) → Goes (item s) (Loose s)) where
  all_tight : (s : S) (items : List A) → FitsChain item next s items → LooseChain Loose next s items
  all_tight s [] fits = tt
  all_tight s (x ∷ items) fits = ((ig s).tight x fits.0, all_tight (next s x) items fits.1)

  abbrev Loosely : ℕ → S → List A → Type 0
  Loosely n s items = (length items ≡ n) × LooseChain Loose next s items

  pub chain_goes : (n : ℕ) (s : S) → Goes (chain item next n s) (Loosely n s)
  chain_goes zero s = record {
    some = [];
    some_fits = (refl, tt);
    tight = λ items fits. (fits.0, all_tight s items fits.1);
    goes = λ front wide begins. record { value = []; fits = (refl, tt); more = []; spelled = sym (append-nil front ∙ begins) };
  }
  chain_goes (suc n) s =
      let two = both_goes (item s) (λ a. chain item next n (next s a)) (Loose s) (λ a. Loosely n (next s a)) (ig s) (λ a fits. chain_goes n (next s a)) in
      record {
        some = two.some.0 ∷ two.some.1;
        some_fits = (ap suc two.some_fits.1.0, (two.some_fits.0, two.some_fits.1.1));
        tight = λ items fits. (fits.0, all_tight s items fits.1);
        goes = λ front wide begins.
            let p = two.goes front wide begins in
            let f = p.fits in
            record { value = p.value.0 ∷ p.value.1; fits = (ap suc f.1.0, (f.0, f.1.1)); more = p.more; spelled = p.spelled };
      }

  module _ (count : Format ℕ) (cg : Goes count count.Fits) (s : S) where
    pub counted_chain_goes : Goes (counted_chain count item next s) (λ items. count.Fits (length items) × LooseChain Loose next s items)
    counted_chain_goes =
        made_goes (λ (p : ℕ × List A). p.1) (λ items. count.Fits (length items) × FitsChain item next s items) (λ items. count.spell (length items) ++ chain_spelling item next s items) (count ▷ λ n. chain item next n s)
        (λ p. count.Fits p.0 × Loosely p.0 s p.1) (λ items. count.Fits (length items) × LooseChain Loose next s items)
        (both_goes count (λ n. chain item next n s) count.Fits (λ n. Loosely n s) cg (λ n fits. chain_goes n s))
        (λ p fits. ((subst count.Fits (sym fits.1.0) fits.0, fits.1.1), ap (λ (n : ℕ). count.spell n ++ chain_spelling item next s p.1) fits.1.0))
        (λ items fits. (fits.0, all_tight s items fits.1))

-- ---- a value behind the length of its spelling: the length counts only where it is broken

module _ {A : Type 0} (format : Format A) (Loose : A → Type 0) (fg : Goes format Loose) where
  pub exactly_goes : (n : ℕ) → Goes (exactly n format) Loose
  exactly_goes n = record {
    some = fg.some;
    some_fits = fg.some_fits;
    tight = λ a fits. fg.tight a fits.0;
    goes = λ front wide begins. (let g = fg.goes front wide begins.1 in record { value = g.value; fits = g.fits; more = g.more; spelled = g.spelled });
  }

  -- the length in front and the value, which may be of another length
  pub measured_goes : Goes (u32 ▷ λ n. exactly n format) (λ p. (p.0 < 2 ^ 32) × Loose p.1)
  measured_goes = both_goes u32 (λ n. exactly n format) (λ n. n < 2 ^ 32) (λ n. Loose) u32_goes (λ n fits. exactly_goes n)
