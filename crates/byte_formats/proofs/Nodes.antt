-- A node is its tag, and what stands behind this tag.
use Rattle.std.proofs.Common.{◌≡◌, ℕ, List, Ok, Err, refl, ap, ◌∙◌}
use Rattle.byte_formats.specs.Reading.{◌>>=◌, Read}
use Rattle.byte_formats.specs.Format.{Format, read_as, made_reading, ◌▷◌}

module _ {T B : Type 0} {P : T → Type 0} (tag : Format T) (fields : (t : T) → Format (P t)) (make : (t : T) → P t → B) where
  abbrev pub read_node : List ℕ → Read B
  read_node = (made_reading (λ (p : (t : T) × P t). make p.0 p.1) (tag ▷ fields)).read

  abbrev pub read_behind : T → List ℕ → Read B
  read_behind t bytes = read_as (make t) ((fields t).read bytes)

  abbrev paired : (t : T) → Read (P t) → Read ((t : T) × P t)
  paired t r = r >>= λ b. Ok ((t, b.0), b.1)

  abbrev made_of : Read ((t : T) × P t) → Read B
  made_of r = read_as (λ (p : (t : T) × P t). make p.0 p.1) r

  joined : (t : T) (r : Read (P t)) → made_of (paired t r) ≡ read_as (make t) r
  joined t (Ok b) = refl
  joined t (Err left) = refl

  pub node_reads : (t : T) (bytes rest : List ℕ) → tag.read bytes ≡ Ok (t, rest) → read_node bytes ≡ read_behind t rest
  node_reads t bytes rest e = ap (λ (r : Read T). made_of (r >>= λ a. paired a.0 ((fields a.0).read a.1))) e ∙ joined t ((fields t).read rest)

  pub node_stops : (bytes : List ℕ) (left : ℕ) → tag.read bytes ≡ Err left → read_node bytes ≡ Err left
  node_stops bytes left e = ap (λ (r : Read T). made_of (r >>= λ a. paired a.0 ((fields a.0).read a.1))) e
