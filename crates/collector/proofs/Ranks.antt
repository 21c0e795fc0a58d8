-- The order of entries that can be ranked.
use Rattle.std.proofs.Common.{◌≢◌, ℕ, ◌*◌, ◌<◌, ◌⊎◌, inl, inr, arith}
use Rattle.std.specs.Ordering.{MatchOrdering}
use Rattle.std.specs.declared.cmp.Ordering.{Ordering}
use Rattle.std.specs.declared.cmp.Ordering.TheVariants.{Less, Equal, Greater}
use Rattle.std.proofs.Math.Nat.{mul-lt-mul_of_pos_left}
use Rattle.catalog_types.specs.PlainEntry.{PlainEntry}
use Rattle.collector.specs.Ratio.{CanBeRanked, GoesBefore, used_time}
use Rattle.collector.specs.Standing.{standing_of, standing_cmp}
use Rattle.collector.proofs.Orders.{Ties, before_itself, before_further, cmp_says}

pub some_time : (now : ℕ) (e : PlainEntry) → CanBeRanked now e → 0 < used_time e
some_time now e can =
    let more : e.uses * 0 < e.uses * e.machine = mul-lt-mul_of_pos_left can.worked can.used in
    omega (arith, more)

pub not_before_itself : (now : ℕ) (e : PlainEntry) → GoesBefore now e e → ⊥
not_before_itself now e is = before_itself (standing_of now e) is

pub goes_further : (now : ℕ) (e f g : PlainEntry) → CanBeRanked now e → CanBeRanked now f → CanBeRanked now g → GoesBefore now e f → GoesBefore now f g → GoesBefore now e g
goes_further now e f g a b c = before_further (standing_of now e) (standing_of now f) (standing_of now g) (some_time now e a) (some_time now f b) (some_time now g c)

-- of two entries with other ids one goes first
pub one_goes : (now : ℕ) (e f : PlainEntry) → e.id ≢ f.id → GoesBefore now e f ⊎ GoesBefore now f e
one_goes now e f apart = by (standing_cmp (standing_of now e) (standing_of now f)) (cmp_says (standing_of now e) (standing_of now f))
  where
    by : (r : Ordering) → MatchOrdering r (GoesBefore now e f) (Ties (standing_of now e) (standing_of now f)) (GoesBefore now f e) → GoesBefore now e f ⊎ GoesBefore now f e
    by Less h = inl h
    by Equal h = absurd (apart h.1)
    by Greater h = inr h
