-- The test of numbers in i64: lemmas, which the crates above cite.
use Rattle.std.proofs.Common.{◌≡◌, ◌^◌, ◌<◌, ℤ, pos, negsuc, true, FitsSigned, w64, arith}
use Rattle.std.proofs.lemmas.Bool.Decides.{nat_tests}
use Rattle.scalar_ops.specs.Meaning.{fits_i64}

pub fits_i64-true : (z : ℤ) → fits_i64 z ≡ true → FitsSigned w64 z
fits_i64-true (pos n) e = let below : n < 2 ^ 63 = grind (arith, nat_tests) in record { sfits = omega arith }
fits_i64-true (negsuc n) e = let below : n < 2 ^ 63 = grind (arith, nat_tests) in record { sfits = omega arith }

pub fits_i64-fits : (z : ℤ) → FitsSigned w64 z → fits_i64 z ≡ true
fits_i64-fits (pos n) f = let below : n < 2 ^ 63 = omega (arith, f.sfits) in grind (arith, nat_tests)
fits_i64-fits (negsuc n) f = let below : n < 2 ^ 63 = omega (arith, f.sfits) in grind (arith, nat_tests)
