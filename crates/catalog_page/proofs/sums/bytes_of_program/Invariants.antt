-- The bytes so far are of the results so far, each of which fits 64 bits.
use Rattle.std.proofs.Common.{◌≡◌, ◌≤◌, ◌*◌, map, take}
use Rattle.catalog_page.specs.Page.{bytes_where, has_key}
use Rattle.catalog_page.specs.Plain.{kept_of}
use Rattle.catalog_page.proofs.sums.bytes_of_program.Given as goal

abbrev pub invariant-loop-kept : goal.invariant-loop-kept
invariant-loop-kept l = record {
  sum : l.bytes ≡ bytes_where (has_key l.key) (map kept_of (take l.kept-index l.results));
  most : l.bytes ≤ l.kept-index * 18446744073709551616;
}
