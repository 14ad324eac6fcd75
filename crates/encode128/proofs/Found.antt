-- Encoding over rows of two words to an element, the rules up to 9 met: what is asked for the tests, and of the results that they found, is there. Assumes nothing.
use mathlib.Core.Path.{◌≡◌, sym, subst, ap, ◌∙◌}
use mathlib.Core.List.{List}
use Prim.Native.Nat.{ℕ, ◌+◌, ◌*◌, ◌/◌, ◌≤◌, min}
use native.Mathlib.Nat.{le_of_eq}
use native.Mathlib.Omega.{arith}
use lib.ListN.{length, take}
use lib.Dec.{lit<}
use lib.Ieee.{Float}
use Rattle.rules.specs.Rules.{accepted, in_order}
use Rattle.doubles.specs.Doubles.{power}
use Rattle.pine.specs.declared.PineParam.{PineParam}
use Rattle.pine.specs.declared.record.Pine.{Pine}
use Rattle.pine.specs.Record.{pine_of}
use Rattle.pine.proofs.Sizes.{scale_is}
use Rattle.rows.specs.Rows.{Below}
use Rattle.field128.specs.Field128.{p128, elements_of, words_of, Whole}
use Rattle.field128.proofs.Pairs.{same_number, whole_twice, elements_of_words}
use Rattle.doubles128.specs.Doubles128.{floor_limit128}
use Rattle.params128.specs.Field128.{Field128}
use Rattle.params128.proofs.Limits.{words_128}
use Rattle.flp.specs.Tests.{tests_of}
use Rattle.flp.specs.Encode.{elements, encode_rules, encode_of}
use Rattle.flp.proofs.Tests.{results_below}
use Rattle.measurement.specs.Parts.{Usable}
use Rattle.encode.specs.Late.{Rooms, late_of}
use Rattle.encode.proofs.Encoding.{Ready, fraction_is, ready, room, rooms, late_is}

module _ (i : PineParam) (g : List Float) (s m r found : List ℕ) (met : in_order (take 6 (encode_rules Field128 i g s m r)) ≡ accepted) (short : length found ≡ min (length r) 512) where
  abbrev per : ℕ
  per = (length g + 3) / 4

  pub met_rules : Ready Field128 i g s m r met
  met_rules = ready Field128 i g s m r met

  found_words : length found ≡ 2 * i.num_wr_tests
  found_words = omega (arith, short, met_rules.results_long, met_rules.tests)

  pub tests : length (elements_of found) ≡ i.num_wr_tests
  tests = (whole_twice found i.num_wr_tests found_words).1

  as_many : length (elements_of found) ≡ length (elements_of r)
  as_many = tests ∙ sym (whole_twice r i.num_wr_tests met_rules.results_long).1

  -- for the tests
  pub asked : (R : Pine) → R ≡ pine_of i → Usable floor_limit128 R.frac_bits g × ((R.scale ≡ power R.frac_bits) × (((length (elements_of found) * per ≤ length s) × ((length g ≤ 4 * per) × (per ≤ 16384))) × (Whole found × (length (elements_of found) ≤ 256))))
  asked R is =
      let w = room Field128 i g s m r met words_128 (length (elements_of found)) as_many in
      (subst (λ (f : ℕ). Usable floor_limit128 f g) (sym (fraction_is i R is)) met_rules.usable, (scale_is i R is, ((le_of_eq (w.whole ∙ sym met_rules.stream_long), (w.per.1, w.per.0.1)), ((whole_twice found i.num_wr_tests found_words).0, w.tests.1))))

  -- of their results
  module _ (f : ℕ) (f-is : f ≡ i.frac_bits) (row : List ℕ) (kept : length row ≡ length found) (is : row ≡ words_of (tests_of p128 per (length (elements_of found)) s (elements p128 f g))) where
    results : elements_of row ≡ tests_of p128 per (length (elements_of found)) s (elements p128 f g)
    results = ap elements_of is ∙ elements_of_words (tests_of p128 per (length (elements_of found)) s (elements p128 f g))

    pub below : Below p128 (elements_of row)
    below = results_below p128 (lit< tt) per (length (elements_of found)) s (elements p128 f g) (elements_of row) results

    pub exact : row ≡ words_of (elements_of row)
    exact = is ∙ ap words_of (sym results)

    pub room_for : Rooms Field128 i g (elements_of row) m r
    room_for = rooms Field128 i g s m r met words_128 (elements_of row) (same_number row found kept ∙ as_many)

    pub whole : late_of Field128 i g (elements_of row) m r ≡ encode_of Field128 i g s m r
    whole = late_is Field128 i g s m r met words_128 (elements_of row) (length (elements_of found)) f as_many f-is results
