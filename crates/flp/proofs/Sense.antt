-- The definitions are what they are called: the parts make up the vector, a result in range is one that w bits hold, and where every test is in range the first k success bits are 1. Assumes nothing.
use mathlib.Core.Path.{◌≡◌, refl, sym, ◌∙◌}
use mathlib.Core.Bool.{Bool, true, false, cond, ◌||◌}
use mathlib.Core.List.{List, [], ◌∷◌, ◌++◌}
use Prim.Native.Nat.{ℕ, zero, suc, ◌+◌, ◌-◌, ◌*◌, ◌≤◌, ◌<◌}
use native.Mathlib.Nat.{mod-eq_of_lt}
use native.Mathlib.Omega.{arith}
use lib.ListN.{length, take, drop, length-drop, take-append-drop}
use lib.Seq.{drop-drop, take_all}
use lib.Dec.{ltb, leb}
use borrow.Author.Tests.{leb-true, leb-false, ltb-true, ltb-false, lt-leb, le-leb}
use Rattle.rules.specs.Rules.{answer}
use Rattle.field64.specs.Field.{add_mod}
use Rattle.pine.specs.declared.PineParam.{PineParam}
use Rattle.pine.specs.Record.{bit_checked_len_of, encoded_input_len_of, input_len_of}
use Rattle.flp.specs.Bits.{bits}
use Rattle.flp.specs.Encode.{in_range, success, still_to_give, test_bits, every_rule}
use Rattle.flp.specs.Circuits.{gradient_part, checked_part, results_part}
use Rattle.flp.proofs.Circuits.{shift_low, shift_high}

-- the three parts make up a full vector
pub parts_whole : (i : PineParam) (full : List ℕ) → length full ≡ input_len_of i → gradient_part i full ++ (checked_part i full ++ results_part i full) ≡ full
unfolding gradient_part checked_part results_part input_len_of encoded_input_len_of
parts_whole i full e =
    let d = i.dimension in
    let l = bit_checked_len_of i in
    let rest : take i.num_wr_tests (drop (d + l) full) ≡ drop l (drop d full) = take_all i.num_wr_tests (drop (d + l) full) (simp length-drop (omega arith)) ∙ sym (drop-drop l d full) in
    rw (rest, take-append-drop l (drop d full), take-append-drop d full)

-- in range: result + b - 1 in the field is at most 2b - 1
module _ (p b : ℕ) (fits : 2 * b ≤ p) (some : 0 < b) where
  shift_between : (r : ℕ) → r + b ≤ p → add_mod p r (b - 1) ≡ r + (b - 1)
  shift_between r h = mod-eq_of_lt (omega arith)

  pub range_is : (r : ℕ) → r < p → in_range p b r ≡ leb (add_mod p r (b - 1)) (2 * b - 1)
  range_is r l = go (leb r b) (ltb p (r + b)) refl refl
    where
      go : (s t : Bool) → leb r b ≡ s → ltb p (r + b) ≡ t → (s || t) ≡ leb (add_mod p r (b - 1)) (2 * b - 1)
      go true t m n = sym (le-leb (add_mod p r (b - 1)) (2 * b - 1) (omega (arith, shift_low p b fits some r (leb-true r b m))))
      go false true m n = sym (le-leb (add_mod p r (b - 1)) (2 * b - 1) (omega (arith, shift_high p b fits some r l (ltb-true p (r + b) n))))
      go false false m n = sym (lt-leb (add_mod p r (b - 1)) (2 * b - 1) (omega (arith, shift_between r (ltb-false p (r + b) n), leb-false r b m)))

-- the test bits where every test is in range: per test w bits of result + b - 1, then one success bit, 1 for the first k tests
abbrev pub success_of_first : (k : ℕ) → ℕ
success_of_first zero = 0
success_of_first (suc k) = 1

abbrev pub bits_of_all : (p w b k : ℕ) → List ℕ → List ℕ
bits_of_all p w b k [] = []
bits_of_all p w b k (r ∷ rs) = bits w (add_mod p r (b - 1)) ++ (success_of_first k ∷ bits_of_all p w b (k - 1) rs)

first_success : (k : ℕ) → success true k ≡ success_of_first k
first_success zero = refl
first_success (suc k) = refl

-- rule 11 passed
pub every_bits : (p w b k t : ℕ) (rs : List ℕ) → (every_rule p b t rs).number ≡ 0 → test_bits p w b k rs ≡ bits_of_all p w b k rs
unfolding every_rule test_bits
every_bits p w b k t [] e = refl
every_bits p w b k t (r ∷ rs) e = go (in_range p b r) e (λ h. every_bits p w b (k - 1) (suc t) rs h)
  where
    go : (hit : Bool) → (cond hit (every_rule p b (suc t) rs) (answer 11 t)).number ≡ 0 → ((every_rule p b (suc t) rs).number ≡ 0 → test_bits p w b (k - 1) rs ≡ bits_of_all p w b (k - 1) rs)
        → bits w (cond hit (add_mod p r (b - 1)) 0) ++ (success hit k ∷ test_bits p w b (still_to_give hit k) rs) ≡ bits w (add_mod p r (b - 1)) ++ (success_of_first k ∷ bits_of_all p w b (k - 1) rs)
    go true e more = λ j. bits w (add_mod p r (b - 1)) ++ (first_success k j ∷ more e j)
    go false e more = absurd (omega arith)
