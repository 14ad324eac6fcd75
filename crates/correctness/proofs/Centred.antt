-- Sums of whole numbers modulo p, read back. Assumes nothing.
use mathlib.Core.Path.{◌≡◌, refl, sym, ap, ◌∙◌}
use mathlib.Core.Bool.{Bool, true, false, cond}
use Prim.Native.Nat.{ℕ, suc, ◌+◌, ◌-◌, ◌/◌, ◌%◌, ◌≤◌, ◌<◌}
use native.Mathlib.Nat.{zero-mod, mod-eq_of_lt, mod-eq-sub-mod, add-zero}
use native.Mathlib.Omega.{arith}
use lib.Dec.{ltb}
use lib.IntN.{ℤ, pos, negsuc, nat_abs, sub_ℕ, ◌+ℤ◌}
use borrow.Author.Tests.{ltb-true, ltb-false, lt-ltb, le-ltb}
use Rattle.field64.proofs.Modular.{add_both, cancel}
use Rattle.doubles.specs.Doubles.{mod_p}
use Rattle.doubles.proofs.Sense.{mod_p_below}
use Rattle.doubles.proofs.Parts.{plus, minus, mod_p_parts}
use Rattle.correctness.proofs.Cut.{centred_number}

sub_parts : (a b : ℕ) → plus (sub_ℕ a b) + b ≡ minus (sub_ℕ a b) + a
sub_parts a b = go (ltb a b) refl
  where
    go : (t : Bool) → ltb a b ≡ t → plus (cond t (negsuc (b - suc a)) (pos (a - b))) + b ≡ minus (cond t (negsuc (b - suc a)) (pos (a - b))) + a
    go true e = omega (arith, ltb-true a b e)
    go false e = omega (arith, ltb-false a b e)

pub sum_parts : (x y : ℤ) → plus (x +ℤ y) + (minus x + minus y) ≡ minus (x +ℤ y) + (plus x + plus y)
sum_parts (pos a) (pos b) = omega arith
sum_parts (pos a) (negsuc b) = omega (arith, sub_parts a (suc b))
sum_parts (negsuc a) (pos b) = omega (arith, sub_parts b (suc a))
sum_parts (negsuc a) (negsuc b) = omega arith

module _ (p : ℕ) (positive : 0 < p) where
  pub sum_parts_mod : (w W : ℕ) (z Z : ℤ) → (w + minus z) % p ≡ plus z % p → (W + minus Z) % p ≡ plus Z % p → ((w + W) + minus (z +ℤ Z)) % p ≡ plus (z +ℤ Z) % p
  sum_parts_mod w W z Z e f =
      let s = z +ℤ Z in
      let q : ((w + W) + minus s) + (plus z + plus Z) ≡ plus s + ((w + minus z) + (W + minus Z)) = omega (arith, sum_parts z Z) in
      cancel p positive _ _ (plus z + plus Z) (ap (λ (n : ℕ). n % p) q ∙ add_both p (plus s) (plus s) _ _ refl (add_both p _ _ _ _ e f))

  back : (y m : ℕ) → y < p → 0 < m → m < p → (y + m) % p ≡ 0 → y ≡ p - m
  back y m h k l e = go (ltb (y + m) p) refl
    where
      go : (t : Bool) → ltb (y + m) p ≡ t → y ≡ p - m
      go true t =
          let g : y + m < p = ltb-true _ _ t in
          absurd (omega (arith, sym (mod-eq_of_lt g) ∙ e))
      go false t =
          let g : p ≤ y + m = ltb-false _ _ t in
          let i : (y + m) - p < p = omega arith in
          omega (arith, sym (mod-eq_of_lt i) ∙ sym (mod-eq-sub-mod g) ∙ e)

  -- a field number that is Z modulo p reads as Z, if that is within (p - 1) / 2 of zero
  pub reads_as : (y : ℕ) (Z : ℤ) → y < p → (y + minus Z) % p ≡ plus Z % p → nat_abs Z ≤ (p - 1) / 2 → centred_number p y ≡ Z
  reads_as y (pos n) l e h =
      let q : y ≡ n = sym (mod-eq_of_lt l) ∙ rw add-zero at e ∙ mod-eq_of_lt (omega arith) in
      rw (q, le-ltb ((p - 1) / 2) n h)
  reads_as y (negsuc n) l e h =
      let q : y ≡ p - suc n = back y (suc n) l (omega arith) (omega arith) (e ∙ zero-mod p) in
      let k : p - (p - suc n) ≡ suc n = omega arith in
      rw (q, lt-ltb ((p - 1) / 2) (p - suc n) (omega arith), k)

  -- and it is Z modulo p, whatever Z is
  pub same_residue : (y : ℕ) (Z : ℤ) → y < p → (y + minus Z) % p ≡ plus Z % p → y ≡ mod_p p Z
  same_residue y Z l e =
      sym (mod-eq_of_lt l) ∙ cancel p positive y (mod_p p Z) (minus Z) (e ∙ sym (mod_p_parts p positive Z)) ∙ mod-eq_of_lt (mod_p_below p positive Z)
