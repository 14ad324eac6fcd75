-- A number is joined to an element a modulo p where it is below p, or else modulo 2 ^ 128, and parted from it again. Assumes nothing.
use Rattle.std.proofs.Common.{◌≡◌, ℕ, ◌+◌, ◌%◌, ◌^◌, ◌<◌, Bool, true, false, cond, ltb, sym, refl, ◌∙◌, lt_of_lt_of_le, mod-eq_of_lt, arith, lit<, lit≤, ltb-true}
use native.Mathlib.Nat.{mod-mod}
use lib.Arith.{digits_lt}
use Rattle.field64.specs.Field.{add_mod, sub_mod}
use Rattle.field64.proofs.Modular.{sub_is}
use Rattle.field128.specs.Field128.{p128, number}
use Rattle.field128.specs.Joined.{joined, parted}

pub word_pair : (l h : ℕ) → l < 2 ^ 64 → h < 2 ^ 64 → number l h < 2 ^ 128
word_pair l h k m = digits_lt m k

-- the way back, modulo q
back : (q a b : ℕ) → 0 < q → a < q → b < q → sub_mod q (add_mod q a b % q) b ≡ a
back q a b z la lb = sub_is q z (add_mod q a b % q) b a (omega arith) (sym (mod-mod (add_mod q a b) q ∙ mod-mod (a + b) q)) ∙ mod-eq_of_lt la

pub parted_is : (a b : ℕ) → a < p128 → b < 2 ^ 128 → parted (joined a b) b ≡ a
parted_is a b la lb = go (ltb b p128) refl
  where
    go : (t : Bool) → ltb b p128 ≡ t → sub_mod (cond t p128 (2 ^ 128)) (add_mod (cond t p128 (2 ^ 128)) a b % cond t p128 (2 ^ 128)) b ≡ a
    go true e = back p128 a b (lit< tt) la (ltb-true b p128 e)
    go false e = back (2 ^ 128) a b (lit< tt) (lt_of_lt_of_le la (lit≤ tt)) lb
