-- The rounds, one after the other. Assumes nothing.
use mathlib.Core.Path.{◌≡◌, refl, ap, ◌∙◌}
use mathlib.Core.List.{List, [], ◌∷◌, ◌++◌}
use Prim.Native.Nat.{ℕ}
use lib.ListN.{length}
use Rattle.keccak.specs.Keccak.{round_of, each, round_constants, keccak_p}
use Rattle.keccak.specs.Halves.{first_half, second_half}

-- the two halves are the round
halves_are : (begun r s : List ℕ) (rc : ℕ) → begun ≡ first_half rc s → r ≡ second_half s begun → r ≡ round_of rc s
unfolding round_of
halves_are begun r s rc e f = f ∙ ap (second_half s) e

-- a round more, after those that gave s
pub round_more : (before s begun r : List ℕ) (rc : ℕ) → s ≡ before → begun ≡ first_half rc s → r ≡ second_half s begun → r ≡ round_of rc before
round_more before s begun r rc e f g = halves_are begun r s rc f g ∙ ap (round_of rc) e

-- all twelve
pub rounds_are : (s r : List ℕ) → r ≡ each round_of round_constants s → r ≡ keccak_p s
unfolding keccak_p
rounds_are s r e = e

-- 25 lanes come out
round_length : (rc : ℕ) (s : List ℕ) → length (round_of rc s) ≡ 25
unfolding round_of
round_length rc s = refl

pub keccak_length : (s : List ℕ) → length (keccak_p s) ≡ 25
unfolding keccak_p
keccak_length s = round_length _ _

pub each_append : {A S : Type 0} (f : A → S → S) (xs ys : List A) (s : S) → each f (xs ++ ys) s ≡ each f ys (each f xs s)
each_append f [] ys s = refl
each_append f (x ∷ xs) ys s = each_append f xs ys (f x s)
