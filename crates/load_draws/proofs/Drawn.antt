-- The state and what is drawn from it. Assumes nothing.
use mathlib.Core.Path.{◌≡◌, refl, sym, ap, ◌∙◌}
use mathlib.Core.List.{List, ◌∷◌, map}
use Prim.Native.Nat.{ℕ, zero, suc, ◌+◌, ◌-◌, ◌%◌, ◌≤◌, ◌<◌}
use native.Mathlib.Omega.{arith}
use native.Mathlib.Numerals.{add-one}
use lib.ListN.{length, get_or, take, drop, length-map, get_or-map}
use lib.IntN.{pos}
use lib.Ieee.{binary64, of_int, neg, div}
use borrow.Author.Tests.{le-leb, lt-leb}
use Rattle.doubles.specs.Doubles.{power}
use Rattle.doubles.proofs.Laws.{round_neg}
use Rattle.load_draws.specs.Draws.{step, states, coordinate, stream_byte, gradient_of, stream_of, after}

pub length_states : (n x : ℕ) → length (states n x) ≡ n
unfolding states
length_states zero x = refl
length_states (suc n) x = ap suc (length_states n (step x))

pub after_next : (n x : ℕ) → after (n + 1) x ≡ step (after n x)
unfolding after
after_next zero x = refl
after_next (suc n) x = rw add-one (rw add-one at (after_next n (step x)))

-- the state that draw i uses
pub states_at : (n x i : ℕ) → i < n → get_or (states n x) i 0 ≡ after (i + 1) x
unfolding states after
states_at zero x i h = absurd (omega arith)
states_at (suc n) x zero h = refl
states_at (suc n) x (suc i) h = rw add-one (rw add-one at (states_at n (step x) i (omega arith)))

-- the first d, and those after them
pub first_states : (d n x : ℕ) → take d (states (d + n) x) ≡ states d x
unfolding states
first_states zero n x = refl
first_states (suc d) n x = let e : suc d + n ≡ suc (d + n) = omega arith in rw e (ap (λ (l : List ℕ). step x ∷ l) (first_states d n (step x)))

pub later_states : (d n x : ℕ) → drop d (states (d + n) x) ≡ states n (after d x)
unfolding states after
later_states zero n x = let e : 0 + n ≡ n = omega arith in rw e
later_states (suc d) n x = let e : suc d + n ≡ suc (d + n) = omega arith in rw e (later_states d n (step x))

-- ---- a row of draws

module _ {A : Type 0} (draw : ℕ → A) (n x : ℕ) where
  pub length_drawn : length (map draw (states n x)) ≡ n
  length_drawn = length-map (states n x) draw ∙ length_states n x

  pub drawn_at : (i s : ℕ) → i < n → s ≡ after i x → draw (step s) ≡ get_or (map draw (states n x)) i (draw 0)
  drawn_at i s h e = ap draw (ap step e ∙ sym (after_next i x) ∙ sym (states_at n x i h)) ∙ sym (get_or-map draw (states n x) i 0)

pub gradient_drawn : (seed d n : ℕ) → map coordinate (states d seed) ≡ gradient_of seed d n
gradient_drawn seed d n = ap (map coordinate) (sym (first_states d n seed))

pub stream_drawn : (seed d n : ℕ) → map stream_byte (states n (after d seed)) ≡ stream_of seed d n
stream_drawn seed d n = ap (map stream_byte) (sym (later_states d n seed))

-- ---- a coordinate

module _ (x : ℕ) where
  pub coordinate_below : x % 65536 < 32768 → div binary64 (neg (of_int binary64 (pos (32768 - x % 65536)))) (power 16) ≡ coordinate x
  unfolding coordinate of_int
  coordinate_below h =
      let e : 32768 - x % 65536 ≡ suc (32768 - suc (x % 65536)) = omega arith in
      rw (lt-leb 32768 (x % 65536) h, e, round_neg)

  pub coordinate_above : 32768 ≤ x % 65536 → div binary64 (of_int binary64 (pos (x % 65536 - 32768))) (power 16) ≡ coordinate x
  unfolding coordinate
  coordinate_above h = rw (le-leb 32768 (x % 65536) h)
