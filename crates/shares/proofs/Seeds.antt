-- The five seeds, the helper's values, and the row of the seeds given. Assumes nothing.
use mathlib.Core.Path.{◌≡◌, sym, ap, ap₂, subst, ◌∙◌}
use mathlib.Core.List.{List, [], ◌∷◌, ◌++◌, append-nil}
use Prim.Native.Nat.{ℕ, zero, suc, ◌-◌, ◌*◌, ◌≤◌}
use native.Mathlib.Omega.{arith}
use lib.ListN.{length, take, drop, length-append, length-drop, drop_of_length-le}
use lib.Seq.{take_at, take-take, length-take-le}
use lib.Dec.{ltb, lit<}
use borrow.Author.Tests.{ltb-false}
use Rattle.rules.specs.Rules.{accepted}
use Rattle.rules.proofs.Chain.{none, not_so}
use Rattle.rows.specs.Rows.{Below}
use Rattle.rows.proofs.Elements.{below_take}
use Rattle.turboshake.specs.declared.Sponge.{Sponge}
use Rattle.turboshake.specs.TurboShake.{Bytes}
use Rattle.turboshake.specs.Stream.{drawn, stream_of}
use Rattle.xof.specs.Xof.{algorithm_id, dst, before_binder}
use Rattle.xof.proofs.Frame.{drawn_is}
use Rattle.sampler.specs.declared.Draws.{Draws}
use Rattle.sampler.specs.Sampler.{draw_limit, values_of, sampled, draws_rule}
use Rattle.sampler.specs.Drawing.{to_come, DrewRow}
use Rattle.sampler.proofs.Values.{values_below}
use Rattle.shares.specs.Shares.{seed_at, helper_stream}

-- ---- the five seeds

bytes_take : (n : ℕ) (bs : List ℕ) → Bytes bs → Bytes (take n bs)
bytes_take zero bs f = tt
bytes_take (suc n) [] f = tt
bytes_take (suc n) (b ∷ bs) f = (f.0, bytes_take n bs f.1)

bytes_drop : (n : ℕ) (bs : List ℕ) → Bytes bs → Bytes (drop n bs)
bytes_drop zero bs f = f
bytes_drop (suc n) [] f = tt
bytes_drop (suc n) (b ∷ bs) f = bytes_drop n bs f.1

pub seed_bytes : (k : ℕ) (seeds : List ℕ) → Bytes seeds → Bytes (seed_at k seeds)
seed_bytes k seeds f = bytes_take 16 (drop (16 * k) seeds) (bytes_drop (16 * k) seeds f)

-- ---- the helper's values

pub stream_is : (seeds seed : List ℕ) (r : Sponge) → Bytes seeds → seed ≡ seed_at 0 seeds → r ≡ stream_of (before_binder seed (dst algorithm_id 1) ++ (1 ∷ [])) 1 → (n : ℕ) → drawn (8 * draw_limit n) r ≡ helper_stream n seeds
unfolding helper_stream
stream_is seeds seed r f e is n =
    ap (drawn (8 * draw_limit n)) (is ∙ ap (λ (s : List ℕ). stream_of (before_binder s (dst algorithm_id 1) ++ (1 ∷ [])) 1) e)
    ∙ drawn_is (seed_at 0 seeds) 1 (1 ∷ []) (8 * draw_limit n) (seed_bytes 0 seeds f) (lit< tt, tt)

-- where rule 18 is met, there are enough
pub rule_met : (p n : ℕ) (bytes : List ℕ) → (draws_rule p n bytes).number ≡ 0 → draws_rule p n bytes ≡ accepted
unfolding draws_rule
rule_met p n bytes e = rw (not_so (ltb (length (values_of p (draw_limit n) bytes)) n) 17 0 e)

pub enough : (p n : ℕ) (bytes : List ℕ) → draws_rule p n bytes ≡ accepted → n ≤ length (values_of p (draw_limit n) bytes)
unfolding draws_rule
enough p n bytes e = ltb-false (length (values_of p (draw_limit n) bytes)) n (not_so (ltb (length (values_of p (draw_limit n) bytes)) n) 17 0 (none e))

module _ (p n : ℕ) (bytes : List ℕ) (met : draws_rule p n bytes ≡ accepted) where
  pub sampled_long : length (sampled p n bytes) ≡ n
  unfolding sampled
  sampled_long = length-take-le n (values_of p (draw_limit n) bytes) (enough p n bytes met)

  pub sampled_below : Below p (sampled p n bytes)
  unfolding sampled
  sampled_below = below_take p n (values_of p (draw_limit n) bytes) (values_below p (draw_limit n) bytes)

  -- those of a stream that gives these bytes
  module _ (s : Sponge) (is : drawn (8 * draw_limit n) s ≡ bytes) where
    to_come_lem : to_come p (draw_limit n) s ≡ values_of p (draw_limit n) bytes
    to_come_lem = ap (values_of p (draw_limit n)) is

    pub come_enough : n ≤ length (to_come p (draw_limit n) s)
    come_enough = subst (λ (xs : List ℕ). n ≤ length xs) (sym to_come_lem) (enough p n bytes met)

    pub first_drawn : (row : List ℕ) (r : Draws) → length row ≡ n → DrewRow p (to_come p (draw_limit n) s) r row → row ≡ sampled p n bytes
    unfolding sampled
    first_drawn row r l d = d.values (omega (arith, l, come_enough)) ∙ (λ j. take (l j) (to_come_lem j))

    pub front_come : (k : ℕ) → k ≤ n → take k (to_come p (draw_limit n) s) ≡ take k (sampled p n bytes)
    unfolding sampled
    front_come k h = ap (take k) to_come_lem ∙ sym (take-take k n (values_of p (draw_limit n) bytes) h)

-- ---- the seeds given

-- a row of two halves, written one after the other
pub two_halves : (row xs ys first second : List ℕ) → length row ≡ 32 → length xs ≡ 16 → length ys ≡ 16 → first ≡ xs → second ≡ ys
    → take 16 (first ++ drop 16 row) ++ (second ++ drop (length (first ++ drop 16 row) - 16) (drop 16 (first ++ drop 16 row))) ≡ xs ++ ys
two_halves row xs ys first second l lx ly e f =
    let n : length first ≡ 16 = ap length e ∙ lx in
    let over : length (drop 16 (first ++ drop 16 row)) ≤ length (first ++ drop 16 row) - 16 = simp (length-drop, length-append) (omega arith) in
    ap₂ ◌++◌ (take_at first (drop 16 row) 16 n ∙ e) (ap₂ ◌++◌ f (drop_of_length-le (drop 16 (first ++ drop 16 row)) over) ∙ append-nil ys)
