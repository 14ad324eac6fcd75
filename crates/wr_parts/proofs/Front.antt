-- The first elements of both shares, all in the wraparound parts: the seed that these make, and rule 18. Assumes nothing.
use mathlib.Core.Path.{◌≡◌, sym, ap, ap₂, subst, ◌∙◌}
use mathlib.Core.List.{List, [], ◌++◌}
use Prim.Native.Nat.{ℕ, ◌-◌, ◌*◌, ◌≤◌, ◌<◌}
use native.Mathlib.Nat.{lt_of_not-le}
use native.Mathlib.Decide.{dec_le}
use native.Mathlib.Omega.{arith}
use lib.ListN.{length, take, length-append, length-drop}
use lib.Dec.{leb, lit<}
use lib.Ieee.{Float}
use borrow.Author.Tests.{le-leb, lt-leb}
use Rattle.rules.specs.Rules.{accepted}
use Rattle.field64.specs.Field.{sub_mod}
use Rattle.pine.specs.declared.PineParam.{PineParam}
use Rattle.pine.specs.Param.{Field}
use Rattle.pine.specs.Record.{sq_norm_bound_of, sq_norm_bits_of, bit_checked_len_of, encoded_input_len_of}
use Rattle.rows.specs.Rows.{sub_rows}
use Rattle.flp.specs.Bits.{bits}
use Rattle.flp.specs.Encode.{elements, sq_norm}
use Rattle.flp.proofs.Bits.{length_bits}
use Rattle.flp.proofs.Gradient.{length_elements}
use Rattle.turboshake.specs.TurboShake.{Bytes}
use Rattle.turboshake.specs.Stream.{finished, drawn}
use Rattle.sampler.specs.Sampler.{draw_limit, values_of, draws_rule}
use Rattle.sampler.specs.Drawing.{to_come}
use Rattle.joint_rand.specs.JointRand.{joint_rand_part, joint_rand_seed}
use Rattle.joint_rand.proofs.Parts.{absorbed_more, part_is}
use Rattle.shares.specs.Shares.{wr_blind₀, wr_blind₁, helper_stream, gradient_and_norm_len, with_norm, gradient_and_norm, helper_share, helper_front, wr_seed}
use Rattle.shares.proofs.Seeds.{seed_bytes, enough, front_come}
use Rattle.wr_parts.specs.declared.Parts.{Parts}
use Rattle.wr_parts.specs.Pieces.{helper_rest, Begun, TookPiece}

-- k values are enough for n where, k being taken from both, they are
leb_less : (n k m : ℕ) → k < n → leb (n - k) (m - k) ≡ leb n m
leb_less n k m h = go (dec_le n m)
  where
    go : Dec (n ≤ m) → leb (n - k) (m - k) ≡ leb n m
    go (yes l) = le-leb (n - k) (m - k) (omega arith) ∙ sym (le-leb n m l)
    go (no g) = let l = lt_of_not-le g in lt-leb (n - k) (m - k) (omega arith) ∙ sym (lt-leb n m l)

module _ (F : Field) (i : PineParam) (g : List Float) (nonce seeds : List ℕ) (long : length g ≡ i.dimension) where
  abbrev n : ℕ
  n = encoded_input_len_of i

  abbrev xs : List ℕ
  xs = elements F.p i.frac_bits g

  pub front_long : length (gradient_and_norm F i g) ≡ gradient_and_norm_len i
  unfolding gradient_and_norm
  front_long = simp (length-append, length_bits, length_elements) (omega (arith, long))

  pub front_within : 0 < i.num_wr_tests → gradient_and_norm_len i < n
  unfolding encoded_input_len_of bit_checked_len_of
  front_within h = omega (arith, h)

  -- the elements of a gradient, then v, then u
  pub took_front : (a b : Parts) (v u : ℕ) → v ≡ sq_norm F.p xs → u ≡ sub_mod F.p (sq_norm_bound_of i) v → TookPiece F.p a b (xs ++ (bits (sq_norm_bits_of i) v ++ bits (sq_norm_bits_of i) u)) → TookPiece F.p a b (gradient_and_norm F i g)
  unfolding gradient_and_norm
  took_front a b v u ev eu t =
      let w : ℕ → List ℕ = λ k. bits (sq_norm_bits_of i) k in
      let all : xs ++ (w v ++ w u) ≡ with_norm F.p i xs = λ j. xs ++ (w (ev j) ++ w ((eu ∙ ap (sub_mod F.p (sq_norm_bound_of i)) ev) j)) in
      subst (TookPiece F.p a b) all t

  module _ (begun parts : Parts) (b : Begun nonce seeds (draw_limit n) begun) (is : drawn (8 * draw_limit n) begun.stream ≡ helper_stream n seeds) (tests : 0 < i.num_wr_tests) (t : TookPiece F.p begun parts (gradient_and_norm F i g)) where
    abbrev all : List ℕ
    all = gradient_and_norm F i g

    -- the helper's values
    values : helper_rest F.p begun ≡ values_of F.p (draw_limit n) (helper_stream n seeds)
    values = ap (λ (m : ℕ). to_come F.p m begun.stream) b.left ∙ ap (values_of F.p (draw_limit n)) is

    pub enough_is : (wanted : ℕ) → wanted ≡ n - gradient_and_norm_len i → leb wanted (length (helper_rest F.p parts)) ≡ leb n (length (values_of F.p (draw_limit n) (helper_stream n seeds)))
    enough_is wanted e =
        let left : length (helper_rest F.p parts) ≡ length (values_of F.p (draw_limit n) (helper_stream n seeds)) - gradient_and_norm_len i =
        ap length t.rest ∙ length-drop (length all) (helper_rest F.p begun) ∙ (λ j. length (values j) - front_long j) in
        ap₂ leb e left ∙ leb_less n (gradient_and_norm_len i) (length (values_of F.p (draw_limit n) (helper_stream n seeds))) (front_within tests)

    module _ (met : draws_rule F.p n (helper_stream n seeds) ≡ accepted) where
      fits : length all ≤ length (helper_rest F.p begun)
      fits = omega (arith, front_long, front_within tests, enough F.p n (helper_stream n seeds) met, ap length values)

      helper_is : take (length all) (helper_rest F.p begun) ≡ helper_front F i seeds
      unfolding helper_share
      helper_is =
          (λ j. take (front_long j) (to_come F.p (b.left j) begun.stream))
          ∙ front_come F.p n (helper_stream n seeds) met begun.stream is (gradient_and_norm_len i) (omega (arith, front_within tests))

      pub wr_seed_is : (l h r : List ℕ) → Bytes nonce → Bytes seeds → l ≡ drawn 16 (finished 1 parts.leader) → h ≡ drawn 16 (finished 1 parts.helper) → r ≡ joint_rand_seed 9 l h → r ≡ wr_seed F i g nonce seeds
      unfolding wr_seed
      wr_seed_is l h r fn fs el eh er =
          let hs = take (length all) (helper_rest F.p begun) in
          let leader : l ≡ joint_rand_part 10 0 (wr_blind₀ seeds) nonce (sub_rows F.p all hs) =
          part_is 10 0 (wr_blind₀ seeds) nonce (sub_rows F.p all hs) l parts.leader (lit< tt) (seed_bytes 3 seeds fs) fn (absorbed_more 10 0 (wr_blind₀ seeds) nonce [] (sub_rows F.p all hs) begun.leader parts.leader b.leader (t.leader fits)) el in
          let helper : h ≡ joint_rand_part 10 1 (wr_blind₁ seeds) nonce hs =
          part_is 10 1 (wr_blind₁ seeds) nonce hs h parts.helper (lit< tt) (seed_bytes 1 seeds fs) fn (absorbed_more 10 1 (wr_blind₁ seeds) nonce [] hs begun.helper parts.helper b.helper (t.helper fits)) eh in
          er ∙ ap₂ (joint_rand_seed 9) leader helper ∙ ap (λ (r : List ℕ). joint_rand_seed 9 (joint_rand_part 10 0 (wr_blind₀ seeds) nonce (sub_rows F.p all r)) (joint_rand_part 10 1 (wr_blind₁ seeds) nonce r)) helper_is
