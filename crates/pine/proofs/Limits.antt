-- What inputs that are accepted have met. Assumes nothing.
use mathlib.Core.Path.{◌≡◌, refl}
use mathlib.Core.Bool.{Bool, true, false, ◌||◌}
use Prim.Native.Nat.{ℕ, ◌≤◌, ◌<◌}
use native.Mathlib.Nat.{le_trans}
use native.Mathlib.Omega.{arith}
use lib.Dec.{eqb}
use borrow.Author.Tests.{ltb-false, ne_eqb, le-ltb}
use Rattle.rules.specs.Rules.{accepted, refuse, out_of}
use Rattle.rules.proofs.Chain.{passed, accepts, none, not_so, inside, accepted_whole}
use Rattle.pine.specs.declared.PineParam.{PineParam}
use Rattle.pine.specs.Param.{Field, Field64, alpha_rule, param_rules, param_answer}

-- Field64, written out
pub field_64 : Field64 ≡ record { p = 18446744069414584321; floor_limit = 9223372034707292160; size_limit = 9223372034707292160; norm_limit = 3037000499; words_in = λ n. n; elements = λ row. row; words = λ xs. xs }
field_64 = refl

-- a number of 16 bits is refused where it is 0
pub alpha_zero : (a : ℕ) → a ≤ 65535 → alpha_rule a ≡ refuse (eqb a 0) 19 0
alpha_zero a h = rw (le-ltb 65535 a h) (go (eqb a 0))
  where
    go : (t : Bool) → refuse (t || false) 19 0 ≡ refuse t 19 0
    go true = refl
    go false = refl

pub record Limits (F : Field) (i : PineParam) : Type 0 where
  pub successes : i.num_wr_successes ≤ i.num_wr_tests
  pub norm : (0 < i.norm_bound) × (i.norm_bound ≤ F.norm_limit)
  pub dimension : (0 < i.dimension) × (i.dimension ≤ 65536)
  pub fraction : i.frac_bits ≤ 30
  pub chunk : (0 < i.chunk_len) × (i.chunk_len ≤ 65536)
  pub chunk_norm : (0 < i.chunk_len_sq_norm_equal) × (i.chunk_len_sq_norm_equal ≤ 65536)
  pub tests : (0 < i.num_wr_tests) × (i.num_wr_tests ≤ 256)
  pub alpha : (0 < i.alpha_numerator) × (i.alpha_numerator ≤ 65535)
  pub alpha_over : (0 < i.alpha_denominator) × (i.alpha_denominator ≤ 65535)

module _ (F : Field) (i : PineParam) where
  pub limits : (param_answer F i).number ≡ 0 → Limits F i
  unfolding param_answer param_rules
  limits h =
      let r = passed (param_rules F i) h in
      record {
        successes = ltb-false _ _ (not_so _ 0 0 r.0);
        norm = inside _ _ 1 0 r.1.0;
        dimension = inside _ _ 2 0 r.1.1.0;
        fraction = ltb-false _ _ (not_so _ 3 0 r.1.1.1.0);
        chunk = inside _ _ 4 0 r.1.1.1.1.0;
        chunk_norm = inside _ _ 4 0 r.1.1.1.1.1.0;
        tests = inside _ _ 5 0 r.1.1.1.1.1.1.0;
        alpha = inside _ _ 18 0 r.1.1.1.1.1.1.1.0;
        alpha_over = inside _ _ 18 0 r.1.1.1.1.1.1.1.1.0;
      }

  -- an answer whose number is 0 has the place 0
  pub param_accepted : (param_answer F i).number ≡ 0 → param_answer F i ≡ accepted
  unfolding param_answer
  param_accepted h = accepted_whole (param_rules F i) h

-- inputs accepted over a field are accepted over one with a larger norm bound
pub widened : (F G : Field) → F.norm_limit ≤ G.norm_limit → (i : PineParam) → param_answer F i ≡ accepted → param_answer G i ≡ accepted
unfolding param_answer param_rules
widened F G wider i h =
    let r = passed (param_rules F i) (none h) in
    let l = inside _ _ 1 0 r.1.0 in
    accepts (param_rules G i) (r.0, (in_limits i.norm_bound G.norm_limit l.0 (le_trans l.1 wider), r.1.1))
  where
    in_limits : (n m : ℕ) → 0 < n → n ≤ m → (refuse (out_of n m) 2 0).number ≡ 0
    in_limits n m h g = rw (ne_eqb n 0 (λ e. omega arith), le-ltb m n g)
