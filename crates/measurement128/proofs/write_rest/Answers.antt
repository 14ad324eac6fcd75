-- `measurement128::write_rest` meets its contract. Assumes nothing.
use mathlib.Core.Path.{◌≡◌, ap, ◌∙◌}
use mathlib.Core.List.{List, ◌++◌}
use Prim.Native.Nat.{ℕ, ◌+◌, ◌*◌, ◌/◌}
use native.Mathlib.Omega.{arith}
use lib.ListN.{length, drop, length-append, length-drop}
use Rattle.field64.specs.Field.{p64}
use Rattle.flp.proofs.Bits.{length_bits}
use Rattle.flp.proofs.Circuits.{length_test_bits}
use Rattle.measurement.specs.Parts.{checked_of}
use Rattle.field128.specs.Field128.{Whole}
use Rattle.field128.proofs.Pairs.{whole_twice}
use Rattle.measurement128.proofs.write_rest.Goals as goal

half_whole : (d y : List ℕ) (n : ℕ) → length d ≡ 2 * n → length y ≡ n → Whole (y ++ drop (length d / 2) d)
half_whole d y n e l = (whole_twice (y ++ drop (length d / 2) d) n (omega (arith, length-append y (drop (length d / 2) d), length-drop (length d / 2) d, e, l))).0

-- what follows the gradient has this length
checked_long : (q v u w b k : ℕ) (rs : List ℕ) → length (checked_of p64 q v u w b k rs) ≡ 2 * q + (1 + w) * length rs
checked_long q v u w b k rs = simp (length-append, length_bits) (omega (arith, length_test_bits p64 w b k rs))

pub spread-requires : goal.spread-requires
spread-requires c =
    half_whole c.args.rest.now c.write_checked.new.rest _ c.requires.rest_len (ap length c.write_checked.ensures ∙ checked_long c.args.q c.args.v c.args.u c.args.w c.args.bound c.args.successes c.args.results.now)
