-- `doubles::scale_of` meets its contract: 2 ^ f, for f up to 30, is a double, and `power f` is the one way to write it. Assumes nothing.
use Rattle.std.proofs.Common.{◌≡◌, ℕ, ◌*◌, ◌%◌, ◌^◌, ◌≤◌, T, pos, sym, ap, ◌∙◌, subst, le_trans, lt_of_le_of_lt, mod-eq_of_lt, one-mul, lit<, lit≤, le→leb, pow_mono}
use lib.Ieee.{binary64, of_int, in_float}
use Rattle.doubles.proofs.Laws.{power_is}
use Rattle.doubles.proofs.scale_of.Goals as goal

shifted : (f : ℕ) → f ≤ 30 → 1 * 2 ^ f % 2 ^ 64 ≡ 2 ^ f
shifted f h = ap (λ (x : ℕ). x % 2 ^ 64) (one-mul (2 ^ f)) ∙ mod-eq_of_lt (lt_of_le_of_lt (pow_mono h) (lit< tt))

exact : (f : ℕ) → f ≤ 30 → T (in_float binary64 (pos (2 ^ f)))
unfolding in_float
exact f h = le→leb (2 ^ f) (2 ^ 53) (le_trans (pow_mono h) (lit≤ tt))

pub int_to_float-result : goal.int_to_float-result
int_to_float-result c = subst (λ (n : ℕ). T (in_float binary64 (pos n))) (sym (shifted c.args.frac_bits c.requires)) (exact c.args.frac_bits c.requires)

pub returns : goal.returns
returns c = ap (λ (n : ℕ). of_int binary64 (pos n)) (shifted c.args.frac_bits c.requires) ∙ power_is c.args.frac_bits c.requires
