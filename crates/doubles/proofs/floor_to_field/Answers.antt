-- `doubles::floor_to_field` meets its contract. Assumes nothing.
use Rattle.std.proofs.Common.{◌≡◌, ℕ, ◌+◌, ◌*◌, ◌/◌, ◌%◌, ◌^◌, sym, ap, ◌∙◌, rules}
use Rattle.doubles.proofs.Split.{field_word}
use Rattle.doubles.proofs.floor_to_field.Goals as goal

-- the word less its gap
taken : (r x f g : ℕ) → x ≡ f → g ≡ x / 2 ^ 63 * 4294967295 → (r + g) % 2 ^ 64 ≡ x → (r + f / 2 ^ 63 * 4294967295) % 2 ^ 64 ≡ f
taken r x f g e h k = ap (λ (n : ℕ). (r + n) % 2 ^ 64) (ap (λ (n : ℕ). n / 2 ^ 63 * 4294967295) (sym e) ∙ sym h) ∙ k ∙ e

pub returns : goal.returns
returns c =
    field_word c.args.w c.requires c.wrapping_sub_u64.result (search rules) (taken c.wrapping_sub_u64.result c.floor_word-word.result _ c.gap_of.result c.floor_word-word.ensures c.gap_of.ensures c.wrapping_sub_u64.ensures.value)
