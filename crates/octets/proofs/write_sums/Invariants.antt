-- `octets::write_sums` meets its contract. Assumes nothing.
use mathlib.Core.Path.{◌≡◌, sym, ap, ◌∙◌}
use mathlib.Core.List.{List}
use Prim.Native.Nat.{ℕ, ◌*◌, ◌<◌}
use native.Mathlib.Omega.{arith}
use lib.ListN.{length, take, drop, get_or}
use Rattle.field64.specs.Field.{p64, add_mod}
use Rattle.rows.specs.Rows.{Below, add_rows}
use Rattle.rows.proofs.Added.{length-add_rows, get_or-add_rows}
use Rattle.rows.proofs.Elements.{below_at}
use Rattle.octets.specs.Octets.{from_bytes, element_bytes, elements_in, filled}
use Rattle.octets.proofs.Bytes.{length-elements_in, elements_in_at}
use Rattle.octets.proofs.write_sums.Given as goal

module _ (old share : List ℕ) where
  abbrev pub sums : List ℕ
  sums = add_rows p64 (elements_in (length share) old) share

  pub sums_long : length sums ≡ length share
  sums_long = length-add_rows p64 (elements_in (length share) old) share (length-elements_in (length share) old) ∙ length-elements_in (length share) old

  pub sum_at : (i x y : ℕ) → i < length share → x ≡ from_bytes (take 8 (drop (8 * i) old)) → y ≡ add_mod p64 x (get_or share i 0) → y ≡ get_or sums i 0
  sum_at i x y h e f =
      let l : i < length (elements_in (length share) old) = omega (arith, length-elements_in (length share) old) in
      f ∙ rw e (sym (get_or-add_rows p64 (elements_in (length share) old) share i (length-elements_in (length share) old) l ∙ ap (λ (n : ℕ). add_mod p64 n (get_or share i 0)) (elements_in_at (length share) old i h)))

  pub below_here : Below p64 (elements_in (length share) old) → (i x : ℕ) → i < length share → x ≡ from_bytes (take 8 (drop (8 * i) old)) → x < p64
  below_here f i x h e =
      let b = below_at p64 (elements_in (length share) old) f i (omega (arith, length-elements_in (length share) old)) in
      rw (e, ← elements_in_at (length share) old i h) b

abbrev pub invariant-loop-i : goal.invariant-loop-i
invariant-loop-i l = (length l.row ≡ length l.initial.row) × (l.row ≡ filled (element_bytes (take l.i (sums l.old l.share))) l.initial.row)
