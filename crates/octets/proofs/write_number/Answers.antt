-- `octets::write_number` meets its contract. Assumes nothing.
use mathlib.Core.Path.{◌≡◌, sym, ap, ◌∙◌}
use mathlib.Core.List.{List}
use Prim.Native.Nat.{ℕ, ◌+◌, ◌/◌, ◌%◌, ◌^◌, ◌<◌}
use native.Mathlib.Nat.{div-div-eq-div-mul, pow-suc}
use native.Mathlib.Numerals.{add-one}
use native.Mathlib.Omega.{arith}
use lib.ListN.{length, set}
use Rattle.rows.proofs.Walk.{Walking, walking_next, walked_end}
use Rattle.octets.specs.Octets.{to_bytes}
use Rattle.octets.proofs.Bytes.{length_to_bytes, to_bytes_at}
use Rattle.octets.proofs.write_number.Goals as goal

turn : (v : ℕ) (d a : List ℕ) (rest i : ℕ) → Walking (to_bytes (length d) v) d a i × (rest ≡ v / 256 ^ i) → i < length a → Walking (to_bytes (length d) v) d (set a i (rest % 256)) (i + 1) × (rest / 256 ≡ v / 256 ^ (i + 1))
turn v d a rest i (w, e) h =
    let here = ap (λ (n : ℕ). n % 256) e ∙ sym (to_bytes_at (length d) v i (omega arith)) in
    (walking_next 0 _ d a i _ (length_to_bytes (length d) v) w h here, rw (e, add-one, pow-suc 256 i) (div-div-eq-div-mul v (256 ^ i) 256))

pub loop-byte-preserved : goal.loop-byte-preserved
loop-byte-preserved c =
    turn c.args.x c.args.row.now _ c.loop-byte.rest c.loop-byte.byte-index c.loop-byte.invariant (omega arith)

pub returns : goal.returns
returns c =
    c.loop-byte.invariant.0.2 ∙ walked_end _ _ c.loop-byte.byte-index (length_to_bytes (length c.args.row.now) c.args.x) (omega arith)
