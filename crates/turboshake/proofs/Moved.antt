-- Places in the block, and the loops over bytes. Assumes nothing.
use mathlib.Core.Path.{◌≡◌, sym, ap, ◌∙◌}
use mathlib.Core.List.{List}
use Prim.Native.Nat.{ℕ, suc, ◌+◌, ◌*◌, ◌%◌, ◌^◌, ◌<◌}
use native.Mathlib.Omega.{arith}
use borrow.Author.Tests.{eq-eqb, ne_eqb}
use lib.ListN.{take, drop, take-append-drop}
use lib.Seq.{drop-drop}
use lib.Pow.{shl_exact}
use Rattle.keccak.specs.Keccak.{keccak_p}
use Rattle.keccak.proofs.Rounds.{each_append}
use Rattle.turboshake.specs.declared.Sponge.{Sponge}
use Rattle.turboshake.specs.Stream.{sponge, moved, absorb_byte, absorb_all}

pub moved_full : (n k : ℕ) (ws : List ℕ) → k + n ≡ 168 → moved n (sponge ws k) ≡ sponge (keccak_p ws) 0
unfolding moved
moved_full n k ws h = simp (eq-eqb (k + n) 168 h)

pub moved_part : (n k : ℕ) (ws : List ℕ) → k + n < 168 → moved n (sponge ws k) ≡ sponge ws (k + n)
unfolding moved
moved_part n k ws h = simp (ne_eqb (k + n) 168 (λ e. omega arith))

-- the shift of a byte into its lane loses nothing
pub shifted_byte : (b k : ℕ) → b < 256 → b * 2 ^ (8 * (k % 8)) % 2 ^ 64 ≡ b * 2 ^ (8 * (k % 8))
shifted_byte b k h = shl_exact 8 (8 * (k % 8)) 64 h (omega arith)

-- the bytes from i on take s to where all take s₀
abbrev pub Absorbs : (bytes : List ℕ) (s₀ s : Sponge) (i : ℕ) → Type 0
Absorbs bytes s₀ s i = absorb_all (drop i bytes) s ≡ absorb_all bytes s₀

pub absorbs_part : (bytes : List ℕ) (s₀ s next : Sponge) (i n : ℕ) → Absorbs bytes s₀ s i → next ≡ absorb_all (take n (drop i bytes)) s → Absorbs bytes s₀ next (i + n)
absorbs_part bytes s₀ s next i n l e =
    ap (absorb_all (drop (i + n) bytes)) e ∙ ap (λ (r : List ℕ). absorb_all r (absorb_all (take n (drop i bytes)) s)) (sym (drop-drop n i bytes))
    ∙ sym (each_append absorb_byte (take n (drop i bytes)) (drop n (drop i bytes)) s) ∙ ap (λ (r : List ℕ). absorb_all r s) (take-append-drop n (drop i bytes)) ∙ l

-- one place further back, one place more
pub moved_shift : (n k : ℕ) (ws : List ℕ) → moved n (sponge ws (k + 1)) ≡ moved (suc n) (sponge ws k)
unfolding moved
moved_shift n k ws =
    let e : k + 1 + n ≡ k + suc n = omega arith in
    rw e
