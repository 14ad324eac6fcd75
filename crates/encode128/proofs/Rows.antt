-- Rows of words for encoding, two to an element: their lengths have one word, and those that may be spoilt are as long as is asked. Assumes nothing.
use mathlib.Core.Path.{◌≡◌, sym, ap, ◌∙◌}
use mathlib.Core.List.{List}
use Prim.Native.Nat.{ℕ, ◌+◌, ◌*◌, ◌/◌, ◌^◌, ◌≤◌, ◌<◌}
use native.Mathlib.Omega.{arith}
use lib.ListN.{length, take, replicate, length-replicate}
use lib.Seq.{length-take-le}
use Rattle.pine.specs.declared.record.Pine.{Pine}
use Rattle.pine.specs.Record.{pine_of, FromDerivable}
use Rattle.pine.proofs.Sizes.{sizes_of, small}
use Rattle.field128.specs.Field128.{elements_of, words_of}
use Rattle.field128.proofs.Pairs.{words_length, elements_length}

-- ---- of a record that was derived
module _ (R : Pine) (d : FromDerivable R) where
  encoded : R.encoded_input_len ≤ 65536 + (2 * 64 + 50 * 256)
  unfolding pine_of
  encoded = rw d.is (sizes_of d.param d.derivable).encoded

  pub words_fit : (2 * R.encoded_input_len < 2 ^ 64) × (2 * R.num_wr_tests < 2 ^ 64)
  words_fit = (omega (arith, encoded), omega (arith, (small R d).tests))

-- a row's start, of the row that is filled with 0 first
pub part_long : (most n : ℕ) → n ≤ most → length (take n (replicate {A = ℕ} most 0)) ≡ n
part_long most n h = length-take-le n (replicate {A = ℕ} most 0) (rw (length-replicate {A = ℕ} most 0) h)

-- ---- the starts of rows that are filled with 0 first: one of n words, one of as many words as that has elements
pub halves : (n : ℕ) → n ≤ 512 → length (take (n / 2) (replicate {A = ℕ} 256 0)) ≡ length (elements_of (take n (replicate {A = ℕ} 512 0)))
halves n h = part_long 256 (n / 2) (omega arith) ∙ sym (elements_length (take n (replicate {A = ℕ} 512 0)) ∙ ap (λ (k : ℕ). k / 2) (part_long 512 n h))

-- ---- a row that is the words of its elements
pub found_long : (row : List ℕ) (n : ℕ) → row ≡ words_of (elements_of row) → length (elements_of row) ≡ n → length row ≡ 2 * n
found_long row n e h = ap length e ∙ words_length (elements_of row) ∙ ap (λ (k : ℕ). 2 * k) h
