-- The different keys of a list, compared byte by byte, are as many as the different numbers of keys. Assumes nothing.
use mathlib.Core.Path.{◌≡◌, refl, sym, ap, ap₂, ◌∙◌}
use mathlib.Core.Bool.{Bool, true, false, ◌||◌, true≢false}
use mathlib.Core.List.{List, [], ◌∷◌, map}
use Prim.Native.Nat.{ℕ, zero, suc, ◌-◌, ◌*◌, ◌/◌, ◌≤◌}
use native.Mathlib.Omega.{arith}
use lib.ListN.{length, take, drop, length-drop}
use lib.Seq.{length-take-le}
use lib.Dec.{eqb}
use borrow.Author.Tests.{eq-eqb, ne_eqb}
use Rattle.pine.specs.declared.PineParam.{PineParam}
use Rattle.rows.specs.Rows.{Below}
use Rattle.rows.proofs.Elements.{below_take, below_drop}
use Rattle.entries.specs.File.{key_in, file_len, most_reports}
use Rattle.file_size.specs.Size.{key_list, size_answer, size_of}
use Rattle.file_size.specs.Steps.{numbers_in}
use Rattle.correctness.specs.Tally.{eq_row, Each}
use Rattle.correctness.proofs.Counts.{eq_row_true, eq_row_refl}
use Rattle.whole_day.specs.Day.{Key, among, different}
use Rattle.whole_day.proofs.Keys.{one_key}
use Rattle.whole_day.proofs.Sizes.{among_numbers, different_numbers, size_different}

same_test : (k l : List ℕ) → Key k → Key l → eq_row k l ≡ eqb (key_in k) (key_in l)
same_test k l g h = go (eq_row k l) refl
  where
    go : (t : Bool) → eq_row k l ≡ t → t ≡ eqb (key_in k) (key_in l)
    go true e = sym (eq-eqb (key_in k) (key_in l) (ap key_in (eq_row_true k l e)))
    go false e = sym (ne_eqb (key_in k) (key_in l) (λ q. true≢false (sym (eq_row_refl l) ∙ ap (λ (x : List ℕ). eq_row x l) (sym (one_key k l g h q)) ∙ e)))

among_is : (k : List ℕ) (seen : List (List ℕ)) → Key k → Each Key seen → among k seen ≡ among_numbers (key_in k) (map key_in seen)
among_is k [] g f = refl
among_is k (l ∷ seen) g f = ap₂ (λ (x y : Bool). x || y) (same_test l k f.0 g) (among_is k seen g f.1)

different_is : (seen ks : List (List ℕ)) → Each Key seen → Each Key ks → different seen ks ≡ different_numbers (map key_in seen) (map key_in ks)
unfolding different different_numbers
different_is seen [] f g = refl
different_is seen (k ∷ ks) f g = rw (among_is k seen g.0 f, different_is seen ks f g.1, different_is (k ∷ seen) ks (g.0, f) g.1)

list_keys : (n : ℕ) (bs : List ℕ) → 8 * n ≤ length bs → Below 256 bs → Each Key (key_list n bs)
unfolding key_list
list_keys zero bs h b = tt
list_keys (suc n) bs h b =
    let l : length (drop 8 bs) ≡ length bs - 8 = length-drop 8 bs in
    (record { long = length-take-le 8 bs (omega arith); bytes = below_take 256 8 bs b }, list_keys n (drop 8 bs) (omega arith) (below_drop 256 8 bs b))

list_numbers : (n : ℕ) (bs : List ℕ) → map key_in (key_list n bs) ≡ numbers_in n bs
unfolding key_list numbers_in
list_numbers zero bs = refl
list_numbers (suc n) bs = ap (λ (l : List ℕ). key_in (take 8 bs) ∷ l) (list_numbers n (drop 8 bs))

pub length_is : (i : PineParam) (keys : List ℕ) → Below 256 keys → (size_answer most_reports i keys).number ≡ 0 → (size_of i keys).len ≡ file_len i.dimension (different [] (key_list (length keys / 8) keys))
length_is i keys b h =
    let n = length keys / 8 in
    let k : Each Key (key_list n keys) = list_keys n keys (omega arith) b in
    size_different i keys h ∙ ap (file_len i.dimension) (sym (different_is [] (key_list n keys) tt k ∙ ap (different_numbers []) (list_numbers n keys)))
