-- What a tile adds to the results of its tests: n bytes of each, from byte j on. Assumes nothing.
use mathlib.Core.Path.{◌≡◌, refl, sym, ap, ap₂, ◌∙◌}
use mathlib.Core.List.{List, [], ◌∷◌, ◌++◌, append_assoc}
use Prim.Native.Nat.{ℕ, ◌+◌, ◌-◌, ◌≤◌}
use native.Mathlib.Omega.{arith}
use lib.ListN.{length, take, drop, take-append-drop}
use lib.Seq.{take_at, drop_at}
use Rattle.field64.specs.Field.{add_mod}
use Rattle.rows.specs.Rows.{add_rows}
use Rattle.flp.specs.Bits.{groups}
use Rattle.flp.specs.Tests.{test_of, tests_of}
use Rattle.groups.specs.Groups.{add_group}
use Rattle.turboshake.specs.declared.Sponge.{Sponge}
use Rattle.turboshake.specs.Stream.{drawn, after}
use Rattle.turboshake.proofs.Drawn.{length_drawn, drawn_add}
use Rattle.stream_states.specs.States.{tile_of, all_after}

-- bytes j to j + n of a test are those that its state draws when it is j bytes on
inner : (per j n : ℕ) (s : Sponge) (rest : List ℕ) → j + n ≤ per → take n (drop j (drawn per s ++ rest)) ≡ drawn n (after j s)
inner per j n s rest h =
    let e : per ≡ j + (n + (per - (j + n))) = omega arith in
    let d : drawn per s ++ rest ≡ drawn j s ++ (drawn n (after j s) ++ (drawn (per - (j + n)) (after n (after j s)) ++ rest)) =
    ap (λ (bs : List ℕ). bs ++ rest) (ap (λ (k : ℕ). drawn k s) e ∙ drawn_add j (n + (per - (j + n))) s ∙ ap (λ (bs : List ℕ). drawn j s ++ bs) (drawn_add n (per - (j + n)) (after j s)))
    ∙ append_assoc (drawn j s) (drawn n (after j s) ++ drawn (per - (j + n)) (after n (after j s))) rest
    ∙ ap (λ (bs : List ℕ). drawn j s ++ bs) (append_assoc (drawn n (after j s)) (drawn (per - (j + n)) (after n (after j s))) rest) in
    ap (λ (bs : List ℕ). take n (drop j bs)) d ∙ ap (take n) (drop_at (drawn j s) _ j (length_drawn j s)) ∙ take_at (drawn n (after j s)) _ n (length_drawn n (after j s))

module _ (p per j n : ℕ) (part : List ℕ) (h : j + n ≤ per) where
  sides : (ss : List Sponge) (rs rest : List ℕ) → length rs ≡ length ss → add_rows p rs (tests_of p n (length rs) (tile_of n (all_after j ss) ++ rest) part) ≡ add_group p per j n part (tile_of per ss) rs
  unfolding tests_of groups
  sides ss [] rest l = refl
  sides [] (r ∷ rs) rest l = absurd (omega (arith, l))
  sides (s ∷ ss) (r ∷ rs) rest l =
      let assoc = append_assoc (drawn n (after j s)) (tile_of n (all_after j ss)) rest in
      let first : take n ((drawn n (after j s) ++ tile_of n (all_after j ss)) ++ rest) ≡ take n (drop j (drawn per s ++ tile_of per ss)) = ap (take n) assoc ∙ take_at (drawn n (after j s)) _ n (length_drawn n (after j s)) ∙ sym (inner per j n s (tile_of per ss) h) in
      let others : drop n ((drawn n (after j s) ++ tile_of n (all_after j ss)) ++ rest) ≡ tile_of n (all_after j ss) ++ rest = ap (drop n) assoc ∙ drop_at (drawn n (after j s)) _ n (length_drawn n (after j s)) in
      let whole : drop per (drawn per s ++ tile_of per ss) ≡ tile_of per ss = drop_at (drawn per s) (tile_of per ss) per (length_drawn per s) in
      ap₂ (λ (x : ℕ) (xs : List ℕ). x ∷ xs)
      (ap (λ (bs : List ℕ). add_mod p r (test_of p part bs)) first)
      (ap (λ (bs : List ℕ). add_rows p rs (tests_of p n (length rs) bs part)) others ∙ sides ss rs rest (omega (arith, l)) ∙ sym (ap (λ (bs : List ℕ). add_group p per j n part bs rs) whole))

  -- the tile is what a buffer begins with
  pub sides_added : (m : ℕ) (ss : List Sponge) (rs buffer : List ℕ) → length rs ≡ length ss → take m buffer ≡ tile_of n (all_after j ss) → add_rows p rs (tests_of p n (length rs) buffer part) ≡ add_group p per j n part (tile_of per ss) rs
  sides_added m ss rs buffer l e =
      let cut : buffer ≡ tile_of n (all_after j ss) ++ drop m buffer = sym (take-append-drop m buffer) ∙ ap (λ (bs : List ℕ). bs ++ drop m buffer) e in
      ap (λ (bs : List ℕ). add_rows p rs (tests_of p n (length rs) bs part)) cut ∙ sides ss rs (drop m buffer) l
