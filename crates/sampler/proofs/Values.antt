-- The values below p of a stream: those of its parts, how many there are, and the first ones. Assumes nothing.
use mathlib.Core.Path.{◌≡◌, refl, sym, ap, ap₂, ◌∙◌}
use mathlib.Core.Bool.{Bool, true, false, cond}
use mathlib.Core.List.{List, [], ◌∷◌, ◌++◌}
use Prim.Native.Nat.{ℕ, suc, ◌+◌, ◌-◌, ◌*◌, ◌/◌, ◌≤◌, ◌<◌}
use native.Mathlib.Omega.{arith}
use lib.ListN.{length, take, drop, length-append, take-append-drop}
use lib.Seq.{take_at, take-take, drop_at}
use lib.Dec.{ltb}
use mir.Val.{bool_byte}
use borrow.Author.Tests.{ltb-true, le-ltb}
use Rattle.rules.specs.Rules.{accepted}
use Rattle.rows.specs.Rows.{Below}
use Rattle.octets.specs.Octets.{from_bytes, elements_in}
use Rattle.octets.proofs.Bytes.{length-elements_in, elements_in-drop, elements_in-take, elements_in_front}
use Rattle.sampler.specs.Sampler.{draw_limit, kept_of, values_of, sampled, draws_rule}

-- ---- those of a row that are kept

pub kept_append : (p : ℕ) (xs ys : List ℕ) → kept_of p (xs ++ ys) ≡ kept_of p xs ++ kept_of p ys
unfolding kept_of
kept_append p [] ys = refl
kept_append p (x ∷ xs) ys = go (ltb x p) (kept_append p xs ys)
  where
    go : (t : Bool) → kept_of p (xs ++ ys) ≡ kept_of p xs ++ kept_of p ys → cond t (x ∷ kept_of p (xs ++ ys)) (kept_of p (xs ++ ys)) ≡ cond t (x ∷ kept_of p xs) (kept_of p xs) ++ kept_of p ys
    go true e = ap (λ (r : List ℕ). x ∷ r) e
    go false e = e

pub kept_below : (p : ℕ) (xs : List ℕ) → Below p (kept_of p xs)
unfolding kept_of
kept_below p [] = tt
kept_below p (x ∷ xs) = go (ltb x p) refl (kept_below p xs)
  where
    go : (t : Bool) → ltb x p ≡ t → Below p (kept_of p xs) → Below p (cond t (x ∷ kept_of p xs) (kept_of p xs))
    go true e h = (ltb-true x p e, h)
    go false e h = h

pub kept_length : (p : ℕ) (xs : List ℕ) → length (kept_of p xs) ≤ length xs
unfolding kept_of
kept_length p [] = omega arith
kept_length p (x ∷ xs) = go (ltb x p) (kept_length p xs)
  where
    go : (t : Bool) → length (kept_of p xs) ≤ length xs → length (cond t (x ∷ kept_of p xs) (kept_of p xs)) ≤ suc (length xs)
    go true h = omega arith
    go false h = omega arith

-- ---- those of a stream

module _ (p : ℕ) where
  pub values_none : (bytes : List ℕ) → values_of p 0 bytes ≡ []
  unfolding values_of kept_of elements_in
  values_none bytes = refl

  pub values_length : (k : ℕ) (bytes : List ℕ) → length (values_of p k bytes) ≤ k
  unfolding values_of
  values_length k bytes = omega (arith, kept_length p (elements_in k bytes), length-elements_in k bytes)

  pub values_below : (k : ℕ) (bytes : List ℕ) → Below p (values_of p k bytes)
  unfolding values_of
  values_below k bytes = kept_below p (elements_in k bytes)

  -- of the first u values, and of k more
  pub values_add : (u k : ℕ) (bytes : List ℕ) → values_of p (u + k) bytes ≡ values_of p u bytes ++ values_of p k (drop (8 * u) bytes)
  unfolding values_of
  values_add u k bytes =
      let l : u ≤ u + k = omega arith in
      ap (kept_of p) (sym (take-append-drop u (elements_in (u + k) bytes)) ∙ ap₂ ◌++◌ (elements_in-take u (u + k) bytes l) (elements_in-drop u k bytes))
      ∙ kept_append p (elements_in u bytes) (elements_in k (drop (8 * u) bytes))

  -- bytes that have the first k values
  pub values_front : (k m : ℕ) (bytes : List ℕ) → 8 * k ≤ m → values_of p k (take m bytes) ≡ values_of p k bytes
  unfolding values_of
  values_front k m bytes h = ap (kept_of p) (elements_in_front k m bytes h)

  -- the first value, counted or not
  values_next : (k : ℕ) (first rest : List ℕ) (v : ℕ) → length first ≡ 8 → v ≡ from_bytes first → length (values_of p (suc k) (first ++ rest)) ≡ bool_byte (ltb v p) + length (values_of p k rest)
  unfolding values_of kept_of elements_in
  values_next k first rest v l e = rw (take_at first rest 8 l, drop_at first rest 8 l, sym e) (go (ltb v p) (kept_of p (elements_in k rest)))
    where
      go : (t : Bool) (r : List ℕ) → length (cond t (v ∷ r) r) ≡ bool_byte t + length r
      go true r = omega arith
      go false r = omega arith

  -- ---- the first n of those up to the drawing limit, found among the first u values

  module _ (n u k : ℕ) (bytes : List ℕ) (l : u ≤ draw_limit n) where
    all : values_of p (draw_limit n) bytes ≡ values_of p u bytes ++ values_of p (draw_limit n - u) (drop (8 * u) bytes)
    all = let e : draw_limit n ≡ u + (draw_limit n - u) = omega arith in ap (λ (m : ℕ). values_of p m bytes) e ∙ values_add u (draw_limit n - u) bytes

    -- the values up to u are the first of them
    pub sampled_front : length (values_of p u bytes) ≤ n → take (length (values_of p u bytes)) (sampled p n bytes) ≡ values_of p u bytes
    unfolding sampled
    sampled_front h =
        let v = values_of p u bytes in
        take-take (length v) n (values_of p (draw_limit n) bytes) h ∙ ap (take (length v)) all ∙ take_at v (values_of p (draw_limit n - u) (drop (8 * u) bytes)) (length v) refl

    pub found : length (values_of p u bytes) ≡ n → sampled p n bytes ≡ values_of p u bytes
    unfolding sampled
    found e = ap (take n) all ∙ take_at (values_of p u bytes) (values_of p (draw_limit n - u) (drop (8 * u) bytes)) n e

    pub enough : length (values_of p u bytes) ≡ n → draws_rule p n bytes ≡ accepted
    unfolding draws_rule
    enough e =
        let h : n ≤ length (values_of p (draw_limit n) bytes) = rw all (rw (length-append (values_of p u bytes) (values_of p (draw_limit n - u) (drop (8 * u) bytes))) (omega arith)) in
        rw (le-ltb (length (values_of p (draw_limit n) bytes)) n h)

  -- ---- counting those of a whole row of bytes

  module _ (bytes : List ℕ) where
    -- so many are counted, and those of the bytes that are left are still to come
    abbrev pub Counting : (count : ℕ) (left : List ℕ) → Type 0
    Counting count left = (8 * count + length left ≤ length bytes) × (length (values_of p (length bytes / 8) bytes) ≡ count + length (values_of p (length left / 8) left))

    pub counting_next : (count v : ℕ) (left first rest : List ℕ) → Counting count left → left ≡ first ++ rest → length first ≡ 8 → v ≡ from_bytes first → Counting (count + bool_byte (ltb v p)) rest
    counting_next count v left first rest c cut l e =
        let long : length left ≡ 8 + length rest = omega (arith, ap length cut, length-append first rest, l) in
        let more : length left / 8 ≡ suc (length rest / 8) = omega arith in
        let next : length (values_of p (length left / 8) left) ≡ bool_byte (ltb v p) + length (values_of p (length rest / 8) rest) =
        ap₂ (λ (k : ℕ) (bs : List ℕ). length (values_of p k bs)) more cut ∙ values_next (length rest / 8) first rest v l e in
        (omega (arith, few (ltb v p), c.0), omega (arith, c.1))
      where
        few : (t : Bool) → bool_byte t ≤ 1
        few true = omega arith
        few false = omega arith

    pub counting_end : (count : ℕ) (left : List ℕ) → Counting count left → length left < 8 → count ≡ length (values_of p (length bytes / 8) bytes)
    counting_end count left c h =
        let none : length left / 8 ≡ 0 = omega arith in
        let over : length (values_of p (length left / 8) left) ≡ 0 = ap (λ (k : ℕ). length (values_of p k left)) none ∙ ap length (values_none left) in
        omega (arith, c.1)
