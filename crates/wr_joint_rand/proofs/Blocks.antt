-- Tests taken some at a time, each with the next bytes of a stream. Assumes nothing.
use mathlib.Core.Path.{◌≡◌, refl, sym, ap, ap₂, ◌∙◌}
use mathlib.Core.List.{List, [], ◌∷◌, ◌++◌, map, map-append, append_assoc, append-nil}
use Prim.Native.Nat.{ℕ, zero, suc, ◌+◌, ◌*◌, ◌/◌, ◌-◌, ◌≤◌, ◌<◌, min}
use native.Mathlib.Omega.{arith}
use native.Mathlib.Nat.{zero-add, add-zero, zero-mul, suc-add, le-div_iff_mul-le, mul-le-mul, mul-le-mul_right, le_trans, le_of_eq}
use lib.ListN.{length, take, drop, length-drop, length-append, take-append-drop}
use lib.Seq.{take_at, take-append_seam, take-append-le, drop-append-le, take_all, length-take-le}
use Rattle.flp.specs.Bits.{groups}
use Rattle.flp.specs.Tests.{test_of, tests_of}
use Rattle.turboshake.specs.declared.Sponge.{Sponge}
use Rattle.turboshake.specs.Stream.{drawn, after}
use Rattle.turboshake.proofs.Drawn.{length_drawn, drawn_add, after_add}

-- the groups of two rows joined, the first of t whole groups
groups_join : (k t u : ℕ) (xs ys : List ℕ) → length xs ≡ t * k → groups k (t + u) (xs ++ ys) ≡ groups k t xs ++ groups k u ys
unfolding groups
groups_join k zero u [] ys h = ap (λ (n : ℕ). groups k n ys) (zero-add u)
groups_join k zero u (x ∷ xs) ys h = absurd (omega (arith, h))
groups_join k (suc t) u xs ys h =
    let le : k ≤ length xs = omega (arith, h) in
    ap (λ (n : ℕ). groups k n (xs ++ ys)) (suc-add t u)
    ∙ ap₂ (λ (g : List ℕ) (gs : List (List ℕ)). g ∷ gs) (take-append-le k xs ys le) (ap (groups k (t + u)) (drop-append-le k xs ys le) ∙ groups_join k t u (drop k xs) ys (length-drop k xs ∙ omega (arith, h)))

-- only the first t groups have a say
groups_front : (k t : ℕ) (xs : List ℕ) → t * k ≤ length xs → groups k t xs ≡ groups k t (take (t * k) xs)
unfolding groups
groups_front k t xs h =
    ap (groups k t) (sym (take-append-drop (t * k) xs)) ∙ ap (λ (n : ℕ). groups k n (take (t * k) xs ++ drop (t * k) xs)) (sym (add-zero t))
    ∙ groups_join k t 0 (take (t * k) xs) (drop (t * k) xs) (length-take-le (t * k) xs h) ∙ none_after
  where
    none_after : groups k t (take (t * k) xs) ++ groups k 0 (drop (t * k) xs) ≡ groups k t (take (t * k) xs)
    none_after = append-nil (groups k t (take (t * k) xs))

-- the stream, from its start on and after another block
pub start_is : (per : ℕ) (s : Sponge) → s ≡ after (0 * per) s
unfolding after
start_is per s = ap (λ (n : ℕ). after n s) (sym (zero-mul per))

pub after_more : (t e per : ℕ) (s u v : Sponge) → t ≤ e → u ≡ after (t * per) s → v ≡ after ((e - t) * per) u → v ≡ after (e * per) s
after_more t e per s u v h is-u is-v =
    let same : t + (e - t) ≡ e = omega (arith, h) in
    let sum : t * per + (e - t) * per ≡ (t + (e - t)) * per = omega arith in
    is-v ∙ ap (after ((e - t) * per)) is-u ∙ sym (after_add (t * per) ((e - t) * per) s) ∙ ap (λ (n : ℕ). after n s) (sum ∙ ap (λ (n : ℕ). n * per) same)

-- tests that took their bytes from a buffer took those that were drawn into it
pub from_buffer : (p per T : ℕ) (buffer xs rs : List ℕ) (s : Sponge) → T * per ≤ length buffer → take (T * per) buffer ≡ drawn (T * per) s → rs ≡ tests_of p per T buffer xs → rs ≡ tests_of p per T (drawn (T * per) s) xs
unfolding tests_of
from_buffer p per T buffer xs rs s room filled is = is ∙ ap (map (test_of p xs)) (groups_front per T buffer room ∙ ap (groups per T) filled)

module _ (p per : ℕ) (xs : List ℕ) (s : Sponge) where
  -- the first t results are those of the tests
  abbrev pub Done : (t : ℕ) (results : List ℕ) → Type 0
  Done t rs = take t rs ≡ tests_of p per t (drawn (t * per) s) xs

  more : (t k : ℕ) → tests_of p per (t + k) (drawn ((t + k) * per) s) xs ≡ tests_of p per t (drawn (t * per) s) xs ++ tests_of p per k (drawn (k * per) (after (t * per) s)) xs
  unfolding tests_of
  more t k =
      let e : (t + k) * per ≡ t * per + k * per = omega arith in
      ap (map (test_of p xs)) (ap (groups per (t + k)) (ap (λ (n : ℕ). drawn n s) e ∙ drawn_add (t * per) (k * per) s) ∙ groups_join per t k (drawn (t * per) s) (drawn (k * per) (after (t * per) s)) (length_drawn (t * per) s))
      ∙ map-append (test_of p xs) (groups per t (drawn (t * per) s)) (groups per k (drawn (k * per) (after (t * per) s)))

  pub none : (rs : List ℕ) → Done 0 rs
  unfolding tests_of groups
  none rs = refl

  -- with the next tests' results in their place
  pub next : (t e n : ℕ) (buffer rs part rest : List ℕ) → (t ≤ e) × (e ≤ length rs) → length part ≡ e - t → n ≡ e - t → (e - t) * per ≤ length buffer → take ((e - t) * per) buffer ≡ drawn ((e - t) * per) (after (t * per) s) → Done t rs → part ≡ tests_of p per n buffer xs → Done e (take t rs ++ (part ++ rest))
  unfolding tests_of
  next t e n buffer rs part rest h l en room filled d of-buffer =
      let is : part ≡ tests_of p per (e - t) (drawn ((e - t) * per) (after (t * per) s)) xs = from_buffer p per (e - t) buffer xs part (after (t * per) s) room filled (of-buffer ∙ ap (λ (m : ℕ). tests_of p per m buffer xs) en) in
      let front : length (take t rs) ≡ t = length-take-le t rs (omega (arith, h)) in
      let both : length (take t rs ++ part) ≡ e = length-append (take t rs) part ∙ omega (arith, front, l, h) in
      let sum : t + (e - t) ≡ e = omega (arith, h) in
      ap (take e) (sym (append_assoc (take t rs) part rest)) ∙ ap (λ (n : ℕ). take n ((take t rs ++ part) ++ rest)) (sym both) ∙ take-append_seam (take t rs ++ part) rest
      ∙ ap₂ (λ (a b : List ℕ). a ++ b) d is ∙ sym (more t (e - t)) ∙ ap (λ (n : ℕ). tests_of p per n (drawn (n * per) s) xs) sum

  -- with those of the tests that took the next bytes of the stream themselves
  pub next_drawn : (t e n : ℕ) (rs part rest : List ℕ) (u : Sponge) → (t ≤ e) × (e ≤ length rs) → length part ≡ e - t → n ≡ e - t → u ≡ after (t * per) s → Done t rs → part ≡ tests_of p per n (drawn (n * per) u) xs → Done e (take t rs ++ (part ++ rest))
  next_drawn t e n rs part rest u h l en on d is =
      let bytes = drawn ((e - t) * per) (after (t * per) s) in
      let long : length bytes ≡ (e - t) * per = length_drawn ((e - t) * per) (after (t * per) s) in
      next t e n bytes rs part rest h l en (le_of_eq (sym long)) (take_all ((e - t) * per) bytes (le_of_eq long)) d (is ∙ ap₂ (λ (m : ℕ) (v : Sponge). tests_of p per n (drawn (m * per) v) xs) en on)

  -- the first block's
  pub first_done : (t n : ℕ) (part rest : List ℕ) → length part ≡ t → n ≡ t → part ≡ tests_of p per n (drawn (n * per) s) xs → Done t (part ++ rest)
  first_done t n part rest l en is = take_at part rest t l ∙ is ∙ ap (λ (m : ℕ). tests_of p per m (drawn (m * per) s) xs) en

  pub all : (t : ℕ) (rs : List ℕ) → t ≡ length rs → Done t rs → rs ≡ tests_of p per t (drawn (t * per) s) xs
  all t rs h d = sym (take_all t rs (omega (arith, h))) ∙ d

-- a block: the tests from t on, up to e, of T; a buffer of n bytes holds those of so many
module _ (per n T t e : ℕ) (h : (0 < per) × (per ≤ n)) (more : t < T) (is : e ≡ min (t + n / per) T) where
  pub record Block : Type 0 where
    pub on : t < e
    pub inside : e ≤ T
    pub room : (e - t) * per ≤ n

  pub block : Block
  block =
      let some : 0 < n / per = (le-div_iff_mul-le h.0).1 (omega (arith, h)) in
      record { on = omega (arith, some, more, is); inside = omega (arith, is); room = (le-div_iff_mul-le h.0).0 (omega (arith, is)) }

-- the bytes of one test are no more than those of all
pub short_per : (T per n : ℕ) → 0 < T → T * per ≤ n → per ≤ n
short_per T per n h l = le_trans (omega (arith, mul-le-mul_right per h)) l

-- how many bytes the tests take
pub some_bytes : (T per : ℕ) → 0 < T → 0 < per → 0 < T * per
some_bytes T per h l = le_trans l (short_per T per (T * per) h (le_of_eq refl))

pub few_bytes : (T per : ℕ) → T ≤ 256 → per ≤ 16384 → T * per ≤ 4194304
few_bytes T per h l = mul-le-mul h l
