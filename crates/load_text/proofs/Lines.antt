-- The lines of a load, from an index of the text on. Assumes nothing.
use mathlib.Core.Path.{◌≡◌, refl, sym, ap, ◌∙◌}
use mathlib.Core.Bool.{Bool, true, false, not, cond, ◌&&◌}
use mathlib.Core.List.{List, [], ◌∷◌, ◌++◌}
use mathlib.Core.Option.{Option, none, some, none-ne-some, some-injective}
use Prim.Native.Nat.{ℕ, zero, suc, ◌+◌, ◌-◌, ◌*◌, ◌≤◌, ◌<◌}
use native.Mathlib.Omega.{arith}
use native.Mathlib.Numerals.{add-one}
use lib.ListN.{length, get_or, take, drop, set, length-set, drop_of_length-le}
use lib.Seq.{drop-cons, take_all, take-suc-set}
use lib.Dec.{eqb, leb}
use borrow.Author.Tests.{eq-eqb, ne_eqb, lt-leb, leb-true, leb-false}
use Rattle.std.specs.Prelude.{Some, None}
use Rattle.load_text.specs.declared.Read.{Read}
use Rattle.load_text.specs.Text.{Line, other, number, is_digit, ends_at, digits_from, first_line, up_to, before, and_then, numbers_of}
use Rattle.load_text.specs.Steps.{line_in, numbers_if}

-- ---- a digit

pub denied : (t : Bool) → not t ≡ true → t ≡ false
denied true e = sym e
denied false e = refl

pub affirmed : (t : Bool) → not t ≡ false → t ≡ true
affirmed true e = refl
affirmed false e = sym e

pub digit_above : (b : ℕ) → is_digit b ≡ true → 48 ≤ b
digit_above b e = leb-true 48 b (go (leb 48 b) (leb b 57) e)
  where
    go : (t u : Bool) → (t && u) ≡ true → t ≡ true
    go true u e = refl
    go false u e = e

-- a number that is too wide stays so
pub too_wide : (most n : ℕ) (bs : List ℕ) → most < n → other ≡ up_to most (digits_from n bs)
unfolding digits_from
too_wide most n [] h = refl
too_wide most n (b ∷ bs) h = go (is_digit b) (eqb b 10) (too_wide most (n * 10 + (b - 48)) bs (omega arith))
  where
    go : (t u : Bool) → other ≡ up_to most (digits_from (n * 10 + (b - 48)) bs) → other ≡ up_to most (cond t (digits_from (n * 10 + (b - 48)) bs) (cond u (number n bs) other))
    go true u e = e
    go false true e = rw (lt-leb n most h)
    go false false e = refl

-- ---- a line

module _ (text : List ℕ) (at most : ℕ) where
  abbrev byte : ℕ
  byte = get_or text at 0

  -- past the text's end
  module _ (h : length text ≤ at) where
    gone : drop at text ≡ []
    gone = drop_of_length-le text h

    pub digits_nothing : (n : ℕ) → other ≡ up_to most (digits_from n (drop at text))
    unfolding digits_from
    digits_nothing n = rw gone

    pub line_nothing : other ≡ up_to most (first_line (drop at text))
    unfolding first_line
    line_nothing = rw gone

  -- within it
  module _ (h : at < length text) where
    here : drop at text ≡ byte ∷ drop (at + 1) text
    here = rw add-one (drop-cons text at 0 h)

    pub digits_end : (n : ℕ) → is_digit byte ≡ false → up_to most (ends_at n (drop at text)) ≡ up_to most (digits_from n (drop at text))
    unfolding digits_from
    digits_end n e = rw (here, e)

    pub digits_next : (n : ℕ) → is_digit byte ≡ true → digits_from n (drop at text) ≡ digits_from (n * 10 + (byte - 48)) (drop (at + 1) text)
    unfolding digits_from
    digits_next n e = rw (here, e)

    pub line_other : is_digit byte ≡ false → other ≡ up_to most (first_line (drop at text))
    unfolding first_line
    line_other e = rw (here, e)

    pub line_zero : is_digit byte ≡ true → byte ≡ 48 → up_to most (ends_at 0 (drop (at + 1) text)) ≡ up_to most (first_line (drop at text))
    unfolding first_line
    line_zero e z = rw (here, e, eq-eqb byte 48 z)

    pub line_digits : is_digit byte ≡ true → (byte ≡ 48 → ⊥) → up_to most (digits_from (byte - 48) (drop (at + 1) text)) ≡ up_to most (first_line (drop at text))
    unfolding first_line
    line_digits e z = rw (here, e, ne_eqb byte 48 z)

-- ---- the lines

-- numbers that were read, before those that are still to be
abbrev pub ahead : List ℕ → Option (List ℕ) → Option (List ℕ)
ahead [] o = o
ahead (n ∷ ns) o = before n (ahead ns o)

ahead_snoc : (ns : List ℕ) (n : ℕ) (o : Option (List ℕ)) → ahead (ns ++ (n ∷ [])) o ≡ ahead ns (before n o)
ahead_snoc [] n o = refl
ahead_snoc (m ∷ ns) n o = ap (before m) (ahead_snoc ns n o)

ahead_none : (ns : List ℕ) → ahead ns none ≡ none
ahead_none [] = refl
ahead_none (m ∷ ns) = ap (before m) (ahead_none ns)

ahead_some : (ns : List ℕ) → ahead ns (some []) ≡ some ns
ahead_some [] = refl
ahead_some (m ∷ ns) = ap (before m) (ahead_some ns)

-- what is known after k lines, with the rest from `at` on
abbrev pub Reading : (limits text row : List ℕ) (at k : ℕ) → Type 0
Reading limits text row at k = (k ≤ length limits) × (length row ≡ length limits) × (numbers_of limits text ≡ ahead (take k row) (numbers_of (drop k limits) (drop at text)))

module _ (limits text row : List ℕ) (at k : ℕ) (r : Reading limits text row at k) where
  -- the next line
  module _ (h : k < length limits) (l : Rattle.std.specs.Prelude.Option Read) (e : line_in text l ≡ up_to (get_or limits k 0) (first_line (drop at text))) where
    next : numbers_of (drop k limits) (drop at text) ≡ and_then (line_in text l) (numbers_of (drop (k + 1) limits))
    unfolding numbers_of
    next = rw (add-one, drop-cons limits k 0 h, ← e)

    pub reading_other : l ≡ None → none ≡ numbers_of limits text
    reading_other o = sym (r.2 ∙ ap (ahead (take k row)) (next ∙ ap (λ (x : Rattle.std.specs.Prelude.Option Read). and_then (line_in text x) (numbers_of (drop (k + 1) limits))) o) ∙ ahead_none (take k row))

    pub reading_next : (read : Read) → l ≡ Some read → Reading limits text (set row k read.value) read.next (k + 1)
    reading_next read o =
        let n = read.value in
        let i = read.next in
        let kept : take (k + 1) (set row k n) ≡ take k row ++ (n ∷ []) = rw add-one (take-suc-set row k n (omega arith)) in (
          omega arith,
          length-set row k n ∙ r.1,
          r.2
              ∙ ap (ahead (take k row)) (next ∙ ap (λ (x : Rattle.std.specs.Prelude.Option Read). and_then (line_in text x) (numbers_of (drop (k + 1) limits))) o)
              ∙ sym (ahead_snoc (take k row) n (numbers_of (drop (k + 1) limits) (drop i text)))
              ∙ ap (λ (ns : List ℕ). ahead ns (numbers_of (drop (k + 1) limits) (drop i text))) (sym kept),
        )

  -- the end
  module _ (h : length limits ≤ k) where
    none_left : numbers_of (drop k limits) (drop at text) ≡ numbers_of [] (drop at text)
    none_left = ap (λ (ms : List ℕ). numbers_of ms (drop at text)) (drop_of_length-le limits h)

    reading_end : length text ≤ at → some row ≡ numbers_of limits text
    unfolding numbers_of
    reading_end z =
        let e : numbers_of (drop k limits) (drop at text) ≡ some [] = none_left ∙ ap (numbers_of []) (drop_of_length-le text z) in
        sym (r.2 ∙ ap (ahead (take k row)) e ∙ ahead_some (take k row) ∙ ap (λ (ns : List ℕ). some ns) (take_all k row (omega arith)))

    reading_more : at < length text → none ≡ numbers_of limits text
    unfolding numbers_of
    reading_more z =
        let e : numbers_of (drop k limits) (drop at text) ≡ none = none_left ∙ ap (numbers_of []) (drop-cons text at 0 z) in
        sym (r.2 ∙ ap (ahead (take k row)) e ∙ ahead_none (take k row))

    pub reading_done : numbers_if (leb (length text) at) row ≡ numbers_of limits text
    reading_done = go (leb (length text) at) refl
      where
        go : (t : Bool) → leb (length text) at ≡ t → numbers_if t row ≡ numbers_of limits text
        go true q = reading_end (leb-true (length text) at q)
        go false q = reading_more (leb-false (length text) at q)

-- ---- within the limits

-- a line up to m, and the lines after it
pub record First (m : ℕ) (l : Line) (read : List ℕ → Option (List ℕ)) (ns : List ℕ) : Type 0 where
  pub n : ℕ
  pub rest : List ℕ
  pub others : List ℕ
  pub line : l ≡ number n rest
  pub fits : n ≤ m
  pub then : read rest ≡ some others
  pub is : ns ≡ n ∷ others

pub first : (m : ℕ) (l : Line) (read : List ℕ → Option (List ℕ)) (ns : List ℕ) → and_then (up_to m l) read ≡ some ns → First m l read ns
first m other read ns e = absurd (none-ne-some _ e)
first m (number n rest) read ns e = go (leb n m) refl e
  where
    after : (o : Option (List ℕ)) → read rest ≡ o → n ≤ m → before n o ≡ some ns → First m (number n rest) read ns
    after none q h e = absurd (none-ne-some _ e)
    after (some ms) q h e = record { n = n; rest = rest; others = ms; line = refl; fits = h; then = q; is = sym (some-injective _ _ e) }

    go : (t : Bool) → leb n m ≡ t → and_then (cond t (number n rest) other) read ≡ some ns → First m (number n rest) read ns
    go true q e = after (read rest) refl (leb-true n m q) e
    go false q e = absurd (none-ne-some _ e)

pub within : (ms text ns : List ℕ) → numbers_of ms text ≡ some ns → (k : ℕ) → k < length ms → get_or ns k 0 ≤ get_or ms k 0
unfolding numbers_of
within [] text ns e k h = absurd (omega arith)
within (m ∷ ms) text ns e zero h = let f = first m (first_line text) (numbers_of ms) ns e in rw f.is f.fits
within (m ∷ ms) text ns e (suc k) h = let f = first m (first_line text) (numbers_of ms) ns e in rw f.is (within ms f.rest f.others f.then k (omega arith))
