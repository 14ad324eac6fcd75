-- Values moved to a row's front, and rows that begin with those of a stream. Assumes nothing.
use mathlib.Core.Path.{◌≡◌, refl, sym, ap, ap₂, subst, ◌∙◌}
use mathlib.Core.Bool.{Bool, true, false}
use mathlib.Core.List.{List, [], ◌∷◌, ◌++◌, append-nil}
use Prim.Native.Nat.{ℕ, zero, suc, ◌+◌, ◌-◌, ◌*◌, ◌≤◌, ◌<◌}
use native.Mathlib.Nat.{add-zero, lt_of_not-le}
use native.Mathlib.Decide.{dec_le}
use native.Mathlib.Numerals.{add-one}
use native.Mathlib.Omega.{arith}
use lib.ListN.{length, get_or, take, drop, set, replicate, length-append, length-set, length-replicate, drop_of_length-le}
use lib.Seq.{take-suc, take-suc-set, take-set-le, drop-set-lt, drop-drop, get_or-drop, take_all, take_at, drop_at, take-append-le, take-append-add, length-take-le}
use lib.Dec.{ltb, leb}
use borrow.Author.Tests.{le-leb, lt-leb}
use mir.Val.{bool_byte}
use Rattle.rows.specs.Rows.{Below}
use Rattle.rows.proofs.Elements.{below_parts}
use Rattle.turboshake.specs.declared.Sponge.{Sponge}
use Rattle.turboshake.specs.Stream.{drawn, after}
use Rattle.turboshake.proofs.Drawn.{length_drawn, drawn_add, after_add}
use Rattle.turboshake.proofs.Shake.{drawn_front}
use Rattle.sampler.specs.declared.Draws.{Draws}
use Rattle.sampler.specs.Sampler.{kept_of, values_of}
use Rattle.sampler.specs.Drawing.{to_come, Begins, DrewNext, Drawing, DrewFrom, DrewRow}
use Rattle.sampler.proofs.Values.{kept_append, values_none, values_length, values_below, values_add, values_front}

-- the row's front has those kept of the first i elements, and from i on it is as it was
abbrev pub Keeping : (p : ℕ) (row₀ row : List ℕ) (k i : ℕ) → Type 0
Keeping p row₀ row k i = ((i ≤ length row₀) × (k ≤ i)) × ((length row ≡ length row₀) × ((take k row ≡ kept_of p (take i row₀)) × ((k ≡ length (kept_of p (take i row₀))) × (drop i row ≡ drop i row₀))))

pub keeping_none : (p : ℕ) (row : List ℕ) → Keeping p row row 0 0
unfolding kept_of
keeping_none p row = ((omega arith, omega arith), (refl, (refl, (refl, refl))))

module _ (p : ℕ) (row₀ row : List ℕ) (k i : ℕ) (inv : Keeping p row₀ row k i) (h : i < length row₀) where
  here : get_or row i 0 ≡ get_or row₀ i 0
  here =
      ap (λ (j : ℕ). get_or row j 0) (sym (add-zero i)) ∙ sym (get_or-drop i row 0 0) ∙ ap (λ (r : List ℕ). get_or r 0 0) inv.1.1.1.1 ∙ get_or-drop i row₀ 0 0
      ∙ ap (λ (j : ℕ). get_or row₀ j 0) (add-zero i)

  one_more : kept_of p (take (i + 1) row₀) ≡ kept_of p (take i row₀) ++ kept_of p (get_or row₀ i 0 ∷ [])
  one_more = ap (kept_of p) (ap (λ (j : ℕ). take j row₀) (add-one i) ∙ take-suc row₀ i 0 h) ∙ kept_append p (take i row₀) (get_or row₀ i 0 ∷ [])

  -- the next element, moved or left out
  module _ (v : ℕ) (is : v ≡ get_or row i 0) where
    abbrev next : List ℕ
    next = set row k v

    front : (t : Bool) → ltb v p ≡ t → (take (k + bool_byte t) next ≡ kept_of p (take i row₀) ++ kept_of p (v ∷ [])) × (k + bool_byte t ≡ length (kept_of p (take i row₀) ++ kept_of p (v ∷ [])))
    unfolding kept_of
    front true e =
        let room : k < length row = omega (arith, inv.1.0, inv.0.1) in
        rw e (ap (λ (j : ℕ). take j next) (add-one k) ∙ take-suc-set row k v room ∙ ap (λ (r : List ℕ). r ++ (v ∷ [])) inv.1.1.0, omega (arith, inv.1.1.1.0, length-append (kept_of p (take i row₀)) (v ∷ [])))
    front false e =
        rw (e, append-nil (kept_of p (take i row₀))) (ap (λ (j : ℕ). take j next) (add-zero k) ∙ take-set-le k row k v (omega arith) ∙ inv.1.1.0, omega (arith, inv.1.1.1.0))

    value : v ≡ get_or row₀ i 0
    value = is ∙ here

    pub keeping_next : Keeping p row₀ next (k + bool_byte (ltb v p)) (i + 1)
    keeping_next =
        let f = front (ltb v p) refl in
        let e : kept_of p (take (i + 1) row₀) ≡ kept_of p (take i row₀) ++ kept_of p (v ∷ []) = one_more ∙ ap (λ (x : ℕ). kept_of p (take i row₀) ++ kept_of p (x ∷ [])) (sym value) in
        let rest : drop (i + 1) next ≡ drop (i + 1) row₀ =
        drop-set-lt (i + 1) row k v (omega (arith, inv.0.1)) ∙ sym (drop-drop 1 i row) ∙ ap (drop 1) inv.1.1.1.1 ∙ drop-drop 1 i row₀ in
        ((omega arith, few (ltb v p)), (length-set row k v ∙ inv.1.0, (f.0 ∙ sym e, (f.1 ∙ ap length (sym e), rest))))
      where
        few : (t : Bool) → k + bool_byte t ≤ i + 1
        few true = omega (arith, inv.0.1)
        few false = omega (arith, inv.0.1)

-- ---- a row that begins with those of a stream

module _ (p : ℕ) (bytes : List ℕ) where
  pub begins_none : (row : List ℕ) → Begins p bytes 0 0 row
  begins_none row = rw (values_none p bytes) (refl, refl)

  -- with those of the next m values in their place, which part begins with
  pub begins_more : (u m k j : ℕ) (row part rest next : List ℕ) → k ≤ length row → j ≤ length part → Begins p bytes u k row → next ≡ values_of p m (drop (8 * u) bytes) → take j part ≡ next → j ≡ length next
      → Begins p bytes (u + m) (k + j) (take k row ++ (part ++ rest))
  begins_more u m k j row part rest next room fits b is e l =
      let front : length (take k row) ≡ k = length-take-le k row room in
      let all : values_of p u bytes ++ next ≡ values_of p (u + m) bytes = ap (λ (r : List ℕ). values_of p u bytes ++ r) is ∙ sym (values_add p u m bytes) in (
        ap (λ (n : ℕ). take (n + j) (take k row ++ (part ++ rest))) (sym front) ∙ take-append-add (take k row) (part ++ rest) j
            ∙ ap₂ ◌++◌ b.0 (take-append-le j part rest fits ∙ e) ∙ all,
        ap₂ ◌+◌ b.1 l ∙ sym (length-append (values_of p u bytes) next) ∙ ap length all,
      )

  -- with those that were read from the bytes of the next m values
  pub begins_next : (u m n k j : ℕ) (row part rest : List ℕ) → k ≤ length row → length part ≡ m → n ≡ m → Begins p bytes u k row
      → (take j part ≡ values_of p n (take (8 * u + 8 * m - 8 * u) (drop (8 * u) bytes))) × (j ≡ length (values_of p n (take (8 * u + 8 * m - 8 * u) (drop (8 * u) bytes))))
      → Begins p bytes (u + m) (k + j) (take k row ++ (part ++ rest))
  begins_next u m n k j row part rest room long en b is =
      let size : 8 * u + 8 * m - 8 * u ≡ 8 * m = omega arith in
      let next : values_of p n (take (8 * u + 8 * m - 8 * u) (drop (8 * u) bytes)) ≡ values_of p m (drop (8 * u) bytes) =
      ap₂ (λ (i t : ℕ). values_of p i (take t (drop (8 * u) bytes))) en size ∙ values_front p m (8 * m) (drop (8 * u) bytes) (omega arith) in
      let few : j ≤ length part = omega (arith, is.1, ap length next, values_length p m (drop (8 * u) bytes), long) in
      begins_more u m k j row part rest (values_of p n (take (8 * u + 8 * m - 8 * u) (drop (8 * u) bytes))) room few b next is.0 is.1

  module _ (N u k : ℕ) (row : List ℕ) (b : Begins p bytes u k row) (l : u ≤ N) where
    all : values_of p N bytes ≡ values_of p u bytes ++ values_of p (N - u) (drop (8 * u) bytes)
    all = let e : N ≡ u + (N - u) = omega arith in ap (λ (m : ℕ). values_of p m bytes) e ∙ values_add p u (N - u) bytes

    -- one that is full has the first of them
    pub begins_all : k ≡ length row → row ≡ take (length row) (values_of p N bytes)
    begins_all e =
        let is : row ≡ values_of p u bytes = sym (take_all k row (omega arith)) ∙ b.0 in
        is ∙ sym (ap (take (length row)) all ∙ take_at (values_of p u bytes) (values_of p (N - u) (drop (8 * u) bytes)) (length row) (sym b.1 ∙ e))

-- ---- draws from a stream

module _ (p : ℕ) (s : Sponge) (n : ℕ) where
  pub drawing_none : (at : s.at < 168) (row : List ℕ) → Drawing p s n (record { stream = s; left = n; count = 0 }) row
  unfolding after
  drawing_none at row =
      let none : n - n ≡ 0 = omega arith in
      record {
        left = omega arith;
        begins = rw none (begins_none p (drawn (8 * n) s) row);
        within = omega arith;
        on = rw none refl;
        place = at;
      }

  -- the bytes of the values that are left
  rest_of : (r : Draws) (row : List ℕ) → Drawing p s n r row → drop (8 * (n - r.left)) (drawn (8 * n) s) ≡ drawn (8 * r.left) r.stream
  rest_of r row d =
      let used = 8 * (n - r.left) in
      let whole : 8 * n ≡ 8 * (n - r.left) + 8 * r.left = omega (arith, d.left) in
      ap (λ (j : ℕ). drop used (drawn j s)) whole ∙ ap (drop used) (drawn_add used (8 * r.left) s) ∙ drop_at (drawn used s) (drawn (8 * r.left) (after used s)) used (length_drawn used s)
      ∙ ap (drawn (8 * r.left)) (sym d.on)

  module _ (from to : Draws) (m : ℕ) (row part : List ℕ) (d : Drawing p s n from row) (fits : m ≤ from.left) (room : from.count + m ≤ length row) (long : length part ≡ m) (next : DrewNext p from to m part) where
    abbrev used : ℕ
    used = n - from.left

    -- the values that were drawn are those that follow in the stream
    follow : values_of p m (drawn (8 * m) from.stream) ≡ values_of p m (drop (8 * used) (drawn (8 * n) s))
    follow =
        let whole : 8 * m + 8 * (from.left - m) ≡ 8 * from.left = omega arith in
        let front : drawn (8 * m) from.stream ≡ take (8 * m) (drawn (8 * from.left) from.stream) =
        sym (drawn_front (8 * m) (8 * (from.left - m)) from.stream) ∙ ap (λ (j : ℕ). take (8 * m) (drawn j from.stream)) whole in
        ap (values_of p m) front ∙ values_front p m (8 * m) (drawn (8 * from.left) from.stream) (omega arith) ∙ ap (values_of p m) (sym (rest_of from row d))

    pub drawing_next : (rest : List ℕ) → length (take from.count row ++ (part ++ rest)) ≡ length row → Drawing p s n to (take from.count row ++ (part ++ rest))
    drawing_next rest same =
        let kept = values_of p m (drawn (8 * m) from.stream) in
        let few : length kept ≤ m = values_length p m (drawn (8 * m) from.stream) in
        let now : n - to.left ≡ used + m = omega (arith, d.left, next.left) in
        let more = begins_more p (drawn (8 * n) s) used m from.count (length kept) row part rest kept (omega (arith, d.within)) (omega (arith, few, long)) d.begins follow next.begins refl in
        record {
          left = omega (arith, d.left, next.left);
          begins = rw (now, next.count) more;
          within = omega (arith, next.count, few, same, room);
          on = next.on ∙ ap (after (8 * m)) d.on ∙ sym (after_add (8 * used) (8 * m) s) ∙ ap (λ (j : ℕ). after j s) (whole now);
          place = next.place;
        }
      where
        whole : n - to.left ≡ used + m → 8 * used + 8 * m ≡ 8 * (n - to.left)
        whole e = omega arith

  -- ---- what is still to come, when the draws have ended

  module _ (r : Draws) (row : List ℕ) (d : DrewFrom p s n r row) where
    abbrev left : List ℕ
    left = values_of p r.left (drawn (8 * r.left) r.stream)

    pub all_of : values_of p n (drawn (8 * n) s) ≡ values_of p (n - r.left) (drawn (8 * n) s) ++ left
    all_of =
        let whole : n ≡ n - r.left + r.left = omega (arith, d.drawing.left) in
        ap (λ (j : ℕ). values_of p j (drawn (8 * n) s)) whole ∙ values_add p (n - r.left) r.left (drawn (8 * n) s)
        ∙ ap (λ (b : List ℕ). values_of p (n - r.left) (drawn (8 * n) s) ++ values_of p r.left b) (rest_of r row d.drawing)

    count_of : length (values_of p n (drawn (8 * n) s)) ≡ r.count + length left
    count_of = ap length all_of ∙ length-append (values_of p (n - r.left) (drawn (8 * n) s)) left ∙ ap (λ (j : ℕ). j + length left) (sym d.drawing.begins.1)

    pub wanted_less : (w : ℕ) → r.count ≤ w → leb (w - r.count) (length left) ≡ leb w (length (values_of p n (drawn (8 * n) s)))
    wanted_less w h = go (dec_le w (length (values_of p n (drawn (8 * n) s))))
      where
        go : Dec (w ≤ length (values_of p n (drawn (8 * n) s))) → leb (w - r.count) (length left) ≡ leb w (length (values_of p n (drawn (8 * n) s)))
        go (yes l) = le-leb (w - r.count) (length left) (omega (arith, count_of)) ∙ sym (le-leb w (length (values_of p n (drawn (8 * n) s))) l)
        go (no g) =
            let l = lt_of_not-le g in
            lt-leb (w - r.count) (length left) (omega (arith, count_of)) ∙ sym (lt-leb w (length (values_of p n (drawn (8 * n) s))) l)

    none_left : r.left ≡ 0 → length left ≡ 0
    none_left e = ap (λ (j : ℕ). length (values_of p j (drawn (8 * j) r.stream))) e ∙ ap length (values_none p (drawn (8 * 0) r.stream))

    -- ---- of a row that is to be full

    -- it is
    pub row_full : length row ≤ r.count → DrewRow p (to_come p n s) r row
    row_full h =
        let all : to_come p n s ≡ row ++ left = all_of ∙ ap (λ (xs : List ℕ). xs ++ left) (sym d.drawing.begins.0 ∙ take_all r.count row h) in
        record {
          values = λ _. sym (ap (take (length row)) all ∙ take_at row left (length row) refl);
          below = (below_parts p row left (subst (Below p) all (values_below p n (drawn (8 * n) s)))).0;
          rest = sym (ap (drop (length row)) all ∙ drop_at row left (length row) refl);
          place = d.drawing.place;
        }

    -- no draw is left before it is, and it has zeros
    pub row_zero : 0 < p → r.count < length row → (zeros : List ℕ) → zeros ≡ replicate (length row) 0 → DrewRow p (to_come p n s) r zeros
    row_zero positive h zeros e =
        let long : length zeros ≡ length row = ap length e ∙ length-replicate (length row) 0 in
        let few : length (to_come p n s) < length zeros = omega (arith, count_of, none_left (d.ends h), long) in
        let over : length (to_come p n s) ≤ length zeros = omega (arith, few) in
        record {
          values = λ g. absurd (omega (arith, few, g));
          below = subst (Below p) (sym e) (zeros_below (length row));
          rest = no_more left (none_left (d.ends h)) ∙ sym (drop_of_length-le (to_come p n s) over);
          place = d.drawing.place;
        }
      where
        zeros_below : (k : ℕ) → Below p (replicate k 0)
        zeros_below zero = tt
        zeros_below (suc k) = (positive, zeros_below k)

        no_more : (xs : List ℕ) → length xs ≡ 0 → xs ≡ []
        no_more [] z = refl
        no_more (x ∷ xs) z = absurd (omega (arith, z))
