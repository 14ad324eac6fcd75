-- The statement of `specs/Correctness.antt` holds over every field that has room for the accepted inputs, and so over Field64. Assumes nothing.
use Prim.Native.Nat.{ℕ, zero, suc, ◌+◌, ◌-◌, ◌*◌, ◌/◌, ◌^◌, ◌<◌, ◌≤◌}
use mathlib.Core.Path.{◌≡◌, refl, sym, ap, ◌∙◌}
use mathlib.Core.Bool.{Bool, true, false, cond}
use mathlib.Core.List.{List, [], ◌∷◌, map}
use native.Mathlib.Nat.{zero-mul, mul-pos}
use native.Mathlib.Omega.{arith}
use lib.Dec.{ltb, lit<, lit≤}
use lib.ListN.{length, get_or, take, replicate, length-replicate}
use lib.Seq.{length-take-le, get_or-take}
use lib.IntN.{ℤ, pos, neg_ℤ, nat_abs, ◌+ℤ◌}
use lib.Pow.{pow_pos}
use lib.Ieee.{Float, binary64, round, of_int, neg, div}
use lib.Ieee.Scale.{round_same}
use Rattle.rules.specs.Rules.{accepted}
use Rattle.doubles.specs.Doubles.{mod_p, element, power, plus_zero, centred, decoded}
use Rattle.doubles.proofs.Laws.{round_neg, div_power}
use Rattle.doubles.proofs.Sense.{mod_p_below, size_within}
use Rattle.pine.specs.declared.PineParam.{PineParam}
use Rattle.pine.specs.Param.{Field, Field64, param_answer}
use Rattle.pine.specs.Words.{WordLaws}
use Rattle.pine.specs.Record.{bytes_per_test}
use Rattle.pine.proofs.Words.{words_64, words_long}
use Rattle.rows.specs.Rows.{add_rows}
use Rattle.rows.specs.Outcome.{Outcome, outcome}
use Rattle.rows.proofs.Elements.{below_take, below_at}
use Rattle.rows.proofs.Added.{take_add, length-add_rows, get_or-add_rows, add_below}
use Rattle.flp.specs.Tests.{tests_of, run_tests_of}
use Rattle.flp.proofs.Gradient.{Room, room_64}
use Rattle.flp.proofs.Valid.{accepted_inputs, long_enough, measurement_at, read_results, results_cut, left_alone, right_alone, main_cut, norm_cut}
use Rattle.vdaf.specs.Aggregates.{sizes_rule, decoded_sums, unshard_of}
use Rattle.vdaf.proofs.Accepted.{unshards}
use Rattle.vdaf.proofs.Decoded.{length-decoded_sums, get_or-decoded_sums, sizes_met}
use Rattle.correctness.specs.Tally.{Aggregate, run, FieldRow, Each, Joined}
use Rattle.correctness.proofs.Cut.{Cut, shares, StandsFor, centred_number, numbers_sum}
use Rattle.correctness.specs.Correctness.{sumℤ}
use Rattle.correctness.specs.Correctness as C
use Rattle.correctness.specs.Correctness.{nearest_over, Correctness, EveryDecodable}
use Rattle.correctness.proofs.Tally.{elements_long, Good, backed}
use Rattle.correctness.proofs.Report.{read, modulo}
use Rattle.correctness.proofs.Aggregation.{aggregation, taken_as_added}

each_of : {A : Type 0} {P : A → Type 0} → ((x : A) → P x) → (xs : List A) → Each P xs
each_of f [] = tt
each_of f (x ∷ xs) = (f x, each_of f xs)

front_row : (p n d : ℕ) (xs : List ℕ) → d ≤ n → FieldRow p n xs → FieldRow p d (take d xs)
front_row p n d xs h f = record { long = length-take-le d xs (omega (arith, f.long)); below = below_take p d xs f.below }

-- ---- a decoded element is the double nearest to its centred number, divided by 2 ^ f
negative : (n : ℕ) → 0 < n → neg (of_int binary64 (pos n)) ≡ of_int binary64 (neg_ℤ (pos n))
unfolding of_int
negative zero h = absurd (omega arith)
negative (suc n) h = sym (round_neg binary64 (suc n) 1)

nearest_is : (p y f : ℕ) → y < p → decoded p y f ≡ nearest_over f (centred_number p y)
unfolding decoded centred
nearest_is p y f h = ap (λ (x : Float). div binary64 x (power f)) (go (ltb ((p - 1) / 2) y))
  where
    go : (t : Bool) → cond t (neg (of_int binary64 (pos (p - y)))) (of_int binary64 (pos y)) ≡ of_int binary64 (cond t (neg_ℤ (pos (p - y))) (pos y))
    go true = negative (p - y) (omega arith)
    go false = refl

zero_is : round binary64 false 0 1 ≡ plus_zero
unfolding round
zero_is = refl

nearest_zero : (f : ℕ) → nearest_over f (pos 0) ≡ plus_zero
unfolding of_int
nearest_zero f =
    ap (λ (x : Float). div binary64 x (power f)) zero_is ∙ div_power binary64 false 0 (pos 0) f
    ∙ round_same binary64 false 0 (1 * 2 ^ f) 0 1 (mul-pos (pow_pos 0) (pow_pos f)) (pow_pos 0) (sym (zero-mul (1 * 2 ^ f))) ∙ zero_is

module _ (F : Field) (laws : WordLaws F) (i : PineParam) where
  module _ (rooms : (param_answer F i).number ≡ 0 → Room F.p i) (r : C.Report F i) where
    room : Room F.p i
    room = rooms (accepted_inputs F i r.gradient r.stream r.found_measurement r.found_results r.measurement r.results r.call)

    long : i.dimension ≤ length (F.elements r.measurement)
    long = long_enough F laws i r.gradient r.stream r.found_measurement r.found_results r.measurement r.results room r.call

    stands : (j : ℕ) → j < i.dimension → get_or (F.elements r.measurement) j 0 ≡ mod_p F.p (C.floor_at F i j r)
    unfolding element
    stands = measurement_at F laws i r.gradient r.stream r.found_measurement r.found_results r.measurement r.results room r.call

    plain : List ℕ → List ℕ
    plain side = tests_of F.p (bytes_per_test i.dimension) i.num_wr_tests r.stream (take i.dimension side)

    left_side : (found : List ℕ) → length found ≡ F.words_in i.num_wr_tests → run_tests_of F i (F.words (C.share F i r.left)) r.stream found ≡ outcome accepted (F.words (plain r.left))
    unfolding plain
    left_side = left_alone F laws i r.gradient r.stream r.found_measurement r.found_results r.measurement r.results room r.call r.left r.right r.left_row.long r.right_row.long r.left_row.below r.right_row.below r.adds

    right_side : (found : List ℕ) → length found ≡ F.words_in i.num_wr_tests → run_tests_of F i (F.words (C.share F i r.right)) r.stream found ≡ outcome accepted (F.words (plain r.right))
    unfolding plain
    right_side = right_alone F laws i r.gradient r.stream r.found_measurement r.found_results r.measurement r.results room r.call r.left r.right r.left_row.long r.right_row.long r.left_row.below r.right_row.below r.adds

    -- into zeros
    alone : (side : List ℕ) → ((found : List ℕ) → length found ≡ F.words_in i.num_wr_tests → run_tests_of F i (F.words (C.share F i side)) r.stream found ≡ outcome accepted (F.words (plain side))) → C.results_on F i r side ≡ plain side
    unfolding plain
    alone side f =
        let T = i.num_wr_tests in
        ap (λ (o : Outcome). F.elements o.row) (f (F.words (replicate T 0)) (words_long F laws (replicate T 0) T (length-replicate {A = ℕ} T 0)))
        ∙ read_results F laws i r.gradient r.stream r.found_measurement r.found_results r.measurement r.results room r.call r.left r.right r.left_row.long r.right_row.long r.left_row.below r.right_row.below r.adds side

    on_left : C.results_on F i r r.left ≡ plain r.left
    on_left = alone r.left left_side

    on_right : C.results_on F i r r.right ≡ plain r.right
    on_right = alone r.right right_side

    tests_add : C.TestsAdd F i r
    unfolding plain
    tests_add = record {
      left = λ found l. rw on_left (left_side found l);
      right = λ found l. rw on_right (right_side found l);
      sum = rw (on_left, on_right) (results_cut F laws i r.gradient r.stream r.found_measurement r.found_results r.measurement r.results room r.call r.left r.right r.left_row.long r.right_row.long r.left_row.below r.right_row.below r.adds);
    }

    circuits_zero : C.CircuitsZero F i r
    unfolding plain
    circuits_zero = record {
      main = λ joint f. rw (on_left, on_right) (main_cut F laws i r.gradient r.stream r.found_measurement r.found_results r.measurement r.results room r.call r.left r.right r.left_row.long r.right_row.long r.left_row.below r.right_row.below r.adds joint f.long f.below);
      norm = rw (on_left, on_right) (norm_cut F laws i r.gradient r.stream r.found_measurement r.found_results r.measurement r.results room r.call r.left r.right r.left_row.long r.right_row.long r.left_row.below r.right_row.below r.adds);
    }

    -- its first d elements, as a row cut in two
    cut_of : Cut F.p i.dimension
    cut_of = record {
      whole = take i.dimension (F.elements r.measurement);
      left = take i.dimension r.left;
      right = take i.dimension r.right;
      left_row = front_row F.p (length (F.elements r.measurement)) i.dimension r.left long r.left_row;
      right_row = front_row F.p (length (F.elements r.measurement)) i.dimension r.right long r.right_row;
      adds = sym (take_add F.p i.dimension r.left r.right) ∙ ap (take i.dimension) r.adds;
      number = λ j. C.floor_at F i j r;
    }

  module _ (rooms : (param_answer F i).number ≡ 0 → Room F.p i) where
    cuts : List (C.Report F i) → List (Cut F.p i.dimension)
    cuts rs = map (cut_of rooms) rs

    cut_shares : (rs : List (C.Report F i)) → shares F.words (cuts rs) ≡ C.shares_of F i rs
    unfolding cuts cut_of
    cut_shares [] = refl
    cut_shares (r ∷ rs) = ap (λ (t : List (List ℕ)). F.words (take i.dimension r.left) ∷ F.words (take i.dimension r.right) ∷ t) (cut_shares rs)

    cut_sum : (j : ℕ) (rs : List (C.Report F i)) → numbers_sum j (cuts rs) ≡ C.floors_sum F i j rs
    unfolding cuts cut_of sumℤ
    cut_sum j [] = refl
    cut_sum j (r ∷ rs) = ap (λ (z : ℤ). C.floor_at F i j r +ℤ z) (cut_sum j rs)

    cut_stands : (j : ℕ) → j < i.dimension → (rs : List (C.Report F i)) → Each (StandsFor F.p i.dimension j) (cuts rs)
    unfolding cuts cut_of
    cut_stands j h [] = tt
    cut_stands j h (r ∷ rs) = (get_or-take i.dimension (F.elements r.measurement) j 0 h ∙ stands rooms r j h, cut_stands j h rs)

-- an element of the decoded row, by the centred number that it is read as
module _ (F : Field) (laws : WordLaws F) (i : PineParam) (positive : 0 < F.p) (rs : List (C.Report F i)) (rooms : (param_answer F i).number ≡ 0 → Room F.p i) where
  decoded_at_lem : (x y : List ℕ) → FieldRow F.p i.dimension x → FieldRow F.p i.dimension y → (j : ℕ) → j < i.dimension
      → centred_number F.p (get_or (add_rows F.p x y) j 0) ≡ numbers_sum j (cuts F laws i rooms rs)
      → get_or (decoded_sums F.p i.frac_bits x y) j plus_zero ≡ nearest_over i.frac_bits (C.floors_sum F i j rs)
  decoded_at_lem x y a b j h e =
      let same : length x ≡ length y = a.long ∙ sym b.long in
      let k : j < length x = omega (arith, a.long) in
      let l : j < length (add_rows F.p x y) = omega (arith, length-add_rows F.p x y same) in
      let s : get_or (add_rows F.p x y) j 0 ≡ _ = get_or-add_rows F.p x y j same k in
      get_or-decoded_sums F.p i.frac_bits x y same plus_zero j k
      ∙ ap (λ (n : ℕ). decoded F.p n i.frac_bits) (sym s)
      ∙ nearest_is F.p (get_or (add_rows F.p x y) j 0) i.frac_bits (below_at F.p (add_rows F.p x y) (add_below F.p positive x y) j l)
      ∙ ap (nearest_over i.frac_bits) (e ∙ cut_sum F laws i rooms j rs)

-- two aggregates whose tallies joined are the shares of the reports
module _ (F : Field) (laws : WordLaws F) (positive : 0 < F.p) (rooms : (i : PineParam) → (param_answer F i).number ≡ 0 → Room F.p i) (i : PineParam) (ok : param_answer F i ≡ accepted)
    (A B : Aggregate) (f : Good F i.dimension A) (g : Good F i.dimension B) (rs : List (C.Report F i)) (q : Joined A.tally B.tally (C.shares_of F i rs)) where
  abbrev d : ℕ
  d = i.dimension

  abbrev x : List ℕ
  x = F.elements A.row

  abbrev y : List ℕ
  y = F.elements B.row

  field_row : (a : Aggregate) → Good F i.dimension a → FieldRow F.p i.dimension (F.elements a.row)
  field_row a h = record { long = elements_long F laws d a.row h.backing.row; below = h.backing.row.below }

  cut_joined : Joined A.tally B.tally (shares F.words (cuts F laws i (rooms i) rs))
  cut_joined = rw (cut_shares F laws i (rooms i)) q

  at : (j : ℕ) → j < i.dimension → nat_abs (C.floors_sum F i j rs) ≤ (F.p - 1) / 2 → get_or (decoded_sums F.p i.frac_bits (F.elements A.row) (F.elements B.row)) j plus_zero ≡ nearest_over i.frac_bits (C.floors_sum F i j rs)
  at j h w =
      decoded_at_lem F laws i positive rs (rooms i) x y (field_row A f) (field_row B g) j h
      (read F laws d positive A B f g (cuts F laws i (rooms i) rs) cut_joined j h (cut_stands F laws i (rooms i) j h rs) (rw cut_sum w))

  -- the sums' sizes are those of the floors' sums
  sized : C.Decodable F i rs → sizes_rule F.p F.size_limit 0 (add_rows F.p (F.elements A.row) (F.elements B.row)) ≡ accepted
  sized can = sizes_met F.p F.size_limit 0 (add_rows F.p x y) (λ j h.
      let l : j < d = omega (arith, h, length-add_rows F.p x y ((field_row A f).long ∙ sym (field_row B g).long), (field_row A f).long) in
      let e : get_or (add_rows F.p x y) j 0 ≡ mod_p F.p (C.floors_sum F i j rs) = modulo F laws d positive A B f g (cuts F laws i (rooms i) rs) cut_joined j l (cut_stands F laws i (rooms i) j l rs) ∙ ap (mod_p F.p) (cut_sum F laws i (rooms i) j rs) in
      rw e (can j l))

  pub decodes : C.Decodable F i rs → (found : List Float) → length found ≡ i.dimension → C.Decodes F i rs (unshard_of F i A.row B.row found)
  decodes can found l =
      let a = field_row A f in
      let b = field_row B g in
      let u = unshards F i A.row B.row found (record { param = ok; left_long = f.backing.row.long; right_long = g.backing.row.long; left_below = a.below; right_below = b.below }) l (sized can) in
      rw u (record {
        accepts = refl;
        long = length-decoded_sums F.p i.frac_bits x y (a.long ∙ sym b.long) ∙ a.long;
        at = at;
        zero = λ j h z. at j h (rw z (omega arith)) ∙ rw z (nearest_zero i.frac_bits);
      })

pub correctness : (F : Field) → WordLaws F → 0 < F.p → ((i : PineParam) → (param_answer F i).number ≡ 0 → Room F.p i) → Correctness F
correctness F laws positive rooms i ok s b calls rs =
    let d = i.dimension in
    let g = aggregation F laws positive d s b calls (cuts F laws i (rooms i) rs) in
    let f = backed F laws d positive s b calls in
    record {
      tests = each_of (tests_add F laws i (rooms i)) rs;
      circuits = each_of (circuits_zero F laws i (rooms i)) rs;
      tallied = g.tallied;
      empty_answers = g.empty_answers;
      accumulate_answers = g.accumulate_answers;
      merge_answers = g.merge_answers;
      subtract_answers = taken_as_added F;
      decoded = λ k m. decodes F laws positive rooms i ok (run F s calls k) (run F s calls m) (f k) (f m) rs;
    }

pub correctness_64 : Correctness Field64
correctness_64 = correctness Field64 words_64 (omega arith) room_64

-- where the limit is half of p, the sums of every list of reports can be decoded
every_decodable : (F : Field) → 0 < F.p → F.p ≤ 2 * F.size_limit + 1 → EveryDecodable F
every_decodable F positive room i rs j h = size_within F.p F.size_limit (mod_p F.p (C.floors_sum F i j rs)) room (mod_p_below F.p positive (C.floors_sum F i j rs))

pub decodable_64 : EveryDecodable Field64
decodable_64 = every_decodable Field64 (lit< tt) (lit≤ tt)
