-- What is written for a load. Assumes nothing.
use mathlib.Core.Path.{◌≡◌, refl, sym, ap, ◌∙◌}
use mathlib.Core.Bool.{false}
use mathlib.Core.List.{List, [], ◌∷◌, ◌++◌, append_assoc, append-nil}
use mathlib.Core.Option.{Option}
use Prim.Native.Nat.{ℕ, ◌+◌, ◌-◌, ◌*◌, ◌≤◌, ◌<◌}
use native.Mathlib.Nat.{mul-le-mul}
use native.Mathlib.Omega.{arith}
use lib.ListN.{length, take, set, replicate, length-append, length-replicate}
use lib.Seq.{length-take-le, take_at, drop-length}
use lib.Dec.{eqb}
use lib.Ieee.{Float}
use borrow.Author.Tests.{eq-eqb, ne_eqb, le-ltb}
use borrow.Rule.Slice.PartMut.{put_mid}
use Rattle.rules.specs.declared.Answer.{Answer}
use Rattle.rules.specs.Rules.{accepted, refuse, first, in_order, out_of}
use Rattle.rules.proofs.Chain.{Passed, passed, inside, split, first_refused, first_passed, accepts as accepts-all}
use Rattle.rows.specs.Rows.{row_rule}
use Rattle.rows.specs.Outcome.{outcome}
use Rattle.rows.proofs.Lengths.{row_right}
use Rattle.octets.specs.Octets.{element_bytes, pasted}
use Rattle.octets.proofs.Bytes.{length-element_bytes}
use Rattle.pine.specs.declared.PineParam.{PineParam}
use Rattle.pine.specs.Param.{Field64, param_rules_up_to, param_rules, param_answer}
use Rattle.pine.specs.Record.{wr_test_bits_of, bit_checked_len_of, encoded_input_len_of, bytes_per_test, stream_len_of}
use Rattle.pine.proofs.Sizes.{sizes_64}
use Rattle.flp.specs.Encode.{Encoded, encode_outcome, encode_answer}
use Rattle.flp.proofs.Fresh.{encode_answer_lem, encode_answers, encode_fresh}
use Rattle.load_draws.specs.Draws.{gradient_of, stream_of}
use Rattle.load_text.specs.Text.{load_limits, numbers_of}
use Rattle.load_text.proofs.Sense.{long_text}
use Rattle.load_inputs.specs.Inputs.{early_rules}
use Rattle.load_report.specs.Report.{encoded_in, encoded_of, load_rules, words_of, words_for, report_of, write_report_of}

pub two_first : (row : List ℕ) (a b : ℕ) → 2 ≤ length row → take 2 (set (set row 0 a) 1 b) ≡ a ∷ b ∷ []
two_first [] a b h = absurd (omega arith)
two_first (x ∷ []) a b h = absurd (omega arith)
two_first (x ∷ y ∷ row) a b h = refl

-- ---- inputs within the limits of a load

kept : (x m n k : ℕ) → 0 < x → x ≤ m → (refuse (out_of x m) n k).number ≡ 0
kept x m n k h l =
    let e : eqb x 0 ≡ false = ne_eqb x 0 (λ z. omega arith) in
    rw (e, le-ltb m x l)

-- they are within those of every call, and what follows from them fits
pub record Room (i : PineParam) : Type 0 where
  pub accepts : param_answer Field64 i ≡ accepted
  pub dimension : i.dimension ≤ 1024
  pub tests : i.num_wr_tests ≤ 16
  pub stream : stream_len_of i.num_wr_tests i.dimension ≤ 4096
  pub measurement : encoded_input_len_of i ≤ 1952

module _ (i : PineParam) (h : (in_order (param_rules_up_to Field64 1024 16 i)).number ≡ 0) where
  rules : Passed (param_rules_up_to Field64 1024 16 i)
  rules = passed (param_rules_up_to Field64 1024 16 i) h

  dimension_in_lem : (0 < i.dimension) × (i.dimension ≤ 1024)
  dimension_in_lem = inside i.dimension 1024 2 0 rules.1.1.0

  tests_in : (0 < i.num_wr_tests) × (i.num_wr_tests ≤ 16)
  tests_in = inside i.num_wr_tests 16 5 0 rules.1.1.1.1.1.1.0

  all_accepts : param_answer Field64 i ≡ accepted
  unfolding param_answer param_rules
  all_accepts =
      let r = rules in
      accepts-all (param_rules Field64 i) (
        r.0,
        (
          r.1.0,
          (
            kept i.dimension 65536 3 0 dimension_in_lem.0 (omega (arith, dimension_in_lem.1)),
            (r.1.1.1.0, (r.1.1.1.1.0, (r.1.1.1.1.1.0, (kept i.num_wr_tests 256 6 0 tests_in.0 (omega (arith, tests_in.1)), r.1.1.1.1.1.1.1)))),
          ),
        ),
      )

  pub room : Room i
  unfolding encoded_input_len_of bit_checked_len_of
  room =
      let d = dimension_in_lem.1 in
      let t = tests_in.1 in
      let z = sizes_64 i all_accepts in
      let b : bytes_per_test i.dimension ≤ 256 = omega arith in
      let u : 1 + wr_test_bits_of i ≤ 50 = omega (arith, z.bound_bits) in
      let s : i.num_wr_tests * bytes_per_test i.dimension ≤ 16 * 256 = mul-le-mul t b in
      let w : (1 + wr_test_bits_of i) * i.num_wr_tests ≤ 50 * 16 = mul-le-mul u t in
      record {
        accepts = all_accepts;
        dimension = d;
        tests = t;
        stream = s;
        measurement = omega (arith, z.norm_bits);
      }

pub inputs_passed : (seed : ℕ) (i : PineParam) → (in_order (early_rules seed i)).number ≡ 0 → (in_order (param_rules_up_to Field64 1024 16 i)).number ≡ 0
inputs_passed seed i h = (passed (early_rules seed i) h).0

-- ---- what is written

module _ (seed : ℕ) (i : PineParam) where
  abbrev early : Answer
  early = in_order (early_rules seed i)

  whole : in_order (load_rules seed i) ≡ first early (first (encoded_of seed i).answer accepted)
  unfolding load_rules
  whole = split 2 (load_rules seed i)

  -- refused before the gradient is made
  pub words_early : (a : Answer) → a ≡ early → (a.number ≡ 0 → ⊥) → a.number ∷ a.place ∷ [] ≡ words_of seed i
  unfolding words_of
  words_early a e h =
      let f : in_order (load_rules seed i) ≡ a = whole ∙ ap (λ (b : Answer). first b (first (encoded_of seed i).answer accepted)) (sym e) ∙ first_refused a (first (encoded_of seed i).answer accepted) h in
      rw (f, ne_eqb a.number 0 h)

  -- what encoding gives in rows of the right length
  module _ (m r : List ℕ) (lm : length m ≡ encoded_input_len_of i) (lr : length r ≡ i.num_wr_tests) (passes : early.number ≡ 0) (a : Answer) (m₁ r₁ : List ℕ) (e : encode_outcome a m₁ r₁ ≡ encoded_in seed i m r) where
    abbrev g : List Float
    g = gradient_of seed i.dimension (stream_len_of i.num_wr_tests i.dimension)

    abbrev s : List ℕ
    s = stream_of seed i.dimension (stream_len_of i.num_wr_tests i.dimension)

    abbrev m₀ : List ℕ
    m₀ = replicate (encoded_input_len_of i) 0

    abbrev r₀ : List ℕ
    r₀ = replicate i.num_wr_tests 0

    as_long_m : length m ≡ length m₀
    as_long_m = lm ∙ sym (length-replicate {A = ℕ} (encoded_input_len_of i) 0)

    as_long_r : length r ≡ length r₀
    as_long_r = lr ∙ sym (length-replicate {A = ℕ} i.num_wr_tests 0)

    answer_is : a ≡ encode_answer Field64 i g s m r
    answer_is = ap (λ (x : Encoded). x.answer) e ∙ encode_answer_lem Field64 i g s m r

    same_answer : (encoded_of seed i).answer ≡ a
    unfolding encoded_of
    same_answer = encode_answer_lem Field64 i g s m₀ r₀ ∙ sym (encode_answers Field64 i g s m m₀ r r₀ as_long_m as_long_r) ∙ sym answer_is

    rules_are : in_order (load_rules seed i) ≡ first a accepted
    rules_are = whole ∙ first_passed early (first (encoded_of seed i).answer accepted) passes ∙ ap (λ (b : Answer). first b accepted) same_answer

    pub words_refused : (a.number ≡ 0 → ⊥) → a.number ∷ a.place ∷ [] ≡ words_of seed i
    unfolding words_of
    words_refused h =
        let f : in_order (load_rules seed i) ≡ a = rules_are ∙ first_refused a accepted h in
        rw (f, ne_eqb a.number 0 h)

    pub words_made : a.number ≡ 0 → m₁ ++ r₁ ≡ words_of seed i
    unfolding words_of encoded_of
    words_made h =
        let f : in_order (load_rules seed i) ≡ accepted = rules_are ∙ first_passed a accepted h in
        let n : (encode_answer Field64 i g s m r).number ≡ 0 = ap (λ (b : Answer). b.number) (sym answer_is) ∙ h in
        let x : encode_outcome a m₁ r₁ ≡ encoded_in seed i m₀ r₀ = e ∙ encode_fresh Field64 i g s m m₀ r r₀ as_long_m as_long_r n in
        rw (f, ← x)

-- ---- rows

-- a part of a row that is filled with one value first
pub part_long : {A : Type 0} (most n : ℕ) (a : A) → n ≤ most → n ≡ length (take n (replicate most a))
part_long most n a h = sym (length-take-le n (replicate most a) (rw (length-replicate most a) h))

-- the front of a row, and after it what was copied there
pub joined : (m t : ℕ) (a rest b : List ℕ) → length a ≡ m → length b ≡ t → take (m + t) (put_mid m (m + t - m) (a ++ rest) b) ≡ a ++ b
joined m t a rest b la lb =
    let f : take m (a ++ rest) ≡ a = take_at a rest m la in
    let n : length (a ++ b) ≡ m + t = length-append a b ∙ (λ j. la j + lb j) in
    rw (f, ← append_assoc a b) (take_at (a ++ b) _ (m + t) n)

-- ---- the bytes

-- for a text of more than 252 bytes nothing is written
pub long_nothing : (text : List ℕ) → 252 < length text → report_of text ≡ []
unfolding report_of element_bytes
long_nothing text h = ap (λ (o : Option (List ℕ)). element_bytes (words_for o)) (long_text text h)

module _ (text row : List ℕ) (n : ℕ) (l : n ≤ length row) (e : take n row ≡ words_for (numbers_of load_limits text)) where
  pub bytes_are : element_bytes (take n row) ≡ report_of text
  unfolding report_of
  bytes_are = ap element_bytes e

  pub words_long : n ≡ length (take n row)
  words_long = sym (length-take-le n row l)

  pub bytes_long : 8 * n ≡ length (report_of text)
  bytes_long = ap (λ (k : ℕ). 8 * k) words_long ∙ sym (length-element_bytes (take n row)) ∙ ap length bytes_are

  -- what is answered for a row to write to
  module _ (out : List ℕ) (a : Answer) (is : a ≡ row_rule 2 (length out) (8 * n)) where
    answer_right : a ≡ row_rule 2 (length out) (length (report_of text))
    answer_right = is ∙ ap (row_rule 2 (length out)) bytes_long

    pub report_refused : (a.number ≡ 0 → ⊥) → outcome a out ≡ write_report_of text out
    unfolding write_report_of
    report_refused h = rw (← answer_right, ne_eqb a.number 0 h)

    pub out_long : a.number ≡ 0 → length out ≡ 8 * n
    out_long h = row_right 2 (length out) (8 * n) (ap (λ (b : Answer). b.number) (sym is) ∙ h)

    pub report_written : (out₁ : List ℕ) → a.number ≡ 0 → out₁ ≡ pasted 0 (element_bytes (take n row)) out → outcome a out₁ ≡ write_report_of text out
    unfolding write_report_of
    report_written out₁ h w =
        let k : length (element_bytes (take n row)) ≡ length out = ap length bytes_are ∙ sym bytes_long ∙ sym (out_long h) in
        let z : 0 + length (element_bytes (take n row)) ≡ length out = omega arith in
        let f : out₁ ≡ report_of text = w ∙ rw (z, drop-length out, append-nil) bytes_are in
        rw (← answer_right, eq-eqb a.number 0 h, f)
