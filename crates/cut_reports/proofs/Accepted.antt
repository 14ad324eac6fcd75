-- What an accepted call of `cut` has given. Assumes nothing.
use mathlib.Core.Path.{◌≡◌, refl, sym, ap, ap₂, subst, ◌∙◌}
use mathlib.Core.Bool.{Bool, true, false, cond}
use mathlib.Core.List.{List, [], ◌∷◌, ◌++◌, append_assoc}
use Prim.Native.Nat.{ℕ, ◌+◌, ◌-◌, ◌*◌, ◌≤◌, ◌<◌}
use native.Mathlib.Omega.{arith}
use lib.ListN.{length, take, drop, replicate, length-append, length-replicate}
use lib.Seq.{take_at, drop_at, take-append-le}
use lib.Dec.{eqb, lit<}
use lib.Ieee.{Float}
use borrow.Author.Tests.{eq-eqb, eqb-true}
use Rattle.rules.specs.declared.Answer.{Answer}
use Rattle.rules.specs.Rules.{accepted}
use Rattle.rules.proofs.Chain.{none, Passed, passed, accepts, so}
use Rattle.field64.specs.Field.{sub_mod}
use Rattle.pine.specs.declared.PineParam.{PineParam}
use Rattle.pine.specs.Param.{Field, Field64}
use Rattle.pine.specs.Words.{WordLaws}
use Rattle.pine.specs.Record.{sq_norm_bits_of, sq_norm_bound_of, wr_test_bits_of, wr_test_bound, bit_checked_len_of, encoded_input_len_of, bytes_per_test, stream_len_of}
use Rattle.pine.proofs.Words.{words_64, words_long}
use Rattle.rows.specs.Rows.{Below, add_rows, sub_rows}
use Rattle.rows.proofs.Lengths.{right_row}
use Rattle.rows.proofs.ByElement.{length_by, take_by}
use Rattle.rows.proofs.Added.{sub_below, add_undoes}
use Rattle.flp.specs.Bits.{bits}
use Rattle.flp.specs.Encode.{elements, sq_norm, test_bits, results_of, measurement_of, encode_outcome, encode_rules, encode_answer, encode_of}
use Rattle.flp.proofs.Tests.{length_tests}
use Rattle.flp.proofs.Circuits.{length_test_bits}
use Rattle.flp.proofs.Gradient.{elements_below}
use Rattle.turboshake.proofs.Shake.{shake_drawn, longer_begins}
use Rattle.turboshake.proofs.Drawn.{length_drawn}
use Rattle.xof.specs.Xof.{algorithm_id, dst, before_binder, xof_turbo_shake128}
use Rattle.wr_joint_rand.specs.WrJointRand.{wr_stream}
use Rattle.sampler.specs.Sampler.{draw_limit, values_of, sampled, draws_rule}
use Rattle.sampler.proofs.Values.{values_add, values_front}
use Rattle.joint_rand.specs.JointRand.{joint_rand_seed}
use Rattle.shares.specs.Shares.{meas_share_seed₁, wr_joint_rand, vf_joint_rand, helper_bytes, helper_stream, gradient_and_norm_len, gradient_and_norm, helper_share, helper_front, wr_seed}
use Rattle.shares.proofs.Seeds.{rule_met, enough, sampled_long, sampled_below}
use Rattle.wr_parts.proofs.Front.{front_long}
use Rattle.cut.specs.Cut.{wr_stream_of, leader_share, vf_seed, Cut, cut_outcome, cut_rules, cut_answer, cut_of}
use Rattle.flp.proofs.Encoded.{measurement_below}
use Rattle.correctness.specs.Correctness.{Report}
use Rattle.cut_reports.specs.CutReports.{CutReport, CutReports}

-- so many bytes of the XOF
xof_long : (seed binder : List ℕ) (usage n : ℕ) → length (xof_turbo_shake128 seed (dst algorithm_id usage) binder n) ≡ n
xof_long seed binder usage n = ap length (shake_drawn (before_binder seed (dst algorithm_id usage) ++ binder) 1 n) ∙ length_drawn n _

seed_long : (usage : ℕ) (leader helper : List ℕ) → length (joint_rand_seed usage leader helper) ≡ 16
unfolding joint_rand_seed
seed_long usage leader helper = xof_long (replicate 16 0) (leader ++ helper) usage 16

stream_long : (n : ℕ) (seed : List ℕ) → length seed ≡ 16 → length (wr_stream n seed) ≡ n
unfolding wr_stream
stream_long n seed l = rw (eq-eqb (length seed) 16 l) (xof_long seed [] 8 n)

-- a measurement: its length, and its elements before the test bits
module _ (F : Field) (i : PineParam) (g : List Float) (s : List ℕ) (long : length g ≡ i.dimension) where
  abbrev ys : List ℕ
  ys = elements F.p i.frac_bits g

  abbrev tests : List ℕ
  tests = test_bits F.p (wr_test_bits_of i) (wr_test_bound i) i.num_wr_successes (results_of F.p i s ys)

  parts : measurement_of F.p i s ys ≡ gradient_and_norm F i g ++ tests
  unfolding measurement_of gradient_and_norm
  parts =
      let v = bits (sq_norm_bits_of i) (sq_norm F.p ys) in
      let u = bits (sq_norm_bits_of i) (sub_mod F.p (sq_norm_bound_of i) (sq_norm F.p ys)) in
      sym (append_assoc ys (v ++ u) tests ∙ ap (λ (r : List ℕ). ys ++ r) (append_assoc v u tests))

  tests_long : length tests ≡ (1 + wr_test_bits_of i) * i.num_wr_tests
  unfolding results_of
  tests_long = length_test_bits F.p (wr_test_bits_of i) (wr_test_bound i) i.num_wr_successes _ ∙ ap (λ (n : ℕ). (1 + wr_test_bits_of i) * n) (length_tests F.p (bytes_per_test i.dimension) i.num_wr_tests s ys)

  front_of : length (gradient_and_norm F i g) ≡ gradient_and_norm_len i
  front_of = front_long F i g [] [] long

  pub measurement_long : length (measurement_of F.p i s ys) ≡ encoded_input_len_of i
  unfolding encoded_input_len_of bit_checked_len_of
  measurement_long = ap length parts ∙ length-append (gradient_and_norm F i g) tests ∙ omega (arith, front_of, tests_long)

  pub measurement_front : take (gradient_and_norm_len i) (measurement_of F.p i s ys) ≡ gradient_and_norm F i g
  measurement_front = ap (take (gradient_and_norm_len i)) parts ∙ take_at (gradient_and_norm F i g) tests (gradient_and_norm_len i) front_of

module _ (F : Field) (laws : WordLaws F) (big : 1 < F.p) (i : PineParam) (g : List Float) (nonce seeds leader helper given l h v : List ℕ) (call : cut_of F i g nonce seeds leader helper given ≡ cut_outcome accepted l h v) where
  abbrev rules : List Answer
  rules = cut_rules F i g nonce seeds leader helper given

  abbrev n : ℕ
  n = encoded_input_len_of i

  abbrev T : ℕ
  T = i.num_wr_tests

  abbrev xs : List ℕ
  xs = elements F.p i.frac_bits g

  abbrev stream : List ℕ
  stream = wr_stream_of F i g nonce seeds

  abbrev m : List ℕ
  m = measurement_of F.p i stream xs

  answered : cut_answer F i g nonce seeds leader helper given ≡ accepted
  unfolding cut_of
  answered = sym (go (eqb (cut_answer F i g nonce seeds leader helper given).number 0)) ∙ ap (λ (o : Cut). o.answer) call
    where
      go : (t : Bool) → (cond t (cut_outcome (cut_answer F i g nonce seeds leader helper given) (leader_share F i g nonce seeds) (helper_share F i seeds) (wr_seed F i g nonce seeds ++ vf_seed F i g nonce seeds)) (cut_outcome (cut_answer F i g nonce seeds leader helper given) leader helper given)).answer ≡ cut_answer F i g nonce seeds leader helper given
      go true = refl
      go false = refl

  whole : cut_of F i g nonce seeds leader helper given ≡ cut_outcome (cut_answer F i g nonce seeds leader helper given) (leader_share F i g nonce seeds) (helper_share F i seeds) (wr_seed F i g nonce seeds ++ vf_seed F i g nonce seeds)
  unfolding cut_of
  whole = rw (eq-eqb (cut_answer F i g nonce seeds leader helper given).number 0 (none answered))

  leader_is : l ≡ leader_share F i g nonce seeds
  leader_is = ap (λ (o : Cut). o.leader) (sym call ∙ whole)

  helper_is : h ≡ helper_share F i seeds
  helper_is = ap (λ (o : Cut). o.helper) (sym call ∙ whole)

  given_is : v ≡ wr_seed F i g nonce seeds ++ vf_seed F i g nonce seeds
  given_is = ap (λ (o : Cut). o.given) (sym call ∙ whole)

  -- ---- the rules are met

  met : Passed rules
  met = passed rules (none answered)

  gradient_long : length g ≡ i.dimension
  unfolding cut_rules
  gradient_long = eqb-true _ _ (so _ 8 0 met.1.1.1.1.1.1.1.0)

  draws : (draws_rule F.p n (helper_stream n seeds)).number ≡ 0
  unfolding cut_rules
  draws = met.1.1.1.1.1.1.1.1.1.1.0

  wr_long : length (wr_seed F i g nonce seeds) ≡ 16
  unfolding wr_seed
  wr_long = seed_long 9 _ _

  stream_is : stream ≡ wr_stream (stream_len_of T i.dimension) (take 16 v)
  unfolding wr_stream_of
  stream_is = ap (wr_stream (stream_len_of T i.dimension)) (sym (ap (take 16) given_is ∙ take_at (wr_seed F i g nonce seeds) (vf_seed F i g nonce seeds) 16 wr_long))

  whole_stream : length stream ≡ stream_len_of T i.dimension
  unfolding wr_stream_of
  whole_stream = stream_long (stream_len_of T i.dimension) (wr_seed F i g nonce seeds) wr_long

  -- ---- encoding accepts

  -- into rows of zeros
  abbrev found : List ℕ
  found = F.words (replicate n 0)

  abbrev found_results : List ℕ
  found_results = F.words (replicate T 0)

  zeros_long : (k : ℕ) → length (F.words (replicate k 0)) ≡ F.words_in k
  zeros_long k = words_long F laws (replicate k 0) k (length-replicate {A = ℕ} k 0)

  encoded : encode_answer F i g stream found found_results ≡ accepted
  unfolding cut_rules encode_rules
  encoded =
      accepts (encode_rules F i g stream found found_results)
      (met.0, (none (right_row 2 _ _ whole_stream), (none (right_row 3 _ _ (zeros_long n)), (none (right_row 4 _ _ (zeros_long T)), (met.1.1.1.1.1.1.0, (met.1.1.1.1.1.1.1.0, (met.1.1.1.1.1.1.1.1.0, (met.1.1.1.1.1.1.1.1.1.0, (met.1.1.1.1.1.1.1.1.1.1.1.0, tt)))))))))

  encodes : encode_of F i g stream found found_results ≡ encode_outcome accepted (F.words m) (F.words (results_of F.p i stream xs))
  unfolding encode_of
  encodes = rw encoded

  -- ---- the rows

  positive : 0 < F.p
  positive = omega arith

  m_long : length m ≡ n
  m_long = measurement_long F i g stream gradient_long

  m_below : Below F.p m
  m_below = measurement_below F.p (omega arith) i stream xs (elements_below F.p i.frac_bits positive g)

  enough_drawn : draws_rule F.p n (helper_stream n seeds) ≡ accepted
  enough_drawn = rule_met F.p n (helper_stream n seeds) draws

  helper_long : length (helper_share F i seeds) ≡ n
  unfolding helper_share
  helper_long = sampled_long F.p n (helper_stream n seeds) enough_drawn

  helper_below : Below F.p (helper_share F i seeds)
  unfolding helper_share
  helper_below = sampled_below F.p n (helper_stream n seeds) enough_drawn

  leader_long : length (leader_share F i g nonce seeds) ≡ n
  unfolding leader_share
  leader_long = length_by (sub_mod F.p) m (helper_share F i seeds) (m_long ∙ sym helper_long) ∙ m_long

  leader_below : Below F.p (leader_share F i g nonce seeds)
  unfolding leader_share
  leader_below = sub_below F.p positive m (helper_share F i seeds)

  adds : add_rows F.p (leader_share F i g nonce seeds) (helper_share F i seeds) ≡ m
  unfolding leader_share
  adds = add_undoes F.p positive m (helper_share F i seeds) (m_long ∙ sym helper_long) m_below helper_below

  -- the measurement's elements, read back from its words
  m_read : F.elements (F.words m) ≡ m
  m_read = laws.read_back m m_below

  report : Report F i
  report = record {
    gradient = g;
    stream = stream;
    found_measurement = found;
    found_results = found_results;
    measurement = F.words m;
    results = F.words (results_of F.p i stream xs);
    call = encodes;
    left = l;
    right = h;
    left_row = record { long = ap length leader_is ∙ leader_long ∙ sym (ap length m_read ∙ m_long); below = subst (Below F.p) (sym leader_is) leader_below };
    right_row = record { long = ap length helper_is ∙ helper_long ∙ sym (ap length m_read ∙ m_long); below = subst (Below F.p) (sym helper_is) helper_below };
    adds = ap₂ (add_rows F.p) leader_is helper_is ∙ adds ∙ sym m_read;
  }

  -- ---- the seeds

  leader_front : take (gradient_and_norm_len i) (leader_share F i g nonce seeds) ≡ sub_rows F.p (gradient_and_norm F i g) (helper_front F i seeds)
  unfolding leader_share
  leader_front =
      take_by (sub_mod F.p) (gradient_and_norm_len i) m (helper_share F i seeds)
      ∙ ap (λ (r : List ℕ). sub_rows F.p r (helper_front F i seeds)) (measurement_front F i g stream gradient_long)

  wr_is : take 16 v ≡ wr_joint_rand nonce seeds (take (gradient_and_norm_len i) l) (take (gradient_and_norm_len i) h)
  unfolding wr_seed
  wr_is =
      ap (take 16) given_is ∙ take_at (wr_seed F i g nonce seeds) (vf_seed F i g nonce seeds) 16 wr_long
      ∙ sym (ap₂ (λ (a b : List ℕ). wr_joint_rand nonce seeds (take (gradient_and_norm_len i) a) (take (gradient_and_norm_len i) b)) leader_is helper_is ∙ ap (λ (a : List ℕ). wr_joint_rand nonce seeds a (helper_front F i seeds)) leader_front)

  vf_is : drop 16 v ≡ vf_joint_rand nonce seeds l h
  unfolding vf_seed
  vf_is = ap (drop 16) given_is ∙ drop_at (wr_seed F i g nonce seeds) (vf_seed F i g nonce seeds) 16 wr_long ∙ sym (ap₂ (vf_joint_rand nonce seeds) leader_is helper_is)

  -- ---- the helper's values, the stream drawn further

  first_values : (k : ℕ) → draw_limit n ≤ k → h ≡ take n (values_of F.p k (helper_bytes k seeds))
  unfolding helper_share sampled helper_stream
  first_values k le =
      let few = values_of F.p (draw_limit n) (helper_stream n seeds) in
      let size : 8 * k ≡ 8 * draw_limit n + 8 * (k - draw_limit n) = omega arith in
      let begins : take (8 * draw_limit n) (helper_bytes k seeds) ≡ helper_stream n seeds =
      ap (λ (b : ℕ). take (8 * draw_limit n) (xof_turbo_shake128 (meas_share_seed₁ seeds) (dst algorithm_id 1) (1 ∷ []) b)) size
      ∙ longer_begins (before_binder (meas_share_seed₁ seeds) (dst algorithm_id 1) ++ (1 ∷ [])) 1 (8 * draw_limit n) (8 * (k - draw_limit n)) in
      let front : values_of F.p (draw_limit n) (helper_bytes k seeds) ≡ few =
      sym (values_front F.p (draw_limit n) (8 * draw_limit n) (helper_bytes k seeds) (omega arith)) ∙ ap (values_of F.p (draw_limit n)) begins in
      let count : k ≡ draw_limit n + (k - draw_limit n) = omega arith in
      let rest = values_of F.p (k - draw_limit n) (drop (8 * draw_limit n) (helper_bytes k seeds)) in
      let all : values_of F.p k (helper_bytes k seeds) ≡ few ++ rest =
      ap (λ (j : ℕ). values_of F.p j (helper_bytes k seeds)) count ∙ values_add F.p (draw_limit n) (k - draw_limit n) (helper_bytes k seeds) ∙ ap (λ (r : List ℕ). r ++ rest) front in
      helper_is ∙ sym (ap (take n) all ∙ take-append-le n few rest (enough F.p n (helper_stream n seeds) enough_drawn))

  pub cut_report : CutReport F i g nonce seeds l h v
  unfolding report
  cut_report = record {
    report = report;
    gradient_is = refl;
    stream_is = stream_is;
    left_is = refl;
    right_is = refl;
    wr_seed_is = wr_is;
    vf_seed_is = vf_is;
    first_values = first_values;
  }

pub cut_reports_64 : CutReports Field64
cut_reports_64 i g nonce seeds leader helper given l h v call = cut_report Field64 words_64 (lit< tt) i g nonce seeds leader helper given l h v call
