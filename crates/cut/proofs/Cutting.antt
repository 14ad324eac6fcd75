-- The cases of the call: refused by a rule up to 9, by the norm, by the draws, or by the tests, or accepted. Assumes nothing.
use mathlib.Core.Path.{◌≡◌, refl, sym, ap, ◌∙◌}
use mathlib.Core.Bool.{Bool, true, false, cond}
use mathlib.Core.List.{List, [], ◌∷◌, ◌++◌}
use Prim.Native.Nat.{ℕ, zero, suc, ◌+◌, ◌%◌, ◌≤◌, ◌<◌}
use native.Mathlib.Omega.{arith}
use lib.ListN.{length, take, drop, take-append-drop}
use lib.Seq.{take-add}
use lib.Dec.{eqb, ltb, leb}
use lib.Ieee.{Float}
use borrow.Author.Tests.{eq-eqb, ne_eqb, eqb-true, leb-true, leb-false, lt-ltb, le-ltb}
use Rattle.rules.specs.declared.Answer.{Answer}
use Rattle.rules.specs.Rules.{answer, accepted, first, in_order}
use Rattle.rules.proofs.Chain.{first_refused, first_passed, first_assoc, split, both, none, Passed, passed, accepts, accepted_whole, so}
use Rattle.field64.specs.Field.{p64}
use Rattle.pine.specs.declared.PineParam.{PineParam}
use Rattle.pine.specs.declared.record.Pine.{Pine}
use Rattle.pine.specs.Param.{Field, Field64, param_answer}
use Rattle.pine.specs.Record.{sq_norm_bound_of, bit_checked_len_of, encoded_input_len_of, stream_len_of, pine_of}
use Rattle.pine.proofs.Limits.{limits, param_accepted}
use Rattle.rows.specs.Rows.{sub_rows}
use Rattle.rows.proofs.Lengths.{right_row, row_right}
use Rattle.flp.specs.Encode.{elements, sq_norm, true_sq_norm_of, gradient_len_rule, true_sq_norm_rule, sq_norm_rule, results_of, measurement_of, Encoded, encode_outcome, encode_rules, encode_answer, encode_of}
use Rattle.flp.proofs.TrueNorm.{norm_mod}
use Rattle.flp.proofs.Fresh.{encode_answer_lem}
use Rattle.measurement.specs.Parts.{Usable}
use Rattle.gradient_rules.proofs.Searches.{all_usable_lem}
use Rattle.turboshake.specs.TurboShake.{Bytes}
use Rattle.wr_joint_rand.specs.WrJointRand.{wr_stream}
use Rattle.wr_joint_rand.proofs.Seeds.{stream_long}
use Rattle.sampler.specs.Sampler.{draw_limit, values_of, sampled, draws_rule}
use Rattle.shares.specs.Shares.{helper_stream, helper_share, wr_seed, vf_joint_rand}
use Rattle.shares.proofs.Seeds.{rule_met}
use Rattle.cut.specs.Cut.{wr_stream_of, leader_share, vf_seed, cut_outcome, cut_rules, cut_of}
use Rattle.cut.specs.Late.{rows_answer, MetUpTo}

-- a rule as the last of a chain
len_last : (n d : ℕ) → first (gradient_len_rule n d) accepted ≡ gradient_len_rule n d
len_last n d = go (eqb n d)
  where
    go : (t : Bool) → first (cond t accepted (answer 9 0)) accepted ≡ cond t accepted (answer 9 0)
    go true = refl
    go false = refl

-- when the first k rules are met, the others decide
others : (k : ℕ) (rules : List Answer) → in_order (take k rules) ≡ accepted → in_order rules ≡ in_order (drop k rules)
others k rules e = split k rules ∙ first_passed (in_order (take k rules)) (in_order (drop k rules)) (none e)

-- fewer of them are met too, and more where the next ones are
passed_fewer : (j k : ℕ) (rules : List Answer) → j ≤ k → Passed (take k rules) → Passed (take j rules)
passed_fewer zero k rules h p = tt
passed_fewer (suc j) zero rules h p = absurd (omega arith)
passed_fewer (suc j) (suc k) [] h p = tt
passed_fewer (suc j) (suc k) (a ∷ rules) h p = (p.0, passed_fewer j k rules (omega arith) p.1)

fewer : (j k : ℕ) (rules : List Answer) → j ≤ k → in_order (take k rules) ≡ accepted → in_order (take j rules) ≡ accepted
fewer j k rules h e = accepts (take j rules) (passed_fewer j k rules h (passed (take k rules) (none e)))

more : (k m : ℕ) (rules : List Answer) → in_order (take k rules) ≡ accepted → in_order (take m (drop k rules)) ≡ accepted → in_order (take (k + m) rules) ≡ accepted
more k m rules e f = ap in_order (take-add k m rules) ∙ accepts (take k rules ++ take m (drop k rules)) (joined (take k rules) (take m (drop k rules)) (passed (take k rules) (none e)) (passed (take m (drop k rules)) (none f)))
  where
    joined : (front rest : List Answer) → Passed front → Passed rest → Passed (front ++ rest)
    joined [] rest p q = q
    joined (a ∷ front) rest p q = (p.0, joined front rest p.1 q)

module _ (F : Field) (i : PineParam) (g : List Float) (nonce seeds leader helper given : List ℕ) where
  abbrev rules : List Answer
  rules = cut_rules F i g nonce seeds leader helper given

  abbrev xs : List ℕ
  xs = elements F.p i.frac_bits g

  abbrev n : ℕ
  n = encoded_input_len_of i

  refused : (a : Answer) → in_order rules ≡ a → (a.number ≡ 0 → ⊥) → cut_outcome a leader helper given ≡ cut_of F i g nonce seeds leader helper given
  unfolding cut_of
  refused a e h = rw (e, ne_eqb a.number 0 h)

  -- ---- rules 1 to 9, 17 and 19

  pub inputs_refused : (a : Answer) → a ≡ param_answer F i → (a.number ≡ 0 → ⊥) → cut_outcome a leader helper given ≡ cut_of F i g nonce seeds leader helper given
  unfolding cut_rules
  inputs_refused a e h = refused a (first_refused (param_answer F i) (in_order (drop 1 rules)) (λ z. h (none_of e z)) ∙ sym e) h
    where
      none_of : a ≡ param_answer F i → (param_answer F i).number ≡ 0 → a.number ≡ 0
      none_of e z = ap (λ (b : Answer). b.number) e ∙ z

  pub early_is : (R : Pine) → R ≡ pine_of i → (a : Answer) → (param_answer F i).number ≡ 0 → a ≡ rows_answer F.floor_limit R g nonce seeds leader helper given → a ≡ in_order (take 8 rules)
  unfolding cut_rules pine_of
  early_is R is a h e = e ∙ simp (is, eq-eqb _ _ h, len_last (length g) i.dimension)

  pub early_refused : (a : Answer) → a ≡ in_order (take 8 rules) → (a.number ≡ 0 → ⊥) → cut_outcome a leader helper given ≡ cut_of F i g nonce seeds leader helper given
  early_refused a e h = refused a (split 8 rules ∙ ap (λ (b : Answer). first b (in_order (drop 8 rules))) (sym e) ∙ first_refused a (in_order (drop 8 rules)) h) h

  pub early_met : (a : Answer) → a ≡ in_order (take 8 rules) → a.number ≡ 0 → MetUpTo 8 F i g nonce seeds leader helper given
  early_met a e h = accepted_whole (take 8 rules) (ap (λ (b : Answer). b.number) (sym e) ∙ h)

  -- ---- these are met

  module _ (met : MetUpTo 8 F i g nonce seeds leader helper given) where
    pub record Ready : Type 0 where
      pub inputs : param_answer F i ≡ accepted
      pub nonce_long : length nonce ≡ 16
      pub seeds_long : length seeds ≡ 80
      pub leader_long : length leader ≡ n
      pub helper_long : length helper ≡ n
      pub given_long : length given ≡ 32
      pub usable : Usable F.floor_limit i.frac_bits g
      pub gradient_long : length g ≡ i.dimension
      pub dimension : (0 < i.dimension) × (i.dimension ≤ 65536)
      pub tests : i.num_wr_tests ≤ length helper

    pub ready : Ready
    unfolding cut_rules encoded_input_len_of bit_checked_len_of
    ready =
        let h = passed (take 8 rules) (none met) in
        let l = limits F i h.0 in
        let long : length helper ≡ encoded_input_len_of i = row_right 5 _ _ h.1.1.1.1.0 in
        record {
          inputs = param_accepted F i h.0;
          nonce_long = row_right 2 _ _ h.1.0;
          seeds_long = row_right 3 _ _ h.1.1.0;
          leader_long = row_right 4 _ _ h.1.1.1.0;
          helper_long = long;
          given_long = row_right 6 _ _ h.1.1.1.1.1.0;
          usable = all_usable_lem F.floor_limit i.frac_bits 0 g h.1.1.1.1.1.1.0;
          gradient_long = eqb-true _ _ (so _ 8 0 h.1.1.1.1.1.1.1.0);
          dimension = l.dimension;
          tests = omega (arith, long);
        }

    -- what the code has found of the norm
    module _ (positive : 0 < F.p) (R : Pine) (is : R ≡ pine_of i) (sq v : ℕ) (en : sq ≡ true_sq_norm_of i.frac_bits g) (ev : v ≡ sq % F.p) (a : Answer)
        (ea : a ≡ first (true_sq_norm_rule i.true_sq_norm sq R.sq_norm_bound) (sq_norm_rule v R.sq_norm_bound)) where
      pub norm_is : v ≡ sq_norm F.p xs
      norm_is = ev ∙ ap (λ (m : ℕ). m % F.p) en ∙ sym (norm_mod F.p positive i.frac_bits g)

      abbrev rule_21 : Answer
      rule_21 = true_sq_norm_rule i.true_sq_norm (true_sq_norm_of i.frac_bits g) (sq_norm_bound_of i)

      abbrev rule_10 : Answer
      rule_10 = sq_norm_rule (sq_norm F.p xs) (sq_norm_bound_of i)

      both_are : a ≡ first rule_21 rule_10
      unfolding pine_of
      both_are = ea ∙ (λ j. first (true_sq_norm_rule i.true_sq_norm (en j) (is j).sq_norm_bound) (sq_norm_rule (norm_is j) (is j).sq_norm_bound))

      pub norm_refused : (a.number ≡ 0 → ⊥) → cut_outcome a leader helper given ≡ cut_of F i g nonce seeds leader helper given
      unfolding cut_rules
      norm_refused h =
          let rest = in_order (drop 10 rules) in
          refused a (others 8 rules met ∙ sym (first_assoc rule_21 rule_10 rest) ∙ ap (λ (b : Answer). first b rest) (sym both_are) ∙ first_refused a rest h) h

      pub norm_met : a.number ≡ 0 → MetUpTo 10 F i g nonce seeds leader helper given
      unfolding cut_rules
      norm_met z =
          let b = both rule_21 rule_10 (ap (λ (b : Answer). b.number) (sym both_are) ∙ z) in
          more 8 2 rules met (accepts (rule_21 ∷ rule_10 ∷ []) (b.0, (b.1, tt)))

  -- ---- rule 18

  module _ (met : MetUpTo 10 F i g nonce seeds leader helper given) (t : Bool) (et : t ≡ leb n (length (values_of F.p (draw_limit n) (helper_stream n seeds)))) where
    abbrev found : ℕ
    found = length (values_of F.p (draw_limit n) (helper_stream n seeds))

    pub draws_refused : t ≡ false → cut_outcome (answer 18 0) leader helper given ≡ cut_of F i g nonce seeds leader helper given
    unfolding cut_rules draws_rule
    draws_refused e =
        let few : ltb found n ≡ true = lt-ltb found n (leb-false n found (sym et ∙ e)) in
        refused (answer 18 0) (others 10 rules met ∙ rw few) (λ z. omega (arith, z))

    pub draws_accepted : t ≡ true → draws_rule F.p n (helper_stream n seeds) ≡ accepted
    unfolding draws_rule
    draws_accepted e =
        let some : ltb found n ≡ false = le-ltb found n (leb-true n found (sym et ∙ e)) in
        rw some

    pub draws_met : t ≡ true → MetUpTo 11 F i g nonce seeds leader helper given
    unfolding cut_rules
    draws_met e =
        more 10 1 rules met (accepts (draws_rule F.p n (helper_stream n seeds) ∷ []) (none (draws_accepted e), tt))

  -- ---- from the tests on

  module _ (met : MetUpTo 11 F i g nonce seeds leader helper given) where
    pub draws_were : draws_rule F.p n (helper_stream n seeds) ≡ accepted
    unfolding cut_rules
    draws_were = rule_met F.p n (helper_stream n seeds) (passed (take 11 rules) (none met)).1.1.1.1.1.1.1.1.1.1.0

    pub met_8 : MetUpTo 8 F i g nonce seeds leader helper given
    met_8 = fewer 8 11 rules (omega arith) met

    -- the stream of the wraparound seed that the code has found
    module _ (wr : List ℕ) (is : wr ≡ wr_seed F i g nonce seeds) where
      pub stream_of_lem : wr_stream (stream_len_of i.num_wr_tests i.dimension) wr ≡ wr_stream_of F i g nonce seeds
      unfolding wr_stream_of
      stream_of_lem = ap (wr_stream (stream_len_of i.num_wr_tests i.dimension)) is

      pub stream_whole : length wr ≡ 16 → Bytes wr → length (wr_stream_of F i g nonce seeds) ≡ stream_len_of i.num_wr_tests i.dimension
      stream_whole l f = ap length (sym stream_of_lem) ∙ stream_long (stream_len_of i.num_wr_tests i.dimension) wr l f

-- ---- what encoding has given, over Field64: an element is one word

module _ (i : PineParam) (g : List Float) (nonce seeds leader helper given : List ℕ) (met : MetUpTo 11 Field64 i g nonce seeds leader helper given) where
  abbrev all : List Answer
  all = cut_rules Field64 i g nonce seeds leader helper given

  abbrev ready_8 : Ready Field64 i g nonce seeds leader helper given (met_8 Field64 i g nonce seeds leader helper given met)
  ready_8 = ready Field64 i g nonce seeds leader helper given (met_8 Field64 i g nonce seeds leader helper given met)

  module _ (results : List ℕ) (rl : length results ≡ i.num_wr_tests) (sl : length (wr_stream_of Field64 i g nonce seeds) ≡ stream_len_of i.num_wr_tests i.dimension) where
    abbrev stream : List ℕ
    stream = wr_stream_of Field64 i g nonce seeds

    -- its answer is the call's
    same_answer : encode_answer Field64 i g stream leader results ≡ in_order all
    unfolding cut_rules encode_rules
    same_answer =
        let h = passed (take 11 all) (none met) in
        let m : in_order (take 8 (encode_rules Field64 i g stream leader results)) ≡ accepted =
        accepts (take 8 (encode_rules Field64 i g stream leader results)) (h.0, (none (right_row 2 _ _ sl), (none (right_row 3 _ _ ready_8.leader_long), (none (right_row 4 _ _ rl), (h.1.1.1.1.1.1.0, (h.1.1.1.1.1.1.1.0, (h.1.1.1.1.1.1.1.1.0, (h.1.1.1.1.1.1.1.1.1.0, tt)))))))) in
        others 8 (encode_rules Field64 i g stream leader results) m ∙ sym (others 11 all met)

    module _ (a : Answer) (m₁ r₁ : List ℕ) (call : encode_outcome a m₁ r₁ ≡ encode_of Field64 i g stream leader results) where
      answer_is : a ≡ encode_answer Field64 i g stream leader results
      answer_is = ap (λ (o : Encoded). o.answer) call ∙ encode_answer_lem Field64 i g stream leader results

      whole_is : in_order all ≡ a
      whole_is = sym (answer_is ∙ same_answer)

      -- the results' row was the front of the helper's
      pub tests_refused : (k : ℕ) → results ≡ take k helper → (a.number ≡ 0 → ⊥) → cut_outcome a m₁ (r₁ ++ drop k helper) given ≡ cut_of Field64 i g nonce seeds leader helper given
      unfolding encode_of
      tests_refused k front h =
          let e = encode_answer Field64 i g stream leader results in
          let out : encode_of Field64 i g stream leader results ≡ encode_outcome e leader results = rw (ne_eqb e.number 0 (λ z. h (ap (λ (b : Answer). b.number) answer_is ∙ z))) in
          let kept : m₁ ≡ leader = ap (λ (o : Encoded). o.measurement) (call ∙ out) in
          let whole : r₁ ++ drop k helper ≡ helper = ap (λ (r : List ℕ). r ++ drop k helper) (ap (λ (o : Encoded). o.results) (call ∙ out) ∙ front) ∙ take-append-drop k helper in
          (λ j. cut_outcome a (kept j) (whole j) given) ∙ refused Field64 i g nonce seeds leader helper given a whole_is h

      module _ (z : a.number ≡ 0) where
        pub measured : m₁ ≡ measurement_of p64 i stream (elements p64 i.frac_bits g)
        unfolding encode_of
        measured =
            let e = encode_answer Field64 i g stream leader results in
            let out : encode_of Field64 i g stream leader results ≡ encode_outcome e (measurement_of p64 i stream (elements p64 i.frac_bits g)) (results_of p64 i stream (elements p64 i.frac_bits g)) = rw (eq-eqb e.number 0 (ap (λ (b : Answer). b.number) (sym answer_is) ∙ z)) in
            ap (λ (o : Encoded). o.measurement) (call ∙ out)

        pub accepted_with : (wr l h v : List ℕ) → wr ≡ wr_seed Field64 i g nonce seeds → h ≡ sampled p64 (length helper) (helper_stream (length helper) seeds) → l ≡ sub_rows p64 m₁ h → v ≡ wr ++ vf_joint_rand nonce seeds l h
            → cut_outcome a l h v ≡ cut_of Field64 i g nonce seeds leader helper given
        unfolding cut_of leader_share helper_share vf_seed
        accepted_with wr l h v ew eh el ev =
            let helper_is : h ≡ helper_share Field64 i seeds = eh ∙ ap (λ (k : ℕ). sampled p64 k (helper_stream k seeds)) ready_8.helper_long in
            let leader_is : l ≡ leader_share Field64 i g nonce seeds = el ∙ (λ j. sub_rows p64 (measured j) (helper_is j)) in
            let given_is : v ≡ wr_seed Field64 i g nonce seeds ++ vf_seed Field64 i g nonce seeds = ev ∙ (λ j. ew j ++ vf_joint_rand nonce seeds (leader_is j) (helper_is j)) in
            rw (whole_is, eq-eqb a.number 0 z) (λ j. cut_outcome a (leader_is j) (helper_is j) (given_is j))
