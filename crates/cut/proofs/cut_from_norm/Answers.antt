-- `cut::cut_from_norm` meets its contract. Assumes nothing.
use mathlib.Core.Path.{◌≡◌, sym, ap, subst, ◌∙◌}
use Prim.Native.Nat.{ℕ}
use native.Mathlib.Omega.{arith}
use lib.Dec.{lit<}
use borrow.Author.Tests.{not-true, not-false}
use Rattle.sums.specs.Unreduced.{words_of}
use Rattle.doubles.specs.Doubles.{floor_limit64}
use Rattle.pine.specs.declared.record.Pine.{Pine}
use Rattle.pine.specs.Param.{Field64}
use Rattle.pine.specs.Record.{pine_of}
use Rattle.pine.proofs.Sizes.{scale_is}
use Rattle.flp.specs.Encode.{true_sq_norm_of}
use Rattle.measurement.specs.Parts.{Usable}
use Rattle.cut.specs.Late.{MetUpTo}
use Rattle.cut.proofs.Cutting.{Ready, ready, norm_is, norm_refused, norm_met, draws_refused, draws_accepted, draws_met}
use Rattle.cut.proofs.cut_from_norm.Lts as lts
use Rattle.cut.proofs.cut_from_norm.Reads as reads
use Rattle.cut.proofs.cut_from_norm.Tie as tie
use Rattle.cut.proofs.cut_from_norm.Goals as goal

abbrev Start : Type 0
Start = lts.Start tie.the-claims reads.Pre reads.Post tie.handed_clauses

abbrev After-squared_norm-norm : Type 0
After-squared_norm-norm = lts.After-squared_norm tie.the-claims reads.Pre reads.Post tie.handed_clauses

abbrev After-wr_seed-made : Type 0
After-wr_seed-made = lts.After-wr_seed tie.the-claims reads.Pre reads.Post tie.handed_clauses

ready_of : (s : Start) → Ready Field64 s.args.param s.args.gradient.now s.args.nonce.now s.args.seeds.now s.args.leader.now s.args.helper.now s.args.given.now s.requires.met_up_to
ready_of s = ready Field64 s.args.param s.args.gradient.now s.args.nonce.now s.args.seeds.now s.args.leader.now s.args.helper.now s.args.given.now s.requires.met_up_to

fraction : (s : Start) → s.args.pine.frac_bits ≡ s.args.param.frac_bits
unfolding pine_of
fraction s = ap (λ (R : Pine). R.frac_bits) s.requires.pine_value

norm_of : (c : After-squared_norm-norm) → words_of c.squared_norm-norm.result ≡ true_sq_norm_of c.args.param.frac_bits c.args.gradient.now
norm_of c = c.squared_norm-norm.ensures ∙ ap (λ (f : ℕ). true_sq_norm_of f c.args.gradient.now) (fraction c.before.before.before.before.before.before.before)

-- the norm is within its bounds
met : (c : After-wr_seed-made) → MetUpTo 10 Field64 c.args.param c.args.gradient.now c.args.nonce.now c.args.seeds.now c.args.leader.now c.args.helper.now c.args.given.now
met c =
    norm_met Field64 c.args.param c.args.gradient.now c.args.nonce.now c.args.seeds.now c.args.leader.now c.args.helper.now c.args.given.now c.requires.met_up_to (lit< tt) c.args.pine c.requires.pine_value (words_of c.squared_norm-norm.result) c.reduced-v.result (norm_of c.before.before.before.before.before) c.reduced-v.ensures c.check_norm-of_norm.result c.check_norm-of_norm.ensures c.if-of_norm-ne0.false

pub squared_norm-norm-requires : goal.squared_norm-norm-requires
squared_norm-norm-requires c =
    record {
      usable = (subst (λ (f : ℕ). Usable floor_limit64 f c.args.gradient.now) (sym (fraction c.before.before.before.before.before.before.before)) (ready_of c.before.before.before.before.before.before.before).usable, scale_is c.args.param c.args.pine c.requires.pine_value);
      gradient_len_bound = omega (arith, (ready_of c.before.before.before.before.before.before.before).gradient_long, (ready_of c.before.before.before.before.before.before.before).dimension);
    }

pub returns-then-of_norm-ne0 : goal.returns-then-of_norm-ne0
returns-then-of_norm-ne0 c = norm_refused Field64 c.args.param c.args.gradient.now c.args.nonce.now c.args.seeds.now c.args.leader.now c.args.helper.now c.args.given.now c.requires.met_up_to (lit< tt) c.args.pine c.requires.pine_value (words_of c.squared_norm-norm.result) c.reduced-v.result (norm_of c.before.before.before.before.before) c.reduced-v.ensures c.check_norm-of_norm.result c.check_norm-of_norm.ensures c.if-of_norm-ne0.true

pub wr_seed-made-requires : goal.wr_seed-made-requires
wr_seed-made-requires c =
    let r = ready_of c.before.before.before.before.before.before.before.before.before.before.before.before in
    record {
      pine_value = (c.requires.pine_value, r.inputs);
      usable = (r.usable, norm_is Field64 c.args.param c.args.gradient.now c.args.nonce.now c.args.seeds.now c.args.leader.now c.args.helper.now c.args.given.now c.requires.met_up_to (lit< tt) c.args.pine c.requires.pine_value (words_of c.squared_norm-norm.result) c.reduced-v.result (norm_of c.before.before.before.before.before) c.reduced-v.ensures c.check_norm-of_norm.result c.check_norm-of_norm.ensures);
      gradient_len = (r.gradient_long, r.seeds_long);
    }

pub returns-then-not-made : goal.returns-then-not-made
returns-then-not-made c =
    let w = c.wr_seed-made in
    draws_refused Field64 c.args.param c.args.gradient.now c.args.nonce.now c.args.seeds.now c.args.leader.now c.args.helper.now c.args.given.now (met c.before.before.before) w.result.enough w.ensures.enough_value (not-true w.result.enough c.if-not-made.true)

pub cut_from_tests-requires : goal.cut_from_tests-requires
cut_from_tests-requires c =
    let w = c.wr_seed-made in
    let enough = not-false w.result.enough c.if-not-made.false in
    record {
      met_up_to = draws_met Field64 c.args.param c.args.gradient.now c.args.nonce.now c.args.seeds.now c.args.leader.now c.args.helper.now c.args.given.now (met c.before.before.before.before.before.before.before) w.result.enough w.ensures.enough_value enough;
      wr_value = w.ensures.seed_value (draws_accepted Field64 c.args.param c.args.gradient.now c.args.nonce.now c.args.seeds.now c.args.leader.now c.args.helper.now c.args.given.now (met c.before.before.before.before.before.before.before) w.result.enough w.ensures.enough_value enough);
    }
