-- `wr_parts::wr_seed` meets its contract. Assumes nothing.
use mathlib.Core.Path.{◌≡◌, sym, ap, subst, ◌∙◌}
use mathlib.Core.List.{◌++◌}
use Prim.Native.Nat.{ℕ, ◌+◌, ◌-◌, ◌*◌, ◌%◌, ◌^◌, ◌<◌}
use native.Mathlib.Nat.{mod-lt}
use native.Mathlib.Omega.{arith}
use lib.ListN.{length}
use lib.Dec.{lit<}
use Rattle.rules.proofs.Chain.{none}
use Rattle.field64.specs.Field.{p64, sub_mod}
use Rattle.doubles.specs.Doubles.{floor_limit64}
use Rattle.pine.specs.declared.record.Pine.{Pine}
use Rattle.pine.specs.Param.{Field64}
use Rattle.pine.specs.Record.{sq_norm_bound_of, sq_norm_bits_of, encoded_input_len_of, pine_of}
use Rattle.pine.proofs.Limits.{limits}
use Rattle.pine.proofs.Sizes.{sizes_64, norm_64, scale_is}
use Rattle.flp.specs.Bits.{bits}
use Rattle.flp.specs.Encode.{elements, true_sq_norm_of}
use Rattle.flp.proofs.TrueNorm.{norm_mod}
use Rattle.measurement.specs.Parts.{Usable}
use Rattle.turboshake.proofs.Shake.{bytes_all}
use Rattle.sampler.specs.Sampler.{draw_limit}
use Rattle.shares.specs.Shares.{gradient_and_norm, gradient_and_norm_len}
use Rattle.wr_parts.specs.Pieces.{Begun, TookPiece}
use Rattle.wr_parts.proofs.Front.{front_within, took_front, enough_is, wr_seed_is}
use Rattle.wr_parts.proofs.wr_seed.Lts as lts
use Rattle.wr_parts.proofs.wr_seed.Reads as reads
use Rattle.wr_parts.proofs.wr_seed.Tie as tie
use Rattle.wr_parts.proofs.wr_seed.Goals as goal

abbrev Start : Type 0
Start = lts.Start tie.the-claims reads.Pre reads.Post tie.handed_clauses

abbrev After-begin_parts-begun : Type 0
After-begin_parts-begun = lts.After-begin_parts tie.the-claims reads.Pre reads.Post tie.handed_clauses

abbrev After-take_all-parts : Type 0
After-take_all-parts = lts.After-take_all tie.the-claims reads.Pre reads.Post tie.handed_clauses

long : (s : Start) → s.args.pine.encoded_input_len ≡ encoded_input_len_of s.args.param
unfolding pine_of
long s = ap (λ (R : Pine). R.encoded_input_len) s.requires.pine_value.0

bits_are : (s : Start) → s.args.pine.sq_norm_bits ≡ sq_norm_bits_of s.args.param
unfolding pine_of
bits_are s = ap (λ (R : Pine). R.sq_norm_bits) s.requires.pine_value.0

usable : (s : Start) → Usable floor_limit64 s.args.pine.frac_bits s.args.gradient.now
unfolding pine_of
usable s = subst (λ (R : Pine). Usable floor_limit64 R.frac_bits s.args.gradient.now) (sym s.requires.pine_value.0) s.requires.usable.0

norm_room : (s : Start) → s.args.pine.sq_norm_bound < p64
unfolding pine_of
norm_room s = subst (λ (R : Pine). R.sq_norm_bound < p64) (sym s.requires.pine_value.0) (norm_64 s.args.param s.requires.pine_value.1)

v_below : (s : Start) → s.args.v < p64
v_below s =
    let n = true_sq_norm_of s.args.param.frac_bits s.args.gradient.now in
    let h : n % p64 < p64 = mod-lt n (lit< tt) in
    omega (arith, h, s.requires.usable.1 ∙ norm_mod p64 (lit< tt) s.args.param.frac_bits s.args.gradient.now)

tests : (s : Start) → 0 < s.args.param.num_wr_tests
tests s = (limits Field64 s.args.param (none s.requires.pine_value.1)).tests.0

-- the elements that go into the parts are fewer than a measurement's
within : (s : Start) → length s.args.gradient.now + 2 * s.args.pine.sq_norm_bits < s.args.pine.encoded_input_len
within s = omega (arith, long s, bits_are s, s.requires.gradient_len.0, front_within Field64 s.args.param s.args.gradient.now s.args.nonce.now s.args.seeds.now s.requires.gradient_len.0 (tests s))

sized : (s : Start) → s.args.pine.encoded_input_len + 64 < 2 ^ 64
sized s = omega (arith, long s, (sizes_64 s.args.param s.requires.pine_value.1).encoded)

begun_is : (c : After-begin_parts-begun) → Begun c.args.nonce.now c.args.seeds.now (draw_limit (encoded_input_len_of c.args.param)) c.begin_parts-begun.result
begun_is c = subst (λ (n : ℕ). Begun c.args.nonce.now c.args.seeds.now (draw_limit n) c.begin_parts-begun.result) (long c.before.before.before.before) c.begin_parts-begun.ensures.begun

took : (c : After-take_all-parts) → TookPiece p64 c.begin_parts-begun.result c.take_all-parts.result (gradient_and_norm Field64 c.args.param c.args.gradient.now)
unfolding pine_of
took c =
    let i = c.args.param in
    let g = c.args.gradient.now in
    let e = c.requires.pine_value.0 in
    let begun = c.begin_parts-begun.result in
    let parts = c.take_all-parts.result in
    let u = c.sub-u.result in
    let t : TookPiece p64 begun parts (elements p64 i.frac_bits g ++ (bits (sq_norm_bits_of i) c.args.v ++ bits (sq_norm_bits_of i) u)) =
    subst (λ (R : Pine). TookPiece p64 begun parts (elements p64 R.frac_bits g ++ (bits R.sq_norm_bits c.args.v ++ bits R.sq_norm_bits u))) e c.take_all-parts.ensures in
    let eu : u ≡ sub_mod p64 (sq_norm_bound_of i) c.args.v = c.sub-u.ensures ∙ ap (λ (R : Pine). sub_mod p64 R.sq_norm_bound c.args.v) e in
    took_front Field64 i g c.args.nonce.now c.args.seeds.now c.requires.gradient_len.0 begun parts c.args.v u c.requires.usable.1 eu t

pub overflow_add-len : goal.overflow_add-len
overflow_add-len c = record { fits = omega (arith, sized c.before.before.before.before) }

pub sub-u-requires : goal.sub-u-requires
sub-u-requires c = (norm_room c.before.before.before.before.before, v_below c.before.before.before.before.before)

pub take_all-parts-requires : goal.take_all-parts-requires
take_all-parts-requires c =
    record {
      placed = c.begin_parts-begun.ensures.begun.placed;
      usable = (usable c.before.before.before.before.before.before, scale_is c.args.param c.args.pine c.requires.pine_value.0);
      q_bound = omega (arith, bits_are c.before.before.before.before.before.before, (sizes_64 c.args.param c.requires.pine_value.1).norm_bits);
    }

pub overflow_mul-wanted : goal.overflow_mul-wanted
overflow_mul-wanted c = record { fits = omega (arith, within c.before.before.before.before.before.before.before, sized c.before.before.before.before.before.before.before) }

pub overflow_add-wanted : goal.overflow_add-wanted
overflow_add-wanted c = record { fits = omega (arith, within c.before.before.before.before.before.before.before, sized c.before.before.before.before.before.before.before) }

pub overflow_sub-wanted : goal.overflow_sub-wanted
overflow_sub-wanted c = omega (arith, within c.before.before.before.before.before.before.before)

pub returns : goal.returns
returns c =
    let i = c.args.param in
    let g = c.args.gradient.now in
    let nonce = c.args.nonce.now in
    let seeds = c.args.seeds.now in
    let h = c.requires.gradient_len.0 in
    let begun = c.begin_parts-begun.result in
    let parts = c.take_all-parts.result in
    let b = begun_is c.before.before.before.before.before.before.before.before.before.before in
    let is = c.begin_parts-begun.ensures.by_index (encoded_input_len_of i) in
    let t = took c.before.before.before.before.before.before.before.before in
    let wanted : c.args.pine.encoded_input_len - (length g + 2 * c.args.pine.sq_norm_bits) ≡ encoded_input_len_of i - gradient_and_norm_len i = λ j. long c.before.before.before.before.before.before.before.before.before.before.before.before.before.before j - (h j + 2 * bits_are c.before.before.before.before.before.before.before.before.before.before.before.before.before.before j) in
    let bytes-n = bytes_all nonce (λ j _. (c.shared_slice_known-2-1.given j).fits) in
    let bytes-s = bytes_all seeds (λ j _. (c.shared_slice_known-3-1.given j).fits) in
    record {
      enough_value = c.has_values-enough.ensures ∙ enough_is Field64 i g nonce seeds h begun parts b is (tests c.before.before.before.before.before.before.before.before.before.before.before.before.before.before) t _ wanted;
      seed_value = λ met. wr_seed_is Field64 i g nonce seeds h begun parts b is (tests c.before.before.before.before.before.before.before.before.before.before.before.before.before.before) t met _ _ _ bytes-n bytes-s c.into_seed-leader.ensures c.into_seed-helper.ensures c.joint_rand_seed-seed.ensures;
    }
