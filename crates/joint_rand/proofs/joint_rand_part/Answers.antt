-- `joint_rand::joint_rand_part` meets its contract. Assumes nothing.
use borrow.Author.Rules.{rules}
use Prim.Native.Nat.{ℕ}
use lib.ListN.{get_or}
use mir.Syntax.{w8}
use mir.Val.{Fits}
use mathlib.Core.List.{[]}
use Rattle.turboshake.proofs.Shake.{bytes_all}
use Rattle.joint_rand.proofs.Parts.{absorbed_more, part_is}
use Rattle.joint_rand.proofs.joint_rand_part.Goals as goal

pub returns : goal.returns
returns c =
    let a = c.args in
    let fits : (j : ℕ) → Fits w8 (get_or a.blind j 0) = λ j. search rules in
    let number : Fits w8 a.agg_id = search rules in
    part_is a.usage a.agg_id a.blind a.nonce.now a.meas_share.now _ c.absorb_words.result number.fits (bytes_all a.blind (λ j h. (fits j).fits)) (bytes_all a.nonce.now (λ j h. (c.shared_slice_known-1.given j).fits)) (absorbed_more a.usage a.agg_id a.blind a.nonce.now [] a.meas_share.now c.begin_part.result _ c.begin_part.ensures.0 c.absorb_words.ensures.0) c.into_seed.ensures
