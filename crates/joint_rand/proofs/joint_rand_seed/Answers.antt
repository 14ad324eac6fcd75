-- `joint_rand::joint_rand_seed` meets its contract. Assumes nothing.
use borrow.Author.Rules.{rules}
use Prim.Native.Nat.{ℕ}
use lib.ListN.{get_or}
use mir.Syntax.{w8}
use mir.Val.{Fits}
use Rattle.turboshake.proofs.Shake.{bytes_all}
use Rattle.joint_rand.proofs.Parts.{seed_is}
use Rattle.joint_rand.proofs.joint_rand_seed.Goals as goal

pub returns : goal.returns
returns c =
    let a = c.args in
    let leads : (j : ℕ) → Fits w8 (get_or a.leader j 0) = λ j. search rules in
    let helps : (j : ℕ) → Fits w8 (get_or a.helper j 0) = λ j. search rules in
    seed_is a.usage a.leader a.helper _ c.init.result c.absorb.result c.absorb-2.result (bytes_all a.leader (λ j h. (leads j).fits)) (bytes_all a.helper (λ j h. (helps j).fits)) c.init.ensures.0 c.absorb.ensures.0 c.absorb-2.ensures.0 c.into_seed.ensures
