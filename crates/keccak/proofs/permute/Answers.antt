-- `keccak::permute` meets its contract. Assumes nothing.
use mathlib.Core.Path.{refl}
use Rattle.keccak.proofs.Rounds.{round_more, rounds_are}
use Rattle.keccak.proofs.permute.Goals as goal

pub returns : goal.returns
returns c =
    let r1 = round_more _ _ _ _ _ refl c.begin_round.ensures c.end_round-s1.ensures in
    let r2 = round_more _ c.end_round-s1.result _ _ _ r1 c.begin_round-2.ensures c.end_round-s2.ensures in
    let r3 = round_more _ c.end_round-s2.result _ _ _ r2 c.begin_round-3.ensures c.end_round-s3.ensures in
    let r4 = round_more _ c.end_round-s3.result _ _ _ r3 c.begin_round-4.ensures c.end_round-s4.ensures in
    let r5 = round_more _ c.end_round-s4.result _ _ _ r4 c.begin_round-5.ensures c.end_round-s5.ensures in
    let r6 = round_more _ c.end_round-s5.result _ _ _ r5 c.begin_round-6.ensures c.end_round-s6.ensures in
    let r7 = round_more _ c.end_round-s6.result _ _ _ r6 c.begin_round-7.ensures c.end_round-s7.ensures in
    let r8 = round_more _ c.end_round-s7.result _ _ _ r7 c.begin_round-8.ensures c.end_round-s8.ensures in
    let r9 = round_more _ c.end_round-s8.result _ _ _ r8 c.begin_round-9.ensures c.end_round-s9.ensures in
    let r10 = round_more _ c.end_round-s9.result _ _ _ r9 c.begin_round-10.ensures c.end_round-s10.ensures in
    let r11 = round_more _ c.end_round-s10.result _ _ _ r10 c.begin_round-11.ensures c.end_round-s11.ensures in
    let r12 = round_more _ c.end_round-s11.result _ _ _ r11 c.begin_round-12.ensures c.end_round-s12.ensures in
    rounds_are _ _ r12
