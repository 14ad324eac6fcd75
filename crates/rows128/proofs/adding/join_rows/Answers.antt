-- `rows128::adding::join_rows` meets its contract. Assumes nothing.
use Rattle.std.proofs.Common.{ℕ, ◌+◌, ◌^◌, ◌<◌, ◌≤◌, List, length, sym, ◌∙◌, subst, arith, rules, leb-false, leb-true}
use Rattle.rows.proofs.Elements.{bad_next, bad_here}
use Rattle.field128.specs.Field128.{p128, elements_of}
use Rattle.field128.specs.Joined.{joined}
use Rattle.field128.proofs.Joined.{word_pair}
use Rattle.field128.proofs.Pairs.{elements_length, element_inside}
use Rattle.rows128.proofs.ByPairs.{Pairing, element_by_words, pairing_room, pairing_kept, pairing_next}
use Rattle.rows128.proofs.OneRun.{counted_next, below_next, words_next}
use Rattle.rows128.proofs.adding.join_rows.Goals as goal

pub read-a-requires : goal.read-a-requires
read-a-requires c =
    (pairing_room joined c.args.agg.now c.args.share.now c.loop-i.agg c.loop-i.i c.requires.0 c.requires.1 c.loop-i.invariant.0 (omega (arith, elements_length c.args.agg.now))).0

pub returns-then-is_bad-clause-done_value : goal.returns-then-is_bad-clause-done_value
returns-then-is_bad-clause-done_value c =
    let d = c.args.agg.now in
    let h : c.loop-i.i < length (elements_of d) = omega (arith, elements_length d) in
    let k = pairing_kept joined d c.args.share.now c.loop-i.agg c.loop-i.i c.requires.0 c.requires.1 c.loop-i.invariant.0 h in
    let was = element_by_words d c.loop-i.i _ _ h (c.read-a.ensures.0 ∙ k.0, c.read-a.ensures.1 ∙ k.1) in
    bad_here p128 (elements_of d) c.loop-i.i h (subst (λ (n : ℕ). p128 ≤ n) was (leb-true _ _ (sym c.is_bad.ensures ∙ c.if-is_bad.true))) c.loop-i.invariant.1.0

pub element-requires : goal.element-requires
element-requires c =
    (pairing_room joined c.args.agg.now c.args.share.now c.loop-i.agg c.loop-i.i c.requires.0 c.requires.1 c.loop-i.invariant.0 (omega (arith, elements_length c.args.agg.now))).1

pub store-requires : goal.store-requires
store-requires c =
    (pairing_room joined c.args.agg.now c.args.share.now c.loop-i.agg c.loop-i.i c.requires.0 c.requires.1 c.loop-i.invariant.0 (omega (arith, elements_length c.args.agg.now))).0

pub loop-i-preserved : goal.loop-i-preserved
loop-i-preserved c =
    let d = c.args.agg.now in
    let z = c.args.share.now in
    let i = c.loop-i.i in
    let h : i < length (elements_of d) = omega (arith, elements_length d) in
    let k = pairing_kept joined d z c.loop-i.agg i c.requires.0 c.requires.1 c.loop-i.invariant.0 h in
    let u = pairing_room joined d z c.loop-i.agg i c.requires.0 c.requires.1 c.loop-i.invariant.0 h in
    let low = c.read-a.ensures.0 ∙ k.0 in
    let high = c.read-a.ensures.1 ∙ k.1 in
    let m = c.join-sum.result.made in
    let s = c.element.result in (
      subst (λ (a : List ℕ). Pairing joined d z a (i + 1)) (sym c.store.ensures) (pairing_next joined d z c.loop-i.agg i c.requires.0 c.requires.1 c.loop-i.invariant.0 _ _ m.low m.high h (element_by_words c.loop-i.agg i _ _ u.0 c.read-a.ensures) c.element.ensures (search rules) c.join-sum.ensures.made_value),
      (
        bad_next p128 (elements_of d) i h (subst (λ (n : ℕ). n < p128) (element_by_words d i _ _ h (low, high)) (leb-false _ _ (sym c.is_bad.ensures ∙ c.if-is_bad.false))) c.loop-i.invariant.1.0,
        (
          (
            words_next (2 ^ 64) d i (element_inside d i h) c.loop-i.invariant.1.1.0.0 (subst (λ (n : ℕ). n < 2 ^ 64) low (search rules)) (subst (λ (n : ℕ). n < 2 ^ 64) high (search rules)),
            below_next (2 ^ 128) (elements_of z) i u.1 c.loop-i.invariant.1.1.0.1 (subst (λ (n : ℕ). n < 2 ^ 128) c.element.ensures (word_pair s.low s.high (search rules) (search rules))),
          ),
          counted_next p128 (elements_of z) c.loop-i.below i _ _ u.1 c.element.ensures c.join-sum.ensures.below_value c.loop-i.invariant.1.1.1,
        ),
      ),
    )
