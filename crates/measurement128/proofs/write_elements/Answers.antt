-- `measurement128::write_elements` meets its contract. Assumes nothing.
use mathlib.Core.Path.{◌≡◌, sym, subst, ◌∙◌}
use mathlib.Core.List.{List}
use Prim.Native.Nat.{ℕ, ◌+◌, ◌*◌}
use native.Mathlib.Omega.{arith}
use borrow.Author.Rules.{rules}
use lib.ListN.{length}
use lib.Ieee.{Float, nan}
use Rattle.rows.proofs.Walk.{Walking}
use Rattle.flp.specs.Encode.{elements}
use Rattle.flp.proofs.Gradient.{length_elements, elements_at}
use Rattle.field128.specs.Field128.{p128, elements_of, words_of, Whole}
use Rattle.field128.proofs.Pairs.{whole_twice}
use Rattle.doubles128.specs.Doubles128.{floor_limit128}
use Rattle.rows128.proofs.ByPairs.{same_elements, element_next, words_end}
use Rattle.measurement.proofs.Usable.{usable_at}
use Rattle.measurement128.proofs.write_elements.Goals as goal

-- the row has no word left over, and as many elements as the gradient has coordinates
fits : (f : ℕ) (g : List Float) (d : List ℕ) → length d ≡ 2 * length g → Whole d × ((length (elements_of d) ≡ length g) × (length (elements p128 f g) ≡ length (elements_of d)))
fits f g d e =
    let w = whole_twice d (length g) e in
    (w.0, (w.1, length_elements p128 f g ∙ sym w.1))

pub element_of-e-requires : goal.element_of-e-requires
element_of-e-requires c =
    record {
      fact_1 = usable_at floor_limit128 c.args.frac_bits nan c.args.gradient.now c.requires.usable c.loop-k.k (omega arith);
      fact_2 = c.requires.scale_value;
    }

pub store-requires : goal.store-requires
store-requires c =
    let d = c.args.row.now in
    let w = fits c.args.frac_bits c.args.gradient.now d c.requires.row_len in
    omega (arith, same_elements (elements p128 c.args.frac_bits c.args.gradient.now) d c.loop-k.row c.loop-k.k w.0 w.1.1 c.loop-k.invariant, w.1.0)

pub loop-k-preserved : goal.loop-k-preserved
loop-k-preserved c =
    let g = c.args.gradient.now in
    let f = c.args.frac_bits in
    let d = c.args.row.now in
    let w = fits f g d c.requires.row_len in
    let is = c.element_of-e.ensures ∙ sym (elements_at p128 f nan g c.loop-k.k (omega arith)) in
    subst (λ (a : List ℕ). Walking (words_of (elements p128 f g)) d a (2 * (c.loop-k.k + 1))) (sym c.store.ensures) (element_next (elements p128 f g) d c.loop-k.row c.loop-k.k w.0 w.1.1 c.loop-k.invariant (omega (arith, w.1.0)) c.element_of-e.result.low c.element_of-e.result.high (search rules) is)

pub returns : goal.returns
returns c =
    let w = fits c.args.frac_bits c.args.gradient.now c.args.row.now c.requires.row_len in
    words_end (elements p128 c.args.frac_bits c.args.gradient.now) c.args.row.now c.loop-k.row c.loop-k.k w.0 w.1.1 c.loop-k.invariant (omega (arith, w.1.0))
