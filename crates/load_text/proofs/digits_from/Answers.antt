-- `load_text::digits_from` meets its contract. Assumes nothing.
use mathlib.Core.Path.{◌≡◌, sym, ap, ◌∙◌, subst}
use mathlib.Core.Bool.{true, false}
use Prim.Native.Nat.{ℕ, ◌+◌}
use lib.ListN.{get_or, drop}
use Rattle.load_text.specs.Text.{is_digit, digits_from, up_to}
use Rattle.load_text.specs.Steps.{Appends}
use Rattle.load_text.proofs.Lines.{too_wide, digits_nothing, digits_end, digits_next}
use Rattle.load_text.proofs.digits_from.Goals as goal

pub returns-then-most-first : goal.returns-then-most-first
returns-then-most-first c = too_wide _ _ (drop c.args.at c.args.text.now) c.if-most-first.true

pub returns-then-not-is_ascii_digit : goal.returns-then-not-is_ascii_digit
returns-then-not-is_ascii_digit c =
    let d : is_digit (get_or c.args.text.now c.loop-i.i 0) ≡ false = sym c.is_ascii_digit.ensures.value ∙ c.if-not-is_ascii_digit.true in
    c.end.ensures ∙ digits_end c.args.text.now c.loop-i.i c.args.most c.loop-i-test.true c.loop-i.n d ∙ ap (up_to c.args.most) (sym c.loop-i.invariant.1)

pub returns-in_err-n : goal.returns-in_err-n
returns-in_err-n c =
    let d : is_digit (get_or c.args.text.now c.loop-i.i 0) ≡ true = sym c.is_ascii_digit.ensures.value ∙ c.if-not-is_ascii_digit.false in
    let w = subst (Appends _ _ _) c.in_err-n.was c.append.ensures in
    rw c.from_residual.ensures
    (too_wide c.args.most _ (drop (c.loop-i.i + 1) c.args.text.now) w
    ∙ ap (up_to c.args.most) (sym (c.loop-i.invariant.1 ∙ digits_next c.args.text.now c.loop-i.i c.args.most c.loop-i-test.true c.loop-i.n d)))

pub loop-i-preserved : goal.loop-i-preserved
loop-i-preserved c =
    let d : is_digit (get_or c.args.text.now c.loop-i.i 0) ≡ true = sym c.is_ascii_digit.ensures.value ∙ c.if-not-is_ascii_digit.false in
    let w = subst (Appends _ _ _) c.in_ok-n.was c.append.ensures in
    (w.1, c.loop-i.invariant.1 ∙ digits_next c.args.text.now c.loop-i.i c.args.most c.loop-i-test.true c.loop-i.n d ∙ ap (λ (n : ℕ). digits_from n (drop (c.loop-i.i + 1) c.args.text.now)) (sym w.0))

pub returns : goal.returns
returns c =
    digits_nothing c.args.text.now c.loop-i.i c.args.most c.loop-i-test.false c.loop-i.n ∙ ap (up_to c.args.most) (sym c.loop-i.invariant.1)
