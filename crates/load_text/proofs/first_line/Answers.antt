-- `load_text::first_line` meets its contract. Assumes nothing.
use mathlib.Core.Path.{◌≡◌, sym, ap, ◌∙◌}
use mathlib.Core.Bool.{Bool}
use Prim.Native.Nat.{ℕ, ◌+◌, ◌-◌}
use lib.ListN.{drop}
use Rattle.load_text.specs.Text.{is_digit, digits_from, up_to}
use Rattle.load_text.proofs.Lines.{line_nothing, line_other, line_zero, line_digits}
use Rattle.load_text.proofs.first_line.Goals as goal

pub returns-in_err-b : goal.returns-in_err-b
returns-in_err-b c = rw c.from_residual.ensures (line_nothing c.args.text.now _ _ c.in_err-b.ensures.lookup.3)

tested : (b byte : ℕ) (t u : Bool) → b ≡ byte → t ≡ is_digit b → t ≡ u → is_digit byte ≡ u
tested b byte t u e f g = ap is_digit (sym e) ∙ sym f ∙ g

pub returns-then-not-is_ascii_digit : goal.returns-then-not-is_ascii_digit
returns-then-not-is_ascii_digit c =
    let there = c.in_ok-b.ensures.lookup.3 in
    line_other c.args.text.now c.args.at c.args.most there.0 (tested _ _ _ _ (there.1 0) c.is_ascii_digit.ensures.value c.if-not-is_ascii_digit.true)

pub returns-then-b-eq48 : goal.returns-then-b-eq48
returns-then-b-eq48 c =
    let there = c.in_ok-b.ensures.lookup.3 in
    c.end.ensures ∙ line_zero c.args.text.now c.args.at c.args.most there.0 (tested _ _ _ _ (there.1 0) c.is_ascii_digit.ensures.value c.if-not-is_ascii_digit.false) (sym (there.1 0) ∙ c.if-b-eq48.true)

pub returns : goal.returns
returns c =
    let there = c.in_ok-b.ensures.lookup.3 in
    c.digits_from.ensures
    ∙ ap (λ (b : ℕ). up_to c.args.most (digits_from (b - 48) (drop (c.args.at + 1) c.args.text.now))) (there.1 0)
    ∙ line_digits c.args.text.now c.args.at c.args.most there.0 (tested _ _ _ _ (there.1 0) c.is_ascii_digit.ensures.value c.if-not-is_ascii_digit.false) (λ e. c.if-b-eq48.false (there.1 0 ∙ e))
