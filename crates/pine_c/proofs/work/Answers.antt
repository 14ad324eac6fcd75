-- `pine_c::work` meets its contract. Assumes nothing.
use mathlib.Core.Path.{ap, ◌∙◌}
use Prim.Native.Nat.{ℕ, ◌*◌, ◌≤◌, min}
use native.Mathlib.Nat.{mul-le-mul}
use native.Mathlib.Omega.{arith}
use Rattle.pine_c.proofs.work.Goals as goal

pub overflow_mul-result : goal.overflow_mul-result
overflow_mul-result c =
    let most : c.at_most.result ≤ 65536 = omega (arith, c.at_most.ensures) in
    let tests : c.at_most-2.result ≤ 256 = omega (arith, c.at_most-2.ensures) in
    record { fits = omega (arith, mul-le-mul most tests) }

pub returns : goal.returns
returns c =
    ap (λ (k : ℕ). k * c.at_most-2.result) c.at_most.ensures
    ∙ ap (λ (k : ℕ). min c.args.inputs.dimension 65536 * k) c.at_most-2.ensures
