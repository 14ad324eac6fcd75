-- `file_add::put_bodies` meets its contract. Assumes nothing.
use mathlib.Core.Path.{sym, ap, ◌∙◌}
use mathlib.Core.List.{List}
use Prim.Native.Nat.{ℕ, ◌+◌, ◌-◌}
use native.Mathlib.Omega.{arith}
use lib.ListN.{length, take, drop}
use Rattle.rows.proofs.Blocks.{rest_is}
use Rattle.octets.specs.Octets.{element_bytes, pasted}
use Rattle.file_add.specs.Steps.{body_with}
use Rattle.file_add.proofs.Written.{three_pasted, front_is, body_long}
use Rattle.file_add.proofs.put_bodies.Goals as goal

pub returns : goal.returns
returns c =
    let t = c.args.bodies.now in
    let h = c.args.share.now in
    let o = take (c.args.to - c.args.from) (drop c.args.from t) in
    let a = c.put_bytes-body_at.ensures in
    let b = c.put_body-rest_at.ensures in
    let d = c.put_bytes.ensures in
    let f = front_is c.args.from t in
    let g = rest_is t c.args.to in
    three_pasted c.args.at c.args.row.now (omega (arith, c.requires.from_le_to, c.requires.to_in_bounds, c.requires.bodies_len)) (take c.args.from t) (element_bytes (body_with o h)) (drop c.args.to t) _ _ _ _ _ _
    (a.0 ∙ ap (λ (l : List ℕ). pasted c.args.at l c.args.row.now) f)
    (a.1 ∙ ap (λ (l : List ℕ). c.args.at + length l) f)
    b.0
    (b.1 ∙ ap (λ (k : ℕ). c.put_bytes-body_at.result + k) (sym (body_long o h)))
    (d.0 ∙ ap (λ (l : List ℕ). pasted c.put_body-rest_at.result l c.put_body-rest_at.new.row) g)
    (d.1 ∙ ap (λ (l : List ℕ). c.put_body-rest_at.result + length l) g)
