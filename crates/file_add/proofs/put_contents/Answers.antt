-- `file_add::put_contents` meets its contract. Assumes nothing.
use mathlib.Core.Path.{sym, ap, ◌∙◌}
use mathlib.Core.List.{List}
use Prim.Native.Nat.{ℕ, ◌+◌, ◌*◌}
use native.Mathlib.Omega.{arith}
use lib.ListN.{length, take, drop}
use Rattle.rows.proofs.Blocks.{rest_is}
use Rattle.octets.specs.Octets.{to_bytes, pasted}
use Rattle.octets.proofs.Bytes.{length_to_bytes}
use Rattle.file_add.proofs.Written.{four_pasted, front_is}
use Rattle.file_add.proofs.put_contents.Goals as goal

pub returns : goal.returns
returns c =
    let i = 12 * c.args.index in
    let j = 12 * c.args.next in
    let t = c.args.contents.now in
    let a = c.put_bytes-key_at.ensures in
    let b = c.put_bytes-reports_at.ensures in
    let n = c.put_number-rest_at.ensures in
    let d = c.put_bytes.ensures in
    let f = front_is i t in
    let g = rest_is t j in
    four_pasted c.args.at c.args.row.now (omega (arith, c.requires.index_le_next, c.requires.key_len)) (take i t) c.args.key.now (to_bytes 4 c.args.reports) (drop j t) _ _ _ _ _ _ _ _
    (a.0 ∙ ap (λ (l : List ℕ). pasted c.args.at l c.args.row.now) f)
    (a.1 ∙ ap (λ (l : List ℕ). c.args.at + length l) f)
    b.0
    b.1
    n.0
    (n.1 ∙ ap (λ (k : ℕ). c.put_bytes-reports_at.result + k) (sym (length_to_bytes 4 c.args.reports)))
    (d.0 ∙ ap (λ (l : List ℕ). pasted c.put_number-rest_at.result l c.put_number-rest_at.new.row) g)
    (d.1 ∙ ap (λ (l : List ℕ). c.put_number-rest_at.result + length l) g)
