-- `day_file::write_file` meets its contract. Assumes nothing.
use mathlib.Core.Path.{ap, ◌∙◌}
use Prim.Native.Nat.{ℕ, ◌+◌}
use lib.ListN.{length}
use Rattle.octets.specs.Octets.{pasted}
use Rattle.day_file.proofs.Effects.{file_written}
use Rattle.day_file.proofs.write_file.Goals as goal

pub returns : goal.returns
returns c =
    let h = c.put_header-start.ensures in
    let b = c.put_bytes-at.ensures in
    file_written c.args.dimension c.args.count c.args.contents.now c.args.bodies.now c.args.file.now _ _ _ _ c.requires h.0 (b.0 ∙ ap (λ (n : ℕ). pasted n c.args.contents.now c.put_header-start.new.row) h.1) (b.1 ∙ ap (λ (n : ℕ). n + length c.args.contents.now) h.1) c.put_elements.ensures.0
