-- `wr_parts::take_all` meets its contract. Assumes nothing.
use mathlib.Core.Path.{◌≡◌, refl, subst, ◌∙◌}
use mathlib.Core.List.{◌++◌}
use Prim.Native.Nat.{ℕ, ◌≤◌}
use native.Mathlib.Omega.{arith}
use lib.ListN.{length, take, drop}
use lib.Seq.{length-take-le, length_front}
use Rattle.std.specs.Slice.Iter.{chunks_rest, chunks_size}
use Rattle.field64.specs.Field.{p64}
use Rattle.doubles.specs.Doubles.{floor_limit64}
use Rattle.flp.specs.Bits.{bits}
use Rattle.flp.specs.Encode.{elements}
use Rattle.wr_parts.specs.Pieces.{TookPiece}
use Rattle.wr_parts.proofs.Taking.{took_three, took_start, took_next, took_end, usable_piece}
use Rattle.wr_parts.proofs.take_all.Goals as goal

pub loop-piece-init : goal.loop-piece-init
loop-piece-init c =
    let e = c.chunks-piece-items.ensures in
    let same = c.into_iter-piece-iterator.ensures.into_iter_gives in
    let size : chunks_size c.into_iter-piece-iterator.result ≡ 63 = rw same e.size in
    let all : chunks_rest c.into_iter-piece-iterator.result ≡ c.args.gradient.now = rw same e.rest in
    (omega (arith, size), tt, size, refl, rw all (took_start p64 c.args.frac_bits c.args.from c.args.gradient.now c.requires.placed))

pub take_elements-parts-requires-clause-usable : goal.take_elements-parts-requires-clause-usable
take_elements-parts-requires-clause-usable c =
    let l = c.loop-piece in
    (usable_piece p64 c.args.frac_bits c.args.from c.args.gradient.now l.parts (chunks_rest l.piece-iterator) c.in-Some.piece.now _ l.invariant.4 c.in-Some.ensures.steps.1.0 floor_limit64 c.requires.usable.0, c.requires.usable.1)

pub loop-piece-preserved : goal.loop-piece-preserved
loop-piece-preserved c =
    let l = c.loop-piece in
    let s = c.in-Some.ensures.steps in
    let t = c.take_elements-parts in (
      omega (arith, s.0, l.invariant.2),
      tt,
      s.0 ∙ l.invariant.2,
      length_front l.row t.new.row (length c.in-Some.piece.now) t.auto.row ∙ l.invariant.3,
      took_next p64 c.args.frac_bits c.args.from c.args.gradient.now l.parts (chunks_rest l.piece-iterator) c.in-Some.piece.now _ l.invariant.4 s.1.0 t.result t.ensures,
    )

pub returns : goal.returns
returns c =
    let l = c.loop-piece in
    let f = c.args.frac_bits in
    let q = c.args.q in
    let t = c.take_bits-parts in
    let first : length (take q l.row) ≡ q = length-take-le q l.row (omega (arith, l.invariant.3)) in
    let long : q ≤ length (t.new.row ++ drop q l.row) = omega (arith, length_front l.row t.new.row q t.auto.row, l.invariant.3) in
    let second : length (take q (t.new.row ++ drop q l.row)) ≡ q = length-take-le q _ long in
    let xs = took_end p64 f c.args.from c.args.gradient.now l.parts (chunks_rest l.piece-iterator) l.invariant.4 c.in-None.ensures.steps.1.0 in
    let vs = subst (λ (n : ℕ). TookPiece p64 l.parts t.result (bits n c.args.v)) first t.ensures in
    let us = subst (λ (n : ℕ). TookPiece p64 t.result c.take_bits-parts-2.result (bits n c.args.u)) second c.take_bits-parts-2.ensures in
    took_three p64 c.args.from l.parts t.result c.take_bits-parts-2.result (elements p64 f c.args.gradient.now) (bits q c.args.v) (bits q c.args.u) xs vs us
