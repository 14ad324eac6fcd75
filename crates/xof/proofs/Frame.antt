-- What is absorbed goes in by its parts, and is made of bytes. Assumes nothing.
use mathlib.Core.Path.{◌≡◌, sym, ap, ◌∙◌}
use mathlib.Core.List.{List, ◌++◌}
use Prim.Native.Nat.{ℕ}
use native.Mathlib.Nat.{mod-lt}
use lib.Dec.{lit<}
use Rattle.keccak.proofs.Rounds.{each_append}
use Rattle.turboshake.specs.declared.Sponge.{Sponge}
use Rattle.turboshake.specs.TurboShake.{Bytes}
use Rattle.turboshake.specs.Stream.{absorb_byte, absorb_all, start, stream_of, drawn}
use Rattle.turboshake.proofs.Shake.{bytes_append, stream_is}
use Rattle.xof.specs.Xof.{algorithm_id, dst, before_binder, xof_turbo_shake128}

pub parts_absorbed : (first then : List ℕ) (s t : Sponge) → s ≡ absorb_all first start → t ≡ absorb_all then s → t ≡ absorb_all (first ++ then) start
parts_absorbed first then s t e g = g ∙ ap (absorb_all then) e ∙ sym (each_append absorb_byte first then start)

before_bytes : (seed : List ℕ) (usage : ℕ) → Bytes seed → Bytes (before_binder seed (dst algorithm_id usage))
before_bytes seed usage f = (lit< tt, (lit< tt, (lit< tt, (lit< tt, (lit< tt, (lit< tt, (mod-lt _ (lit< tt), (mod-lt _ (lit< tt), f))))))))

-- what is drawn from the stream is the XOF's output
pub drawn_is : (seed : List ℕ) (usage : ℕ) (binder : List ℕ) (n : ℕ) → Bytes seed → Bytes binder
    → drawn n (stream_of (before_binder seed (dst algorithm_id usage) ++ binder) 1) ≡ xof_turbo_shake128 seed (dst algorithm_id usage) binder n
drawn_is seed usage binder n f g =
    stream_is (before_binder seed (dst algorithm_id usage) ++ binder) 1 n (lit< tt) (bytes_append (before_binder seed (dst algorithm_id usage)) binder (before_bytes seed usage f) g)
