-- The stream that a seed makes. Assumes nothing.
use mathlib.Core.Path.{◌≡◌, refl, sym, ap, ◌∙◌}
use mathlib.Core.Bool.{Bool, true, false}
use mathlib.Core.List.{List, [], append-nil}
use Prim.Native.Nat.{ℕ, ◌*◌, ◌≤◌, ◌<◌}
use native.Mathlib.Omega.{arith}
use lib.ListN.{length}
use lib.Dec.{eqb}
use borrow.Author.Tests.{eq-eqb, ne_eqb, eqb-true}
use Rattle.rules.specs.declared.Answer.{Answer}
use Rattle.rules.specs.Rules.{accepted}
use Rattle.pine.specs.declared.PineParam.{PineParam}
use Rattle.pine.specs.Param.{Field, param_answer}
use Rattle.pine.specs.Record.{bytes_per_test, stream_len_of}
use Rattle.pine.proofs.Limits.{limits}
use Rattle.rows.specs.Rows.{row_rule}
use Rattle.flp.specs.Tests.{tests_of}
use Rattle.turboshake.specs.declared.Sponge.{Sponge}
use Rattle.turboshake.specs.TurboShake.{Bytes}
use Rattle.turboshake.specs.Stream.{drawn, stream_of}
use Rattle.turboshake.proofs.Drawn.{length_drawn}
use Rattle.xof.specs.Xof.{algorithm_id, dst, before_binder}
use Rattle.xof.proofs.Frame.{drawn_is}
use Rattle.wr_joint_rand.proofs.Blocks.{some_bytes}
use Rattle.wr_joint_rand.specs.WrJointRand.{wr_stream, stream_from}

-- what is drawn is the stream of the seed
pub stream_is : (n : ℕ) (seed : List ℕ) (s : Sponge) → length seed ≡ 16 → Bytes seed → s ≡ stream_of (before_binder seed (dst algorithm_id 8)) 1 → drawn n s ≡ wr_stream n seed
unfolding wr_stream
stream_is n seed s l f e =
    ap (drawn n) (e ∙ ap (λ (m : List ℕ). stream_of m 1) (sym (append-nil (before_binder seed (dst algorithm_id 8)))))
    ∙ drawn_is seed 8 [] n f (record {})
    ∙ rw (eq-eqb (length seed) 16 l)

-- so the tests that took it took the seed's
pub results_are : (p per T : ℕ) (seed xs rs : List ℕ) (s : Sponge) → length seed ≡ 16 → Bytes seed → s ≡ stream_of (before_binder seed (dst algorithm_id 8)) 1 → rs ≡ tests_of p per T (drawn (T * per) s) xs → rs ≡ tests_of p per T (wr_stream (T * per) seed) xs
results_are p per T seed xs rs s l f e is = is ∙ ap (λ (bytes : List ℕ). tests_of p per T bytes xs) (stream_is (T * per) seed s l f e)

pub stream_long : (n : ℕ) (seed : List ℕ) → length seed ≡ 16 → Bytes seed → length (wr_stream n seed) ≡ n
stream_long n seed l f = ap length (sym (stream_is n seed _ l f refl)) ∙ length_drawn n _

-- another row makes none
no_stream : (n : ℕ) (row : List ℕ) → eqb (length row) 16 ≡ false → length (wr_stream n row) ≡ 0
unfolding wr_stream
no_stream n row e = rw e refl

-- so a row that makes one is a seed
pub is_seed : (n : ℕ) (row : List ℕ) → 0 < n → n ≤ length (wr_stream n row) → length row ≡ 16
is_seed n row h l = go (eqb (length row) 16) refl
  where
    go : (b : Bool) → eqb (length row) 16 ≡ b → length row ≡ 16
    go true e = eqb-true (length row) 16 e
    go false e = absurd (omega (arith, h, l, no_stream n row e))

-- where the stream is asked for, no row is as long as it but a seed
pub rule_is : (n : ℕ) (row : List ℕ) → 0 < n → Bytes row → row_rule 2 (length row) 16 ≡ row_rule 2 (length (wr_stream n row)) n
rule_is n row h f = go (eqb (length row) 16) refl
  where
    go : (b : Bool) → eqb (length row) 16 ≡ b → row_rule 2 (length row) 16 ≡ row_rule 2 (length (wr_stream n row)) n
    go true e =
        let l = eqb-true (length row) 16 e in
        rw (eq-eqb (length row) 16 l, eq-eqb (length (wr_stream n row)) n (stream_long n row l f)) refl
    go false e = rw (e, ne_eqb (length (wr_stream n row)) n (λ z. omega (arith, z, no_stream n row e, h))) refl

-- accepted inputs ask for some bytes
pub stream_some : (F : Field) (i : PineParam) → param_answer F i ≡ accepted → 0 < stream_len_of i.num_wr_tests i.dimension
stream_some F i e =
    let l = limits F i (ap (λ (a : Answer). a.number) e) in
    some_bytes i.num_wr_tests (bytes_per_test i.dimension) l.tests.0 (omega (arith, l.dimension.0))

-- ---- a row that is the stream, and one that has a seed

pub lent : (seeded : Bool) (n : ℕ) (row : List ℕ) → seeded ≡ false → stream_from seeded n row ≡ row
lent seeded n row e = ap (λ (b : Bool). stream_from b n row) e

pub from_seed : (seeded : Bool) (n : ℕ) (row : List ℕ) → seeded ≡ true → stream_from seeded n row ≡ wr_stream n row
from_seed seeded n row e = ap (λ (b : Bool). stream_from b n row) e
