-- What encoding and the tests give does not depend on what the lent rows held: two accepted calls with the same arguments, in rows of the same lengths, give the same. Assumes nothing.
use mathlib.Core.Path.{◌≡◌, refl, sym, ap, ◌∙◌}
use mathlib.Core.Bool.{Bool, true, false, cond}
use mathlib.Core.List.{List}
use Prim.Native.Nat.{ℕ}
use lib.ListN.{length}
use lib.Dec.{eqb}
use lib.Ieee.{Float}
use borrow.Author.Tests.{eq-eqb}
use Rattle.rules.specs.declared.Answer.{Answer}
use Rattle.rules.specs.Rules.{in_order}
use Rattle.pine.specs.declared.PineParam.{PineParam}
use Rattle.pine.specs.Param.{Field}
use Rattle.flp.specs.Tests.{run_tests_rules, run_tests_of}
use Rattle.flp.specs.Encode.{encode_outcome, encode_rules, encode_answer, encode_of}

-- the answer beside the rows is that of the rules
pub encode_answer_lem : (F : Field) (i : PineParam) (gradient : List Float) (stream m r : List ℕ) → (encode_of F i gradient stream m r).answer ≡ encode_answer F i gradient stream m r
unfolding encode_of
encode_answer_lem F i gradient stream m r = go (eqb (encode_answer F i gradient stream m r).number 0) _ _
  where
    go : (t : Bool) (m₁ r₁ : List ℕ) → (cond t (encode_outcome (encode_answer F i gradient stream m r) m₁ r₁) (encode_outcome (encode_answer F i gradient stream m r) m r)).answer ≡ encode_answer F i gradient stream m r
    go true m₁ r₁ = refl
    go false m₁ r₁ = refl

module _ (F : Field) (i : PineParam) (gradient : List Float) (stream m n r s : List ℕ) (same-m : length m ≡ length n) (same-r : length r ≡ length s) where
  pub encode_answers : encode_answer F i gradient stream m r ≡ encode_answer F i gradient stream n s
  unfolding encode_rules
  encode_answers = rw (same-m, same-r)

  pub encode_fresh : (encode_answer F i gradient stream m r).number ≡ 0 → encode_of F i gradient stream m r ≡ encode_of F i gradient stream n s
  unfolding encode_of
  encode_fresh h =
      let k : (encode_answer F i gradient stream n s).number ≡ 0 = sym (ap (λ (a : Answer). a.number) encode_answers) ∙ h in
      rw (eq-eqb _ _ h, eq-eqb _ _ k, encode_answers)

module _ (F : Field) (i : PineParam) (xs stream r s : List ℕ) (same : length r ≡ length s) where
  pub tests_answers : in_order (run_tests_rules F i xs stream r) ≡ in_order (run_tests_rules F i xs stream s)
  unfolding run_tests_rules
  tests_answers = rw same

  pub tests_fresh : (in_order (run_tests_rules F i xs stream r)).number ≡ 0 → run_tests_of F i xs stream r ≡ run_tests_of F i xs stream s
  unfolding run_tests_of
  tests_fresh h =
      let k : (in_order (run_tests_rules F i xs stream s)).number ≡ 0 = sym (ap (λ (a : Answer). a.number) tests_answers) ∙ h in
      rw (eq-eqb _ _ h, eq-eqb _ _ k, tests_answers)
