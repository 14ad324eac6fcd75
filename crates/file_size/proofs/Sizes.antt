-- What the call gives is its outcome. Assumes nothing.
use mathlib.Core.Path.{◌≡◌, refl, sym, ap, ◌∙◌}
use mathlib.Core.Bool.{Bool, true, false, cond}
use mathlib.Core.List.{List, [], ◌∷◌}
use Prim.Native.Nat.{ℕ, ◌+◌, ◌*◌, ◌/◌, ◌≤◌}
use lib.ListN.{length}
use lib.Dec.{eqb}
use borrow.Author.Tests.{eq-eqb, ne_eqb, eqb-false}
use Rattle.rules.specs.declared.Answer.{Answer}
use Rattle.rules.specs.Rules.{accepted, first}
use Rattle.rules.proofs.Chain.{first_refused, first_passed, first_assoc, both}
use Rattle.pine.specs.declared.PineParam.{PineParam}
use Rattle.pine.specs.Param.{Field64, param_answer}
use Rattle.rows.specs.Rows.{row_rule}
use Rattle.entries.specs.File.{file_len}
use Rattle.day_file.specs.Calls.{of_len}
use Rattle.day_file.proofs.Verdicts.{number, dimension_limits}
use Rattle.file_size.specs.Size.{keys_day, size_answer, size_up_to}
use Rattle.file_size.specs.Steps.{key_rules, reports_at, with_key, Run, run, run_of, numbers_in}
use Rattle.file_size.proofs.Days.{keys_run}

-- an answer of a run whose number is 0 is `accepted` itself
run_accepted : (most : ℕ) (ks rs ns : List ℕ) → (run_of most ks rs ns).answer.number ≡ 0 → (run_of most ks rs ns).answer ≡ accepted
unfolding run_of
run_accepted most ks rs [] h = refl
run_accepted most ks rs (k ∷ ns) h = go (eqb (key_rules most k ks rs).number 0) refl h (run_accepted most (with_key k ks ks k) (with_key k ks rs (reports_at k ks rs + 1)) ns)
  where
    go : (t : Bool) → eqb (key_rules most k ks rs).number 0 ≡ t
        → (cond t (run_of most (with_key k ks ks k) (with_key k ks rs (reports_at k ks rs + 1)) ns) (run (key_rules most k ks rs) 0)).answer.number ≡ 0
        → ((run_of most (with_key k ks ks k) (with_key k ks rs (reports_at k ks rs + 1)) ns).answer.number ≡ 0 → (run_of most (with_key k ks ks k) (with_key k ks rs (reports_at k ks rs + 1)) ns).answer ≡ accepted)
        → (cond t (run_of most (with_key k ks ks k) (with_key k ks rs (reports_at k ks rs + 1)) ns) (run (key_rules most k ks rs) 0)).answer ≡ accepted
    go true e h f = f h
    go false e h f = absurd (eqb-false (key_rules most k ks rs).number 0 e h)

module _ (most : ℕ) (i : PineParam) (keys : List ℕ) (a : Answer) (inputs : a ≡ first (param_answer Field64 i) (row_rule 1 (length keys) (8 * (length keys / 8)))) where
  whole : size_answer most i keys ≡ first a (first (keys_day most keys).answer accepted)
  unfolding size_answer
  whole = sym (first_assoc (param_answer Field64 i) (row_rule 1 (length keys) (8 * (length keys / 8))) (first (keys_day most keys).answer accepted)) ∙ ap (λ (x : Answer). first x (first (keys_day most keys).answer accepted)) (sym inputs)

  pub size_refused : (a.number ≡ 0 → ⊥) → of_len a 0 ≡ size_up_to most i keys
  unfolding size_up_to
  size_refused n = rw (whole ∙ first_refused a _ n, ne_eqb a.number 0 n)

  module _ (h : a.number ≡ 0) (b : Answer) (n : ℕ) (counted : run b n ≡ run_of most [] [] (numbers_in (length keys / 8) keys)) where
    pub size_dimension : i.dimension ≤ 65536
    size_dimension = (dimension_limits i (param_answer Field64 i) refl (both _ _ (ap number (sym inputs) ∙ h)).0).1

    day_answer : (keys_day most keys).answer ≡ b
    day_answer = (keys_run most keys).answer ∙ ap (λ (r : Run). r.answer) (sym counted)

    day_count : b.number ≡ 0 → length (keys_day most keys).entries ≡ n
    day_count z = (keys_run most keys).count (ap number day_answer ∙ z) ∙ ap (λ (r : Run). r.count) (sym counted)

    pub size_stops : (b.number ≡ 0 → ⊥) → of_len b 0 ≡ size_up_to most i keys
    unfolding size_up_to
    size_stops z =
        let e : size_answer most i keys ≡ b = whole ∙ first_passed a _ h ∙ ap (λ (x : Answer). first x accepted) day_answer ∙ first_refused b accepted z in
        rw (e, ne_eqb b.number 0 z)

    pub size_done : b.number ≡ 0 → (s : ℕ) → s ≡ file_len i.dimension n → of_len b s ≡ size_up_to most i keys
    unfolding size_up_to
    size_done z s f =
        let c : b ≡ accepted = ap (λ (r : Run). r.answer) counted ∙ run_accepted most [] [] (numbers_in (length keys / 8) keys) (ap (λ (r : Run). r.answer.number) (sym counted) ∙ z) in
        let e : size_answer most i keys ≡ b = whole ∙ first_passed a _ h ∙ ap (λ (x : Answer). first x accepted) day_answer ∙ first_passed b accepted z ∙ sym c in
        rw (e, eq-eqb b.number 0 z, f, day_count z)
