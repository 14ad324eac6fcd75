-- Where the parts of a full vector lie. Assumes nothing.
use mathlib.Core.Path.{◌≡◌, refl, ap, ◌∙◌}
use mathlib.Core.Bool.{Bool, true, false, cond}
use mathlib.Core.List.{List, []}
use Prim.Native.Nat.{ℕ, ◌+◌, ◌≤◌}
use native.Mathlib.Omega.{arith}
use lib.ListN.{length, take, drop}
use lib.Dec.{eqb}
use borrow.Author.Tests.{eq-eqb, ne_eqb, eqb-true}
use Rattle.rules.specs.declared.Answer.{Answer}
use Rattle.rules.specs.Rules.{in_order}
use Rattle.pine.specs.declared.PineParam.{PineParam}
use Rattle.pine.specs.declared.record.Pine.{Pine}
use Rattle.pine.specs.Param.{Field64}
use Rattle.pine.specs.Record.{input_len_of, pine_of, no_pine}
use Rattle.rows.specs.Outcome.{outcome}
use Rattle.flp.specs.Circuits.{part_rules, part_of}
use Rattle.parts.specs.declared.Part.{Part}
use Rattle.parts.specs.declared.Verdict.{Verdict}
use Rattle.parts.specs.Places.{part_at, named, verdict_of}
use Rattle.parts.proofs.Vectors.{part_met}

module _ (i : PineParam) (full : List ℕ) where
  abbrev rules : Answer
  rules = in_order (part_rules Field64 i full)

  -- ---- the verdict

  pub refused_is : (v : Verdict) (a : Answer) → a ≡ rules → (a.number ≡ 0 → ⊥) → v ≡ record { answer = a; pine = no_pine } → v ≡ verdict_of Field64 i full
  refused_is v a e h ev = ev ∙ rw (← e, ne_eqb a.number 0 h)

  pub accepted_is : (a : Answer) (r : Pine) → a ≡ rules → a.number ≡ 0 → r ≡ pine_of i → ◌≡◌ {A = Verdict} (record { answer = a; pine = r }) (verdict_of Field64 i full)
  accepted_is a r e z er = rw (← e, eq-eqb a.number 0 z, er)

  -- ---- a part that the record names: g elements from f on

  module _ (f g : Pine → ℕ) (f-none : f no_pine ≡ 0) (g-none : g no_pine ≡ 0) (v : Verdict) (e : v ≡ verdict_of Field64 i full) where
    -- the elements there
    pub cut_is : (xs : List ℕ) → xs ≡ take (g v.pine) (drop (f v.pine) full) → outcome v.answer xs ≡ part_of Field64 i full (take (g (pine_of i)) (drop (f (pine_of i)) full))
    unfolding part_of
    cut_is xs h = ap (outcome v.answer) h ∙ ap (λ (x : Verdict). outcome x.answer (take (g x.pine) (drop (f x.pine) full))) e ∙ go (eqb rules.number 0)
      where
        go : (t : Bool) → outcome rules (take (g (cond t (pine_of i) no_pine)) (drop (f (cond t (pine_of i) no_pine)) full)) ≡ outcome rules (cond t (take (g (pine_of i)) (drop (f (pine_of i)) full)) [])
        go true = refl
        go false = rw g-none

    -- its place, and what it names
    pub located : (◌≡◌ {A = Part} (record { answer = v.answer; start = f v.pine; len = g v.pine }) (part_at rules (f (pine_of i)) (g (pine_of i)))) × (named (record { answer = v.answer; start = f v.pine; len = g v.pine }) full ≡ part_of Field64 i full (take (g (pine_of i)) (drop (f (pine_of i)) full)))
    located = (ap (λ (x : Verdict). record { answer = x.answer; start = f x.pine; len = g x.pine }) e ∙ go (eqb rules.number 0), cut_is _ refl)
      where
        go : (t : Bool) → ◌≡◌ {A = Part} (record { answer = rules; start = f (cond t (pine_of i) no_pine); len = g (cond t (pine_of i) no_pine) }) (record { answer = rules; start = cond t (f (pine_of i)) 0; len = cond t (g (pine_of i)) 0 })
        go true = refl
        go false = rw (f-none, g-none)

    -- it is inside the row
    pub inside : f (pine_of i) + g (pine_of i) ≤ input_len_of i → f v.pine + g v.pine ≤ length full
    inside h = rw e (go (eqb rules.number 0) refl)
      where
        go : (t : Bool) → eqb rules.number 0 ≡ t → f (cond t (pine_of i) no_pine) + g (cond t (pine_of i) no_pine) ≤ length full
        go true b = omega (arith, h, (part_met i full (eqb-true _ 0 b)).long)
        go false b = omega (arith, f-none, g-none)
