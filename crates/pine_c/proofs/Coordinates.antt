-- One coordinate that rules 4, 8 and 17 leave, over any field: what the calls answer. Assumes nothing.
use Rattle.std.proofs.Common.{◌≡◌, ℕ, ◌≤◌, [], ◌∷◌, sym, ap, ◌∙◌, refl, Float}
use Rattle.rules.specs.declared.Answer.{Answer}
use Rattle.rules.specs.Rules.{accepted, first, refuse, in_order}
use Rattle.rules.proofs.Chain.{refuse_last, accepted_whole}
use Rattle.doubles.specs.Doubles.{unusable, beyond, floor_of, coordinate_rule, element, coordinate_of}
use Rattle.doubles.proofs.Accept.{small_frac_bits, encoded_accepted}

pub accepted_coordinate : (p limit : ℕ) (x : Float) (f e : ℕ) → f ≤ 30 → (coordinate_rule limit x f).number ≡ 0 → e ≡ element p x f → record { answer = accepted; element = e } ≡ coordinate_of p limit x f
accepted_coordinate p limit x f e small h g =
    let u = refuse (unusable x) 8 0 in
    let b = refuse (beyond limit (floor_of x f)) 17 0 in
    let whole : in_order (u ∷ b ∷ []) ≡ coordinate_rule limit x f = ap (first u) (refuse_last (beyond limit (floor_of x f)) 16 0) in
    let a : accepted ≡ coordinate_rule limit x f = sym (accepted_whole (u ∷ b ∷ []) (ap (λ (r : Answer). r.number) whole ∙ h)) ∙ whole in
    encoded_accepted limit x f p accepted a e refl g ∙ small_frac_bits p limit x f small
