-- A round in two halves. No public contract cites these. Assumes nothing.
use Rattle.std.specs.Prelude.{List, ◌++◌, ℕ, take, drop}
use Rattle.std.specs.Int.Bits.{bit_xor}
use Rattle.keccak.specs.Keccak.{lane, plane, state, theta_d, theta, rho, pi, chi, iota}

-- what theta adds to each column, then two planes of what comes out
abbrev pub first_half : (RC : ℕ) → List ℕ → List ℕ
first_half RC A = plane (λ x y. theta_d A x) 0 ++ take 10 (iota RC (chi (pi (rho (theta A)))))

-- these two planes, then the other three
abbrev pub second_half : (A begun : List ℕ) → List ℕ
second_half A begun = plane (lane begun) 1 ++ (plane (lane begun) 2 ++ drop 10 (chi (pi (rho (state (λ x y. bit_xor (lane A x y) (lane begun x 0)))))))
