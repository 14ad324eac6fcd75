-- The bytes of several tests at once, some of each, each drawn from a state of the stream of its own. No public contract cites these. Assumes nothing.
use Rattle.std.specs.Prelude.{List, [], ◌∷◌, ◌++◌, ℕ, zero, suc, ◌<◌, get_or, take, drop}
use Rattle.turboshake.specs.declared.Sponge.{Sponge}
use Rattle.turboshake.specs.Stream.{sponge, drawn, after}

-- the state that 26 words hold: its lanes, then its place
abbrev pub state_of : List ℕ → Sponge
state_of ws = sponge (take 25 ws) (get_or ws 25 0)

-- the states that a row holds for T tests
abbrev pub states_of : (T : ℕ) → List ℕ → List Sponge
states_of zero ws = []
states_of (suc T) ws = state_of (take 26 ws) ∷ states_of T (drop 26 ws)

-- the states from which T tests draw, each `per` bytes after the one before
abbrev pub starts_of : (per T : ℕ) → Sponge → List Sponge
starts_of per zero s = []
starts_of per (suc T) s = s ∷ starts_of per T (after per s)

-- the next n bytes of each state, side by side
abbrev pub tile_of : (n : ℕ) → List Sponge → List ℕ
tile_of n [] = []
tile_of n (s ∷ ss) = drawn n s ++ tile_of n ss

-- each state n bytes on
abbrev pub all_after : (n : ℕ) → List Sponge → List Sponge
all_after n [] = []
all_after n (s ∷ ss) = after n s ∷ all_after n ss

-- each place is within a block
abbrev pub Ready : List Sponge → Type 0
Ready [] = Unit {0}
Ready (s ∷ ss) = (s.at < 168) × Ready ss
