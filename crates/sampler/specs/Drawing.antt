-- What the functions that draw into a row give. No public contract cites these. Assumes nothing.
use Rattle.std.specs.Prelude.{ℕ, ◌+◌, ◌-◌, ◌*◌, ◌<◌, ◌≤◌, ◌≡◌, List, length, take, drop}
use Rattle.rows.specs.Rows.{Below}
use Rattle.turboshake.specs.declared.Sponge.{Sponge}
use Rattle.turboshake.specs.Stream.{drawn, after}
use Rattle.sampler.specs.declared.Draws.{Draws}
use Rattle.sampler.specs.Sampler.{values_of}

-- of the next n values of a stream, those below p
abbrev pub to_come : (p n : ℕ) → Sponge → List ℕ
to_come p n s = values_of p n (drawn (8 * n) s)

-- the row begins with k elements: of the first u values of the bytes, those below p
abbrev pub Begins : (p : ℕ) (bytes : List ℕ) (u k : ℕ) (row : List ℕ) → Type 0
Begins p bytes u k row = (take k row ≡ values_of p u bytes) × (k ≡ length (values_of p u bytes))

-- n more were drawn, of which the row begins with those below p
pub record DrewNext (p : ℕ) (from to : Draws) (n : ℕ) (row : List ℕ) : Type 0 where
  pub left : to.left ≡ from.left - n
  pub count : to.count ≡ from.count + length (values_of p n (drawn (8 * n) from.stream))
  pub begins : take (length (values_of p n (drawn (8 * n) from.stream))) row ≡ values_of p n (drawn (8 * n) from.stream)
  pub on : to.stream ≡ after (8 * n) from.stream
  pub place : to.stream.at < 168

-- of the next n values of a stream some are left, and the row begins with those below p of the others
pub record Drawing (p : ℕ) (s : Sponge) (n : ℕ) (r : Draws) (row : List ℕ) : Type 0 where
  pub left : r.left ≤ n
  pub begins : Begins p (drawn (8 * n) s) (n - r.left) r.count row
  pub within : r.count ≤ length row
  pub on : r.stream ≡ after (8 * (n - r.left)) s
  pub place : r.stream.at < 168

-- the same, and the row is full or no value is left
pub record DrewFrom (p : ℕ) (s : Sponge) (n : ℕ) (r : Draws) (row : List ℕ) : Type 0 where
  pub drawing : Drawing p s n r row
  pub ends : r.count < length row → r.left ≡ 0

-- a row was drawn from all that was to come: its first values where there are enough, and field numbers in any case
pub record DrewRow (p : ℕ) (all : List ℕ) (r : Draws) (row : List ℕ) : Type 0 where
  pub values : length row ≤ length all → row ≡ take (length row) all
  pub below : Below p row
  pub rest : to_come p r.left r.stream ≡ drop (length row) all
  pub place : r.stream.at < 168
