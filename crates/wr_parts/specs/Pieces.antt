-- The state of both wraparound parts, which take the shares by pieces. No public contract cites these. Assumes nothing.
use Rattle.std.specs.Prelude.{◌≡◌, List, [], ℕ, ◌<◌, ◌≤◌, length, take, drop}
use Rattle.rows.specs.Rows.{sub_rows}
use Rattle.turboshake.specs.TurboShake.{bytes_of}
use Rattle.turboshake.specs.Stream.{absorb_all, start}
use Rattle.sampler.specs.Drawing.{to_come}
use Rattle.joint_rand.specs.JointRand.{part_message}
use Rattle.shares.specs.Shares.{wr_blind₀, wr_blind₁}
use Rattle.wr_parts.specs.declared.Parts.{Parts}

-- the helper's values that are still to come
abbrev pub helper_rest : (p : ℕ) → Parts → List ℕ
helper_rest p a = to_come p a.left a.stream

-- each state can go on
pub record Placed (a : Parts) : Type 0 where
  pub leader : a.leader.at < 168
  pub helper : a.helper.at < 168
  pub stream : a.stream.at < 168

-- before the first piece, with so many draws left
pub record Begun (nonce seeds : List ℕ) (n : ℕ) (a : Parts) : Type 0 where
  pub leader : a.leader ≡ absorb_all (part_message 10 0 (wr_blind₀ seeds) nonce []) start
  pub helper : a.helper ≡ absorb_all (part_message 10 1 (wr_blind₁ seeds) nonce []) start
  pub left : a.left ≡ n
  pub placed : Placed a

-- xs, the next elements of the measurement, went in: to the helper's part its next values, to the leader's part xs less these. Where so many are not left, none are from then on
pub record TookPiece (p : ℕ) (from to : Parts) (xs : List ℕ) : Type 0 where
  pub leader : length xs ≤ length (helper_rest p from) → to.leader ≡ absorb_all (bytes_of (sub_rows p xs (take (length xs) (helper_rest p from)))) from.leader
  pub helper : length xs ≤ length (helper_rest p from) → to.helper ≡ absorb_all (bytes_of (take (length xs) (helper_rest p from))) from.helper
  pub rest : helper_rest p to ≡ drop (length xs) (helper_rest p from)
  pub placed : Placed to
