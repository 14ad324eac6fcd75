-- Joint randomness: what binds a report to both measurement shares (docs/PINE.md, "Cutting a report"; `joint_rand_part` and `joint_rand_seed` of pine/vdaf.rs). Assumes nothing.
use Rattle.std.specs.Prelude.{List, ◌∷◌, ◌++◌, ℕ, replicate}
use Rattle.turboshake.specs.TurboShake.{bytes_of}
use Rattle.xof.specs.Xof.{algorithm_id, dst, before_binder, xof_turbo_shake128}

-- the binder of an aggregator's part: its number, the nonce, and the elements of its share, eight bytes each, the low byte first
abbrev pub part_binder : (agg-id : ℕ) (nonce share : List ℕ) → List ℕ
part_binder agg-id nonce share = agg-id ∷ (nonce ++ bytes_of share)

-- all that is absorbed for it
abbrev pub part_message : (usage agg-id : ℕ) (blind nonce share : List ℕ) → List ℕ
part_message usage agg-id blind nonce share = before_binder blind (dst algorithm_id usage) ++ part_binder agg-id nonce share

-- the part: sixteen bytes of the XOF, the blind its seed
unfoldable pub joint_rand_part : (usage agg-id : ℕ) (blind nonce share : List ℕ) → List ℕ
joint_rand_part usage agg-id blind nonce share = xof_turbo_shake128 blind (dst algorithm_id usage) (part_binder agg-id nonce share) 16

-- the seed: sixteen bytes of the XOF, its seed zeros, with the leader's part and then the helper's as the binder
unfoldable pub joint_rand_seed : (usage : ℕ) (leader helper : List ℕ) → List ℕ
joint_rand_seed usage leader helper = xof_turbo_shake128 (replicate 16 0) (dst algorithm_id usage) (leader ++ helper) 16
