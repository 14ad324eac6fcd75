-- A part is absorbed by its pieces, and what is drawn then is the XOF's. Assumes nothing.
use mathlib.Core.Path.{◌≡◌, refl, sym, ap, ◌∙◌}
use mathlib.Core.List.{List, [], ◌∷◌, ◌++◌, append_assoc, append-nil}
use Prim.Native.Nat.{ℕ, ◌<◌}
use lib.ListN.{replicate}
use lib.Dec.{lit<}
use Rattle.turboshake.specs.declared.Sponge.{Sponge}
use Rattle.turboshake.specs.TurboShake.{Bytes, low_bytes, bytes_of}
use Rattle.turboshake.specs.Stream.{absorb_all, start, finished, drawn}
use Rattle.turboshake.proofs.Shake.{bytes_append, bytes_of_lem}
use Rattle.xof.specs.Xof.{algorithm_id, dst, before_binder}
use Rattle.xof.proofs.Frame.{parts_absorbed, drawn_is}
use Rattle.joint_rand.specs.JointRand.{part_binder, part_message, joint_rand_part, joint_rand_seed}

pub bytes_joined : (xs ys : List ℕ) → bytes_of (xs ++ ys) ≡ bytes_of xs ++ bytes_of ys
bytes_joined [] ys = refl
bytes_joined (x ∷ xs) ys = ap (λ (r : List ℕ). low_bytes 8 x ++ r) (bytes_joined xs ys) ∙ sym (append_assoc (low_bytes 8 x) (bytes_of xs) (bytes_of ys))

module _ (usage agg-id : ℕ) (blind nonce : List ℕ) where
  abbrev before : List ℕ
  before = before_binder blind (dst algorithm_id usage)

  -- the number, then the nonce
  pub begun : (s t u : Sponge) → s ≡ absorb_all before start → t ≡ absorb_all (agg-id ∷ []) s → u ≡ absorb_all nonce t → u ≡ absorb_all (part_message usage agg-id blind nonce []) start
  begun s t u e f g =
      let all : (before ++ (agg-id ∷ [])) ++ nonce ≡ part_message usage agg-id blind nonce [] =
      append_assoc before (agg-id ∷ []) nonce ∙ ap (λ (r : List ℕ). before ++ (agg-id ∷ r)) (sym (append-nil nonce)) in
      parts_absorbed (before ++ (agg-id ∷ [])) nonce t u (parts_absorbed before (agg-id ∷ []) s t e f) g ∙ ap (λ (m : List ℕ). absorb_all m start) all

  -- then more of the share
  pub absorbed_more : (xs ys : List ℕ) (s t : Sponge) → s ≡ absorb_all (part_message usage agg-id blind nonce xs) start → t ≡ absorb_all (bytes_of ys) s → t ≡ absorb_all (part_message usage agg-id blind nonce (xs ++ ys)) start
  absorbed_more xs ys s t e f =
      let all : part_message usage agg-id blind nonce xs ++ bytes_of ys ≡ part_message usage agg-id blind nonce (xs ++ ys) =
      append_assoc before (part_binder agg-id nonce xs) (bytes_of ys)
      ∙ ap (λ (r : List ℕ). before ++ (agg-id ∷ r)) (append_assoc nonce (bytes_of xs) (bytes_of ys) ∙ ap (λ (r : List ℕ). nonce ++ r) (sym (bytes_joined xs ys))) in
      parts_absorbed (part_message usage agg-id blind nonce xs) (bytes_of ys) s t e f ∙ ap (λ (m : List ℕ). absorb_all m start) all

  -- and the part
  pub part_is : (xs r : List ℕ) (s : Sponge) → agg-id < 256 → Bytes blind → Bytes nonce → s ≡ absorb_all (part_message usage agg-id blind nonce xs) start → r ≡ drawn 16 (finished 1 s) → r ≡ joint_rand_part usage agg-id blind nonce xs
  unfolding joint_rand_part
  part_is xs r s h f g e is = is ∙ ap (λ (t : Sponge). drawn 16 (finished 1 t)) e ∙ drawn_is blind usage (part_binder agg-id nonce xs) 16 f (h, bytes_append nonce (bytes_of xs) g (bytes_of_lem xs))

zeros : Bytes (replicate 16 0)
zeros = (z, (z, (z, (z, (z, (z, (z, (z, (z, (z, (z, (z, (z, (z, (z, (z, tt))))))))))))))))
  where
    z : 0 < 256
    z = lit< tt

pub seed_is : (usage : ℕ) (leader helper r : List ℕ) (s t u : Sponge) → Bytes leader → Bytes helper → s ≡ absorb_all (before_binder (replicate 16 0) (dst algorithm_id usage)) start → t ≡ absorb_all leader s → u ≡ absorb_all helper t
    → r ≡ drawn 16 (finished 1 u) → r ≡ joint_rand_seed usage leader helper
unfolding joint_rand_seed
seed_is usage leader helper r s t u f g e h k is =
    let before = before_binder (replicate 16 0) (dst algorithm_id usage) in
    let all : u ≡ absorb_all (before ++ (leader ++ helper)) start =
    parts_absorbed (before ++ leader) helper t u (parts_absorbed before leader s t e h) k ∙ ap (λ (m : List ℕ). absorb_all m start) (append_assoc before leader helper) in
    is ∙ ap (λ (v : Sponge). drawn 16 (finished 1 v)) all ∙ drawn_is (replicate 16 0) usage (leader ++ helper) 16 zeros (bytes_append leader helper f g)
