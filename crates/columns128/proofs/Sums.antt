-- The limbs of a group's coordinates, what few tests ask and many, and the tests on all three limbs. Assumes nothing.
use mathlib.Core.Path.{◌≡◌, ap, subst, ◌∙◌}
use mathlib.Core.List.{List}
use Prim.Native.Nat.{ℕ, ◌-◌, ◌*◌, ◌^◌, ◌≤◌, ◌<◌}
use native.Mathlib.Omega.{arith}
use lib.ListN.{length, take, drop}
use lib.Dec.{leb}
use Rattle.rows.specs.Rows.{Below}
use Rattle.field128.specs.Field128.{p128, elements_of}
use Rattle.field128.proofs.Pairs.{elements_take, elements_drop}
use Rattle.flp.specs.Tests.{tests_of}
use Rattle.groups.specs.declared.Group.{Group}
use Rattle.groups.specs.Groups.{add_group, group_from}
use Rattle.groups.proofs.Swapped.{group_cut, part_long as elements_long}
use Rattle.limbs.specs.Limbs.{limb, limbs, modulus_for, width_for, spare_for, joined_rows}
use Rattle.limbs.proofs.Summed.{map_cut}
use Rattle.limbs.proofs.Joined.{enough, tests_joined}

-- ---- a part of the words that begins and ends with an element

part_elements : (first last : ℕ) (words : List ℕ) → elements_of (take (2 * last - 2 * first) (drop (2 * first) words)) ≡ take (last - first) (drop first (elements_of words))
part_elements first last words =
    let e : 2 * last - 2 * first ≡ 2 * (last - first) = omega arith in
    ap (λ (n : ℕ). elements_of (take n (drop (2 * first) words))) e ∙ elements_take (last - first) (drop (2 * first) words) ∙ ap (take (last - first)) (elements_drop first words)

pub part_long : (first last : ℕ) (words : List ℕ) → first ≤ last → last ≤ length (elements_of words) → length (elements_of (take (2 * last - 2 * first) (drop (2 * first) words))) ≡ last - first
part_long first last words h l = ap length (part_elements first last words) ∙ elements_long first last (elements_of words) h l

-- those of a group
pub part_limbs : (k j width per : ℕ) (words : List ℕ) (g : Group) → j < per → g ≡ group_from j width per (length (elements_of words))
    → limbs k (elements_of (take (2 * g.last - 2 * g.first) (drop (2 * g.first) words))) ≡ drop (4 * j) (take (4 * g.end) (limbs k (elements_of words)))
part_limbs k j width per words g h e = map_cut (limb k) (4 * j) (4 * g.end) (elements_of words) _ (part_elements g.first g.last words ∙ group_cut j width per (elements_of words) g h e)

-- ---- the modulus of the sums, and how many bytes are taken at a time

pub positive : (T : ℕ) → 0 < modulus_for T
positive T = omega (arith, enough (leb T 2))

pub below_by : (m m' : ℕ) (d : List ℕ) → m ≡ m' → Below m d → Below m' d
below_by m m' d e b = subst (λ (n : ℕ). Below n d) e b

pub added_by : (m m' per j n : ℕ) (xs s d d' : List ℕ) → m ≡ m' → d' ≡ add_group m per j n xs s d → d' ≡ add_group m' per j n xs s d
added_by m m' per j n xs s d d' e f = f ∙ ap (λ (k : ℕ). add_group k per j n xs s d) e

pub tests_by : (m m' per T : ℕ) (s xs d : List ℕ) → m ≡ m' → d ≡ tests_of m per T s xs → d ≡ tests_of m' per T s xs
tests_by m m' per T s xs d e f = f ∙ ap (λ (k : ℕ). tests_of k per T s xs) e

-- of another number that is the same
pub fits_by : (T T' n m l l' : ℕ) → T' ≡ T → l' ≡ l → n ≤ m → m ≤ width_for T → spare_for T ≤ l → (n ≤ width_for T') × (spare_for T' ≤ l')
fits_by T T' n m l l' e f h w r = rw (e, f) (omega arith, r)

-- ---- the three limbs

pub limbs_joined : (m m' : ℕ) → m' ≡ m → 2 ^ 62 ≤ m → (per T T₀ : ℕ) (s xs ls ms hs : List ℕ) → T₀ ≡ T → Below p128 xs → length xs ≤ 4 * per → per ≤ 16384
    → ls ≡ tests_of m per T₀ s (limbs 0 xs) → ms ≡ tests_of m per T₀ s (limbs 1 xs) → hs ≡ tests_of m per T₀ s (limbs 2 xs) → joined_rows m' ls ms hs ≡ tests_of p128 per T s xs
limbs_joined m m' em room per T T₀ s xs ls ms hs e b l h el es eh =
    let few : length xs ≤ 65536 = omega arith in
    (λ i. joined_rows (em i) (el i) (es i) (eh i)) ∙ tests_joined m room per T₀ s xs b few ∙ ap (λ (n : ℕ). tests_of p128 per n s xs) e
