-- The tables of what is taken off a result: an entry undoes what two pairs make of two coordinates, so that the entries of a test's bytes taken off are what these bytes add. Over any modulus p. Assumes nothing.
use mathlib.Core.Path.{◌≡◌, refl, sym, ap, ◌∙◌}
use mathlib.Core.Bool.{Bool, true, false}
use mathlib.Core.List.{List, [], ◌∷◌}
use Prim.Native.Nat.{ℕ, zero, suc, ◌+◌, ◌*◌, ◌-◌, ◌/◌, ◌%◌, ◌≤◌, ◌<◌}
use native.Mathlib.Nat.{mod_self, mod-lt, mod-mod, zero-mod, add-mod-mod, le_of_lt}
use native.Mathlib.Numerals.{add-one}
use native.Mathlib.Omega.{arith}
use lib.ListN.{length, get_or, take, drop, length-take}
use lib.Seq.{get_or-drop, drop-drop, drop-cons}
use lib.Dec.{ltb}
use borrow.Author.Tests.{ltb-true, ltb-false}
use Rattle.field64.specs.Field.{add_mod, sub_mod}
use Rattle.field64.specs.Sums.{evaluate}
use Rattle.field64.proofs.Modular.{modular, add_both, cancel, sub_add, sub_is}
use Rattle.rows.specs.Rows.{Below}
use Rattle.rows.proofs.Elements.{below_take, below_drop}
use Rattle.flp.specs.Tests.{pairs, weighed, weigh, test_of}
use Rattle.tables.specs.Tables.{Entry, Undoes, Tables, entries_at, entries_of, less_entries, less_group}
use Rattle.groups.specs.Groups.{add_group}
use Rattle.groups.proofs.Halves.{pair_0, pair_1, pair_3}
use Rattle.groups.proofs.Swapped.{column, first_column}

-- ---- the entries

-- of two coordinates, of the entries u and v of each
both : (p u v w z e : ℕ) → (u + w) % p ≡ 0 → (v + z) % p ≡ 0 → e % p ≡ (u + v) % p → (e + (w + z)) % p ≡ 0
both p u v w z e f g h =
    add_both p e (u + v) (w + z) (w + z) h refl ∙ ap (λ (n : ℕ). n % p) (swap u v w z) ∙ add_both p (u + w) 0 (v + z) 0 (f ∙ sym (zero-mod p)) (g ∙ sym (zero-mod p)) ∙ zero-mod p
  where
    swap : (u v w z : ℕ) → u + v + (w + z) ≡ (u + w) + (v + z)
    swap u v w z = omega arith

-- p less x undoes x
pub less_undoes : (p x : ℕ) → x ≤ p → (p - x + x) % p ≡ 0
less_undoes p x h =
    let f : p - x + x ≡ p = omega arith in
    ap (λ (n : ℕ). n % p) f ∙ mod_self p

-- of one coordinate, by its pair
abbrev one : (a na : ℕ) → List ℕ
one a na = a ∷ 0 ∷ 0 ∷ na ∷ []

module _ (p a na : ℕ) (h : a < p) (e : (na + a) % p ≡ 0) where
  one_undoes : (q : ℕ) → q < 4 → (get_or (one a na) q 0 + weighed p q a) % p ≡ 0
  unfolding weighed
  one_undoes zero g =
      let f : a + (0 + (p - a)) ≡ p = omega arith in
      simp modular (ap (λ (n : ℕ). n % p) f ∙ mod_self p)
  one_undoes (suc zero) g = zero-mod p
  one_undoes (suc (suc zero)) g = zero-mod p
  one_undoes (suc (suc (suc zero))) g = e
  one_undoes (suc (suc (suc (suc q)))) g = absurd (omega arith)

abbrev entries : (a b na nb pp pm mp mm : ℕ) → List ℕ
entries a b na nb pp pm mp mm = pp ∷ b ∷ b ∷ mp ∷ a ∷ 0 ∷ 0 ∷ na ∷ a ∷ 0 ∷ 0 ∷ na ∷ pm ∷ nb ∷ nb ∷ mm ∷ []

module _ (p a b na nb pp pm mp mm : ℕ) (ha : a < p) (hb : b < p) where
  -- the sum and the difference, and the negatives of a, b and both
  module _ (ea : (na + a) % p ≡ 0) (eb : (nb + b) % p ≡ 0) (sum : pp % p ≡ (a + b) % p) (epm : (pm + b) % p ≡ a % p) (emp : (mp + pm) % p ≡ 0) (emm : (mm + pp) % p ≡ 0) where
    positive : 0 < p
    positive = omega arith

    left : (x : ℕ) → x % p ≡ (0 + x) % p
    left x = ap (λ (n : ℕ). n % p) (omega arith)

    right : (x : ℕ) → x % p ≡ (x + 0) % p
    right x = ap (λ (n : ℕ). n % p) (omega arith)

    -- x and y are one where both with z are
    same : (x y z w : ℕ) → y + z ≡ w → (x + z) % p ≡ w % p → x % p ≡ y % p
    same x y z w e f = cancel p positive x y z (f ∙ ap (λ (n : ℕ). n % p) (sym e))

    difference : pm % p ≡ (a + nb) % p
    difference = same pm (a + nb) b (a + (nb + b)) (omega arith) (epm ∙ right a ∙ sym (add_both p a a (nb + b) 0 refl (eb ∙ sym (zero-mod p))))

    less_sum : mm % p ≡ (na + nb) % p
    less_sum = same mm (na + nb) (a + b) ((na + a) + (nb + b)) (omega arith) (add_both p mm mm (a + b) pp refl (sym sum) ∙ emm ∙ sym (zero-mod p) ∙ sym (add_both p (na + a) 0 (nb + b) 0 (ea ∙ sym (zero-mod p)) (eb ∙ sym (zero-mod p))))

    less_difference : mp % p ≡ (na + b) % p
    less_difference = same mp (na + b) pm (na + (pm + b)) (omega arith) (emp ∙ sym ea ∙ sym (add_both p na na (pm + b) a refl epm))

    entry : (k : ℕ) → k < 16 → get_or (entries a b na nb pp pm mp mm) k 0 % p ≡ (get_or (one a na) (k % 4) 0 + get_or (one b nb) (k / 4) 0) % p
    entry zero h = sum
    entry (suc zero) h = left b
    entry (suc (suc zero)) h = left b
    entry (suc (suc (suc zero))) h = less_difference
    entry (suc (suc (suc (suc zero)))) h = right a
    entry (suc (suc (suc (suc (suc zero))))) h = left 0
    entry (suc (suc (suc (suc (suc (suc zero)))))) h = left 0
    entry (suc (suc (suc (suc (suc (suc (suc zero))))))) h = right na
    entry (suc (suc (suc (suc (suc (suc (suc (suc zero)))))))) h = right a
    entry (suc (suc (suc (suc (suc (suc (suc (suc (suc zero))))))))) h = left 0
    entry (suc (suc (suc (suc (suc (suc (suc (suc (suc (suc zero)))))))))) h = left 0
    entry (suc (suc (suc (suc (suc (suc (suc (suc (suc (suc (suc zero))))))))))) h = right na
    entry (suc (suc (suc (suc (suc (suc (suc (suc (suc (suc (suc (suc zero)))))))))))) h = difference
    entry (suc (suc (suc (suc (suc (suc (suc (suc (suc (suc (suc (suc (suc zero))))))))))))) h = left nb
    entry (suc (suc (suc (suc (suc (suc (suc (suc (suc (suc (suc (suc (suc (suc zero)))))))))))))) h = left nb
    entry (suc (suc (suc (suc (suc (suc (suc (suc (suc (suc (suc (suc (suc (suc (suc zero))))))))))))))) h = less_sum
    entry (suc (suc (suc (suc (suc (suc (suc (suc (suc (suc (suc (suc (suc (suc (suc (suc k)))))))))))))))) h = absurd (omega arith)

    pub table_law : Undoes p a b (entries a b na nb pp pm mp mm)
    table_law k h = both p (get_or (one a na) (k % 4) 0) (get_or (one b nb) (k / 4) 0) (weighed p (k % 4) a) (weighed p (k / 4) b) _ (one_undoes p a na ha ea (k % 4) (omega arith)) (one_undoes p b nb hb eb (k / 4) (omega arith)) (entry k h)

-- p less a number being its negative
pub less_table_law : (p a b na nb pp pm mp mm : ℕ) → a < p → b < p → na ≡ p - a → nb ≡ p - b → pp ≡ add_mod p a b → pm ≡ sub_mod p a b → mp ≡ p - pm → mm ≡ p - pp → Undoes p a b (entries a b na nb pp pm mp mm)
less_table_law p a b na nb pp pm mp mm ha hb ea eb epp epm emp emm =
    let positive : 0 < p = omega arith in
    let lp : pp ≤ p = rw epp (le_of_lt (mod-lt (a + b) positive)) in
    let lm : pm ≤ p = rw epm (le_of_lt (mod-lt (a + (p - b)) positive)) in
    table_law p a b na nb pp pm mp mm ha hb (rw ea (less_undoes p a (le_of_lt ha))) (rw eb (less_undoes p b (le_of_lt hb))) (rw epp (mod-mod (a + b) p)) (rw epm (sub_add p positive a b (le_of_lt hb))) (rw emp (less_undoes p pm lm)) (rw emm (less_undoes p pp lp))

-- ---- a byte

-- to take off e is to add what e undoes
undone : (p r e w : ℕ) → 0 < p → e ≤ p → (e + w) % p ≡ 0 → sub_mod p r e ≡ add_mod p r w
undone p r e w s h z =
    sub_is p s r e (r + w) h (ap (λ (n : ℕ). n % p) (swap r w e) ∙ add_both p r r (e + w) 0 refl (z ∙ sym (zero-mod p)) ∙ ap (λ (n : ℕ). n % p) (none r))
  where
    swap : (r w e : ℕ) → r + w + e ≡ r + (e + w)
    swap r w e = omega arith

    none : (r : ℕ) → r + 0 ≡ r
    none r = omega arith

-- two sums that are undone
undone_both : (p a b w z : ℕ) → (a + w) % p ≡ 0 → (b + z) % p ≡ 0 → (a + b + (w + z)) % p ≡ 0
undone_both p a b w z f g = ap (λ (n : ℕ). n % p) (swap a b w z) ∙ add_both p (a + w) 0 (b + z) 0 (f ∙ sym (zero-mod p)) (g ∙ sym (zero-mod p)) ∙ zero-mod p
  where
    swap : (a b w z : ℕ) → a + b + (w + z) ≡ (a + w) + (b + z)
    swap a b w z = omega arith

module _ (p a b c d : ℕ) (t : List ℕ) (start : ℕ) (f : (k : ℕ) → k < 16 → Entry p a b k (get_or t (start + k) 0)) (g : (k : ℕ) → k < 16 → Entry p c d k (get_or t (start + 16 + k) 0)) where
  byte_law : (byte : ℕ) → byte < 256 → (entries_at t start byte + column p byte a b c d) % p ≡ 0
  unfolding column evaluate
  byte_law byte h =
      let e = undone_both p (get_or t (start + byte % 16) 0) (get_or t (start + 16 + byte / 16) 0) _ _ (f (byte % 16) (omega arith)) (g (byte / 16) (omega arith)) in
      in_one (entries_at t start byte) (weighed p (byte % 4) a) (weighed p (byte / 4 % 4) b) (weighed p (byte / 16 % 4) c) (weighed p (byte / 64 % 4) d)
      ∙ (λ i. (entries_at t start byte + (weighed p (sym (pair_0 byte) i) a + weighed p (sym (pair_1 byte) i) b + (weighed p (byte / 16 % 4) c + weighed p (sym (pair_3 byte h) i) d))) % p)
      ∙ e
    where
      in_one : (r w x y z : ℕ) → (r + add_mod p w ((1 * add_mod p x ((1 * add_mod p y ((1 * add_mod p z ((1 * 0) % p)) % p)) % p)) % p)) % p ≡ (r + (w + x + (y + z))) % p
      in_one r w x y z = simp modular (ap (λ (n : ℕ). n % p) (omega arith))

-- ---- the bytes of a test, and of all tests

module _ (p count : ℕ) (xs t : List ℕ) (positive : 0 < p) (f : Tables p count xs t) where
  -- table i, with its places named otherwise
  table_at : (i a b s : ℕ) → 2 * i ≡ a → 2 * i + 1 ≡ b → 16 * i ≡ s → i < count → (k : ℕ) → k < 16 → Entry p (get_or xs a 0) (get_or xs b 0) k (get_or t (s + k) 0)
  table_at i a b s ea eb es h k g = rw (← ea, ← eb, ← es) (f i h k g)

  bytes_law : (bytes : List ℕ) (k start : ℕ) → start ≡ 32 * k → 2 * (k + length bytes) ≤ count → Below 256 bytes → (entries_of t start bytes + test_of p (drop (4 * k) xs) bytes) % p ≡ 0
  unfolding test_of weigh pairs evaluate
  bytes_law [] k start e h g = zero-mod p
  bytes_law (x ∷ bytes) k start e h g =
      let lo = table_at (2 * k) (4 * k + 0) (4 * k + 1) start (omega arith) (omega arith) (omega arith) (omega arith) in
      let hi = table_at (2 * k + 1) (4 * k + 2) (4 * k + 3) (start + 16) (omega arith) (omega arith) (omega arith) (omega arith) in
      let c : ℕ = column p x (get_or (drop (4 * k) xs) 0 0) (get_or (drop (4 * k) xs) 1 0) (get_or (drop (4 * k) xs) 2 0) (get_or (drop (4 * k) xs) 3 0) in
      let same : column p x (get_or xs (4 * k + 0) 0) (get_or xs (4 * k + 1) 0) (get_or xs (4 * k + 2) 0) (get_or xs (4 * k + 3) 0) ≡ c = λ i. column p x (sym (get_or-drop (4 * k) xs 0 0) i) (sym (get_or-drop (4 * k) xs 1 0) i) (sym (get_or-drop (4 * k) xs 2 0) i) (sym (get_or-drop (4 * k) xs 3 0) i) in
      let one : (entries_at t start x + c) % p ≡ 0 = ap (λ (n : ℕ). (entries_at t start x + n) % p) (sym same) ∙ byte_law p _ _ _ _ t start lo hi x g.0 in
      let on : 4 * (k + 1) ≡ 4 * k + 4 = omega arith in
      let far : drop (4 * (k + 1)) xs ≡ drop 4 (drop (4 * k) xs) = ap (λ (n : ℕ). drop n xs) on ∙ sym (drop-drop 4 (4 * k) xs) in
      let z : ℕ = test_of p (drop 4 (drop (4 * k) xs)) bytes in
      let rest : (entries_of t (start + 32) bytes + z) % p ≡ 0 = ap (λ (ys : List ℕ). (entries_of t (start + 32) bytes + test_of p ys bytes) % p) (sym far) ∙ bytes_law bytes (k + 1) (start + 32) (omega arith) (omega arith) g.1 in
      ap (λ (n : ℕ). (entries_at t start x + entries_of t (start + 32) bytes + n) % p) (first_column p x bytes (drop (4 * k) xs))
      ∙ add-mod-mod (entries_at t start x + entries_of t (start + 32) bytes) (c + z) p
      ∙ undone_both p (entries_at t start x) (entries_of t (start + 32) bytes) c z one rest

  -- a group of all the tests
  pub group_law : (per j n : ℕ) (s row : List ℕ) → 2 * n ≤ count → Below 256 s → less_group p t per j n s row ≡ add_group p per j n xs s row
  group_law per j n s [] h g = refl
  group_law per j n s (r ∷ row) h g =
      let l : 2 * (0 + length (take n (drop j s))) ≤ count = rw (length-take n (drop j s)) (omega arith) in
      let w : ℕ = test_of p xs (take n (drop j s)) in
      let z : (entries_of t 0 (take n (drop j s)) + w) % p ≡ 0 = bytes_law (take n (drop j s)) 0 0 refl l (below_take 256 n (drop j s) (below_drop 256 j s g)) in
      let one : less_entries p t (take n (drop j s)) r ≡ add_mod p r w = undone p r (entries_of t 0 (take n (drop j s)) % p) w positive (le_of_lt (mod-lt _ positive)) (simp modular z) in
      (λ i. one i ∷ group_law per j n (drop per s) row h (below_drop 256 per s g) i)

-- ---- the loops

-- one table more
pub tables_next : (p i : ℕ) (xs t t₀ : List ℕ) (a b : ℕ) → a ≡ get_or xs (2 * i) 0 → b ≡ get_or xs (2 * i + 1) 0 → ((k : ℕ) → k < 16 → Entry p a b k (get_or t (16 * i + k) 0)) → ((n : ℕ) → n < 16 * i → get_or t n 0 ≡ get_or t₀ n 0) → Tables p i xs t₀ → Tables p (i + 1) xs t
tables_next p i xs t t₀ a b ea eb f g w m h k l = go (ltb m i) refl
  where
    go : (c : Bool) → ltb m i ≡ c → Entry p (get_or xs (2 * m) 0) (get_or xs (2 * m + 1) 0) k (get_or t (16 * m + k) 0)
    go true e =
        let q : m < i = ltb-true m i e in
        rw (g (16 * m + k) (omega (arith, q))) (w m q k l)
    go false e =
        let q : m ≡ i = omega (arith, ltb-false m i e) in
        rw (q, ← ea, ← eb) (f k l)

-- byte k of a test, all being the entries of all its bytes
pub entries_step : (t bytes : List ℕ) (k : ℕ) → k < length bytes → entries_of t (32 * k) (drop k bytes) ≡ entries_at t (32 * k) (get_or bytes k 0) + entries_of t (32 * (k + 1)) (drop (k + 1) bytes)
entries_step t bytes k h =
    let d : drop k bytes ≡ get_or bytes k 0 ∷ drop (k + 1) bytes = rw (add-one, drop-cons bytes k 0) in
    let on : 32 * k + 32 ≡ 32 * (k + 1) = omega arith in
    ap (entries_of t (32 * k)) d ∙ ap (λ (n : ℕ). entries_at t (32 * k) (get_or bytes k 0) + entries_of t n (drop (k + 1) bytes)) on
