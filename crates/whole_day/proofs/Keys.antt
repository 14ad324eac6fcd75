-- One key after any calls of adding: its entry, the count of its reports, and the sums of its body. Assumes nothing.
use mathlib.Core.Path.{◌≡◌, refl, sym, ap, ap₂, ◌∙◌}
use mathlib.Core.Bool.{Bool, true, false, cond, not, ◌&&◌, ◌||◌, true≢false}
use mathlib.Core.List.{List, [], ◌∷◌, ◌++◌}
use Prim.Native.Nat.{ℕ, ◌+◌, ◌%◌, ◌≤◌, ◌<◌}
use native.Mathlib.Omega.{arith}
use lib.ListN.{length, take, drop, replicate, length-drop, length-replicate, get_or-replicate, take-append-drop}
use lib.Seq.{take_all, length-take-le}
use lib.IntN.{pos}
use lib.Dec.{ltb, eqb}
use borrow.Author.Tests.{eqb-true, eq-eqb, ne_eqb}
use Rattle.field64.specs.Field.{p64, add_mod}
use Rattle.field64.proofs.Modular.{modular}
use Rattle.pine.specs.Param.{Field64}
use Rattle.rows.specs.Rows.{add_rows}
use Rattle.rows.proofs.Elements.{below_take, below_drop}
use Rattle.rows.proofs.Added.{length-add_rows, get_or-add_rows}
use Rattle.octets.specs.Octets.{to_bytes}
use Rattle.octets.proofs.Bytes.{to_from_long}
use Rattle.entries.specs.File.{Entry, key_in, valve_in, less_bytes, keys_of, FileOk, file_of, fresh, held, entry_for, placed, raised, added}
use Rattle.entries.proofs.Adding.{found_key, found_placed, found_other, fresh_ok, ok_found, inserted, keys_placed}
use Rattle.entries.proofs.Keys.{key_injective, key_order}
use Rattle.file_add.specs.Add.{add_answer}
use Rattle.correctness.specs.Tally.{eq_row, count, Aggregate, FieldRow, Each, WordRow}
use Rattle.correctness.proofs.Counts.{eq_row_true, eq_row_refl, sum_over}
use Rattle.correctness.proofs.Tally.{at, Backed, Good}
use Rattle.whole_day.specs.Day.{Key, Adding, Keys, shares_of}
use Rattle.whole_day.proofs.Days.{share_row, next, next_ok, accepts_is, after_one_lem, through, through_ok}
use Rattle.whole_day.proofs.Sizes.{held_inserted}

-- ---- keys of eight bytes with one number are one key

module _ (g h : List ℕ) (k : Key g) (l : Key h) (e : key_in g ≡ key_in h) where
  parts : (take 6 g ≡ take 6 h) × (valve_in g ≡ valve_in h)
  parts =
      let a = fresh_ok p64 0 (omega arith) g k.long k.bytes in
      let b = fresh_ok p64 0 (omega arith) h l.long l.bytes in
      key_injective (take 6 g) (take 6 h) (valve_in g) (valve_in h) (a.address_long ∙ sym b.address_long) a.address_bytes b.address_bytes a.valve_fits b.valve_fits e

pub order : (g h : List ℕ) → Key g → Key h → ltb (key_in g) (key_in h) ≡ less_bytes (take 6 g) (take 6 h) (ltb (valve_in g) (valve_in h))
order g h k l =
    let a = fresh_ok p64 0 (omega arith) g k.long k.bytes in
    let b = fresh_ok p64 0 (omega arith) h l.long l.bytes in
    key_order (take 6 g) (take 6 h) (valve_in g) (valve_in h) (a.address_long ∙ sym b.address_long) a.address_bytes b.address_bytes a.valve_fits b.valve_fits

-- the eight bytes of a key from its address and its valve
key_whole : (g : List ℕ) → Key g → g ≡ take 6 g ++ to_bytes 2 (valve_in g)
key_whole g k =
    let n : 2 ≤ length (drop 6 g) = rw (length-drop 6 g) (omega (arith, k.long)) in
    let t : length (take 2 (drop 6 g)) ≡ 2 = length-take-le 2 (drop 6 g) n in
    let m : length (drop 6 g) ≤ 2 = rw (length-drop 6 g) (omega (arith, k.long)) in
    sym (ap (λ (x : List ℕ). take 6 g ++ x) (to_from_long 2 (take 2 (drop 6 g)) t (below_take 256 2 (drop 6 g) (below_drop 256 6 g k.bytes)) ∙ take_all 2 (drop 6 g) m) ∙ take-append-drop 6 g)

pub one_key : (g h : List ℕ) → Key g → Key h → key_in g ≡ key_in h → g ≡ h
one_key g h k l e =
    let f = parts g h k l e in
    key_whole g k ∙ ap₂ (λ (x : List ℕ) (v : ℕ). x ++ to_bytes 2 v) f.0 f.1 ∙ sym (key_whole h l)

-- ---- an entry with shares added

pub with_shares : (p : ℕ) → Entry → List (List ℕ) → Entry
with_shares p e [] = e
with_shares p e (s ∷ ss) = with_shares p (raised p s e) ss

-- a body with each of these shares added in the field
pub summed : (p : ℕ) → List ℕ → List (List ℕ) → List ℕ
summed p b [] = b
summed p b (s ∷ ss) = summed p (add_rows p b s) ss

pub shares_count : (p : ℕ) (e : Entry) (ss : List (List ℕ)) → (with_shares p e ss).reports ≡ e.reports + length ss
unfolding with_shares
shares_count p e [] = omega arith
shares_count p e (s ∷ ss) = shares_count p (raised p s e) ss ∙ omega arith

pub shares_body : (p : ℕ) (e : Entry) (ss : List (List ℕ)) → (with_shares p e ss).body ≡ summed p e.body ss
unfolding with_shares summed
shares_body p e [] = refl
shares_body p e (s ∷ ss) = shares_body p (raised p s e) ss

-- each element is the sum of that element
summed_at : (p d j : ℕ) → j < d → (b : List ℕ) (ss : List (List ℕ)) → length b ≡ d → Each (FieldRow p d) ss → at Field64 j (summed p b ss) % p ≡ (at Field64 j b + sum_over (at Field64 j) ss) % p
unfolding summed
summed_at p d j h b [] l f = ap (λ (n : ℕ). n % p) (omega arith)
summed_at p d j h b (s ∷ ss) l f =
    let same : length b ≡ length s = l ∙ sym f.0.long in
    let x : at Field64 j (add_rows p b s) ≡ add_mod p (at Field64 j b) (at Field64 j s) = get_or-add_rows p b s j same (omega arith) in
    let q : at Field64 j b + at Field64 j s + sum_over (at Field64 j) ss ≡ at Field64 j b + (at Field64 j s + sum_over (at Field64 j) ss) = omega arith in
    summed_at p d j h (add_rows p b s) ss (length-add_rows p b s same ∙ l) f.1 ∙ rw x (simp modular (ap (λ (n : ℕ). n % p) q))

-- d field numbers, as a row of Field64
word_row : (d : ℕ) (r : List ℕ) → FieldRow p64 d r → WordRow Field64 d r
word_row d r f = record { long = f.long; below = f.below }

word_rows : (d : ℕ) (ss : List (List ℕ)) → Each (FieldRow p64 d) ss → Each (WordRow Field64 d) ss
word_rows d [] f = tt
word_rows d (s ∷ ss) f = (word_row d s f.0, word_rows d ss f.1)

-- ---- one call, and one key

module _ (d : ℕ) (small : d ≤ 65536) (g : List ℕ) (kg : Key g) where
  module _ (es : List Entry) (o : FileOk p64 d es) (a : Adding) (k : Key a.key) where
    abbrev n : ℕ
    n = (add_answer a.inputs a.key (file_of d es) a.share (length a.second)).number

    other : eq_row a.key g ≡ false → key_in a.key ≡ key_in g → ⊥
    other e q = true≢false (sym (eq_row_refl g) ∙ ap (λ (x : List ℕ). eq_row x g) (sym (one_key a.key g k kg q)) ∙ e)

    pub entry_next : entry_for (fresh d g) (next d small es o a k) ≡ cond (eqb n 0 && eq_row a.key g) (raised p64 a.share (entry_for (fresh d g) es)) (entry_for (fresh d g) es)
    unfolding added
    entry_next = go (eqb n 0) (eq_row a.key g) refl
      where
        E : Entry
        E = raised p64 a.share (entry_for (fresh d a.key) es)

        go : (s t : Bool) → eq_row a.key g ≡ t → entry_for (fresh d g) (cond s (placed E es) es) ≡ cond (s && t) (raised p64 a.share (entry_for (fresh d g) es)) (entry_for (fresh d g) es)
        go true true e =
            let q = eq_row_true a.key g e in
            found_placed E (fresh d g) es (sym (ap key_in q) ∙ sym (found_key (fresh d a.key) es)) ∙ ap (λ (x : List ℕ). raised p64 a.share (entry_for (fresh d x) es)) q
        go true false e = found_other E (fresh d g) es (λ x. other e (sym (x ∙ found_key (fresh d a.key) es)))
        go false t e = refl

    pub held_next : held (key_in g) (keys_of (next d small es o a k)) ≡ ((eqb n 0 && eq_row a.key g) || held (key_in g) (keys_of es))
    unfolding added
    held_next = go (eqb n 0) (eq_row a.key g) refl
      where
        E : Entry
        E = raised p64 a.share (entry_for (fresh d a.key) es)

        keys : keys_of (placed E es) ≡ inserted (key_in a.key) (keys_of es)
        keys = keys_placed E es ∙ ap (λ (x : ℕ). inserted x (keys_of es)) (found_key (fresh d a.key) es)

        go : (s t : Bool) → eq_row a.key g ≡ t → held (key_in g) (keys_of (cond s (placed E es) es)) ≡ ((s && t) || held (key_in g) (keys_of es))
        go true true e = ap (held (key_in g)) keys ∙ held_inserted (key_in g) (key_in a.key) (keys_of es) ∙ rw (eq-eqb _ _ (ap key_in (eq_row_true a.key g e)))
        go true false e = ap (held (key_in g)) keys ∙ held_inserted (key_in g) (key_in a.key) (keys_of es) ∙ rw (ne_eqb _ _ (other e))
        go false t e = refl

  -- ---- one call after the other

  some : List (List ℕ) → Bool
  some [] = false
  some (s ∷ ss) = true

  next_some : (b h : Bool) (s : List ℕ) (ss : List (List ℕ)) → ((b || h) || some ss) ≡ (h || some (cond b (s ∷ ss) ss))
  unfolding some
  next_some true true s ss = refl
  next_some true false s ss = refl
  next_some false h s ss = refl

  -- the shares, where the file after the first call is that of its entries
  shares_next : (es : List Entry) (o : FileOk p64 d es) (a : Adding) (k : Key a.key) (calls : List Adding)
      → shares_of g (file_of d es) (a ∷ calls) ≡ cond (eqb (n es o a k) 0 && eq_row a.key g) (a.share ∷ shares_of g (file_of d (next d small es o a k)) calls) (shares_of g (file_of d (next d small es o a k)) calls)
  unfolding shares_of
  shares_next es o a k calls = rw (after_one_lem d small es o a k, accepts_is d small es o a k)

  pub day_entry : (es : List Entry) → FileOk p64 d es → (calls : List Adding) → Keys calls → entry_for (fresh d g) (through d small es calls) ≡ with_shares p64 (entry_for (fresh d g) es) (shares_of g (file_of d es) calls)
  unfolding through with_shares
  day_entry es o [] k = unfold shares_of in refl
  day_entry es o (a ∷ calls) k =
      day_entry (next d small es o a k.0) (next_ok d small es o a k.0) calls k.1
      ∙ rw (entry_next es o a k.0, shares_next es o a k.0 calls) (go (eqb (n es o a k.0) 0 && eq_row a.key g) (shares_of g (file_of d (next d small es o a k.0)) calls))
    where
      go : (b : Bool) (rest : List (List ℕ)) → with_shares p64 (cond b (raised p64 a.share (entry_for (fresh d g) es)) (entry_for (fresh d g) es)) rest ≡ with_shares p64 (entry_for (fresh d g) es) (cond b (a.share ∷ rest) rest)
      go true rest = refl
      go false rest = refl

  pub day_shares_lem : (es : List Entry) → FileOk p64 d es → (calls : List Adding) → Keys calls → Each (FieldRow p64 d) (shares_of g (file_of d es) calls)
  day_shares_lem es o [] k = unfold shares_of in tt
  day_shares_lem es o (a ∷ calls) k =
      rw (shares_next es o a k.0 calls) (go (eqb (n es o a k.0) 0) (eq_row a.key g) refl (shares_of g (file_of d (next d small es o a k.0)) calls) (day_shares_lem (next d small es o a k.0) (next_ok d small es o a k.0) calls k.1))
    where
      go : (s t : Bool) → eqb (n es o a k.0) 0 ≡ s → (rest : List (List ℕ)) → Each (FieldRow p64 d) rest → Each (FieldRow p64 d) (cond (s && t) (a.share ∷ rest) rest)
      go true true e rest f = (share_row d small es o a k.0 (eqb-true _ 0 e), f)
      go true false e rest f = f
      go false t e rest f = f

  day_held : (es : List Entry) → FileOk p64 d es → (calls : List Adding) → Keys calls → held (key_in g) (keys_of (through d small es calls)) ≡ (held (key_in g) (keys_of es) || some (shares_of g (file_of d es) calls))
  unfolding through
  day_held es o [] k = unfold shares_of some in go (held (key_in g) (keys_of es))
    where
      go : (t : Bool) → t ≡ (t || false)
      go true = refl
      go false = refl
  day_held es o (a ∷ calls) k =
      day_held (next d small es o a k.0) (next_ok d small es o a k.0) calls k.1
      ∙ rw (held_next es o a k.0, shares_next es o a k.0 calls) (next_some (eqb (n es o a k.0) 0 && eq_row a.key g) (held (key_in g) (keys_of es)) a.share (shares_of g (file_of d (next d small es o a k.0)) calls))

  -- ---- begun with no entry

  none : FileOk p64 d []
  none = record { few = omega arith; entries = tt; rise = refl }

  module _ (calls : List Adding) (k : Keys calls) where
    abbrev final : List Entry
    final = through d small [] calls

    abbrev S : List (List ℕ)
    S = shares_of g (file_of d []) calls

    is_some : (ss : List (List ℕ)) → some ss ≡ not (eqb (length ss) 0)
    unfolding some
    is_some [] = refl
    is_some (s ∷ ss) = rw (ne_eqb (length (s ∷ ss)) 0 (λ e. omega arith))

    pub key_held : held (key_in g) (keys_of final) ≡ not (eqb (length S) 0)
    key_held = day_held [] none calls k ∙ is_some S

    pub key_reports : (entry_for (fresh d g) final).reports ≡ length S
    key_reports = ap (λ (e : Entry). e.reports) (day_entry [] none calls k) ∙ shares_count p64 (fresh d g) S ∙ omega arith

    pub key_shares : Each (FieldRow p64 d) S
    key_shares = day_shares_lem [] none calls k

    body_row : FieldRow p64 d (entry_for (fresh d g) final).body
    body_row =
        let f = ok_found p64 d (fresh d g) final (fresh_ok p64 d (omega arith) g kg.long kg.bytes) (through_ok d small [] none calls k).entries in
        record { long = f.body_long; below = f.body_below }

    -- the body, as an aggregate that holds these shares
    abbrev pub holding : Aggregate
    holding = record { row = (entry_for (fresh d g) final).body; tally = λ r. pos (count r S) }

    pub holding_backed : Backed Field64 d holding
    holding_backed = record {
      row = word_row d (entry_for (fresh d g) final).body body_row;
      adds = S;
      takes = [];
      adds_rows = word_rows d S key_shares;
      takes_rows = tt;
      numbers = λ r. omega arith;
      sums = λ j h.
          let e : (entry_for (fresh d g) final).body ≡ summed p64 (replicate d 0) S = ap (λ (x : Entry). x.body) (day_entry [] none calls k) ∙ shares_body p64 (fresh d g) S in
          let z : at Field64 j (replicate d 0) ≡ 0 = get_or-replicate {A = ℕ} d j 0 0 h in
          let q : at Field64 j (entry_for (fresh d g) final).body + 0 ≡ at Field64 j (summed p64 (replicate d 0) S) = omega (arith, ap (at Field64 j) e) in
          let r : at Field64 j (replicate d 0) + sum_over (at Field64 j) S ≡ sum_over (at Field64 j) S = omega arith in
          ap (λ (x : ℕ). x % p64) q ∙ summed_at p64 d j h (replicate d 0) S (length-replicate {A = ℕ} d 0) key_shares ∙ ap (λ (x : ℕ). x % p64) r;
    }

    pub holding_good : Good Field64 d holding
    holding_good = record { backing = holding_backed; written = refl }
