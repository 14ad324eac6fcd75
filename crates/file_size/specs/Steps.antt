-- The steps of counting keys, as the code takes them: keys as numbers that rise, and the reports of each. No public contract cites this. Assumes nothing.
use Rattle.std.specs.Prelude.{ℕ, zero, suc, ◌+◌, ◌-◌, ◌≤◌, ◌<◌, ◌≡◌, true, cond, not, ◌&&◌, List, [], ◌∷◌, ◌++◌, length, get_or, take, drop, set, leb, eqb}
use Rattle.rules.specs.declared.Answer.{Answer}
use Rattle.rules.specs.Rules.{accepted, refuse, first}
use Rattle.entries.specs.File.{key_in, rising, held, index}
use Rattle.rows.specs.Rows.{Below}

-- the reports of the key k
abbrev pub reports_at : (k : ℕ) (ks rs : List ℕ) → ℕ
reports_at k ks rs = cond (held k ks) (get_or rs (index k ks) 0) 0

-- rules 15 and 16
unfoldable pub key_rules : (most k : ℕ) (ks rs : List ℕ) → Answer
key_rules most k ks rs = first (refuse (not (held k ks) && leb 1024 (length ks)) 15 0) (refuse (eqb (reports_at k ks rs) most) 16 (index k ks))

-- x at the index of k, in the place of what belongs to k there, if k is held
abbrev pub with_key : (k : ℕ) (ks xs : List ℕ) (x : ℕ) → List ℕ
with_key k ks xs x = take (index k ks) xs ++ (x ∷ drop (index k ks + cond (held k ks) 1 0) xs)

pub record Run : Type 0 where
  pub answer : Answer
  pub count : ℕ

abbrev pub run : Answer → ℕ → Run
run a n = record { answer = a; count = n }

-- keys counted one after the other
unfoldable pub run_of : (most : ℕ) (ks rs : List ℕ) → List ℕ → Run
run_of most ks rs [] = run accepted (length ks)
run_of most ks rs (k ∷ rest) = cond (eqb (key_rules most k ks rs).number 0) (run_of most (with_key k ks ks k) (with_key k ks rs (reports_at k ks rs + 1)) rest) (run (key_rules most k ks rs) 0)

-- the first n keys of a list as numbers
unfoldable pub numbers_in : (n : ℕ) → List ℕ → List ℕ
numbers_in zero bs = []
numbers_in (suc n) bs = key_in (take 8 bs) ∷ numbers_in n (drop 8 bs)

-- a row with x put in at i, and what follows up to n moved by one
abbrev pub moved : (i n x : ℕ) → List ℕ → List ℕ
moved i n x row = take i row ++ (x ∷ (take (n - i) (drop i row) ++ drop (n + 1) row))

-- one report more of the key at i
pub record Again (most : ℕ) (counts : List ℕ) (n i : ℕ) (a : Answer) (m : ℕ) (after : List ℕ) : Type 0 where
  pub answer : a ≡ refuse (eqb (get_or counts i 0) most) 16 i
  pub count : m ≡ n
  pub row : a.number ≡ 0 → after ≡ set counts i (get_or counts i 0 + 1)

-- a new key at i
pub record Begun (keys counts : List ℕ) (n i key : ℕ) (a : Answer) (m : ℕ) (keys' counts' : List ℕ) : Type 0 where
  pub answer : a ≡ refuse (leb 1024 n) 15 0
  pub count : a.number ≡ 0 → m ≡ n + 1
  pub keys_row : a.number ≡ 0 → keys' ≡ moved i n key keys
  pub counts_row : a.number ≡ 0 → counts' ≡ moved i n 1 counts

-- n keys that rise, and their counts, `most` at most, in two rows of 1024
pub record Holding (most : ℕ) (keys counts : List ℕ) (n : ℕ) : Type 0 where
  pub some : 0 < most
  pub few : n ≤ 1024
  pub keys_long : length keys ≡ 1024
  pub counts_long : length counts ≡ 1024
  pub rise : rising (take n keys) ≡ true
  pub fit : Below (suc most) (take n counts)

-- one key more
pub record Stepped (most : ℕ) (keys counts : List ℕ) (n key : ℕ) (a : Answer) (m : ℕ) (keys' counts' : List ℕ) : Type 0 where
  pub answer : a ≡ key_rules most key (take n keys) (take n counts)
  pub holding : a.number ≡ 0 → Holding most keys' counts' m
  pub keys_row : a.number ≡ 0 → take m keys' ≡ with_key key (take n keys) (take n keys) key
  pub counts_row : a.number ≡ 0 → take m counts' ≡ with_key key (take n keys) (take n counts) (reports_at key (take n keys) (take n counts) + 1)
