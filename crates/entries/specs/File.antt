-- The day's file (docs/PINE.md, "The day's file"): a list of entries, its bytes, its order, and adding a report. p is the modulus of the elements, d the dimension. Assumes nothing.
use Rattle.std.specs.Prelude.{ℕ, zero, suc, ◌+◌, ◌*◌, ◌^◌, ◌≤◌, ◌<◌, ◌≡◌, Bool, true, false, cond, ◌&&◌, List, [], ◌∷◌, ◌++◌, map, length, take, drop, replicate, leb, ltb, eqb}
use Rattle.rows.specs.Rows.{Below, add_rows}
use Rattle.octets.specs.Octets.{to_bytes, from_bytes, element_bytes, elements_in}

-- the aggregate of one valve of one controller: the address has six bytes, the body d elements
pub record Entry : Type 0 where
  pub address : List ℕ
  pub valve : ℕ
  pub reports : ℕ
  pub body : List ℕ

abbrev pub entry : (address : List ℕ) (valve reports : ℕ) (body : List ℕ) → Entry
entry a v r b = record { address = a; valve = v; reports = r; body = b }

-- ---- the order of entries

-- bytes as a number, the first one highest: of two rows of as many bytes the smaller number is that of the row that is smaller at the first byte in which they differ
unfoldable pub high_first : List ℕ → ℕ
high_first [] = 0
high_first (b ∷ bs) = b * 256 ^ length bs + high_first bs

-- the key as a number: the address, its first byte highest, then the valve, of 16 bits. Entries rise by this number
abbrev pub key_number : (address : List ℕ) (valve : ℕ) → ℕ
key_number a v = 65536 * high_first a + v

abbrev pub key_of : Entry → ℕ
key_of e = key_number e.address e.valve

-- the same order byte by byte, which no other definition needs: of two rows of as many bytes, whether the first comes before the other; rest says it where the bytes are equal
abbrev pub less_bytes : (xs ys : List ℕ) (rest : Bool) → Bool
less_bytes [] ys rest = rest
less_bytes (a ∷ xs) [] rest = false
less_bytes (a ∷ xs) (b ∷ ys) rest = cond (ltb a b) true (cond (eqb a b) (less_bytes xs ys rest) false)

-- the key in the first eight bytes: six of the address, two of the valve
abbrev pub valve_in : List ℕ → ℕ
valve_in bs = from_bytes (take 2 (drop 6 bs))

abbrev pub key_in : List ℕ → ℕ
key_in bs = key_number (take 6 bs) (valve_in bs)

-- each key is above the one before it
abbrev pub rising_after : ℕ → List ℕ → Bool
rising_after k [] = true
rising_after k (l ∷ ks) = ltb k l && rising_after l ks

abbrev pub rising : List ℕ → Bool
rising [] = true
rising (k ∷ ks) = rising_after k ks

-- ---- the bytes of a file

-- an entry's twelve bytes of contents
abbrev pub content_of : Entry → List ℕ
content_of e = e.address ++ (to_bytes 2 e.valve ++ to_bytes 4 e.reports)

abbrev pub contents_of : List Entry → List ℕ
contents_of [] = []
contents_of (e ∷ es) = content_of e ++ contents_of es

abbrev pub bodies_of : List Entry → List ℕ
bodies_of [] = []
bodies_of (e ∷ es) = e.body ++ bodies_of es

-- the count and the dimension
abbrev pub header : (count d : ℕ) → List ℕ
header count d = to_bytes 2 count ++ to_bytes 4 d

-- contents first, then bodies
abbrev pub file_from : (d count : ℕ) (contents bodies : List ℕ) → List ℕ
file_from d count contents bodies = header count d ++ (contents ++ element_bytes bodies)

unfoldable pub file_of : (d : ℕ) → List Entry → List ℕ
file_of d es = file_from d (length es) (contents_of es) (bodies_of es)

abbrev pub file_len : (d count : ℕ) → ℕ
file_len d count = 6 + count * (12 + 8 * d)

-- ---- accepted files

-- six bytes of address, numbers that fit their bytes, d elements below p
pub record EntryOk (p d : ℕ) (e : Entry) : Type 0 where
  pub address_long : length e.address ≡ 6
  pub address_bytes : Below 256 e.address
  pub valve_fits : e.valve < 2 ^ 16
  pub reports_fit : e.reports < 2 ^ 32
  pub body_long : length e.body ≡ d
  pub body_below : Below p e.body

abbrev pub AllOk : (p d : ℕ) → List Entry → Type 0
AllOk p d [] = Unit {0}
AllOk p d (e ∷ es) = EntryOk p d e × AllOk p d es

abbrev pub keys_of : List Entry → List ℕ
keys_of es = map key_of es

-- at most 1024 such entries, with rising keys
pub record FileOk (p d : ℕ) (es : List Entry) : Type 0 where
  pub few : length es ≤ 1024
  pub entries : AllOk p d es
  pub rise : rising (keys_of es) ≡ true

-- ---- reading the bytes

-- the entry count in the first two bytes, 0 if there are fewer
unfoldable pub count_in : List ℕ → ℕ
count_in file = cond (ltb (length file) 2) 0 (from_bytes (take 2 file))

unfoldable pub dimension_in : List ℕ → ℕ
dimension_in file = from_bytes (take 4 (drop 2 file))

-- what follows the first six bytes: twelve bytes an entry, then the bodies
unfoldable pub contents_in : (count : ℕ) → List ℕ → List ℕ
contents_in count file = take (12 * count) (drop 6 file)

unfoldable pub bodies_in : (d count : ℕ) → List ℕ → List ℕ
bodies_in d count file = elements_in (d * count) (drop (6 + 12 * count) file)

-- the keys in contents, and the entries in contents and bodies
unfoldable pub keys_in : (count : ℕ) → List ℕ → List ℕ
keys_in zero contents = []
keys_in (suc n) contents = key_in contents ∷ keys_in n (drop 12 contents)

unfoldable pub entries_from : (d count : ℕ) (contents bodies : List ℕ) → List Entry
entries_from d zero contents bodies = []
entries_from d (suc n) contents bodies =
    entry (take 6 contents) (valve_in contents) (from_bytes (take 4 (drop 8 contents))) (take d bodies)
    ∷ entries_from d n (drop 12 contents) (drop d bodies)

unfoldable pub entries_in : (d : ℕ) → List ℕ → List Entry
entries_in d file = entries_from d (count_in file) (contents_in (count_in file) file) (bodies_in d (count_in file) file)

-- each element is below p, as a test
abbrev pub all_below : (p : ℕ) → List ℕ → Bool
all_below p [] = true
all_below p (x ∷ xs) = ltb x p && all_below p xs

-- a count, contents and bodies that make a file
unfoldable pub is_rows : (p count : ℕ) (contents bodies : List ℕ) → Bool
is_rows p count contents bodies = leb count 1024 && (rising (keys_in count contents) && all_below p bodies)

-- bytes that are a file
unfoldable pub is_file : (p d : ℕ) → List ℕ → Bool
is_file p d file =
    leb 6 (length file)
    && (eqb (dimension_in file) d
    && (eqb (length file) (file_len d (count_in file))
    && is_rows p (count_in file) (contents_in (count_in file) file) (bodies_in d (count_in file) file)))

-- ---- adding a report

-- the largest count of reports, of 32 bits
abbrev pub most_reports : ℕ
most_reports = 4294967295

-- the entry that a new key starts from: no reports, a body of zeros
abbrev pub fresh : (d : ℕ) (key : List ℕ) → Entry
fresh d key = entry (take 6 key) (valve_in key) 0 (replicate d 0)

-- in keys that rise

-- whether the key k is there
abbrev pub held : (k : ℕ) → List ℕ → Bool
held k [] = false
held k (l ∷ ks) = cond (ltb l k) (held k ks) (eqb l k)

-- the index of the first key that is not below k: where k is, or would be
abbrev pub index : (k : ℕ) → List ℕ → ℕ
index k [] = 0
index k (l ∷ ks) = cond (ltb l k) (suc (index k ks)) 0

-- the entry with the key of f, or f where there is none
abbrev pub entry_for : Entry → List Entry → Entry
entry_for f [] = f
entry_for f (e ∷ es) = cond (ltb (key_of e) (key_of f)) (entry_for f es) (cond (eqb (key_of e) (key_of f)) e f)

-- f in the place of the entry with its key, or between its neighbours where there is none
abbrev pub placed : Entry → List Entry → List Entry
placed f [] = f ∷ []
placed f (e ∷ es) = cond (ltb (key_of e) (key_of f)) (e ∷ placed f es) (cond (eqb (key_of e) (key_of f)) (f ∷ es) (f ∷ e ∷ es))

-- one report more, its share added to the body
abbrev pub raised : (p : ℕ) (share : List ℕ) → Entry → Entry
raised p share e = entry e.address e.valve (e.reports + 1) (add_rows p e.body share)

unfoldable pub added : (p d : ℕ) (key share : List ℕ) → List Entry → List Entry
added p d key share es = placed (raised p share (entry_for (fresh d key) es)) es
