-- The state that the code carries gives TurboSHAKE128, and a longer output begins with the shorter one. Assumes nothing.
use mathlib.Core.Path.{◌≡◌, refl, sym, ap, ap₂, ◌∙◌}
use mathlib.Core.List.{List, [], ◌∷◌, ◌++◌}
use Prim.Native.Nat.{ℕ, zero, suc, ◌+◌, ◌-◌, ◌*◌, ◌/◌, ◌%◌, ◌^◌, ◌<◌, ◌≤◌}
use native.Mathlib.Nat.{zero-mul, zero-add, lt_of_not-le}
use native.Mathlib.Numerals.{add-one}
use native.Mathlib.Decide.{dec_le}
use native.Mathlib.Omega.{arith}
use lib.ListN.{length, get_or, set, take, drop, replicate, length-append, length-set, length-replicate, length-drop, take-append-drop}
use lib.Seq.{set-set, get_or-set_same, set-get_or, length-take-le, drop-cons, take_at}
use lib.Dec.{lit<}
use lib.Bits.{bit_xor, xor_zero_r, xor_lt}
use Rattle.keccak.specs.Keccak.{keccak_p}
use Rattle.keccak.proofs.Rounds.{keccak_length, each_append}
use Rattle.turboshake.specs.declared.Sponge.{Sponge}
use Rattle.turboshake.specs.TurboShake.{Bytes, low_bytes, bytes_of, lanes_of, xor_last, padded, xor_into, absorb_blocks, absorbed, squeeze_blocks, turbo_shake128}
use Rattle.turboshake.specs.Stream.{sponge, moved, xor_byte, absorb_byte, absorb_all, start, stream_of, drawn, after}
use Rattle.turboshake.proofs.Moved.{moved_full, moved_part}
use Rattle.turboshake.proofs.Drawn.{length_drawn, drawn_add, after_run}
use Rattle.turboshake.proofs.Xor.{xor_assoc, xor_shl}
use Rattle.turboshake.proofs.Words.{low_bytes_lem, moved_place}
use Rattle.turboshake.proofs.Runs.{xor_run, run_absorbed, run_lanes, bytes_take, bytes_drop}

-- ---- blocks

block_absorbed : (ws bs : List ℕ) → length ws ≡ 25 → length bs ≡ 168 → Bytes bs → absorb_all bs (sponge ws 0) ≡ sponge (keccak_p (xor_into ws (lanes_of 21 bs))) 0
block_absorbed ws bs h g f =
    run_absorbed bs ws 0 (omega arith) (omega arith) ∙ moved_full (length bs) 0 (xor_run 0 ws bs) (omega arith)
    ∙ ap (λ (vs : List ℕ). sponge (keccak_p vs) 0) (run_lanes 21 ws bs (omega arith) (omega arith) f)

blocks_absorbed : (n : ℕ) (ws bs : List ℕ) → length ws ≡ 25 → length bs ≡ 168 * n → Bytes bs → absorb_all bs (sponge ws 0) ≡ sponge (absorb_blocks n bs ws) 0
blocks_absorbed zero ws [] h g f = refl
blocks_absorbed zero ws (b ∷ bs) h g f = absurd (omega arith)
blocks_absorbed (suc n) ws bs h g f =
    let inside : 168 ≤ length bs = omega arith in
    let rest : length (drop 168 bs) ≡ 168 * n = length-drop 168 bs ∙ omega arith in
    ap (λ (cs : List ℕ). absorb_all cs (sponge ws 0)) (sym (take-append-drop 168 bs)) ∙ each_append absorb_byte (take 168 bs) (drop 168 bs) (sponge ws 0)
    ∙ ap (absorb_all (drop 168 bs)) (block_absorbed ws (take 168 bs) h (length-take-le 168 bs inside) (bytes_take 168 bs f))
    ∙ blocks_absorbed n (keccak_p (xor_into ws (lanes_of 21 (take 168 bs)))) (drop 168 bs) (keccak_length _) rest (bytes_drop 168 bs f)

blocks_length : (n : ℕ) (bs ws : List ℕ) → length ws ≡ 25 → length (absorb_blocks n bs ws) ≡ 25
blocks_length zero bs ws h = h
blocks_length (suc n) bs ws h = blocks_length n (drop 168 bs) (keccak_p (xor_into ws (lanes_of 21 (take 168 bs)))) (keccak_length _)

pub absorbed_length : (m : List ℕ) (D : ℕ) → length (absorbed m D) ≡ 25
absorbed_length m D = blocks_length (length (padded m D) / 168) (padded m D) (replicate 25 0) refl

-- ---- the state after a message

moved_length : (k : ℕ) (ws : List ℕ) → k < 168 → length ws ≡ 25 → length (moved 1 (sponge ws k)).lanes ≡ 25
moved_length k ws h w = go (dec_le 168 (k + 1))
  where
    go : Dec (168 ≤ k + 1) → length (moved 1 (sponge ws k)).lanes ≡ 25
    go (yes g) = let e : k + 1 ≡ 168 = omega arith in ap (λ (s : Sponge). length s.lanes) (moved_full 1 k ws e) ∙ keccak_length ws
    go (no g) = let l : k + 1 < 168 = lt_of_not-le g in ap (λ (s : Sponge). length s.lanes) (moved_part 1 k ws l) ∙ w

-- the place in the block, and 25 lanes
pub absorbs_to : (bs : List ℕ) (s : Sponge) → s.at < 168 → length s.lanes ≡ 25 → ((absorb_all bs s).at ≡ (s.at + length bs) % 168) × (length (absorb_all bs s).lanes ≡ 25)
absorbs_to [] s h w = (omega arith, w)
absorbs_to (b ∷ bs) s h w =
    let n = absorb_byte b s in
    let l = length-set s.lanes (s.at / 8) _ ∙ w in
    let a : n.at ≡ (s.at + 1) % 168 = moved_place 1 s.at (xor_byte s.at s.lanes b) (omega arith) in
    let ih = absorbs_to bs n (omega arith) (moved_length s.at (xor_byte s.at s.lanes b) h l) in
    (ih.0 ∙ omega arith, ih.1)

-- ---- the padding

last_append : (v : ℕ) (m : List ℕ) (b : ℕ) (bs : List ℕ) → xor_last v (m ++ (b ∷ bs)) ≡ m ++ xor_last v (b ∷ bs)
last_append v [] b bs = refl
last_append v (a ∷ []) b bs = refl
last_append v (a ∷ c ∷ m) b bs = ap (λ (r : List ℕ). a ∷ r) (last_append v (c ∷ m) b bs)

last_length : (v : ℕ) (bs : List ℕ) → length (xor_last v bs) ≡ length bs
last_length v [] = refl
last_length v (b ∷ []) = refl
last_length v (a ∷ b ∷ bs) = ap suc (last_length v (b ∷ bs))

byte_twice : (k : ℕ) (ws : List ℕ) (a b : ℕ) → k / 8 < length ws → xor_byte k (xor_byte k ws a) b ≡ xor_byte k ws (bit_xor a b)
byte_twice k ws a b h =
    let n = 8 * (k % 8) in
    let w = get_or ws (k / 8) 0 in
    set-set ws (k / 8) (bit_xor w (a * 2 ^ n)) (bit_xor (get_or (xor_byte k ws a) (k / 8) 0) (b * 2 ^ n))
    ∙ ap (set ws (k / 8)) (ap (λ (v : ℕ). bit_xor v (b * 2 ^ n)) (get_or-set_same ws (k / 8) (bit_xor w (a * 2 ^ n)) 0 h) ∙ xor_assoc w (a * 2 ^ n) (b * 2 ^ n) ∙ ap (bit_xor w) (xor_shl a b n))

byte_none : (k : ℕ) (ws : List ℕ) → xor_byte k ws 0 ≡ ws
byte_none k ws = ap (set ws (k / 8)) (ap (bit_xor (get_or ws (k / 8) 0)) (zero-mul (2 ^ (8 * (k % 8)))) ∙ xor_zero_r (get_or ws (k / 8) 0)) ∙ set-get_or ws (k / 8) 0

padding_run : (r k D : ℕ) (ws : List ℕ) → length ws ≡ 25 → k + r ≡ 167 → xor_run k ws (xor_last 0x80 (D ∷ replicate r 0)) ≡ xor_byte 167 (xor_byte k ws D) 0x80
padding_run zero k D ws h e =
    let last : k ≡ 167 = omega arith in
    ap (λ (j : ℕ). xor_byte j ws (bit_xor D 0x80)) last ∙ sym (byte_twice 167 ws D 0x80 (omega arith)) ∙ ap (λ (j : ℕ). xor_byte 167 (xor_byte j ws D) 0x80) (sym last)
padding_run (suc r) k D ws h e =
    padding_run r (suc k) 0 (xor_byte k ws D) (length-set ws (k / 8) _ ∙ h) (omega arith) ∙ ap (λ (vs : List ℕ). xor_byte 167 vs 0x80) (byte_none (suc k) (xor_byte k ws D))

-- the code's end of a message is the padding absorbed
pub finish_absorbs : (m : List ℕ) (D : ℕ) → stream_of m D ≡ absorb_all (padded m D) start
finish_absorbs m D =
    let s = absorb_all m start in
    let r = 167 - length m % 168 in
    let to = absorbs_to m start (omega arith) refl in
    let place : s.at ≡ length m % 168 = to.0 ∙ ap (λ (n : ℕ). n % 168) (zero-add (length m)) in
    let tail = xor_last 0x80 (D ∷ replicate r 0) in
    let long : length tail ≡ suc r = last_length 0x80 (D ∷ replicate r 0) ∙ ap suc (length-replicate r 0) in
    sym (ap (λ (bs : List ℕ). absorb_all bs start) (last_append 0x80 m D (replicate r 0)) ∙ each_append absorb_byte m tail start
    ∙ run_absorbed tail s.lanes s.at (omega arith) (omega arith) ∙ moved_full (length tail) s.at (xor_run s.at s.lanes tail) (omega arith)
    ∙ ap (λ (vs : List ℕ). sponge (keccak_p vs) 0) (padding_run r s.at D s.lanes to.1 (omega arith)))

-- ---- the padded message

pub bytes_append : (cs bs : List ℕ) → Bytes cs → Bytes bs → Bytes (cs ++ bs)
bytes_append [] bs f g = g
bytes_append (c ∷ cs) bs f g = (f.0, bytes_append cs bs f.1 g)

bytes_zeros : (r : ℕ) → Bytes (replicate r 0)
bytes_zeros zero = tt
bytes_zeros (suc r) = (lit< tt, bytes_zeros r)

bytes_last : (v : ℕ) → v < 256 → (bs : List ℕ) → Bytes bs → Bytes (xor_last v bs)
bytes_last v h [] f = tt
bytes_last v h (b ∷ []) f = (xor_lt 8 b v f.0 h, tt)
bytes_last v h (a ∷ b ∷ bs) f = (f.0, bytes_last v h (b ∷ bs) f.1)

padded_bytes : (m : List ℕ) (D : ℕ) → D < 256 → Bytes m → Bytes (padded m D)
padded_bytes m D h f = bytes_last 0x80 (lit< tt) (m ++ (D ∷ replicate (167 - length m % 168) 0)) (bytes_append m (D ∷ replicate (167 - length m % 168) 0) f (h, bytes_zeros (167 - length m % 168)))

padded_length : (m : List ℕ) (D : ℕ) → length (padded m D) ≡ 168 * (length (padded m D) / 168)
padded_length m D =
    let n = 167 - length m % 168 in
    let long : length (padded m D) ≡ length m + suc (167 - length m % 168) =
    last_length 0x80 (m ++ (D ∷ replicate n 0)) ∙ length-append m (D ∷ replicate n 0) ∙ ap (λ (k : ℕ). length m + suc k) (length-replicate n 0) in
    omega arith

-- ---- the output

length_bytes : (ws : List ℕ) → length (bytes_of ws) ≡ 8 * length ws
length_bytes [] = refl
length_bytes (w ∷ ws) = length-append (low_bytes 8 w) (bytes_of ws) ∙ ap (λ (n : ℕ). 8 + n) (length_bytes ws) ∙ omega arith

drawn_run : (n k : ℕ) (ws : List ℕ) → k + n ≤ 168 → length ws ≡ 25 → drawn n (sponge ws k) ≡ take n (drop k (bytes_of ws))
unfolding drawn
drawn_run zero k ws h w = refl
drawn_run (suc zero) k ws h w =
    let inside : k < length (bytes_of ws) = rw (length_bytes ws) (omega arith) in
    rw (drop-cons (bytes_of ws) k 0 inside)
drawn_run (suc (suc n)) k ws h w =
    let inside : k < length (bytes_of ws) = rw (length_bytes ws) (omega arith) in
    ap (λ (r : List ℕ). get_or (bytes_of ws) k 0 ∷ r) (ap (drawn (suc n)) (moved_part 1 k ws (omega arith)) ∙ drawn_run (suc n) (k + 1) ws (omega arith) w ∙ ap (λ (j : ℕ). take (suc n) (drop j (bytes_of ws))) (add-one k))
    ∙ ap (take (suc (suc n))) (sym (drop-cons (bytes_of ws) k 0 inside))

squeeze_drawn : (k : ℕ) (ws : List ℕ) → length ws ≡ 25 → drawn (168 * k) (sponge ws 0) ≡ squeeze_blocks k ws
unfolding drawn
squeeze_drawn zero ws w = refl
squeeze_drawn (suc k) ws w =
    let e : 168 * suc k ≡ 168 + 168 * k = omega arith in
    let over : after 168 (sponge ws 0) ≡ sponge (keccak_p ws) 0 = after_run 167 0 ws (omega arith) ∙ moved_full 168 0 ws refl in
    ap (λ (n : ℕ). drawn n (sponge ws 0)) e ∙ drawn_add 168 (168 * k) (sponge ws 0)
    ∙ ap₂ ◌++◌ (drawn_run 168 0 ws (omega arith) w) (ap (drawn (168 * k)) over ∙ squeeze_drawn k (keccak_p ws) (keccak_length ws))

pub drawn_front : (n k : ℕ) (s : Sponge) → take n (drawn (n + k) s) ≡ drawn n s
drawn_front n k s = ap (take n) (drawn_add n k s) ∙ take_at (drawn n s) (drawn k (after n s)) n (length_drawn n s)

pub shake_drawn : (m : List ℕ) (D : ℕ) (n : ℕ) → turbo_shake128 m D n ≡ drawn n (sponge (absorbed m D) 0)
unfolding turbo_shake128
shake_drawn m D n =
    let e : 168 * (n / 168 + 1) ≡ n + (168 - n % 168) = omega arith in
    ap (take n) (sym (squeeze_drawn (n / 168 + 1) (absorbed m D) (absorbed_length m D))) ∙ ap (λ (k : ℕ). take n (drawn k (sponge (absorbed m D) 0))) e
    ∙ drawn_front n (168 - n % 168) (sponge (absorbed m D) 0)

-- A LONGER OUTPUT BEGINS WITH THE SHORTER ONE
pub longer_begins : (m : List ℕ) (D : ℕ) (n k : ℕ) → take n (turbo_shake128 m D (n + k)) ≡ turbo_shake128 m D n
longer_begins m D n k = ap (take n) (shake_drawn m D (n + k)) ∙ drawn_front n k (sponge (absorbed m D) 0) ∙ sym (shake_drawn m D n)

-- THE CODE'S STREAM IS TURBOSHAKE128
pub stream_is : (m : List ℕ) (D : ℕ) (n : ℕ) → D < 256 → Bytes m → drawn n (stream_of m D) ≡ turbo_shake128 m D n
stream_is m D n h f =
    ap (drawn n) (finish_absorbs m D ∙ blocks_absorbed (length (padded m D) / 168) (replicate 25 0) (padded m D) refl (padded_length m D) (padded_bytes m D h f))
    ∙ sym (shake_drawn m D n)

-- bytes, from what a row's elements are
pub bytes_all : (bs : List ℕ) → ((j : ℕ) → j < length bs → get_or bs j 0 < 256) → Bytes bs
bytes_all [] f = tt
bytes_all (b ∷ bs) f = (f 0 (omega arith), bytes_all bs (λ j h. f (suc j) (omega arith)))

pub bytes_of_lem : (ws : List ℕ) → Bytes (bytes_of ws)
bytes_of_lem [] = tt
bytes_of_lem (w ∷ ws) = bytes_append (low_bytes 8 w) (bytes_of ws) (low_bytes_lem 8 w) (bytes_of_lem ws)
