-- The states of a block's tests, and what they draw side by side. Assumes nothing.
use mathlib.Core.Path.{◌≡◌, refl, sym, ap, ap₂, subst, ◌∙◌}
use mathlib.Core.List.{List, [], ◌∷◌, ◌++◌, append_assoc, append-nil}
use Prim.Native.Nat.{ℕ, zero, suc, ◌+◌, ◌-◌, ◌*◌, ◌<◌, ◌≤◌}
use native.Mathlib.Nat.{zero-mul, suc-mul, mul-le-mul, mul-le-mul_right, le_trans, lt_of_not-le}
use native.Mathlib.Decide.{dec_le}
use native.Mathlib.Omega.{arith}
use lib.ListN.{length, get_or, take, drop, set, length-drop, length-append}
use lib.Seq.{take_all, take-nil, take-set-le, get_or-set_same, take-take, drop-drop, take_at, drop_at, get_or_at, length-take-le}
use Rattle.turboshake.specs.declared.Sponge.{Sponge}
use Rattle.turboshake.specs.Stream.{sponge, moved, drawn, after}
use Rattle.turboshake.proofs.Moved.{moved_full, moved_part}
use Rattle.turboshake.proofs.Drawn.{length_drawn, drawn_add, after_add}
use Rattle.stream_states.specs.States.{state_of, states_of, starts_of, tile_of, all_after, Ready}

-- ---- the words of a state, copied one by one

pub saved : (i : ℕ) (s : Sponge) (words : List ℕ) → i ≡ 25 → length s.lanes ≡ 25 → length words ≡ 26 → take i words ≡ take i s.lanes → state_of (set words 25 s.at) ≡ s
saved i s words h l m e =
    let lanes : take 25 (set words 25 s.at) ≡ s.lanes = take-set-le 25 words 25 s.at (omega arith) ∙ ap (λ (k : ℕ). take k words) (sym h) ∙ e ∙ take_all i s.lanes (omega (arith, h, l)) in
    ap₂ (λ (ws : List ℕ) (k : ℕ). sponge ws k) lanes (get_or-set_same words 25 s.at 0 (omega (arith, m)))

-- ---- the states that a row holds

drop-take_lem : (k m : ℕ) (ws : List ℕ) → drop k (take (k + m) ws) ≡ take m (drop k ws)
drop-take_lem zero m ws =
    let e : 0 + m ≡ m = omega arith in
    ap (λ (n : ℕ). take n ws) e
drop-take_lem (suc k) m [] = ap (drop (suc k)) (take-nil {A = ℕ} (suc k + m)) ∙ sym (take-nil {A = ℕ} m)
drop-take_lem (suc k) m (w ∷ ws) =
    let e : suc k + m ≡ suc (k + m) = omega arith in
    ap (λ (n : ℕ). drop (suc k) (take n (w ∷ ws))) e ∙ drop-take_lem k m ws

-- only the words of these states have a say
states_front : (t : ℕ) (ws : List ℕ) → states_of t ws ≡ states_of t (take (t * 26) ws)
states_front zero ws = refl
states_front (suc t) ws =
    let e : suc t * 26 ≡ 26 + t * 26 = omega arith in
    let first : take 26 ws ≡ take 26 (take (suc t * 26) ws) = sym (take-take 26 (suc t * 26) ws (omega arith)) in
    let others : take (t * 26) (drop 26 ws) ≡ drop 26 (take (suc t * 26) ws) = sym (ap (λ (n : ℕ). drop 26 (take n ws)) e ∙ drop-take_lem 26 (t * 26) ws) in
    ap₂ (λ (v : List ℕ) (us : List Sponge). state_of v ∷ us) first (states_front t (drop 26 ws) ∙ ap (states_of t) others)

-- one more
states_next : (t : ℕ) (ws : List ℕ) → states_of (suc t) ws ≡ states_of t ws ++ (state_of (take 26 (drop (t * 26) ws)) ∷ [])
states_next zero ws = ap (λ (n : ℕ). state_of (take 26 (drop n ws)) ∷ []) (sym (zero-mul 26))
states_next (suc t) ws =
    let e : 26 + t * 26 ≡ suc t * 26 = omega arith in
    let here : drop (t * 26) (drop 26 ws) ≡ drop (suc t * 26) ws = drop-drop (t * 26) 26 ws ∙ ap (λ (n : ℕ). drop n ws) e in
    ap (λ (us : List Sponge). state_of (take 26 ws) ∷ us) (states_next t (drop 26 ws) ∙ ap (λ (v : List ℕ). states_of t (drop 26 ws) ++ (state_of (take 26 v) ∷ [])) here)

pub length_states : (t : ℕ) (ws : List ℕ) → length (states_of t ws) ≡ t
length_states zero ws = refl
length_states (suc t) ws = ap suc (length_states t (drop 26 ws))

-- with the words of state t in their place, before any others
module _ (t : ℕ) (ws new rest : List ℕ) (h : t * 26 ≤ length ws) (l : length new ≡ 26) where
  before : length (take (t * 26) ws) ≡ t * 26
  before = length-take-le (t * 26) ws h

  past : drop (t * 26) (take (t * 26) ws ++ (new ++ rest)) ≡ new ++ rest
  past = drop_at (take (t * 26) ws) (new ++ rest) (t * 26) before

  pub states_put : states_of (t + 1) (take (t * 26) ws ++ (new ++ rest)) ≡ states_of t ws ++ (state_of new ∷ [])
  states_put =
      let one : t + 1 ≡ suc t = omega arith in
      let row = take (t * 26) ws ++ (new ++ rest) in
      let same : states_of t row ≡ states_of t ws = states_front t row ∙ ap (states_of t) (take_at (take (t * 26) ws) (new ++ rest) (t * 26) before) ∙ sym (states_front t ws) in
      let here : take 26 (drop (t * 26) row) ≡ new = ap (take 26) past ∙ take_at new rest 26 l in
      ap (λ (n : ℕ). states_of n row) one ∙ states_next t row ∙ ap₂ (λ (us : List Sponge) (v : List ℕ). us ++ (state_of v ∷ [])) same here

  pub states_past : drop ((t + 1) * 26) (take (t * 26) ws ++ (new ++ rest)) ≡ rest
  states_past =
      let e : t * 26 + 26 ≡ (t + 1) * 26 = omega arith in
      sym (drop-drop 26 (t * 26) (take (t * 26) ws ++ (new ++ rest)) ∙ ap (λ (n : ℕ). drop n (take (t * 26) ws ++ (new ++ rest))) e) ∙ ap (drop 26) past ∙ drop_at new rest 26 l

-- ---- the states from which the tests draw

module _ (per : ℕ) where
  pub starts_none : (s : Sponge) → s ≡ after (0 * per) s
  unfolding after
  starts_none s = ap (λ (n : ℕ). after n s) (sym (zero-mul per))

  on : (t : ℕ) (s : Sponge) → after (t * per) (after per s) ≡ after (suc t * per) s
  on t s =
      let e : per + t * per ≡ suc t * per = omega (arith, suc-mul t per) in
      sym (after_add per (t * per) s) ∙ ap (λ (n : ℕ). after n s) e

  starts_next : (t : ℕ) (s : Sponge) → starts_of per (suc t) s ≡ starts_of per t s ++ (after (t * per) s ∷ [])
  starts_next zero s = ap (λ (u : Sponge). u ∷ []) (starts_none s)
  starts_next (suc t) s = ap (λ (us : List Sponge). s ∷ us) (starts_next t (after per s) ∙ ap (λ (u : Sponge). starts_of per t (after per s) ++ (u ∷ [])) (on t s))

  -- together they draw the stream
  pub starts_drawn : (T : ℕ) (s : Sponge) → tile_of per (starts_of per T s) ≡ drawn (T * per) s
  unfolding drawn
  starts_drawn zero s = ap (λ (n : ℕ). drawn n s) (sym (zero-mul per))
  starts_drawn (suc T) s =
      let e : per + T * per ≡ suc T * per = omega (arith, suc-mul T per) in
      ap (λ (bs : List ℕ). drawn per s ++ bs) (starts_drawn T (after per s)) ∙ sym (drawn_add per (T * per) s) ∙ ap (λ (n : ℕ). drawn n s) e

  -- one more is saved
  pub starts_put : (T t : ℕ) (ws new rest : List ℕ) (s u : Sponge) → t + 1 ≡ T → t * 26 ≤ length ws → length new ≡ 26 → states_of t ws ≡ starts_of per t s → u ≡ after (t * per) s → state_of new ≡ u → states_of T (take (t * 26) ws ++ (new ++ rest)) ≡ starts_of per T s
  starts_put T t ws new rest s u eT h l e is put =
      let one : suc t ≡ T = omega (arith, eT) in
      ap (λ (n : ℕ). states_of n (take (t * 26) ws ++ (new ++ rest))) (sym eT) ∙ states_put t ws new rest h l
      ∙ ap₂ (λ (us : List Sponge) (v : Sponge). us ++ (v ∷ [])) e (put ∙ is) ∙ sym (starts_next t s) ∙ ap (λ (n : ℕ). starts_of per n s) one

  pub starts_on : (t : ℕ) (s u v : Sponge) → u ≡ after (t * per) s → v ≡ after per u → v ≡ after ((t + 1) * per) s
  starts_on t s u v e f =
      let k : t * per + per ≡ (t + 1) * per = omega (arith, suc-mul t per) in
      f ∙ ap (after per) e ∙ sym (after_add (t * per) per s) ∙ ap (λ (n : ℕ). after n s) k

-- ---- places within a block

moved_ready : (s : Sponge) → s.at < 168 → (moved 1 s).at < 168
moved_ready s h = go (dec_le 168 (s.at + 1))
  where
    go : Dec (168 ≤ s.at + 1) → (moved 1 s).at < 168
    go (yes l) =
        let e : s.at + 1 ≡ 168 = omega arith in
        rw (moved_full 1 s.at s.lanes e) (omega arith)
    go (no l) =
        let e : s.at + 1 < 168 = lt_of_not-le l in
        rw (moved_part 1 s.at s.lanes e) e

after_ready : (n : ℕ) (s : Sponge) → s.at < 168 → (after n s).at < 168
unfolding after
after_ready zero s h = h
after_ready (suc n) s h = after_ready n (moved 1 s) (moved_ready s h)

pub starts_ready : (per T : ℕ) (s : Sponge) → s.at < 168 → Ready (starts_of per T s)
starts_ready per zero s h = tt
starts_ready per (suc T) s h = (h, starts_ready per T (after per s) (after_ready per s h))

pub all_ready : (n : ℕ) (ss : List Sponge) → Ready ss → Ready (all_after n ss)
all_ready n [] r = tt
all_ready n (s ∷ ss) r = (after_ready n s r.0, all_ready n ss r.1)

ready_at : (T t : ℕ) (ws : List ℕ) → t < T → Ready (states_of T ws) → (state_of (take 26 (drop (t * 26) ws))).at < 168
ready_at zero t ws h r = absurd (omega arith)
ready_at (suc T) zero ws h r = rw (zero-mul 26) r.0
ready_at (suc T) (suc t) ws h r =
    let e : 26 + t * 26 ≡ suc t * 26 = omega arith in
    rw (← e, ← drop-drop (t * 26) 26 ws) (ready_at T t (drop 26 ws) (omega arith) r.1)

-- ---- each state some bytes on

pub after_none : (ss : List Sponge) → ss ≡ all_after 0 ss
unfolding after
after_none [] = refl
after_none (s ∷ ss) = ap (λ (us : List Sponge). s ∷ us) (after_none ss)

pub after_more : (j n : ℕ) (ss : List Sponge) → all_after n (all_after j ss) ≡ all_after (j + n) ss
after_more j n [] = refl
after_more j n (s ∷ ss) = ap₂ (λ (u : Sponge) (us : List Sponge). u ∷ us) (sym (after_add j n s)) (after_more j n ss)

pub length_after : (n : ℕ) (ss : List Sponge) → length (all_after n ss) ≡ length ss
length_after n [] = refl
length_after n (s ∷ ss) = ap suc (length_after n ss)

after_append : (n : ℕ) (ss us : List Sponge) → all_after n (ss ++ us) ≡ all_after n ss ++ all_after n us
after_append n [] us = refl
after_append n (s ∷ ss) us = ap (λ (vs : List Sponge). after n s ∷ vs) (after_append n ss us)

tile_append : (n : ℕ) (ss us : List Sponge) → tile_of n (ss ++ us) ≡ tile_of n ss ++ tile_of n us
tile_append n [] us = refl
tile_append n (s ∷ ss) us = ap (λ (bs : List ℕ). drawn n s ++ bs) (tile_append n ss us) ∙ sym (append_assoc (drawn n s) (tile_of n ss) (tile_of n us))

-- the bytes of test t lie within the buffer
pub inside : (t T n l : ℕ) → t < T → T * n ≤ l → t * n + n ≤ l
inside t T n l h m = omega (arith, suc-mul t n, mul-le-mul_right n h)

pub roomy : (T T' n a b : ℕ) → T' ≡ T → T ≤ 50 → n ≤ 128 → a ≡ b → 6400 ≤ b → T' * n ≤ a
roomy T T' n a b e h l f m = rw (e, f) (le_trans (mul-le-mul h l) m)

pub as_many : (from n : ℕ) → from + n - from ≡ n
as_many from n = omega arith

-- a piece of a row has the length that it is cut to
pub piece_long : (from n : ℕ) (xs : List ℕ) → from + n ≤ length xs → length (take (from + n - from) (drop from xs)) ≡ n
piece_long from n xs h =
    let room : from + n - from ≤ length (drop from xs) = rw (length-drop from xs) (omega (arith, h)) in
    length-take-le (from + n - from) (drop from xs) room ∙ as_many from n

-- ---- a tile, of which the bytes of t tests are drawn: ws₀ held the states, ws and b are that row now and the buffer
module _ (n : ℕ) (ws₀ : List ℕ) where
  abbrev pub Tiled : (t : ℕ) (ws b : List ℕ) → Type 0
  Tiled t ws b = (states_of t ws ≡ all_after n (states_of t ws₀)) × ((drop (t * 26) ws ≡ drop (t * 26) ws₀) × (take (t * n) b ≡ tile_of n (states_of t ws₀)))

  module _ (t : ℕ) (ws b : List ℕ) (w : Tiled t ws b) where
    -- the state of test t is as it was
    here : (k : ℕ) → k ≡ 26 → state_of (take k (drop (t * 26) ws)) ≡ state_of (take 26 (drop (t * 26) ws₀))
    here k e = ap₂ (λ (m : ℕ) (v : List ℕ). state_of (take m v)) e w.1.0

    pub next_ready : (k T : ℕ) → k ≡ 26 → t < T → Ready (states_of T ws₀) → (state_of (take k (drop (t * 26) ws))).at < 168
    next_ready k T e l r = subst (λ (s : Sponge). s.at < 168) (sym (here k e)) (ready_at T t ws₀ l r)

    pub tiled_next : (k m : ℕ) (new piece rest : List ℕ) → k ≡ 26 → m ≡ n → t * 26 ≤ length ws → length new ≡ 26 → t * n + n ≤ length b
        → piece ≡ drawn m (state_of (take k (drop (t * 26) ws))) → state_of new ≡ after m (state_of (take k (drop (t * 26) ws)))
        → Tiled (t + 1) (take (t * 26) ws ++ (new ++ drop k (drop (t * 26) ws))) (take (t * n) b ++ (piece ++ rest))
    tiled_next k m new piece rest ek em h l room is on =
        let one : suc t ≡ t + 1 = omega arith in
        let s = state_of (take 26 (drop (t * 26) ws₀)) in
        let old : states_of (t + 1) ws₀ ≡ states_of t ws₀ ++ (s ∷ []) = ap (λ (j : ℕ). states_of j ws₀) (sym one) ∙ states_next t ws₀ in
        let piece_is : piece ≡ drawn n s = is ∙ ap₂ (λ (j : ℕ) (v : Sponge). drawn j v) em (here k ek) in
        let new_is : state_of new ≡ after n s = on ∙ ap₂ (λ (j : ℕ) (v : Sponge). after j v) em (here k ek) in
        let states : states_of (t + 1) (take (t * 26) ws ++ (new ++ drop k (drop (t * 26) ws))) ≡ all_after n (states_of (t + 1) ws₀) =
        states_put t ws new (drop k (drop (t * 26) ws)) h l ∙ ap₂ (λ (us : List Sponge) (v : Sponge). us ++ (v ∷ [])) w.0 new_is
        ∙ sym (ap (all_after n) old ∙ after_append n (states_of t ws₀) (s ∷ [])) in
        let e : t * 26 + 26 ≡ (t + 1) * 26 = omega arith in
        let others : drop ((t + 1) * 26) (take (t * 26) ws ++ (new ++ drop k (drop (t * 26) ws))) ≡ drop ((t + 1) * 26) ws₀ =
        states_past t ws new (drop k (drop (t * 26) ws)) h l ∙ ap₂ (λ (j : ℕ) (v : List ℕ). drop j v) ek w.1.0 ∙ drop-drop 26 (t * 26) ws₀ ∙ ap (λ (j : ℕ). drop j ws₀) e in
        let long : length (take (t * n) b ++ piece) ≡ (t + 1) * n = length-append (take (t * n) b) piece ∙ omega (arith, length-take-le (t * n) b (omega arith), ap length piece_is ∙ length_drawn n s, suc-mul t n) in
        let bytes : take ((t + 1) * n) (take (t * n) b ++ (piece ++ rest)) ≡ tile_of n (states_of (t + 1) ws₀) =
        ap (take ((t + 1) * n)) (sym (append_assoc (take (t * n) b) piece rest)) ∙ take_at (take (t * n) b ++ piece) rest ((t + 1) * n) long
        ∙ ap₂ (λ (xs ys : List ℕ). xs ++ ys) w.1.1 (piece_is ∙ sym (append-nil (drawn n s)))
        ∙ sym (ap (tile_of n) old ∙ tile_append n (states_of t ws₀) (s ∷ [])) in
        (states, (others, bytes))

-- ---- the stream after a block: the last test's state has come to the end of its bytes

length_starts : (per T : ℕ) (s : Sponge) → length (starts_of per T s) ≡ T
length_starts per zero s = refl
length_starts per (suc T) s = ap suc (length_starts per T (after per s))

pub last_after : (per T t k : ℕ) (ws : List ℕ) (s : Sponge) → 0 < T → t ≡ T - 1 → k ≡ 26 → states_of T ws ≡ all_after per (starts_of per T s) → state_of (take k (drop (t * 26) ws)) ≡ after (T * per) s
last_after per T t k ws s h et ek e =
    let is : T ≡ suc t = omega (arith, h, et) in
    let u = state_of (take 26 (drop (t * 26) ws)) in
    let v = after per (after (t * per) s) in
    let l : states_of t ws ++ (u ∷ []) ≡ all_after per (starts_of per t s) ++ (v ∷ []) =
    sym (states_next t ws) ∙ ap (λ (n : ℕ). states_of n ws) (sym is) ∙ e ∙ ap (λ (n : ℕ). all_after per (starts_of per n s)) is
    ∙ ap (all_after per) (starts_next per t s) ∙ after_append per (starts_of per t s) (after (t * per) s ∷ []) in
    let same : u ≡ v =
    sym (get_or_at (states_of t ws) u [] s t (length_states t ws)) ∙ ap (λ (us : List Sponge). get_or us t s) l
    ∙ get_or_at (all_after per (starts_of per t s)) v [] s t (length_after per (starts_of per t s) ∙ length_starts per t s) in
    ap (λ (n : ℕ). state_of (take n (drop (t * 26) ws))) ek ∙ same ∙ starts_on per t s (after (t * per) s) v refl refl ∙ ap (λ (n : ℕ). after (n * per) s) (omega (arith, is))

pub last_ready : (n : ℕ) (s u : Sponge) → s.at < 168 → u ≡ after n s → u.at < 168
last_ready n s u h e = rw e (after_ready n s h)
