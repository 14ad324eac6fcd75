-- Pieces of the shares, taken one after the other into the wraparound parts. Assumes nothing.
use mathlib.Core.Path.{◌≡◌, refl, sym, ap, subst, ◌∙◌}
use mathlib.Core.List.{List, [], ◌∷◌, ◌++◌, map-append, append-nil, append_assoc}
use Prim.Native.Nat.{ℕ, ◌+◌, ◌≤◌}
use native.Mathlib.Omega.{arith}
use lib.ListN.{length, take, drop, length-append, length-drop}
use lib.Seq.{take-add, drop-drop, length-take-le}
use lib.Ieee.{Float}
use Rattle.field64.specs.Field.{sub_mod}
use Rattle.doubles.specs.Doubles.{element}
use Rattle.rows.specs.Rows.{sub_rows}
use Rattle.rows.proofs.ByElement.{append_by}
use Rattle.flp.specs.Encode.{elements}
use Rattle.measurement.specs.Parts.{Usable}
use Rattle.keccak.proofs.Rounds.{each_append}
use Rattle.turboshake.specs.declared.Sponge.{Sponge}
use Rattle.turboshake.specs.TurboShake.{bytes_of}
use Rattle.turboshake.specs.Stream.{absorb_byte, absorb_all}
use Rattle.joint_rand.proofs.Parts.{bytes_joined}
use Rattle.wr_parts.specs.declared.Parts.{Parts}
use Rattle.wr_parts.specs.Pieces.{helper_rest, Placed, TookPiece}

-- numbers that go in by two pieces
joined : (xs ys : List ℕ) (s t u : Sponge) → t ≡ absorb_all (bytes_of xs) s → u ≡ absorb_all (bytes_of ys) t → u ≡ absorb_all (bytes_of (xs ++ ys)) s
joined xs ys s t u e f =
    f ∙ ap (absorb_all (bytes_of ys)) e ∙ sym (each_append absorb_byte (bytes_of xs) (bytes_of ys) s) ∙ ap (λ (bs : List ℕ). absorb_all bs s) (sym (bytes_joined xs ys))

module _ (p : ℕ) where
  pub took_none : (a : Parts) → Placed a → TookPiece p a a []
  took_none a h = record { leader = λ _. refl; helper = λ _. refl; rest = refl; placed = h }

  -- one piece and the next
  module _ (a b c : Parts) (xs ys : List ℕ) (d : TookPiece p a b xs) (e : TookPiece p b c ys) where
    abbrev all : List ℕ
    all = helper_rest p a

    more : length (xs ++ ys) ≡ length xs + length ys
    more = length-append xs ys

    -- there are enough for both
    module _ (h : length (xs ++ ys) ≤ length all) where
      first_fits : length xs ≤ length all
      first_fits = omega (arith, more, h)

      next_fits : length ys ≤ length (helper_rest p b)
      next_fits = omega (arith, more, h, ap length d.rest, length-drop (length xs) all)

      front : take (length xs) all ++ take (length ys) (helper_rest p b) ≡ take (length (xs ++ ys)) all
      front =
          ap (λ (r : List ℕ). take (length xs) all ++ take (length ys) r) d.rest ∙ sym (take-add (length xs) (length ys) all) ∙ ap (λ (k : ℕ). take k all) (sym more)

      both_leader : c.leader ≡ absorb_all (bytes_of (sub_rows p (xs ++ ys) (take (length (xs ++ ys)) all))) a.leader
      both_leader =
          let first : length (take (length xs) all) ≡ length xs = length-take-le (length xs) all first_fits in
          joined (sub_rows p xs (take (length xs) all)) (sub_rows p ys (take (length ys) (helper_rest p b))) a.leader b.leader c.leader (d.leader first_fits) (e.leader next_fits)
          ∙ ap (λ (r : List ℕ). absorb_all (bytes_of r) a.leader) (sym (append_by (sub_mod p) xs (take (length xs) all) ys (take (length ys) (helper_rest p b)) (sym first)) ∙ ap (sub_rows p (xs ++ ys)) front)

      both_helper : c.helper ≡ absorb_all (bytes_of (take (length (xs ++ ys)) all)) a.helper
      both_helper =
          joined (take (length xs) all) (take (length ys) (helper_rest p b)) a.helper b.helper c.helper (d.helper first_fits) (e.helper next_fits)
          ∙ ap (λ (r : List ℕ). absorb_all (bytes_of r) a.helper) front

    pub took_both : TookPiece p a c (xs ++ ys)
    took_both = record {
      leader = both_leader;
      helper = both_helper;
      rest = e.rest ∙ ap (drop (length ys)) d.rest ∙ drop-drop (length ys) (length xs) all ∙ ap (λ (k : ℕ). drop k all) (sym more);
      placed = e.placed;
    }

  -- and a third
  pub took_three : (a b c d : Parts) (xs ys zs : List ℕ) → TookPiece p a b xs → TookPiece p b c ys → TookPiece p c d zs → TookPiece p a d (xs ++ (ys ++ zs))
  took_three a b c d xs ys zs t u v = took_both a b d xs (ys ++ zs) t (took_both b c d ys zs u v)

-- ---- the gradient's elements by pieces

module _ (l f : ℕ) where
  usable_front : (xs ys : List Float) → Usable l f (xs ++ ys) → Usable l f xs
  usable_front [] ys u = tt
  usable_front (x ∷ xs) ys u = (u.0, usable_front xs ys u.1)

  usable_back : (xs ys : List Float) → Usable l f (xs ++ ys) → Usable l f ys
  usable_back [] ys u = u
  usable_back (x ∷ xs) ys u = usable_back xs ys u.1

elements_join : (p f : ℕ) (xs ys : List Float) → elements p f (xs ++ ys) ≡ elements p f xs ++ elements p f ys
unfolding elements
elements_join p f xs ys = map-append (λ x. element p x f) xs ys

module _ (p f : ℕ) (a : Parts) (g : List Float) where
  -- the first coordinates are done, and rest is left
  abbrev pub Took : (b : Parts) (rest : List Float) → Type 0
  Took b rest = (done : List Float) × (g ≡ done ++ rest) × TookPiece p a b (elements p f done)

  pub took_start : Placed a → Took a g
  unfolding elements
  took_start h = ([], refl, took_none p a h)

  module _ (b : Parts) (rest part next : List Float) (t : Took b rest) (cut : rest ≡ part ++ next) where
    pub usable_piece : (l : ℕ) → Usable l f g → Usable l f part
    usable_piece l u = usable_front l f part next (subst (Usable l f) cut (usable_back l f t.0 rest (subst (Usable l f) t.1 u)))

    pub took_next : (c : Parts) → TookPiece p b c (elements p f part) → Took c next
    took_next c d = (
      t.0 ++ part,
      t.1 ∙ ap (λ (r : List Float). t.0 ++ r) cut ∙ sym (append_assoc t.0 part next),
      subst (TookPiece p a c) (sym (elements_join p f t.0 part)) (took_both p a b c (elements p f t.0) (elements p f part) t.2 d),
    )

  pub took_end : (b : Parts) (rest : List Float) → Took b rest → length rest ≡ 0 → TookPiece p a b (elements p f g)
  took_end b [] t h = subst (λ (xs : List Float). TookPiece p a b (elements p f xs)) (sym (t.1 ∙ append-nil t.0)) t.2
  took_end b (x ∷ xs) t h = absurd (omega arith)
