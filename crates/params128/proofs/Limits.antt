-- Field128 as the calls take it: its rows of words, what its accepted inputs have met, its room; and Field64's inputs over it. Assumes nothing.
use mathlib.Core.Path.{◌≡◌, refl, sym, ap, ◌∙◌}
use Prim.Native.Nat.{◌*◌, ◌<◌}
use lib.Dec.{lit<, lit≤}
use Rattle.rules.specs.declared.Answer.{Answer}
use Rattle.rules.specs.Rules.{accepted}
use Rattle.rules.proofs.Chain.{none}
use Rattle.field128.specs.Field128.{p128, elements_of, words_of}
use Rattle.field128.proofs.Pairs.{whole_twice, words_length, elements_of_words}
use Rattle.pine.specs.declared.PineParam.{PineParam}
use Rattle.pine.specs.declared.record.Pine.{Pine}
use Rattle.pine.specs.Param.{Field64, param_answer}
use Rattle.pine.specs.Words.{WordLaws}
use Rattle.pine.specs.Record.{sq_norm_bound_of, wr_test_bound, FromAccepted, Derivable, FromDerivable, derived_beside, derive_of}
use Rattle.pine.proofs.Limits.{Limits, limits, widened}
use Rattle.pine.proofs.Sizes.{Sizes, Recovered, derivable, derived, sizes_of, recovered_of, bound_below, norm_below}
use Rattle.flp.proofs.Gradient.{Room, room}
use Rattle.params128.specs.Field128.{Field128}

-- Field128, written out
pub field_128 : Field128 ≡ record { p = 340282366920938462946865773367900766209; floor_limit = 18446744073709551615; size_limit = 18446744073709551615; norm_limit = 4294967295; words_in = λ n. 2 * n; elements = elements_of; words = words_of }
field_128 = refl

-- ---- its rows: an element is two words
pub words_128 : WordLaws Field128
words_128 = record { read_back = λ xs h. elements_of_words xs; as_many = words_length; counted = λ row n h. (whole_twice row n h).1 }

-- ---- its inputs
pub derivable_128 : {i : PineParam} → param_answer Field128 i ≡ accepted → Derivable i
derivable_128 = derivable Field128 (lit≤ tt)

pub derived_128 : {r : Pine} → FromAccepted Field128 r → FromDerivable r
derived_128 = derived Field128 (lit≤ tt)

pub limits_128 : (i : PineParam) → param_answer Field128 i ≡ accepted → Limits Field128 i
limits_128 i e = limits Field128 i (none e)

pub sizes_128 : (i : PineParam) → param_answer Field128 i ≡ accepted → Sizes i
sizes_128 i e = sizes_of i (derivable_128 e)

pub recovered_128 : (i : PineParam) → param_answer Field128 i ≡ accepted → Recovered i
recovered_128 i e = recovered_of i (derivable_128 e)

-- ---- its room
pub bound_128 : (i : PineParam) → param_answer Field128 i ≡ accepted → 2 * wr_test_bound i < p128
bound_128 i e = bound_below p128 (lit< tt) i (derivable_128 e)

pub norm_128 : (i : PineParam) → param_answer Field128 i ≡ accepted → sq_norm_bound_of i < p128
norm_128 = norm_below Field128 (lit< tt)

pub room_128 : (i : PineParam) → (param_answer Field128 i).number ≡ 0 → Room p128 i
room_128 = room Field128 (lit≤ tt) (lit< tt) (lit< tt)

-- ---- inputs accepted over Field64 are accepted, and what is derived is the same
pub accepted_wide : (i : PineParam) → param_answer Field64 i ≡ accepted → param_answer Field128 i ≡ accepted
accepted_wide = widened Field64 Field128 (lit≤ tt)

pub derived_wide : (i : PineParam) → param_answer Field64 i ≡ accepted → derive_of Field128 i ≡ derive_of Field64 i
unfolding derive_of
derived_wide i e = ap (λ (a : Answer). derived_beside a i) (accepted_wide i e ∙ sym e)
