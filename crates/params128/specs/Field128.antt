-- Field128 as the definitions of the calls take a field (docs/PINE.md, "The field"). Assumes nothing.
use Rattle.std.specs.Prelude.{◌-◌, ◌*◌, ◌^◌}
use Rattle.pine.specs.Param.{Field}
use Rattle.field128.specs.Field128.{p128, elements_of, words_of}

-- an element is two words. Floors and decoded numbers have one word and a sign; the square of a norm bound has one word
abbrev pub Field128 : Field
Field128 = record {
  p = p128;
  floor_limit = 2 ^ 64 - 1;
  size_limit = 2 ^ 64 - 1;
  norm_limit = 4294967295;
  words_in = λ n. 2 * n;
  elements = elements_of;
  words = words_of;
}
