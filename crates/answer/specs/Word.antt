-- The one number that carries an answer and a count of bytes to another language, and its five parts as the C header takes them out.
-- Assumes nothing.
use Rattle.std.specs.Prelude.{ℕ, ◌+◌, ◌*◌, ◌/◌, ◌%◌, ◌<◌, ◌≡◌}
use Rattle.answer.specs.declared.Answer.{Answer}
use Rattle.answer.specs.Answer.{number, place, excess, slice}
pub mod Properties

-- number in bits 0-7, place in bits 8-15, count in bits 16-31, excess in bits 32-55, slice in bits 56-63
unfoldable pub told : Answer → ℕ → ℕ
told a count = number a + place a * 256 + count * 65536 + excess a % 16777216 * 4294967296 + slice a * 72057594037927936

-- PARCHBEETLE_NUMBER, `answer & 0xff`
abbrev pub number_in : ℕ → ℕ
number_in w = w % 256

-- PARCHBEETLE_PLACE, `answer >> 8 & 0xff`
abbrev pub place_in : ℕ → ℕ
place_in w = w / 256 % 256

-- PARCHBEETLE_COUNT, `answer >> 16 & 0xffff`
abbrev pub count_in : ℕ → ℕ
count_in w = w / 65536 % 65536

-- PARCHBEETLE_EXCESS, `answer >> 32 & 0xffffff`
abbrev pub excess_in : ℕ → ℕ
excess_in w = w / 4294967296 % 16777216

-- PARCHBEETLE_SLICE, `answer >> 56`
abbrev pub slice_in : ℕ → ℕ
slice_in w = w / 72057594037927936

-- an answer whose parts the bits can hold
pub record Holds (a : Answer) : Type 0 where
  pub number_most : number a < 256
  pub place_most : place a < 256
  pub excess_most : excess a < 16777216
  pub slice_most : slice a < 256

-- the word's five parts are the answer's and the count
pub record Decodes (a : Answer) (count w : ℕ) : Type 0 where
  pub its_number : number_in w ≡ number a
  pub its_place : place_in w ≡ place a
  pub its_count : count_in w ≡ count
  pub its_excess : excess_in w ≡ excess a
  pub its_slice : slice_in w ≡ slice a
