-- The numbers of the profile LZK1 that its soundness and hiding are counted by.
use Rattle.std.specs.Prelude.{ℕ, ◌*◌, ◌^◌}

-- how many elements the prime field has
abbrev pub prime_size : ℕ
prime_size = 18446744069414584321

-- The laws are of fields with so many elements at least: more than a table of rows can hide at once.
abbrev pub least_size : ℕ
least_size = 2 ^ 18

-- How many elements the sumchecks of a valid circuit send at most, where all its wires together are counted: 50 for
-- each layer, and one for each 1,024 wires.
abbrev pub sent_in_all : ℕ
sent_in_all = 27668

-- ---- every circuit

-- how many elements are bad at most
abbrev pub most_bad : ℕ
most_bad = 28345

-- one in so many sets of columns misses at most
abbrev pub column_share : ℕ
column_share = 3 * 2 ^ 53

-- Without satisfying inputs passes one in 2 ^ prime_share over the prime field, of whose 16 parts so many are for bad
-- elements and the others for missed columns.
abbrev pub prime_share : ℕ
prime_share = 49

abbrev pub prime_parts : ℕ
prime_parts = 15

-- the same for circuits with at most 1,024 bad elements
abbrev pub few_share : ℕ
few_share = 53

abbrev pub few_parts : ℕ
few_parts = 10

-- the same for every circuit over GF(2^128)
abbrev pub binary_share : ℕ
binary_share = 54

abbrev pub binary_parts : ℕ
binary_parts = 5

-- ---- by the width of a row

-- Where a row has no more than `row` elements: one in `missed` sets of columns misses, no more than `bad` elements are
-- bad, and without satisfying inputs passes one in `prime` over the prime field and one in `binary` over GF(2^128), of
-- whose 1,000 parts so many are for bad elements.
pub record RowShare : Type 0 where
  pub row : ℕ
  pub missed : ℕ
  pub bad : ℕ
  pub prime : ℕ
  pub prime_parts : ℕ
  pub binary : ℕ
  pub binary_parts : ℕ

-- rows of 64 elements
abbrev pub shortest : RowShare
shortest = record {
  row = 64;
  missed = 325 * 2 ^ 51;
  bad = 4325;
  prime = 15 * 2 ^ 48;
  prime_parts = 990;
  binary = 162 * 2 ^ 52;
  binary_parts = 3;
}

-- rows of 128 elements
abbrev pub short : RowShare
short = record {
  row = 128;
  missed = 393 * 2 ^ 49;
  bad = 16677;
  prime = 31 * 2 ^ 45;
  prime_parts = 987;
  binary = 49 * 2 ^ 52;
  binary_parts = 2;
}

-- rows of 256 elements
abbrev pub long : RowShare
long = record {
  row = 256;
  missed = 259 * 2 ^ 48;
  bad = 28089;
  prime = 73 * 2 ^ 43;
  prime_parts = 978;
  binary = 2 ^ 56;
  binary_parts = 11;
}

-- rows of 512 elements, the longest
abbrev pub longest : RowShare
longest = record {
  row = 512;
  missed = 449 * 2 ^ 46;
  bad = 28345;
  prime = 9 * 2 ^ 46;
  prime_parts = 974;
  binary = 7 * 2 ^ 52;
  binary_parts = 2;
}

-- ---- words

-- a column that is drawn has this of 2 ^ 128 words at least, and so many columns' sets differ by one part in set_share
abbrev pub column_words : ℕ
column_words = 2 ^ 116

abbrev pub set_share : ℕ
set_share = 2 ^ 108

-- how many random elements a proof has at most
abbrev pub most_random : ℕ
most_random = 72574

-- below which number an element of the prime field is drawn
abbrev pub drawn_below : ℕ
drawn_below = 2 ^ 128

-- one element is within 2 ^ -element_bias of uniform, and all of a proof together within 2 ^ -proof_bias
abbrev pub element_bias : ℕ
element_bias = 96

abbrev pub proof_bias : ℕ
proof_bias = 79
