-- The numbers of the strong profile that its soundness and hiding are counted by.
use Rattle.std.specs.Prelude.{ℕ, ◌*◌, ◌^◌}

-- how many elements the prime field has
abbrev pub prime_size : ℕ
prime_size = 340282366920938463463356593033258729473

-- The laws are of fields with so many elements at least: more than a table of rows can hide at once.
abbrev pub least_size : ℕ
least_size = 2 ^ 20

-- How many elements the sumchecks of a valid circuit send at most, where all its wires together are counted: 50 for
-- each layer, and one for each 1,024 wires.
abbrev pub sent_in_all : ℕ
sent_in_all = 33820

-- ---- every circuit

-- how many elements are bad at most
abbrev pub most_bad : ℕ
most_bad = 38221

-- one in so many sets of columns misses at most
abbrev pub column_share : ℕ
column_share = 5 * 2 ^ 108

-- Without satisfying inputs passes one in 2 ^ prime_share over the prime field, of whose 16 parts so many are for bad
-- elements and the others for missed columns.
abbrev pub prime_share : ℕ
prime_share = 110

abbrev pub prime_parts : ℕ
prime_parts = 3

-- the same for circuits with at most 1,024 bad elements
abbrev pub few_share : ℕ
few_share = 110

abbrev pub few_parts : ℕ
few_parts = 3

-- the same for every circuit over GF(2^128)
abbrev pub binary_share : ℕ
binary_share = 110

abbrev pub binary_parts : ℕ
binary_parts = 3

-- ---- by the width of a row

-- Where a row has no more than `row` elements: one in `missed` sets of columns misses, no more than `bad` elements are
-- bad, and without satisfying inputs passes one in `prime` over the prime field and one in `binary` over GF(2^128), of
-- whose 1,000 parts so many are for bad elements.
pub record RowShare : Type 0 where
  pub row : ℕ
  pub missed : ℕ
  pub bad : ℕ
  pub prime : ℕ
  pub prime_parts : ℕ
  pub binary : ℕ
  pub binary_parts : ℕ

-- rows of 512 elements
abbrev pub shortest : RowShare
shortest = record {
  row = 512;
  missed = 727 * 2 ^ 106;
  bad = 17201;
  prime = 91 * 2 ^ 107;
  prime_parts = 749;
  binary = 91 * 2 ^ 107;
  binary_parts = 749;
}

-- rows of 1,024 elements
abbrev pub short : RowShare
short = record {
  row = 1024;
  missed = 529 * 2 ^ 104;
  bad = 35149;
  prime = 125 * 2 ^ 105;
  prime_parts = 526;
  binary = 125 * 2 ^ 105;
  binary_parts = 526;
}

-- rows of 2,048 elements
abbrev pub long : RowShare
long = record {
  row = 2048;
  missed = 710 * 2 ^ 102;
  bad = 36173;
  prime = 2 ^ 111;
  prime_parts = 277;
  binary = 2 ^ 111;
  binary_parts = 277;
}

-- rows of 4,096 elements, the longest
abbrev pub longest : RowShare
longest = record {
  row = 4096;
  missed = 759 * 2 ^ 101;
  bad = 38221;
  prime = 77 * 2 ^ 104;
  prime_parts = 178;
  binary = 77 * 2 ^ 104;
  binary_parts = 178;
}

-- ---- words

-- a column that is drawn has this of 2 ^ 128 words at least, and so many columns' sets differ by one part in set_share
abbrev pub column_words : ℕ
column_words = 2 ^ 113

abbrev pub set_share : ℕ
set_share = 2 ^ 104

-- how many random elements a proof has at most
abbrev pub most_random : ℕ
most_random = 96318

-- below which number an element of the prime field is drawn
abbrev pub drawn_below : ℕ
drawn_below = 2 ^ 256

-- one element is within 2 ^ -element_bias of uniform, and all of a proof together within 2 ^ -proof_bias
abbrev pub element_bias : ℕ
element_bias = 148

abbrev pub proof_bias : ℕ
proof_bias = 131
