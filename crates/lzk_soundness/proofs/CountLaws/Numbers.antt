-- The count, evaluated.
use Rattle.lzk_profile.specs.Profile.{opened_count, row_factor, most_bits, most_row}
use Rattle.lzk_shares.specs.Shares.{prime_size, sent_in_all, most_bad, column_share, prime_share, prime_parts, few_share, few_parts, binary_share, binary_parts, shortest, short, long, longest, least_size}
use Rattle.std.specs.Prelude.{◌≡◌, ℕ, ◌+◌, ◌-◌, ◌*◌, ◌/◌, ◌^◌, ◌<◌, ◌≤◌, Bool, List, length}
use Rattle.std.specs.List.{range_with_len}
use Rattle.std.proofs.Common.{zero, suc, refl, sym, ap, ◌∙◌, arith, inl, inr, subst, add-mul, mul_assoc, mul_comm, mul-le-mul_right, zero-mul}
use Rattle.std.proofs.Math.Nat.{le_of_mul-le-mul_right}
use Rattle.std.proofs.lemmas.Bool.{cases_lt, leb-true, ltb-true}
use Rattle.std.proofs.lemmas.Nat.{mul-le}
use Rattle.std.proofs.lemmas.List.FromFn.{length-range_with_len}
use Rattle.lzk_field.specs.Coding.{Coding}
use Rattle.lzk_field.specs.Ring.{Ops, Laws}
use Rattle.lzk_soundness.specs.Chance.Draws.{draws_from}
use Rattle.lzk_soundness.specs.Chance.Sets.{choose, falling, count_pairs}
use Rattle.lzk_soundness.proofs.ChanceLaws.Counting.{length-draws}
use Rattle.lzk_soundness.proofs.ChanceLaws.Sets.{fewer_sets, share_at, sets_counted, four}
use Rattle.lzk_circuit.specs.Valid.{Wiring, IsValid}
use Rattle.lzk_circuit.proofs.BitLaws.{bits_few}
use Rattle.lzk_layout.specs.Sizes.{params_of, sent_counts, committed_count}
use Rattle.lzk_layout.specs.Places.{output_bits, width_at}
use Rattle.lzk_layout.proofs.SizeLaws.{narrow, params_bounded}
use Rattle.lzk_soundness.specs.Draws.Game.Target.{outputs}
use Rattle.lzk_soundness.specs.Draws.Laws.{most}
use Rattle.lzk_soundness.proofs.DrawsLaws.Most.{most_is}
use Rattle.lzk_soundness.specs.Extract.Extraction.{all_elements}
use Rattle.lzk_soundness.specs.Count.Game.{Strategy, column_sets, whole_count}
use Rattle.lzk_soundness.specs.Count.Laws.{IsBluff, bad_count}
use Rattle.lzk_soundness.specs.Count.Numbers.{ColumnsMissRarely, ColumnsMissOnceIn, BadAreBounded, RowsAreBounded, SaysYesOnceIn, BluffsPassOnceIn, BluffsPassByOneIn, PassesByOneIn, SharesHold}
use Rattle.lzk_soundness.proofs.CountLaws.Count.{bluffs_rare, cheat_bluffs}
use Rattle.lzk_soundness.proofs.CountLaws.Elements.{elements_all}
use Rattle.lzk_soundness.proofs.CountLaws.Squares.{square_fits}
use Rattle.lzk_soundness.proofs.CountLaws.Sent.{sent_few, sent_committed, draws_sent}

-- ---- computed

-- for rows of so many elements, so many sets of columns are one that lies among three quarters of them, but for one
abbrev Miss : ℕ → ℕ → Type 0
Miss width by = falling (3 * (opened_count + width) - 1) opened_count * by ≤ falling (4 * (opened_count + width)) opened_count

any_rows : Miss most_row column_share
any_rows = leb-true (falling (3 * (opened_count + most_row) - 1) opened_count * column_share) (falling (4 * (opened_count + most_row)) opened_count) refl

rows_shortest : Miss shortest.row shortest.missed
rows_shortest = leb-true (falling (3 * (opened_count + shortest.row) - 1) opened_count * shortest.missed) (falling (4 * (opened_count + shortest.row)) opened_count) refl

rows_short : Miss short.row short.missed
rows_short = leb-true (falling (3 * (opened_count + short.row) - 1) opened_count * short.missed) (falling (4 * (opened_count + short.row)) opened_count) refl

rows_long : Miss long.row long.missed
rows_long = leb-true (falling (3 * (opened_count + long.row) - 1) opened_count * long.missed) (falling (4 * (opened_count + long.row)) opened_count) refl

rows_longest : Miss longest.row longest.missed
rows_longest = leb-true (falling (3 * (opened_count + longest.row) - 1) opened_count * longest.missed) (falling (4 * (opened_count + longest.row)) opened_count) refl

-- ---- sets of columns

from_longest : (by k a b d m n : ℕ) → 4 * a ≤ 3 * b → k ≤ a → a + 3 * d ≡ m → b + 4 * d ≡ n → falling m k * by ≤ falling n k → choose a k * by ≤ choose b k
from_longest by k a b d m n h l em en known =
    fewer_sets a b k by (share_at k by a b d h l (subst (λ (j : ℕ). falling j k * by ≤ falling (b + 4 * d) k) (sym em) (subst (λ (j : ℕ). falling m k * by ≤ falling j k) (sym en) known)))

pub rows_bounded : {A : Type 0} (o : Ops A) → RowsAreBounded o most_row
rows_bounded o c valid = let b = params_bounded o c valid in b.wr

-- the numbers are last, so that nothing looks into them
columns_from : {A : Type 0} (o : Ops A) (width by : ℕ) (c : Wiring A) → IsValid o c → (params_of c).wr ≤ width → Miss width by → choose (3 * (params_of c).block - 1) opened_count * by ≤ choose (params_of c).mcol opened_count
columns_from o width by c valid fits =
    let b = params_bounded o c valid in
    let B = (params_of c).block in
    from_longest by opened_count (3 * B - 1) (params_of c).mcol ((opened_count + width) - B) (3 * (opened_count + width) - 1) (4 * (opened_count + width)) (omega (arith, b.mcol)) (omega (arith, b.block))
    (omega (arith, b.block, fits)) (omega (arith, b.block, fits, b.mcol))

columns_within : {A : Type 0} (o : Ops A) (width by : ℕ) → Miss width by → ColumnsMissOnceIn o width by
columns_within o width by known = λ c valid fits. columns_from o width by c valid fits known

pub columns_miss : {A : Type 0} (o : Ops A) → ColumnsMissRarely o
columns_miss o c valid = columns_from o most_row column_share c valid (rows_bounded o c valid) any_rows

-- ---- bad elements

module _ {A : Type 0} (o : Ops A) (c : Wiring A) (valid : IsValid o c) where
  few_outputs : output_bits c ≤ most_bits
  few_outputs = bits_few (width_at c 0) (narrow o c 0 valid)

  -- as many elements as a row has values, as the sumchecks send, and 3 more and the bits of two layers at most
  bad_few : bad_count c ≤ (params_of c).block + sent_counts c + (2 * most_bits + 3)
  bad_few = omega (arith, most_is c outputs, draws_sent o c valid, few_outputs)

  -- where the committed list, so many times, fits into a square of so many elements
  bad_fits : (width square : ℕ) → width * width ≤ row_factor * square → (params_of c).wr ≤ width → bad_count c ≤ opened_count + width + square + (2 * most_bits + 3)
  bad_fits width square inside fits =
      let b = params_bounded o c valid in
      let all : (params_of c).wr * (params_of c).wr ≤ width * width = mul-le (params_of c).wr (params_of c).wr width width fits fits in
      let listed : row_factor * committed_count c ≤ (params_of c).wr * (params_of c).wr = square_fits (committed_count c) b.nw in
      omega (arith, bad_few, b.block, fits, listed, all, inside, sent_committed o c valid)

  bad_most : (width : ℕ) → (params_of c).wr ≤ width → bad_count c ≤ opened_count + width + (sent_in_all + 2 * most_bits + 3)
  bad_most width fits = let b = params_bounded o c valid in omega (arith, bad_few, b.block, fits, sent_few o c valid)

pub bad_shortest : {A : Type 0} (o : Ops A) → BadAreBounded o shortest.row shortest.bad
bad_shortest o c valid fits = bad_fits o c valid shortest.row (shortest.row * shortest.row / row_factor) (omega arith) fits

pub bad_short : {A : Type 0} (o : Ops A) → BadAreBounded o short.row short.bad
bad_short o c valid fits =
    elim (cases_lt short.row 256) [
      | inl few ↦ let one = bad_fits o c valid short.row (short.row * short.row / row_factor) (omega arith) fits in omega (arith, one, few)
      | inr le ↦ let one = bad_most o c valid short.row fits in omega (arith, one, le)
    ]

pub bad_long : {A : Type 0} (o : Ops A) → BadAreBounded o long.row long.bad
bad_long o c valid fits = bad_most o c valid long.row fits

pub bad_longest : {A : Type 0} (o : Ops A) → BadAreBounded o longest.row longest.bad
bad_longest o c valid fits = bad_most o c valid longest.row fits

pub bad_any : {A : Type 0} (o : Ops A) → BadAreBounded o most_row most_bad
bad_any o c valid fits = bad_most o c valid most_row fits

-- ---- together

turned : (a b c d : ℕ) → a * b * (c * d) ≡ a * c * d * b
turned a b c d = four a b c d ∙ ap (λ (j : ℕ). a * c * j) (mul_comm b d) ∙ sym (mul_assoc (a * c) d b)

-- of k parts of the whole bad elements are a at most, and missed columns d
parts_of : (x N T M E C F k a d : ℕ) → x * N ≤ (E * M + N * C) * T → E * F * k ≤ a * N → C * F * k ≤ d * M → a + d ≤ k → 0 < N * k → x * F ≤ T * M
parts_of x N T M E C F k a d h bad miss all some =
    let W = E * M + N * C in
    let X : x * N * (F * k) ≤ W * T * (F * k) = mul-le-mul_right (F * k) h in
    let up : E * F * k * M ≤ a * N * M = mul-le-mul_right M bad in
    let down : C * F * k * N ≤ d * M * N = mul-le-mul_right N miss in
    let whole : (a + d) * (N * M) ≤ k * (N * M) = mul-le-mul_right (N * M) all in
    let split : (a + d) * (N * M) ≡ a * N * M + d * M * N =
    add-mul a d (N * M) ∙ omega (arith, mul_assoc a N M, ap (λ (j : ℕ). d * j) (mul_comm N M) ∙ sym (mul_assoc d M N)) in
    let expand : W * (F * k) ≡ E * F * k * M + C * F * k * N =
    add-mul (E * M) (N * C) (F * k) ∙ omega (arith, turned E M F k, ap (λ (j : ℕ). j * (F * k)) (mul_comm N C) ∙ turned C N F k) in
    let inside : W * (F * k) ≤ k * (N * M) = omega (arith, expand, up, down, whole, split) in
    let S : W * (F * k) * T ≤ k * (N * M) * T = mul-le-mul_right T inside in
    let same : W * T * (F * k) ≡ W * (F * k) * T = mul_assoc W T (F * k) ∙ ap (λ (j : ℕ). W * j) (mul_comm T (F * k)) ∙ sym (mul_assoc W (F * k) T) in
    let left : x * N * (F * k) ≡ x * F * (N * k) = four x N F k in
    let right : k * (N * M) * T ≡ T * M * (N * k) =
    mul_comm (k * (N * M)) T ∙ ap (λ (j : ℕ). T * j) (mul_comm k (N * M) ∙ ap (λ (j : ℕ). j * k) (mul_comm N M) ∙ mul_assoc M N k) ∙ sym (mul_assoc T M (N * k)) in
    le_of_mul-le-mul_right {m = x * F} {n = T * M} {k = N * k} (omega (arith, X, S, same, left, right)) some

-- for any numbers of which the computed ones are bounds
one_in : (x N T M E C F k a d most q : ℕ) → x * N ≤ (E * M + N * C) * T → E ≤ most → q ≤ N → most * F * k ≤ a * q → C * F * k ≤ d * M → a + d ≤ k → 0 < q → 0 < k → x * F ≤ T * M
one_in x N T M E C F k a d most q h few many bad miss all some parts =
    let first : E * F ≤ most * F = mul-le-mul_right F few in
    let second : E * F * k ≤ most * F * k = mul-le-mul_right k first in
    let third : q * a ≤ N * a = mul-le-mul_right a many in
    let nonzero : 1 * k ≤ N * k = mul-le-mul_right k (omega (arith, some, many)) in
    parts_of x N T M E C F k a d h (omega (arith, second, bad, third, mul_comm a q, mul_comm a N)) miss all (omega (arith, nonzero, parts))

prime_bad : most_bad * 2 ^ prime_share * 16 ≤ prime_parts * prime_size
prime_bad = leb-true (most_bad * 2 ^ prime_share * 16) (prime_parts * prime_size) refl

few_bad : 1024 * 2 ^ few_share * 16 ≤ few_parts * prime_size
few_bad = leb-true (1024 * 2 ^ few_share * 16) (few_parts * prime_size) refl

binary_bad : most_bad * 2 ^ binary_share * 16 ≤ binary_parts * 2 ^ 128
binary_bad = leb-true (most_bad * 2 ^ binary_share * 16) (binary_parts * 2 ^ 128) refl

large_prime : least_size ≤ prime_size
large_prime = leb-true least_size prime_size refl

large_binary : least_size ≤ 2 ^ 128
large_binary = leb-true least_size (2 ^ 128) refl

-- what is missed at most so often, is missed at most less often
less_often : (C M F k d by : ℕ) → C * by ≤ M → F * k ≤ by * d → C * F * k ≤ d * M
less_often C M F k d by h l =
    let first : C * by * d ≤ M * d = mul-le-mul_right d h in
    let second : F * k * C ≤ by * d * C = mul-le-mul_right C l in
    omega (arith, first, second, mul_assoc C F k, mul_comm C (F * k), mul_assoc C by d, mul_comm C (by * d), mul_comm M d)

prime_miss : 2 ^ prime_share * 16 ≤ column_share * (16 - prime_parts)
prime_miss = leb-true (2 ^ prime_share * 16) (column_share * (16 - prime_parts)) refl

few_miss : 2 ^ few_share * 16 ≤ column_share * (16 - few_parts)
few_miss = leb-true (2 ^ few_share * 16) (column_share * (16 - few_parts)) refl

binary_miss : 2 ^ binary_share * 16 ≤ column_share * (16 - binary_parts)
binary_miss = leb-true (2 ^ binary_share * 16) (column_share * (16 - binary_parts)) refl

module _ {A : Type 0} (o : Ops A) (e : Coding A) (laws : Laws o e.size e.number e.element e.bytes) where
  positive : (x y : ℕ) → 0 < x → x ≤ y → 0 < y
  positive x y h l = omega (arith, h, l)

  one_at_least : 0 < least_size
  one_at_least = ltb-true 0 least_size refl

  -- in k parts of the whole: of `limit` bad elements one in `by` is a at most, and of columns of which one in `missed` is missed, d
  module _ (limit by missed elements k a d : ℕ) (bad : limit * by * k ≤ a * elements) (miss : by * k ≤ missed * d) (all : a + d ≤ k) (large : least_size ≤ elements) (parts : 0 < k) where
    by_parts : (c : Wiring A) (public : List A) (strategy : Strategy A) (wins : List A → List ℕ → Bool) → IsBluff o e c public strategy wins → bad_count c ≤ limit
        → choose (3 * (params_of c).block - 1) opened_count * missed ≤ choose (params_of c).mcol opened_count → elements ≤ e.size → SaysYesOnceIn e c wins by
    by_parts c public strategy wins bluff few missing many =
        let S = column_sets c in
        let ds = all_elements e in
        let D = draws_from ds (whole_count c) in
        let M = choose (params_of c).mcol opened_count in
        let C = choose (3 * (params_of c).block - 1) opened_count in
        let sets : length S ≡ M = sets_counted opened_count (range_with_len 0 (params_of c).mcol) ∙ ap (λ (j : ℕ). choose j opened_count) (length-range_with_len 0 (params_of c).mcol) in
        let draws : length D ≡ e.size ^ whole_count c = length-draws ds (whole_count c) ∙ ap (λ (j : ℕ). j ^ whole_count c) (elements_all e laws.numbers).count in
        let some : 0 < elements = positive least_size elements one_at_least large in
        let rare = one_in (count_pairs wins D S) e.size (e.size ^ whole_count c) M (bad_count c) C by k a d limit elements (bluffs_rare o e laws c public strategy wins bluff (omega (arith, large, many))) few many bad
        (less_often C M by k d missed missing miss) all some parts in
        subst (λ (j : ℕ). count_pairs wins D S * by ≤ j * length S) (sym draws) (subst (λ (j : ℕ). count_pairs wins D S * by ≤ e.size ^ whole_count c * j) (sym sets) rare)

  shares : (limit by elements k a d : ℕ) → limit * 2 ^ by * k ≤ a * elements → 2 ^ by * k ≤ column_share * d → a + d ≤ k → least_size ≤ elements → 0 < k → BluffsPassByOneIn o e limit by elements
  shares limit by elements k a d bad miss all large parts c public strategy wins bluff few many =
      by_parts limit (2 ^ by) column_share elements k a d bad miss all large parts c public strategy wins bluff few (columns_miss o c bluff.player.valid) many

  by_width : (width limit by missed elements k a d : ℕ) → BadAreBounded o width limit → ColumnsMissOnceIn o width missed
      → limit * by * k ≤ a * elements → by * k ≤ missed * d → a + d ≤ k → least_size ≤ elements → 0 < k → BluffsPassOnceIn o e width by elements
  by_width width limit by missed elements k a d bounded missing bad miss all large parts c public strategy wins bluff fits many =
      let valid = bluff.player.valid in
      by_parts limit by missed elements k a d bad miss all large parts c public strategy wins bluff (bounded c valid fits) (missing c valid fits) many

  pub prime_passes : BluffsPassByOneIn o e most_bad prime_share prime_size
  prime_passes = shares most_bad prime_share prime_size 16 prime_parts (16 - prime_parts) prime_bad prime_miss (omega arith) large_prime (omega arith)

  pub few_passes : BluffsPassByOneIn o e 1024 few_share prime_size
  few_passes = shares 1024 few_share prime_size 16 few_parts (16 - few_parts) few_bad few_miss (omega arith) large_prime (omega arith)

  pub binary_passes : BluffsPassByOneIn o e most_bad binary_share (2 ^ 128)
  binary_passes = shares most_bad binary_share (2 ^ 128) 16 binary_parts (16 - binary_parts) binary_bad binary_miss (omega arith) large_binary (omega arith)

  pub false_share : (limit by elements : ℕ) → BluffsPassByOneIn o e limit by elements → PassesByOneIn o e limit by elements
  false_share limit by elements bluffs c public strategy wins cheat few many =
      bluffs c public strategy wins (cheat_bluffs o e laws c public strategy wins cheat) few many

  -- ---- by the width of a row

  pub shortest_holds : SharesHold o e shortest
  shortest_holds = record {
    columns = columns_within o shortest.row shortest.missed rows_shortest;
    bad = λ c valid fits. bad_shortest o c valid fits;
    prime =
        by_width shortest.row shortest.bad shortest.prime shortest.missed prime_size 1000 shortest.prime_parts (1000 - shortest.prime_parts) (bad_shortest o) (columns_within o shortest.row shortest.missed rows_shortest)
        (leb-true (shortest.bad * shortest.prime * 1000) (shortest.prime_parts * prime_size) refl) (leb-true (shortest.prime * 1000) (shortest.missed * (1000 - shortest.prime_parts)) refl) (omega arith) large_prime (omega arith);
    binary =
        by_width shortest.row shortest.bad shortest.binary shortest.missed (2 ^ 128) 1000 shortest.binary_parts (1000 - shortest.binary_parts) (bad_shortest o) (columns_within o shortest.row shortest.missed rows_shortest)
        (leb-true (shortest.bad * shortest.binary * 1000) (shortest.binary_parts * 2 ^ 128) refl) (leb-true (shortest.binary * 1000) (shortest.missed * (1000 - shortest.binary_parts)) refl) (omega arith) large_binary (omega arith);
  }

  pub short_holds : SharesHold o e short
  short_holds = record {
    columns = columns_within o short.row short.missed rows_short;
    bad = λ c valid fits. bad_short o c valid fits;
    prime =
        by_width short.row short.bad short.prime short.missed prime_size 1000 short.prime_parts (1000 - short.prime_parts) (bad_short o) (columns_within o short.row short.missed rows_short)
        (leb-true (short.bad * short.prime * 1000) (short.prime_parts * prime_size) refl) (leb-true (short.prime * 1000) (short.missed * (1000 - short.prime_parts)) refl) (omega arith) large_prime (omega arith);
    binary =
        by_width short.row short.bad short.binary short.missed (2 ^ 128) 1000 short.binary_parts (1000 - short.binary_parts) (bad_short o) (columns_within o short.row short.missed rows_short)
        (leb-true (short.bad * short.binary * 1000) (short.binary_parts * 2 ^ 128) refl) (leb-true (short.binary * 1000) (short.missed * (1000 - short.binary_parts)) refl) (omega arith) large_binary (omega arith);
  }

  pub long_holds : SharesHold o e long
  long_holds = record {
    columns = columns_within o long.row long.missed rows_long;
    bad = λ c valid fits. bad_long o c valid fits;
    prime =
        by_width long.row long.bad long.prime long.missed prime_size 1000 long.prime_parts (1000 - long.prime_parts) (bad_long o) (columns_within o long.row long.missed rows_long)
        (leb-true (long.bad * long.prime * 1000) (long.prime_parts * prime_size) refl) (leb-true (long.prime * 1000) (long.missed * (1000 - long.prime_parts)) refl) (omega arith) large_prime (omega arith);
    binary =
        by_width long.row long.bad long.binary long.missed (2 ^ 128) 1000 long.binary_parts (1000 - long.binary_parts) (bad_long o) (columns_within o long.row long.missed rows_long)
        (leb-true (long.bad * long.binary * 1000) (long.binary_parts * 2 ^ 128) refl) (leb-true (long.binary * 1000) (long.missed * (1000 - long.binary_parts)) refl) (omega arith) large_binary (omega arith);
  }

  pub longest_holds : SharesHold o e longest
  longest_holds = record {
    columns = columns_within o longest.row longest.missed rows_longest;
    bad = λ c valid fits. bad_longest o c valid fits;
    prime =
        by_width longest.row longest.bad longest.prime longest.missed prime_size 1000 longest.prime_parts (1000 - longest.prime_parts) (bad_longest o) (columns_within o longest.row longest.missed rows_longest)
        (leb-true (longest.bad * longest.prime * 1000) (longest.prime_parts * prime_size) refl) (leb-true (longest.prime * 1000) (longest.missed * (1000 - longest.prime_parts)) refl) (omega arith) large_prime (omega arith);
    binary =
        by_width longest.row longest.bad longest.binary longest.missed (2 ^ 128) 1000 longest.binary_parts (1000 - longest.binary_parts) (bad_longest o) (columns_within o longest.row longest.missed rows_longest)
        (leb-true (longest.bad * longest.binary * 1000) (longest.binary_parts * 2 ^ 128) refl) (leb-true (longest.binary * 1000) (longest.missed * (1000 - longest.binary_parts)) refl) (omega arith) large_binary (omega arith);
  }
