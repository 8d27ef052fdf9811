-- A copy that is not what it copies is caught, and where all are right, triples that are products make the list's.
use Rattle.std.specs.Prelude.{◌≡◌, ℕ, ◌+◌, ◌-◌, ◌*◌, ◌/◌, ◌%◌, ◌^◌, ◌<◌, ◌≤◌, cond, Bool, false, List, [], ◌∷◌, ◌++◌, length, take, drop}
use Rattle.std.proofs.Common.{refl, sym, ap, ◌∙◌, arith, pow-add, take_at, drop_at}
use Rattle.std.proofs.lemmas.Bool.{le-ltb}
use Rattle.std.proofs.lemmas.Grind.{div_ceil_times}
use Rattle.std.proofs.lemmas.List.FromFn.{get_or-map-range_with_len}
use Rattle.std.proofs.Math.Nat.{div-lt_iff_lt-mul, mod-lt}
use Rattle.lzk_field.specs.Coding.{Coding}
use Rattle.lzk_field.specs.Ring.{Ops, RingLaws, Laws}
use Rattle.lzk_field.specs.Sums.{entry}
use Rattle.lzk_field.proofs.RingBasics.{same_from_difference}
use Rattle.lzk_soundness.specs.Chance.Draws.{count, draws_from}
use Rattle.lzk_circuit.specs.Valid.{Wiring}
use Rattle.lzk_layout.specs.declared.params.Params.{Params}
use Rattle.lzk_layout.specs.Sizes.{AreBounded, params_of, committed_count}
use Rattle.lzk_layout.specs.Places.{depth, factors_at, constrained_at}
use Rattle.lzk_layout.proofs.PlaceLaws.{pads_within}
use Rattle.lzk_layout.proofs.SizeLaws.{params_bounded}
use Rattle.lzk_accept.specs.Checks.{coefficient_of, right_of}
use Rattle.lzk_soundness.specs.Draws.Schedule.{draw_count, script_of}
use Rattle.lzk_soundness.specs.Rows.Held as rows_held
use Rattle.lzk_soundness.specs.Rows.Held.{placed, held, second_sum, copy_gap, product_gap}
use Rattle.lzk_soundness.proofs.WeightsLaws.Weights.{combinations_few}
use Rattle.lzk_soundness.specs.Whole.Whole.{weight_count, line_gap, gap_at, CopiesAreCaught, ProductsFollow}
use Rattle.lzk_soundness.proofs.ChanceLaws.Splitting.{two_parts}

count_none : {X : Type 0} (xs : List X) → count (λ x. false) xs ≡ 0
count_none [] = refl
count_none (x ∷ xs) = omega (arith, count_none xs)

parts : {A : Type 0} (wins : List A → List A → Bool) (n : ℕ) (xs ys : List A) → length xs ≡ n → wins (take n (xs ++ ys)) (drop n (xs ++ ys)) ≡ wins xs ys
parts wins n xs ys size = ap (λ zs. wins zs (drop n (xs ++ ys))) (take_at xs ys n size) ∙ ap (wins xs) (drop_at xs ys n size)

pub copies_caught : {A : Type 0} (o : Ops A) (e : Coding A) → Laws o e.size e.number e.element e.bytes → CopiesAreCaught o e
copies_caught {A} o e laws = λ c public rows send wins m ds h some only distinct.
    let n = draw_count c in
    let k = weight_count c in
    let L = depth c + 1 in
    let N = length ds in
    let both : List A → Bool = λ r. wins (take n r) (drop n r) in
    let few : (draws : List A) → length draws ≡ n → false ≡ false → count (λ t. both (draws ++ t)) (draws_from ds k) * N ≤ N ^ k =
    λ draws size _.
    let coefficient = coefficient_of o e.element c public (script_of o c draws) (send draws) in
    let right = right_of o e.element c public (script_of o c draws) (send draws) in
    let gap = gap_at o c rows coefficient right in
    let less : L + m - L ≡ m = omega arith in
    let is : gap (L + m) ≡ copy_gap o c rows m =
    ap (λ b. cond b (line_gap o c rows coefficient right (L + m)) (copy_gap o c rows (L + m - L))) (le-ltb (L + m) L (omega arith)) ∙ ap (copy_gap o c rows) less in
    combinations_few laws (second_sum o c rows) gap k (L + m) (λ t. both (draws ++ t)) ds (omega (arith, h)) (λ none. some (sym is ∙ none))
    (λ t many won. only draws t size many (sym (parts wins n draws t size) ∙ won)) distinct in
    let split = two_parts ds both (λ r. false) k (N ^ k) n few in
    let nothing : count (λ r. false) (draws_from ds n) * (N ^ k * N) ≡ 0 * (N ^ k * N) = ap (λ (j : ℕ). j * (N ^ k * N)) (count_none (draws_from ds n)) in
    omega (arith, split, nothing, pow-add N n k)

module _ {A : Type 0} (o : Ops A) (r : RingLaws o) (c : Wiring A) (rows : List (List A)) (b : AreBounded (params_of c)) (copies : (m : ℕ) → m < 3 * depth c → copy_gap o c rows m ≡ o.zero) (triples : (s t : ℕ) → s < (params_of c).wr → t < (params_of c).ntriple → product_gap o c rows s t ≡ o.zero) where
  abbrev p : Params
  p = params_of c

  some_width : 1 ≤ p.wr
  some_width = omega (arith, b.wide)

  row_below : (m n k : ℕ) → 1 ≤ k → m < n * k → m / k < n
  row_below m n k one h = (div-lt_iff_lt-mul {k = k} {x = m} {y = n} (omega (arith, one))).1 h

  copy_below : (l : ℕ) → l < depth c → l / p.wr < p.ntriple
  copy_below l h = row_below l p.ntriple p.wr some_width (omega (arith, h, (div_ceil_times p.layers p.wr some_width).0))

  held_entry : (j : ℕ) → j < committed_count c → entry o (held o c rows) j ≡ placed o c rows j
  held_entry j h = get_or-map-range_with_len (placed o c rows) 0 (committed_count c) j j o.zero h (omega arith)

  copy_is : (l which : ℕ) → l < depth c → which < 3 → rows_held.in_triple o c rows (l / p.wr) (l % p.wr) which ≡ entry o (held o c rows) (factors_at c l + which)
  copy_is l which h d =
      let m = 3 * l + which in
      let third : m / 3 ≡ l = omega (arith, d) in
      let rest : m % 3 ≡ which = omega (arith, d) in
      let source : factors_at c l + which < committed_count c = omega (arith, pads_within c l h, d) in
      let G : ℕ → ℕ → A = λ a x. rows_held.in_triple o c rows (a / p.wr) (a % p.wr) x in
      sym (ap (λ (a : ℕ). G a (m % 3)) third ∙ ap (G l) rest)
      ∙ same_from_difference o r (G (m / 3) (m % 3)) (placed o c rows (constrained_at c m)) (copies m (omega (arith, h, d)))
      ∙ ap (λ (a : ℕ). placed o c rows (factors_at c a + m % 3)) third ∙ ap (λ (x : ℕ). placed o c rows (factors_at c l + x)) rest
      ∙ sym (held_entry (factors_at c l + which) source)

  pub products : (l : ℕ) → l < depth c → o.times (entry o (held o c rows) (factors_at c l)) (entry o (held o c rows) (factors_at c l + 1)) ≡ entry o (held o c rows) (factors_at c l + 2)
  products l h =
      let W = entry o (held o c rows) in
      let z : factors_at c l + 0 ≡ factors_at c l = omega arith in
      let F : ℕ → A = rows_held.in_triple o c rows (l / p.wr) (l % p.wr) in
      let G : ℕ → A = λ (k : ℕ). W (factors_at c l + k) in
      ap (λ x. o.times x (G 1)) (sym (copy_is l 0 h (omega arith) ∙ ap W z))
      ∙ ap (o.times (F 0)) (sym (copy_is l 1 h (omega arith)))
      ∙ same_from_difference o r (o.times (F 0) (F 1)) (F 2) (triples (l % p.wr) (l / p.wr) (mod-lt l some_width) (copy_below l h))
      ∙ copy_is l 2 h (omega arith)

pub products_follow : {A : Type 0} (o : Ops A) → RingLaws o → ProductsFollow o
products_follow o r = λ c public rows valid copies triples. products o r c rows (params_bounded o c valid) copies triples
