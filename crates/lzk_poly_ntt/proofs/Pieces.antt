-- What a block of values adds at the points of a piece, by a cyclic convolution.
use Rattle.std.specs.Prelude.{◌≡◌, ℕ, ◌<◌, ◌≤◌, ◌+◌, ◌-◌, ◌*◌, ◌/◌, ◌%◌, ◌^◌, List, [], ◌∷◌, length, cond, min, take, drop}
use Rattle.std.proofs.Common.{zero, suc, refl, sym, ap, ◌∙◌, arith, subst, ltb, length-drop}
use Rattle.std.proofs.lemmas.Bool.{lt-ltb, le-ltb}
use Rattle.std.proofs.lemmas.List.{length-take-le}
use Rattle.std.proofs.lemmas.Nat.{mul-le}
use Rattle.std.proofs.Math.Nat.{mod-eq_of_lt, add-mod_right, div-add-mod, mod-lt, mul_comm, suc-mul, mul-le-mul_left, mul-le-mul_right}
use Rattle.lzk_field.specs.Ring.{Ops, RingLaws, FieldLaws}
use Rattle.lzk_field.specs.Sums.{sum_below, minus, entry}
use Rattle.lzk_field.proofs.RingBasics.{inverse_unique, zero_plus, zero_times, times_zero, one_times}
use Rattle.lzk_field.proofs.SumLaws.{sum-ext, sum-times, sum-zero, sum-split}
use Rattle.lzk_field.proofs.Solve.{var, ◌⊠◌, solve}
use Rattle.lzk_poly.specs.Extension.{others}
use Rattle.lzk_poly.specs.Weights.{IsEven, IsWeights, part, parts}
use Rattle.lzk_poly_ntt.specs.declared.plan.Plan.{Plan}
use Rattle.lzk_poly_ntt.specs.Transform.{cyclic_convolution, doubled, Order}
use Rattle.lzk_poly_ntt.specs.Kernels.{IsCovered, IsPlan, convolution, end_of, from_of, kernel_entry, skip_of, weighted}

module _ {A : Type 0} (o : Ops A) (r : RingLaws o) (f : FieldLaws o) (point : ℕ → A) where
  open o use {plus, times}

  -- the convolution of a block's values times weights and a kernel, at the place of a point
  pub piece_adds : (n skip s e from y upto : ℕ) (values ws : List A) (twice scale : A) (a : ℕ → A)
      → s < e → e ≤ length values → length values ≤ from → from + y < upto → skip + (e - s) + y ≤ n
      → IsEven o point upto → IsWeights o point (length values) ws → times twice scale ≡ o.one
      → ((i : ℕ) → i < skip → a i ≡ o.zero)
      → ((i : ℕ) → i < e - s → a (skip + i) ≡ times (entry o values (s + i)) (entry o ws (s + i)))
      → ((i : ℕ) → skip + (e - s) ≤ i → i < n → a i ≡ o.zero)
      → times twice (cyclic_convolution o n a (kernel_entry o point scale upto (from + 1 - e)) (skip + (e - s) - 1 + y)) ≡ sum_below o (e - s) (λ i. part o point values (s + i) (point (from + y)))
  piece_adds n skip s e from y upto values ws twice scale a some within after reached room even weights inverse before near far =
      let l = e - s in
      let t = skip + l - 1 + y in
      let x = point (from + y) in
      let c : ℕ → A = kernel_entry o point scale upto (from + 1 - e) in
      let g : ℕ → A = λ i. times (a i) (c ((t + (n - i)) % n)) in
      let h : ℕ → A = λ i. part o point values (s + i) x in
      let more = n - (skip + l) in
      let V = var 0 in let W = var 1 in let S = var 2 in let Q = var 3 in
      let all : skip + (l + more) ≡ n = omega arith in
      let term : (i : ℕ) → i < l → g (skip + i) ≡ times scale (h i) =
      λ i k.
      let m = from + y - (s + i) in
      let over : t + (n - (skip + i)) ≡ t - (skip + i) + n = omega arith in
      let at : (t + (n - (skip + i))) % n ≡ t - (skip + i) = ap (λ z. z % n) over ∙ add-mod_right (t - (skip + i)) n ∙ mod-eq_of_lt (omega arith) in
      let place : from + 1 - e + (t - (skip + i)) ≡ m = omega arith in
      let value : c (t - (skip + i)) ≡ times scale (o.inverse (minus o x (point (s + i)))) =
      ap (times scale) (ap (λ z. cond (ltb z upto) (o.inverse (point z)) o.zero) place
      ∙ ap (λ b. cond b (o.inverse (point m)) o.zero) (lt-ltb m upto (omega arith))
      ∙ ap o.inverse (sym (even (s + i) (from + y) (omega arith) reached))) in
      let weight : entry o ws (s + i) ≡ o.inverse (others o point (length values) (s + i) (point (s + i))) =
      inverse_unique o r f (others o point (length values) (s + i) (point (s + i))) (entry o ws (s + i)) (r.times_comm _ _ ∙ weights.1 (s + i) (omega arith)) in
      ap (λ u. times u (c ((t + (n - (skip + i))) % n))) (near i k ∙ ap (times (entry o values (s + i))) weight)
      ∙ ap (times (times (entry o values (s + i)) (o.inverse (others o point (length values) (s + i) (point (s + i)))))) (ap c at ∙ value)
      ∙ solve o r (entry o values (s + i) ∷ o.inverse (others o point (length values) (s + i) (point (s + i))) ∷ scale ∷ o.inverse (minus o x (point (s + i))) ∷ []) ((V ⊠ W) ⊠ (S ⊠ Q)) (S ⊠ ((V ⊠ W) ⊠ Q)) refl in
      let first : (i : ℕ) → i < skip → g i ≡ o.zero =
      λ i k. ap (λ u. times u (c ((t + (n - i)) % n))) (before i k) ∙ zero_times o r _ in
      let last : (i : ℕ) → i < more → g (skip + (l + i)) ≡ o.zero =
      λ i k. ap (λ u. times u (c ((t + (n - (skip + (l + i)))) % n))) (far (skip + (l + i)) (omega arith) (omega arith)) ∙ zero_times o r _ in
      ap (times twice)
      (ap (λ m. sum_below o m g) (sym all) ∙ sum-split o r skip (l + more) g
      ∙ ap (λ u. plus u (sum_below o (l + more) (λ i. g (skip + i)))) (sum-ext o r skip g (λ i. o.zero) first ∙ sum-zero o r skip)
      ∙ zero_plus o r _ ∙ sum-split o r l more (λ i. g (skip + i))
      ∙ ap (plus (sum_below o l (λ i. g (skip + i)))) (sum-ext o r more (λ i. g (skip + (l + i))) (λ i. o.zero) last ∙ sum-zero o r more)
      ∙ r.plus_zero _ ∙ sum-ext o r l (λ i. g (skip + i)) (λ i. times scale (h i)) term ∙ sum-times o r l scale h)
      ∙ sym (r.times_assoc _ _ _) ∙ ap (λ u. times u (sum_below o l h)) inverse ∙ one_times o r _

  -- the convolution of a block and its kernel, at the place of a piece's point
  pub block_adds : (d : Order A) (plan : Plan) (values ws : List A) (p v y : ℕ) → IsPlan plan d.bits → v < plan.blocks → p * plan.piece < plan.upto - plan.count → y < plan.piece → from_of plan p + y < plan.upto
      → length values ≡ plan.count → IsEven o point plan.upto → IsWeights o point plan.count ws → times (doubled o d.bits) (o.inverse (doubled o d.bits)) ≡ o.one
      → times (doubled o d.bits) (convolution o point d plan values ws p v (plan.block - 1 + y)) ≡ sum_below o (end_of plan v - v * plan.block) (λ i. part o point values (v * plan.block + i) (point (from_of plan p + y)))
  block_adds d plan values ws p v y planned block piece small reached count even weights inverse =
      let n = 2 ^ d.bits in
      let s = v * plan.block in
      let e = end_of plan v in
      let skip = skip_of plan v in
      let a : ℕ → A = weighted o plan values ws v in
      let begins : s < plan.count = planned.blocks.begins v block in
      let some : s < e = omega (arith, begins, planned.some) in
      let short : e - s ≤ plan.block = omega arith in
      let place : skip + (e - s) - 1 + y ≡ plan.block - 1 + y = omega (arith, short) in
      let weights_too : IsWeights o point (length values) ws = subst (λ (k : ℕ). IsWeights o point k ws) (sym count) weights in
      let product : ℕ → A = λ i. times (entry o values (s + (i - skip))) (entry o ws (s + (i - skip))) in
      let before : (i : ℕ) → i < skip → a i ≡ o.zero = λ i h. ap (λ b. cond b o.zero (cond (ltb i plan.block) (product i) o.zero)) (lt-ltb i skip h) in
      let near : (i : ℕ) → i < e - s → a (skip + i) ≡ times (entry o values (s + i)) (entry o ws (s + i)) =
      λ i h. let back : s + (skip + i - skip) ≡ s + i = omega arith in
      ap (λ b. cond b o.zero (cond (ltb (skip + i) plan.block) (product (skip + i)) o.zero)) (le-ltb (skip + i) skip (omega arith))
      ∙ ap (λ b. cond b (product (skip + i)) o.zero) (lt-ltb (skip + i) plan.block (omega (arith, h, short)))
      ∙ ap (λ m. times (entry o values m) (entry o ws m)) back in
      let far : (i : ℕ) → skip + (e - s) ≤ i → i < n → a i ≡ o.zero =
      λ i h l.
      ap (λ b. cond b o.zero (cond (ltb i plan.block) (product i) o.zero)) (le-ltb i skip (omega (arith, h)))
      ∙ ap (λ b. cond b (product i) o.zero) (le-ltb i plan.block (omega (arith, h, short))) in
      ap (λ t. times (doubled o d.bits) (convolution o point d plan values ws p v t)) (sym place)
      ∙ piece_adds n skip s e (from_of plan p) y plan.upto values ws (doubled o d.bits) (o.inverse (doubled o d.bits)) a some (omega (arith, count)) (omega (arith, count)) reached (omega (arith, planned.room, small, short)) even weights_too inverse before near far

  -- what more values add
  pub parts_more : (values : List A) (s e : ℕ) (x : A) → s ≤ e → plus (parts o point values s x) (sum_below o (e - s) (λ i. part o point values (s + i) x)) ≡ parts o point values e x
  parts_more values s e x h =
      let all : s + (e - s) ≡ e = omega arith in
      sym (sum-split o r s (e - s) (λ i. part o point values i x)) ∙ ap (λ n. parts o point values n x) all

  -- what the first blocks add, of all of which the convolutions are summed up
  pub blocks_add : (plan : Plan) (values : List A) (x twice : A) (g : ℕ → A) → IsCovered plan.count plan.block plan.blocks
      → ((v : ℕ) → v < plan.blocks → times twice (g v) ≡ sum_below o (end_of plan v - v * plan.block) (λ i. part o point values (v * plan.block + i) x))
      → (n : ℕ) → n ≤ plan.blocks → times twice (sum_below o n g) ≡ parts o point values (min (n * plan.block) plan.count) x
  blocks_add plan values x twice g is given zero h =
      let none : min (0 * plan.block) plan.count ≡ 0 = omega arith in
      times_zero o r twice ∙ ap (λ m. parts o point values m x) (sym none)
  blocks_add plan values x twice g is given (suc n) h =
      let s = n * plan.block in
      let e = end_of plan n in
      let begins : s < plan.count = is.begins n (omega arith) in
      let here : min s plan.count ≡ s = omega (arith, begins) in
      let next : suc n * plan.block ≡ s + plan.block = suc-mul n plan.block in
      let there : e ≡ min (suc n * plan.block) plan.count = ap (λ m. min m plan.count) (sym next) in
      r.times_plus twice (sum_below o n g) (g n)
      ∙ ap (λ u. plus u (times twice (g n))) (blocks_add plan values x twice g is given n (omega arith) ∙ ap (λ m. parts o point values m x) here)
      ∙ ap (plus (parts o point values s x)) (given n (omega arith))
      ∙ parts_more values s e x (omega (arith, begins))
      ∙ ap (λ m. parts o point values m x) there

-- how many parts of a size cover a whole
pub covered : (whole size parts : ℕ) → 1 ≤ size → parts ≡ (whole + size - 1) / size → IsCovered whole size parts
covered whole size parts h e =
    let n = whole + size - 1 in
    let split : size * parts + n % size ≡ n = ap (λ q. size * q + n % size) e ∙ div-add-mod n size in
    let small : n % size < size = mod-lt n {m = size} (omega arith) in
    let turned : parts * size ≡ size * parts = mul_comm parts size in
    record {
      begins = λ p l.
          let next : suc p * size ≡ p * size + size = suc-mul p size in
          let most : suc p * size ≤ parts * size = mul-le-mul_right size (omega arith) in
          omega (arith, split, small, turned, next, most);
      all = omega (arith, split, small, turned);
    }

-- no more parts than the whole is long
pub covered_few : (whole size parts : ℕ) → 1 ≤ size → IsCovered whole size parts → parts ≤ whole
covered_few whole size zero h is = omega arith
covered_few whole size (suc p) h is =
    let most : p * 1 ≤ p * size = mul-le-mul_left p h in
    omega (arith, is.begins p (omega arith), most)

-- a place among blocks and pieces is small
pub place_few : (v pieces : ℕ) → v ≤ 65536 → pieces ≤ 65536 → v * pieces ≤ 4294967296
place_few v pieces h k = mul-le v pieces 65536 65536 h k

-- so many transforms are few entries
pub room_few : (parts size : ℕ) → parts ≤ 65537 → size ≤ 1048576 → parts * size ≤ 68720525312
room_few parts size h k = mul-le parts size 65537 1048576 h k

-- values take a block
pub blocks_some : (plan : Plan) (bits : ℕ) → IsPlan plan bits → 0 < plan.blocks
blocks_some plan bits planned = some plan.blocks planned.blocks.all
  where
    some : (blocks : ℕ) → plan.count ≤ blocks * plan.block → 0 < blocks
    some zero h = absurd (omega (arith, h, planned.given))
    some (suc b) h = omega arith

-- a transform behind some of them is within all
pub next_fits : (v parts size : ℕ) → v < parts → v * size + size ≤ parts * size
next_fits v parts size h =
    let less : suc v ≤ parts = omega (arith, h) in
    omega (arith, mul-le-mul_right size less, suc-mul v size)

pub length_part : {A : Type 0} (xs : List A) (a n : ℕ) → a + n ≤ length xs → length (take n (drop a xs)) ≡ n
length_part xs a n h = length-take-le n (drop a xs) (omega (arith, length-drop a xs))

-- the end of a part that begins below a small number
pub next_small : (v size : ℕ) → v * size < 65536 → size < 18446744073709551616 → v * size + size < 18446744073709551616
next_small zero size h l = omega (arith, l)
next_small (suc v) size h l = omega (arith, h, suc-mul v size)
