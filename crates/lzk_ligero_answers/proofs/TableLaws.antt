-- Answers that are made from a table of the rows' values.
use Rattle.lzk_profile.specs.Profile.{opened_count}
use Rattle.std.specs.Prelude.{◌≡◌, ◌≢◌, ℕ, ◌+◌, ◌-◌, ◌*◌, ◌<◌, ◌≤◌, List, [], ◌∷◌, ◌++◌, length, map, replicate, take, drop}
use Rattle.std.specs.List.{range_with_len}
use Rattle.std.proofs.Common.{suc, refl, sym, ap, ◌∙◌, arith, mul-le-mul_right}
use Rattle.std.proofs.lemmas.List.{ext_get_or, length-append, length-replicate, get_or-replicate, get_or_append_left, get_or-append-add, get_or-take, get_or-drop}
use Rattle.std.proofs.lemmas.List.FromFn.{length-map-range_with_len, get_or-map-range_with_len}
use native.Mathlib.Decide.{dec_lt}
use Rattle.lzk_field.specs.Ring.{Ops, RingLaws, FieldLaws}
use Rattle.lzk_field.specs.Sums.{sum_below, minus, entry}
use Rattle.lzk_field.proofs.RingBasics.{times_zero, zero_times}
use Rattle.lzk_field.proofs.Solve.{var, opp, ◌⊞◌, ◌⊟◌, ◌⊠◌, solve}
use Rattle.lzk_field.proofs.SumLaws.{sum-ext, sum-zero, sum-times, sum-times_right, sum-swap, sum-split}
use Rattle.lzk_poly.specs.Extension.{extension}
use Rattle.lzk_poly.specs.Through.{values_of}
use Rattle.lzk_poly.proofs.ExtensionLaws.{extension-sum}
use Rattle.lzk_poly.proofs.Extensions.{extension-given}
use Rattle.lzk_layout.specs.declared.params.Params.{Params}
use Rattle.lzk_ligero_answers.specs.Rows.{row, IsTableOf}
use Rattle.lzk_ligero_answers.specs.Answers.{low_degree_answer, linear_answer, quadratic_answer}
use Rattle.lzk_ligero_answers.specs.Coefficients.{AreCoefficients, AreFactored}
use Rattle.lzk_ligero_answers.proofs.AnswerLaws.{are_values, eval-low_degree, eval-linear, eval-quadratic, triple_at}

-- value k of row i, of rows of so many values each
abbrev pub cell : {A : Type 0} → Ops A → ℕ → List A → ℕ → ℕ → A
cell o width table i k = entry o table (i * width + k)

module _ {A : Type 0} (o : Ops A) (r : RingLaws o) (point : ℕ → A) (p : Params) (rows : List (List A)) (width : ℕ) (table answer : List A) (is : IsTableOf o point width rows table) (count : length rows ≡ p.nrow) where
  pub low_degree_made : (u : List A) → 3 ≤ p.nrow → p.block ≤ width → length u ≡ p.nrow - 3 → length answer ≡ p.block
      → ((k : ℕ) → k < p.block → entry o answer k ≡ o.plus (cell o width table 0 k) (sum_below o (length u) (λ i. o.times (entry o u i) (cell o width table (3 + i) k))))
      → answer ≡ values_of o point p.block (low_degree_answer o point p rows u)
  low_degree_made u three wide many size made =
      are_values o point p.block (low_degree_answer o point p rows u) answer size
      (λ k h.
      let n = p.nrow - 3 in
      let value : ℕ → A = λ i. extension o point (row rows i) k in
      let here : ℕ → A = λ i. cell o width table i k in
      made k h
      ∙ ap (λ x. o.plus x (sum_below o (length u) (λ i. o.times (entry o u i) (here (3 + i))))) (is.values 0 k (omega (arith, count, three)) (omega (arith, h, wide)))
      ∙ ap (λ (m : ℕ). o.plus (value 0) (sum_below o m (λ i. o.times (entry o u i) (here (3 + i))))) many
      ∙ ap (o.plus (value 0)) (sum-ext o r n (λ i. o.times (entry o u i) (here (3 + i))) (λ i. o.times (entry o u i) (value (3 + i))) (λ i q. ap (o.times (entry o u i)) (is.values (3 + i) k (omega (arith, count, q)) (omega (arith, h, wide)))))
      ∙ sym (eval-low_degree o r point p rows u (point k)))

  pub linear_made : (coefficients : ℕ → List A) → 3 ≤ p.nrow → p.dblock ≤ width → length answer ≡ p.dblock
      → ((k : ℕ) → k < p.dblock → entry o answer k ≡ o.plus (cell o width table 1 k) (sum_below o (p.nrow - 3) (λ i. o.times (extension o point (coefficients (3 + i)) k) (cell o width table (3 + i) k))))
      → answer ≡ values_of o point p.dblock (linear_answer o point p rows coefficients)
  linear_made coefficients three wide size made =
      are_values o point p.dblock (linear_answer o point p rows coefficients) answer size
      (λ k h.
      let n = p.nrow - 3 in
      let value : ℕ → A = λ i. extension o point (row rows i) k in
      let here : ℕ → A = λ i. cell o width table i k in
      let a : ℕ → A = λ i. extension o point (coefficients (3 + i)) k in
      made k h
      ∙ ap (λ x. o.plus x (sum_below o n (λ i. o.times (a i) (here (3 + i))))) (is.values 1 k (omega (arith, count, three)) (omega (arith, h, wide)))
      ∙ ap (o.plus (value 1)) (sum-ext o r n (λ i. o.times (a i) (here (3 + i))) (λ i. o.times (a i) (value (3 + i))) (λ i q. ap (o.times (a i)) (is.values (3 + i) k (omega (arith, count, q)) (omega (arith, h, wide)))))
      ∙ sym (eval-linear o r point p rows coefficients (point k)))

  -- what a triple of the table leaves
  abbrev pub triple_cell : ℕ → ℕ → A
  triple_cell first k = minus o (o.times (cell o width table first k) (cell o width table (first + 1) k)) (cell o width table (first + 2) k)

  pub quadratic_made : (v : List A) → p.nrow ≡ 3 + p.nwrow + 3 * p.ntriple → p.dblock ≤ width → length answer ≡ p.dblock
      → ((k : ℕ) → k < p.dblock → entry o answer k ≡ o.plus (cell o width table 2 k) (sum_below o p.ntriple (λ t. o.times (entry o v t) (triple_cell (3 + p.nwrow + 3 * t) k))))
      → answer ≡ values_of o point p.dblock (quadratic_answer o point p rows v)
  quadratic_made v fits wide size made =
      are_values o point p.dblock (quadratic_answer o point p rows v) answer size
      (λ k h.
      let value : ℕ → A = λ i. extension o point (row rows i) k in
      let here : ℕ → A = λ i. cell o width table i k in
      let left : ℕ → A = λ t. triple_cell (3 + p.nwrow + 3 * t) k in
      let same : (t : ℕ) → t < p.ntriple → left t ≡ triple_at o r point p rows t (point k) =
      λ t q. let i = 3 + p.nwrow + 3 * t in
      ap (λ x. minus o (o.times x (here (i + 1))) (here (i + 2))) (is.values i k (omega (arith, count, fits, q)) (omega (arith, h, wide)))
      ∙ ap (λ x. minus o (o.times (value i) x) (here (i + 2))) (is.values (i + 1) k (omega (arith, count, fits, q)) (omega (arith, h, wide)))
      ∙ ap (minus o (o.times (value i) (value (i + 1)))) (is.values (i + 2) k (omega (arith, count, fits, q)) (omega (arith, h, wide))) in
      made k h
      ∙ ap (λ x. o.plus x (sum_below o p.ntriple (λ t. o.times (entry o v t) (left t)))) (is.values 2 k (omega (arith, count, fits)) (omega (arith, h, wide)))
      ∙ ap (o.plus (value 2)) (sum-ext o r p.ntriple (λ t. o.times (entry o v t) (left t)) (λ t. o.times (entry o v t) (triple_at o r point p rows t (point k))) (λ t q. ap (o.times (entry o v t)) (same t q)))
      ∙ sym (eval-quadratic o r point p rows v (point k)))

-- ---- rows of coefficients

module _ {A : Type 0} (o : Ops A) where
  -- zeros, and then a s at place s
  unfoldable pub coefficient_list : ℕ → ℕ → (ℕ → A) → List A
  coefficient_list head m a = replicate head o.zero ++ map a (range_with_len 0 m)

  pub length-coefficient_list : (head m : ℕ) (a : ℕ → A) → length (coefficient_list head m a) ≡ head + m
  unfolding coefficient_list
  length-coefficient_list head m a = length-append (replicate head o.zero) (map a (range_with_len 0 m)) ∙ omega (arith, length-replicate head o.zero, length-map-range_with_len a 0 m)

  pub front-coefficient_list : (head m : ℕ) (a : ℕ → A) (s : ℕ) → s < head → entry o (coefficient_list head m a) s ≡ o.zero
  unfolding coefficient_list
  front-coefficient_list head m a s h =
      get_or_append_left (replicate head o.zero) (map a (range_with_len 0 m)) o.zero s (omega (arith, length-replicate head o.zero, h))
      ∙ get_or-replicate head s o.zero o.zero h

  pub back-coefficient_list : (head m : ℕ) (a : ℕ → A) (s : ℕ) → s < m → entry o (coefficient_list head m a) (head + s) ≡ a s
  unfolding coefficient_list
  back-coefficient_list head m a s h =
      let l = length-replicate head o.zero in
      ap (λ (k : ℕ). entry o (replicate head o.zero ++ map a (range_with_len 0 m)) (k + s)) (sym l)
      ∙ get_or-append-add (replicate head o.zero) (map a (range_with_len 0 m)) s o.zero
      ∙ get_or-map-range_with_len a 0 m s s o.zero h (omega arith)

  pub are_coefficients : (p : Params) (a : ℕ → A) → p.block ≡ opened_count + p.wr → AreCoefficients o p a (coefficient_list opened_count p.wr a)
  are_coefficients p a size = record {
    count = length-coefficient_list opened_count p.wr a ∙ sym size;
    front = front-coefficient_list opened_count p.wr a;
    back = back-coefficient_list opened_count p.wr a;
  }

  -- there is one such row
  pub coefficients_are : (p : Params) (a : ℕ → A) (list row : List A) → p.block ≡ opened_count + p.wr → AreCoefficients o p a list → length row ≡ p.block
      → ((s : ℕ) → s < opened_count → entry o row s ≡ o.zero) → ((s : ℕ) → s < p.wr → entry o row (opened_count + s) ≡ a s) → row ≡ list
  coefficients_are p a list row size are many front back =
      ext_get_or o.zero row list (many ∙ sym are.count)
      (λ k h. elim (dec_lt k opened_count) [
        | yes l ↦ front k l ∙ sym (are.front k l)
        | no l ↦
            let s = k - opened_count in
            let e : k ≡ opened_count + s = omega arith in
            let b : s < p.wr = omega (arith, h, many, size) in
            ap (entry o row) e ∙ back s b ∙ sym (ap (entry o list) e ∙ are.back s b)
      ])

-- the row of factor f's place factors
abbrev pub place_row : {A : Type 0} → Ops A → Params → List A → ℕ → List A
place_row o p place_factors f = coefficient_list o opened_count p.wr (λ s. entry o place_factors (f * p.wr + s))

module _ {A : Type 0} (o : Ops A) (r : RingLaws o) (point : ℕ → A) (p : Params) (m count : ℕ) (row_factors place_factors : List A) (fits : p.block ≡ opened_count + p.wr) where
  abbrev places : ℕ → List A
  places = place_row o p place_factors

  abbrev row_factor : ℕ → ℕ → A
  row_factor f i = entry o row_factors (f * m + i)

  -- a row that is given by factors extends to the sum of the multiples of the factors' rows' extensions
  extension-factored : (lists : ℕ → List A) → AreFactored o p m count row_factors place_factors lists → (i : ℕ) → i < m → (k : ℕ)
      → extension o point (lists (3 + i)) k ≡ sum_below o count (λ f. o.times (row_factor f i) (extension o point (places f) k))
  extension-factored lists are i h k =
      let list = lists (3 + i) in
      let sized : (f : ℕ) → length (places f) ≡ opened_count + p.wr = λ f. length-coefficient_list o opened_count p.wr (λ s. entry o place_factors (f * p.wr + s)) in
      extension-sum o r point count (λ f. row_factor f i) places list (λ f q. sized f ∙ sym fits ∙ sym (are i h).count)
      (λ s q. elim (dec_lt s opened_count) [
        | yes l ↦
            (are i h).front s l
            ∙ sym (sum-ext o r count (λ f. o.times (row_factor f i) (entry o (places f) s)) (λ f. o.times (row_factor f i) o.zero) (λ f z. ap (o.times (row_factor f i)) (front-coefficient_list o opened_count p.wr (λ s. entry o place_factors (f * p.wr + s)) s l))
            ∙ sum-times_right o r count o.zero (λ f. row_factor f i) ∙ times_zero o r (sum_below o count (λ f. row_factor f i)))
        | no l ↦
            let d = s - opened_count in
            let e : s ≡ opened_count + d = omega arith in
            let b : d < p.wr = omega (arith, q, (are i h).count, fits) in
            ap (entry o list) e ∙ (are i h).back d b
            ∙ sum-ext o r count (λ f. o.times (row_factor f i) (entry o place_factors (f * p.wr + d))) (λ f. o.times (row_factor f i) (entry o (places f) s))
            (λ f z. ap (o.times (row_factor f i)) (sym (ap (entry o (places f)) e ∙ back-coefficient_list o opened_count p.wr (λ s. entry o place_factors (f * p.wr + s)) d b)))
      ]) k

  -- so that the products of rows are those of the factors' rows and sums of the rows' multiples
  pub factored_sum : (lists : ℕ → List A) → AreFactored o p m count row_factors place_factors lists → (k : ℕ) (here : ℕ → A)
      → sum_below o count (λ f. o.times (extension o point (places f) k) (sum_below o m (λ i. o.times (row_factor f i) (here i)))) ≡ sum_below o m (λ i. o.times (extension o point (lists (3 + i)) k) (here i))
  factored_sum lists are k here =
      let E : ℕ → A = λ f. extension o point (places f) k in
      sum-ext o r count (λ f. o.times (E f) (sum_below o m (λ i. o.times (row_factor f i) (here i)))) (λ f. sum_below o m (λ i. o.times (o.times (row_factor f i) (E f)) (here i)))
      (λ f h.
      sym (sum-times o r m (E f) (λ i. o.times (row_factor f i) (here i)))
      ∙ sum-ext o r m (λ i. o.times (E f) (o.times (row_factor f i) (here i))) (λ i. o.times (o.times (row_factor f i) (E f)) (here i))
      (λ i q. sym (r.times_assoc (E f) (row_factor f i) (here i)) ∙ ap (λ w. o.times w (here i)) (r.times_comm (E f) (row_factor f i))))
      ∙ sum-swap o r count m (λ f i. o.times (o.times (row_factor f i) (E f)) (here i))
      ∙ sum-ext o r m (λ i. sum_below o count (λ f. o.times (o.times (row_factor f i) (E f)) (here i))) (λ i. o.times (extension o point (lists (3 + i)) k) (here i))
      (λ i h. sum-times_right o r count (here i) (λ f. o.times (row_factor f i) (E f)) ∙ ap (λ w. o.times w (here i)) (sym (extension-factored lists are i h k)))

  -- the same with the values of the factors' rows at this point, and what that adds
  pub products_added : (lists : ℕ → List A) → AreFactored o p m count row_factors place_factors lists → (width from d k : ℕ) (table : List A) (given : ℕ → A) (old new : A) → from + d ≡ k
      → ((f : ℕ) → f < count → given f ≡ extension o point (places f) k)
      → new ≡ o.plus old (sum_below o count (λ f. o.times (given f) (sum_below o m (λ i. o.times (row_factor f i) (cell o width table (3 + i) (from + d))))))
      → new ≡ o.plus old (sum_below o m (λ i. o.times (extension o point (lists (3 + i)) k) (cell o width table (3 + i) k)))
  products_added lists are width from d k table given old new e same is =
      let here : ℕ → A = λ i. cell o width table (3 + i) k in
      let sum : ℕ → A = λ f. sum_below o m (λ i. o.times (row_factor f i) (here i)) in
      is
      ∙ ap (λ (n : ℕ). o.plus old (sum_below o count (λ f. o.times (given f) (sum_below o m (λ i. o.times (row_factor f i) (cell o width table (3 + i) n)))))) e
      ∙ ap (o.plus old)
      (sum-ext o r count (λ f. o.times (given f) (sum f)) (λ f. o.times (extension o point (places f) k) (sum f)) (λ f h. ap (λ w. o.times w (sum f)) (same f h)) ∙ factored_sum lists are k here)

  -- where the factors' rows are zero, nothing is added
  pub nothing_added : (lists : ℕ → List A) → AreFactored o p m count row_factors place_factors lists → (width k : ℕ) (table : List A) (old : A) → ((f : ℕ) → f < count → extension o point (places f) k ≡ o.zero)
      → old ≡ o.plus old (sum_below o m (λ i. o.times (extension o point (lists (3 + i)) k) (cell o width table (3 + i) k)))
  nothing_added lists are width k table old zeros =
      let here : ℕ → A = λ i. cell o width table (3 + i) k in
      let sum : ℕ → A = λ f. sum_below o m (λ i. o.times (row_factor f i) (here i)) in
      sym (r.plus_zero old)
      ∙ ap (o.plus old)
      (sym (sum-zero o r count)
      ∙ sum-ext o r count (λ f. o.zero) (λ f. o.times (extension o point (places f) k) (sum f)) (λ f h. sym (ap (λ w. o.times w (sum f)) (zeros f h) ∙ zero_times o r (sum f)))
      ∙ factored_sum lists are k here)

-- the first values of a row of coefficients' polynomial are zeros, and then the coefficients
module _ {A : Type 0} (o : Ops A) (r : RingLaws o) (f : FieldLaws o) (point : ℕ → A) (head m : ℕ) (apart : (i j : ℕ) → i < j → j < head + m → point i ≢ point j) (a : ℕ → A) where
  given-coefficient_list : (k : ℕ) → k < head + m → extension o point (coefficient_list o head m a) k ≡ entry o (coefficient_list o head m a) k
  given-coefficient_list k h =
      let size = length-coefficient_list o head m a in
      extension-given o r f point (coefficient_list o head m a) (λ i j q s. apart i j q (omega (arith, size, s))) k (omega (arith, size, h))

  pub front-extension : (k : ℕ) → k < head → extension o point (coefficient_list o head m a) k ≡ o.zero
  front-extension k h = given-coefficient_list k (omega (arith, h)) ∙ front-coefficient_list o head m a k h

  pub back-extension : (s : ℕ) → s < m → extension o point (coefficient_list o head m a) (head + s) ≡ a s
  back-extension s h = given-coefficient_list (head + s) (omega (arith, h)) ∙ back-coefficient_list o head m a s h

-- ---- parts of a list

-- a place of a row before row f comes before that row
pub before_row : (j k f size : ℕ) → j < f → k < size → j * size + k < f * size
before_row j k f size l h = let most : suc j * size ≤ f * size = mul-le-mul_right size l in omega (arith, most)

module _ {A : Type 0} (o : Ops A) where
  pub entry-front : (xs front : List A) (n k : ℕ) → front ≡ take n xs → k < n → entry o front k ≡ entry o xs k
  entry-front xs front n k e h = ap (λ zs. entry o zs k) e ∙ get_or-take n xs k o.zero h

  pub entry-back : (xs back : List A) (n k : ℕ) → back ≡ drop n xs → entry o back k ≡ entry o xs (n + k)
  entry-back xs back n k e = ap (λ zs. entry o zs k) e ∙ get_or-drop n xs k o.zero

  -- the rows up to row f of a list whose front has those before it
  pub rows_more : (front values tail : List A) (f size : ℕ) → length front ≡ f * size → length values ≡ size
      → (j k : ℕ) (x : A) → j < f + 1 → k < size → (j < f → entry o front (j * size + k) ≡ x) → (j ≡ f → entry o values k ≡ x) → entry o (front ++ (values ++ tail)) (j * size + k) ≡ x
  rows_more front values tail f size many wide j k x h q before last =
      elim (dec_lt j f) [
        | yes l ↦ get_or_append_left front (values ++ tail) o.zero (j * size + k) (omega (arith, many, before_row j k f size l q)) ∙ before l
        | no l ↦
            let e : j ≡ f = omega arith in
            let z : j * size + k ≡ length front + k = ap (λ (n : ℕ). n * size + k) e ∙ ap (λ (n : ℕ). n + k) (sym many) in
            ap (entry o (front ++ (values ++ tail))) z ∙ get_or-append-add front (values ++ tail) k o.zero ∙ get_or_append_left values tail o.zero k (omega (arith, wide, q)) ∙ last e
      ]

-- ---- the sum over all rows, those given by factors first

pub rows_joined : {A : Type 0} (o : Ops A) (r : RingLaws o) (m n : ℕ) (f : ℕ → A) (first x y z : A) → m ≤ n
    → x ≡ first → y ≡ o.plus x (sum_below o m f) → z ≡ o.plus y (sum_below o (n - m) (λ t. f (m + t))) → z ≡ o.plus first (sum_below o n f)
rows_joined o r m n f first x y z h ex ey ez =
    let e : m + (n - m) ≡ n = omega arith in
    let rest = sum_below o (n - m) (λ t. f (m + t)) in
    ez ∙ ap (λ w. o.plus w rest) (ey ∙ ap (λ w. o.plus w (sum_below o m f)) ex)
    ∙ r.plus_assoc first (sum_below o m f) rest
    ∙ ap (o.plus first) (sym (sum-split o r m (n - m) f) ∙ ap (λ (k : ℕ). sum_below o k f) e)

-- what is added of a triple, in two steps
pub triple_added : {A : Type 0} (o : Ops A) (r : RingLaws o) (old new a x y z by n : A) → a ≡ o.plus old (o.times by (o.times x y)) → n ≡ o.neg by → new ≡ o.plus a (o.times n z) → new ≡ o.plus old (o.times by (minus o (o.times x y) z))
triple_added o r old new a x y z by n ea en e =
    let O = var 0 in let B = var 1 in let X = var 2 in let Y = var 3 in let Z = var 4 in
    e ∙ ap (λ w. o.plus w (o.times n z)) ea ∙ ap (λ w. o.plus (o.plus old (o.times by (o.times x y))) (o.times w z)) en
    ∙ solve o r (old ∷ by ∷ x ∷ y ∷ z ∷ []) ((O ⊞ (B ⊠ (X ⊠ Y))) ⊞ (opp B ⊠ Z)) (O ⊞ (B ⊠ ((X ⊠ Y) ⊟ Z))) refl

-- a sum over some more rows
pub group_added : {A : Type 0} (o : Ops A) (r : RingLaws o) (factors part table : List A) (first start size width k : ℕ) (old before after : A) → length part ≡ size → ((i : ℕ) → i < size → entry o part i ≡ entry o factors (start + i))
    → before ≡ o.plus old (sum_below o start (λ i. o.times (entry o factors i) (cell o width table (first + i) k)))
    → after ≡ o.plus before (sum_below o (length part) (λ i. o.times (entry o part i) (cell o width table (first + start + i) k)))
    → after ≡ o.plus old (sum_below o (start + size) (λ i. o.times (entry o factors i) (cell o width table (first + i) k)))
group_added {A} o r factors part table first start size width k old before after many each eb ea =
    let f : ℕ → A = λ i. o.times (entry o factors i) (cell o width table (first + i) k) in
    let p : ℕ → A = λ i. o.times (entry o part i) (cell o width table (first + start + i) k) in
    ea ∙ ap (λ w. o.plus w (sum_below o (length part) p)) eb
    ∙ ap (λ (n : ℕ). o.plus (o.plus old (sum_below o start f)) (sum_below o n p)) many
    ∙ ap (o.plus (o.plus old (sum_below o start f))) (sum-ext o r size p (λ i. f (start + i))
    (λ i h. let e : first + start + i ≡ first + (start + i) = omega arith in
    ap (λ w. o.times w (cell o width table (first + start + i) k)) (each i h) ∙ ap (λ (j : ℕ). o.times (entry o factors (start + i)) (cell o width table j k)) e))
    ∙ r.plus_assoc old (sum_below o start f) (sum_below o size (λ i. f (start + i)))
    ∙ ap (o.plus old) (sym (sum-split o r start size f))
