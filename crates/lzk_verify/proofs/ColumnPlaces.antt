-- How many opened columns are whole, and how many fields of the next, by how many fields are whole.
use Rattle.lzk_profile.specs.Profile.{opened_count}
use Rattle.std.specs.Prelude.{◌≡◌, refl, ℕ, ◌+◌, ◌-◌, ◌*◌, ◌/◌, ◌%◌, ◌<◌, ◌≤◌, min, cond, nat_lt, Bool, true, false}
use Rattle.std.proofs.Common.{ap, ◌∙◌, arith}
use Rattle.std.proofs.lemmas.Nat.{div-mul-add, mod-mul-add, mul-add-lt, le-div}
use Rattle.lzk_layout.specs.declared.params.Params.{Params}
use Rattle.lzk_layout.specs.Parts.{before_opened, before_count}
use Rattle.lzk_verify.specs.Kept.{column_place, whole_columns, column_fields}

either : (b : Bool) (x : ℕ) → x ≡ 0 → cond b x 0 ≡ 0
either true x is = is
either false x is = refl

past : (a b : ℕ) → a + b - a ≡ b
past a b = omega arith

module _ (p : Params) where
  -- before the opened columns there are none
  pub none_whole : (n : ℕ) → n ≤ before_opened p → whole_columns p n ≡ 0
  none_whole n h = ap (λ m. min opened_count (m / (1 + p.nrow))) (omega (arith, h)) ∙ ap (min opened_count) (div-mul-add 0 (1 + p.nrow) 0 (omega arith))

  pub none_begun : (n : ℕ) → n ≤ before_opened p → column_fields p n ≡ 0
  none_begun n h =
      either (nat_lt n (before_count p)) ((n - before_opened p) % (1 + p.nrow))
      (ap (λ m. m % (1 + p.nrow)) (omega (arith, h)) ∙ mod-mul-add 0 (1 + p.nrow) 0 (omega arith))

  behind : (k i : ℕ) → column_place p k + i - before_opened p ≡ k * (1 + p.nrow) + i
  behind k i = ap (λ m. m - before_opened p) (omega arith) ∙ past (before_opened p) (k * (1 + p.nrow) + i)

  -- within column k, of which i fields are whole
  pub whole_within : (k i : ℕ) → k < opened_count → i < 1 + p.nrow → whole_columns p (column_place p k + i) ≡ k
  whole_within k i below inside =
      ap (λ m. min opened_count (m / (1 + p.nrow))) (behind k i) ∙ ap (min opened_count) (div-mul-add k (1 + p.nrow) i inside) ∙ omega (arith, below)

  before_end : (k i : ℕ) → k < opened_count → i < 1 + p.nrow → nat_lt (column_place p k + i) (before_count p) ≡ true
  before_end k i below inside = let h : k * (1 + p.nrow) + i < (1 + p.nrow) * opened_count = mul-add-lt k (1 + p.nrow) i opened_count below inside in grind arith

  pub fields_within : (k i : ℕ) → k < opened_count → i < 1 + p.nrow → column_fields p (column_place p k + i) ≡ i
  fields_within k i below inside =
      ap (λ b. cond b ((column_place p k + i - before_opened p) % (1 + p.nrow)) 0) (before_end k i below inside)
      ∙ ap (λ m. m % (1 + p.nrow)) (behind k i) ∙ mod-mul-add k (1 + p.nrow) i inside

  -- behind them all are whole
  pub all_whole : (n : ℕ) → before_count p ≤ n → whole_columns p n ≡ opened_count
  all_whole n h =
      let m : opened_count ≤ (n - before_opened p) / (1 + p.nrow) = le-div opened_count (n - before_opened p) (1 + p.nrow) (omega arith) (omega (arith, h)) in omega (arith, m)

  pub none_open : (n : ℕ) → before_count p ≤ n → column_fields p n ≡ 0
  none_open n h = let b : nat_lt n (before_count p) ≡ false = grind arith in ap (λ b. cond b ((n - before_opened p) % (1 + p.nrow)) 0) b
