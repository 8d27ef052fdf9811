-- What is kept of a layer between its rounds: coefficients of pairs of wires, and apart those of wire 0.
use Rattle.std.specs.Prelude.{◌≡◌, ℕ, ◌^◌, ◌==◌, Bool, true, cond, List}
use Rattle.lzk_field.specs.Ring.{Ops}
use Rattle.lzk_field.specs.Sums.{minus, entry, dot_product}
use Rattle.lzk_circuit.specs.Sums.{sum_list}
use Rattle.lzk_sumcheck_rounds.specs.declared.pairs.Pair.{Pair}
use Rattle.lzk_sumcheck_rounds.specs.declared.curve.RoundSums.{RoundSums}
use Rattle.lzk_sumcheck_rounds.specs.Pairs.{spread}
use Rattle.lzk_sumcheck.specs.States.{State}

-- What the coefficients of wire 0 count for at i and j, which are a and b, or b and a. A factor of all of them is kept
-- apart: it has the bound variables of a.
abbrev pub linear_at : {A : Type 0} → Ops A → Bool → A → List A → ℕ → ℕ → A
linear_at o of_a scale linear i j =
    cond of_a (cond (i == 0) (o.times scale (entry o linear j)) o.zero)
    (cond (j == 0) (o.times scale (entry o linear i)) o.zero)

-- what pairs and a list of coefficients of wire 0 count for at a and b, with nothing bound
abbrev pub counted : {A : Type 0} → Ops A → List (Pair A) → List A → ℕ → ℕ → A
counted o ps linear a b = o.plus (spread o ps a b) (linear_at o true o.one linear a b)

-- what is kept of a state with 2^j and 2^k numbers: pairs and a list that count for its coefficients, and its two
-- tables
pub record IsKept {A : Type 0} (o : Ops A) (j k : ℕ) (st : State A) (of_a : Bool) (ps : List (Pair A)) (scale : A)
    (linear first second : List A) : Type 0 where
  pub n_is : st.n ≡ 2 ^ j
  pub m_is : st.m ≡ 2 ^ k
  pub q_is : (a b : ℕ) → st.q a b ≡ o.plus (spread o ps a b) (linear_at o of_a scale linear a b)
  pub f_is : (i : ℕ) → st.f i ≡ entry o first i
  pub h_is : (i : ℕ) → st.h i ≡ entry o second i

-- what the pairs of a number come to with the second table
abbrev pub pairs_row : {A : Type 0} → Ops A → List (Pair A) → List A → ℕ → A
pairs_row o ps second i = sum_list o ps (λ p. cond (i == p.a) (o.times p.coef (entry o second p.b)) o.zero)

-- what the coefficients of wire 0 come to
abbrev pub linear_row : {A : Type 0} → Ops A → Bool → A → List A → List A → ℕ → A
linear_row o of_a scale linear second i =
    cond of_a (cond (i == 0) (o.times scale (dot_product o linear second)) o.zero)
    (o.times (o.times scale (entry o second 0)) (entry o linear i))

-- both
abbrev pub row_at : {A : Type 0} → Ops A → Bool → List (Pair A) → A → List A → List A → ℕ → A
row_at o of_a ps scale linear second i = o.plus (linear_row o of_a scale linear second i) (pairs_row o ps second i)

-- a round's value at t
abbrev pub round_at : {A : Type 0} → Ops A → RoundSums A → A → A
round_at o s t =
    o.plus s.even (o.times t (o.plus (minus o (minus o (minus o s.all s.even) s.even) s.lead) (o.times t s.lead)))
