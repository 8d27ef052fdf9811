-- Numbers that tell questions apart.
use Rattle.std.specs.Prelude.{◌≡◌, ℕ, ◌+◌, ◌*◌, ◌≤◌, List, [], ◌∷◌}
use Rattle.std.proofs.Common.{zero, suc, refl, ap, ◌∙◌, arith}
use Rattle.lzk_soundness.specs.Rounds.Steps.{Step}
use Rattle.lzk_soundness.specs.Rounds.Steps.Step.{head, round}
use Rattle.lzk_soundness.specs.Ligero.States.{Answers}
use Rattle.lzk_soundness.specs.Forger.Questions.{Start, Question}
use Rattle.lzk_soundness.specs.Forger.Questions.Question.{sent, answered}
use Rattle.lzk_soundness.specs.Forged.Laws.{Numbering}

-- one number for two: 2 ^ a * (2 * b + 1)
pair : ℕ → ℕ → ℕ
pair zero b = 2 * b + 1
pair (suc a) b = 2 * pair a b

pair_some : (a b : ℕ) → 1 ≤ pair a b
unfolding pair
pair_some zero b = omega arith
pair_some (suc a) b = omega (arith, pair_some a b)

pair_same : (a b c d : ℕ) → pair a b ≡ pair c d → (a ≡ c) × (b ≡ d)
unfolding pair
pair_same zero b zero d e = (refl, omega (arith, e))
pair_same zero b (suc c) d e = absurd (omega (arith, e))
pair_same (suc a) b zero d e = absurd (omega (arith, e))
pair_same (suc a) b (suc c) d e = let rest = pair_same a b c d (omega (arith, e)) in (ap suc rest.0, rest.1)

module _ {A : Type 0} (number : A → ℕ) (one : (x y : A) → number x ≡ number y → x ≡ y) where
  of_list : List A → ℕ
  of_list [] = 0
  of_list (x ∷ xs) = pair (number x) (of_list xs)

  list_same : (xs ys : List A) → of_list xs ≡ of_list ys → xs ≡ ys
  unfolding of_list
  list_same [] [] e = refl
  list_same [] (y ∷ ys) e = absurd (omega (arith, e, pair_some (number y) (of_list ys)))
  list_same (x ∷ xs) [] e = absurd (omega (arith, e, pair_some (number x) (of_list xs)))
  list_same (x ∷ xs) (y ∷ ys) e =
      let both = pair_same (number x) (of_list xs) (number y) (of_list ys) e in
      ap (λ z. z ∷ xs) (one x y both.0) ∙ ap (λ zs. y ∷ zs) (list_same xs ys both.1)

of_step : Step → ℕ
of_step (head l) = pair 0 l
of_step (round l n) = pair 1 (pair l n)

step_same : (s t : Step) → of_step s ≡ of_step t → s ≡ t
unfolding of_step
step_same (head k) (head l) e = ap head (pair_same 0 k 0 l e).1
step_same (head k) (round l n) e = (let z : 0 ≡ 1 = (pair_same 0 k 1 (pair l n) e).0 in absurd (omega (arith, z)))
step_same (round k m) (head l) e = (let z : 1 ≡ 0 = (pair_same 1 (pair k m) 0 l e).0 in absurd (omega (arith, z)))
step_same (round k m) (round l n) e =
    let both = pair_same k m l n (pair_same 1 (pair k m) 1 (pair l n) e).1 in
    ap (λ i. round i m) both.0 ∙ ap (round l) both.1

module _ {A : Type 0} (number : A → ℕ) (one : (x y : A) → number x ≡ number y → x ≡ y) where
  abbrev L : List A → ℕ
  L = of_list number one

  abbrev S : List ℕ → ℕ
  S = of_list (λ n. n) (λ m n e. e)

  abbrev make : List ℕ → List A → List A → Start A
  make a b c = record { session = a; public = b; table = c }

  of_start : Start A → ℕ
  of_start s = pair (S s.session) (pair (L s.public) (L s.table))

  start_same : (s t : Start A) → of_start s ≡ of_start t → s ≡ t
  unfolding of_start
  start_same s t e =
      let first = pair_same (S s.session) (pair (L s.public) (L s.table)) (S t.session) (pair (L t.public) (L t.table)) e in
      let second = pair_same (L s.public) (L s.table) (L t.public) (L t.table) first.1 in
      ap (λ a. make a s.public s.table) (list_same (λ n. n) (λ m n e. e) s.session t.session first.0)
      ∙ ap (λ b. make t.session b s.table) (list_same number one s.public t.public second.0)
      ∙ ap (make t.session t.public) (list_same number one s.table t.table second.1)

  abbrev four : List A → List A → List A → List A → Answers A
  four a b c d = record { ldt = a; dot = b; quad_head = c; quad_tail = d }

  of_answers : Answers A → ℕ
  of_answers a = pair (L a.ldt) (pair (L a.dot) (pair (L a.quad_head) (L a.quad_tail)))

  answers_same : (a b : Answers A) → of_answers a ≡ of_answers b → a ≡ b
  unfolding of_answers
  answers_same a b e =
      let x = pair_same (L a.ldt) (pair (L a.dot) (pair (L a.quad_head) (L a.quad_tail))) (L b.ldt) (pair (L b.dot) (pair (L b.quad_head) (L b.quad_tail))) e in
      let y = pair_same (L a.dot) (pair (L a.quad_head) (L a.quad_tail)) (L b.dot) (pair (L b.quad_head) (L b.quad_tail)) x.1 in
      let z = pair_same (L a.quad_head) (L a.quad_tail) (L b.quad_head) (L b.quad_tail) y.1 in
      ap (λ i. four i a.dot a.quad_head a.quad_tail) (list_same number one a.ldt b.ldt x.0)
      ∙ ap (λ i. four b.ldt i a.quad_head a.quad_tail) (list_same number one a.dot b.dot y.0)
      ∙ ap (λ i. four b.ldt b.dot i a.quad_tail) (list_same number one a.quad_head b.quad_head z.0)
      ∙ ap (four b.ldt b.dot b.quad_head) (list_same number one a.quad_tail b.quad_tail z.1)

  of_question : Question A → ℕ
  of_question (sent s step xs) = pair 0 (pair (of_start s) (pair (of_step step) (L xs)))
  of_question (answered s xs a) = pair 1 (pair (of_start s) (pair (L xs) (of_answers a)))

  question_same : (p q : Question A) → of_question p ≡ of_question q → p ≡ q
  unfolding of_question
  question_same (sent s i xs) (sent t j ys) e =
      let x = pair_same 0 (pair (of_start s) (pair (of_step i) (L xs))) 0 (pair (of_start t) (pair (of_step j) (L ys))) e in
      let y = pair_same (of_start s) (pair (of_step i) (L xs)) (of_start t) (pair (of_step j) (L ys)) x.1 in
      let z = pair_same (of_step i) (L xs) (of_step j) (L ys) y.1 in
      ap (λ u. sent u i xs) (start_same s t y.0) ∙ ap (λ u. sent t u xs) (step_same i j z.0) ∙ ap (sent t j) (list_same number one xs ys z.1)
  question_same (sent s i xs) (answered t ys b) e =
      (let z : 0 ≡ 1 = (pair_same 0 (pair (of_start s) (pair (of_step i) (L xs))) 1 (pair (of_start t) (pair (L ys) (of_answers b))) e).0 in absurd (omega (arith, z)))
  question_same (answered s xs a) (sent t j ys) e =
      (let z : 1 ≡ 0 = (pair_same 1 (pair (of_start s) (pair (L xs) (of_answers a))) 0 (pair (of_start t) (pair (of_step j) (L ys))) e).0 in absurd (omega (arith, z)))
  question_same (answered s xs a) (answered t ys b) e =
      let x = pair_same 1 (pair (of_start s) (pair (L xs) (of_answers a))) 1 (pair (of_start t) (pair (L ys) (of_answers b))) e in
      let y = pair_same (of_start s) (pair (L xs) (of_answers a)) (of_start t) (pair (L ys) (of_answers b)) x.1 in
      let z = pair_same (L xs) (of_answers a) (L ys) (of_answers b) y.1 in
      ap (λ u. answered u xs a) (start_same s t y.0) ∙ ap (λ u. answered t u a) (list_same number one xs ys z.0) ∙ ap (answered t ys) (answers_same a b z.1)

  pub numbering : Numbering A
  numbering = record { code = of_question; apart = λ c p q formed also same. question_same p q same }
