-- What reading a term, a layer and a constant gives, step by step.
use Rattle.std.proofs.Common.{min, leb, map, zero, suc, [], ◌∷◌, get_or, ◌≡◌, ℕ, ◌+◌, ◌-◌, ◌<◌, ◌≤◌, Bool, true, false, cond, ltb, ◌&&◌, List, length, take, drop, Option, Result, Ok, Err, refl, sym, ap, subst, ◌∙◌, arith, slice_index}
use Rattle.std.specs.Result.{IfOk, IsErrAnd}
use Rattle.std.proofs.lemmas.Bool.{le-ltb, lt-ltb}
use Rattle.std.proofs.lemmas.Bool.Decides.{nat_tests}
use Rattle.lzk_field.specs.Bytes.{number_from}
use Rattle.lzk_circuit.specs.declared.layer.Term.{Term}
use Rattle.lzk_circuit.specs.declared.layer.Layer.{Layer}
use Rattle.lzk_circuit.specs.Valid.{Under}
use Rattle.lzk_circuit.specs.Limits.{most_wires, most_total}
use Rattle.lzk_circuit.specs.Faults.{are_apart}
use Rattle.lzk_circbytes.specs.declared.fault.ByteKind.TheVariants.{Truncated, Limit, Order, Constant, Assertion}
use Rattle.lzk_circbytes.specs.declared.fault.ReadError.{ReadError}
use Rattle.lzk_circbytes.specs.declared.fault.ReadError.TheVariants.{Stops, OutOfMemory}
use Rattle.lzk_circbytes.specs.Numbered.{Shape}
use Rattle.lzk_circbytes.specs.Reading.{Stop, ◌>>=◌, must, stops, word_at, limited_at, stands_behind, wire_before, step_at, term_at, terms_at, layer_at, constant_at}
use Rattle.lzk_circbytes.specs.Answers.{Fails}

-- a reader that failed has nothing to say of what it read
pub not_if_ok : {T E : Type 0} (P : T → Type 0) (r : Result T E) (Q : E → Type 0) → IsErrAnd r Q → IfOk r P
not_if_ok P (Ok x) Q h = absurd h
not_if_ok P (Err e) Q h = tt

-- the number of the element that stands there
pub number_at : {A : Type 0} (number : A → ℕ) (xs : List A) (k : ℕ) (d : A) → k < length xs → number (get_or xs k d) ≡ slice_index (map number xs) k
number_at number [] k d lt = absurd (omega arith)
number_at number (y ∷ ys) zero d lt = refl
number_at number (y ∷ ys) (suc k) d lt = number_at number ys k d (omega arith)

-- ---- a term

module _ (coefs : List ℕ) (wires below : ℕ) (before : Option (Term ℕ)) (bytes : List ℕ) where
  pub g_fails : (e : ReadError) → Fails e (step_at (wire_before before) wires bytes) → Fails e (term_at coefs wires below before bytes)
  unfolding term_at
  g_fails OutOfMemory h = tt
  g_fails (Stops left kind) h = rw h refl

  module _ (g : ℕ) (at_a : List ℕ) (g_read : step_at (wire_before before) wires bytes ≡ Ok (g, at_a)) where
    pub a_fails : (e : ReadError) → Fails e (step_at 0 below at_a) → Fails e (term_at coefs wires below before bytes)
    unfolding term_at
    a_fails OutOfMemory h = tt
    a_fails (Stops left kind) h = rw (g_read, h) refl

    module _ (a : ℕ) (at_b : List ℕ) (a_read : step_at 0 below at_a ≡ Ok (a, at_b)) where
      pub b_fails : (e : ReadError) → Fails e (step_at a below at_b) → Fails e (term_at coefs wires below before bytes)
      unfolding term_at
      b_fails OutOfMemory h = tt
      b_fails (Stops left kind) h = rw (g_read, a_read, h) refl

      module _ (b : ℕ) (at_coef : List ℕ) (b_read : step_at a below at_b ≡ Ok (b, at_coef)) where
        pub not_behind : stands_behind before g a b ≡ false → term_at coefs wires below before bytes ≡ stops Order at_b
        unfolding term_at
        not_behind e = rw (g_read, a_read, b_read, e) refl

        module _ (is_behind : stands_behind before g a b ≡ true) where
          pub k_fails : (e : ReadError) → Fails e (step_at 0 (length coefs) at_coef) → Fails e (term_at coefs wires below before bytes)
          unfolding term_at
          k_fails OutOfMemory h = tt
          k_fails (Stops left kind) h = rw (g_read, a_read, b_read, is_behind, h) refl

          module _ (k : ℕ) (rest : List ℕ) (k_read : step_at 0 (length coefs) at_coef ≡ Ok (k, rest)) (coef : ℕ) (coef_is : coef ≡ slice_index coefs k) where
            pub not_apart : are_apart (λ n. n) before (record { g = g; a = a; b = b; coef = coef }) ≡ false → term_at coefs wires below before bytes ≡ stops Assertion at_coef
            unfolding term_at
            not_apart e =
                let apart : are_apart (λ n. n) before (record { g = g; a = a; b = b; coef = slice_index coefs k }) ≡ false = subst (λ (n : ℕ). are_apart (λ n. n) before (record { g = g; a = a; b = b; coef = n }) ≡ false) coef_is e in
                rw (g_read, a_read, b_read, is_behind, k_read, apart) refl

            pub term_read : are_apart (λ n. n) before (record { g = g; a = a; b = b; coef = coef }) ≡ true → term_at coefs wires below before bytes ≡ Ok (record { g = g; a = a; b = b; coef = coef }, rest)
            unfolding term_at
            term_read e =
                let apart : are_apart (λ n. n) before (record { g = g; a = a; b = b; coef = slice_index coefs k }) ≡ true = subst (λ (n : ℕ). are_apart (λ n. n) before (record { g = g; a = a; b = b; coef = n }) ≡ true) coef_is e in
                rw (g_read, a_read, b_read, is_behind, k_read, apart, coef_is) refl

-- ---- a constant

pub constant_short : (s : Shape) (before : ℕ) (bytes : List ℕ) → length bytes < s.bytes → constant_at s before bytes ≡ stops Truncated bytes
unfolding constant_at
constant_short s before bytes lt = let short : ltb (length bytes) s.bytes ≡ true = lt-ltb _ _ lt in rw short refl

module _ (s : Shape) (before : ℕ) (bytes front : List ℕ) (n : ℕ) (same : n ≡ s.bytes) (long : n ≤ length bytes) (cut : front ≡ take n bytes) where
  cut_is : front ≡ take s.bytes bytes
  cut_is = cut ∙ ap (λ (k : ℕ). take k bytes) same

  whole : ltb (length bytes) s.bytes ≡ false
  whole = le-ltb _ _ (omega (arith, same, long))

  pub constant_read : (rest : List ℕ) (c : ℕ) → rest ≡ drop n bytes → c ≡ number_from front → c < s.size → before < c → constant_at s before bytes ≡ Ok (c, rest)
  unfolding constant_at
  constant_read rest c others is below above =
      let c_is : number_from (take s.bytes bytes) ≡ c = ap number_from (sym cut_is) ∙ sym is in
      let rest_is : drop s.bytes bytes ≡ rest = sym (others ∙ ap (λ (k : ℕ). drop k bytes) same) in
      let up : ltb before c ≡ true = lt-ltb _ _ above in
      let less : ltb c s.size ≡ true = lt-ltb _ _ below in
      rw (whole, c_is, up, less, rest_is) refl

  -- a constant that does not rise
  pub constant_falls : (c : ℕ) → c ≡ number_from front → c ≤ before → constant_at s before bytes ≡ stops Constant bytes
  unfolding constant_at
  constant_falls c is low =
      let c_is : number_from (take s.bytes bytes) ≡ c = ap number_from (sym cut_is) ∙ sym is in
      let falls : ltb before c ≡ false = le-ltb _ _ low in
      rw (whole, c_is, falls) refl

  -- or that is no element's number
  pub constant_large : s.size ≤ number_from front → constant_at s before bytes ≡ stops Constant bytes
  unfolding constant_at
  constant_large large =
      let c_is : number_from (take s.bytes bytes) ≡ number_from front = ap number_from (sym cut_is) in
      let above : ltb (number_from front) s.size ≡ false = le-ltb _ _ large in
      rw (whole, c_is, above) (no_and (ltb before (number_from front)) bytes)
    where
      no_and : (b : Bool) (xs : List ℕ) → ◌≡◌ {A = Result (ℕ × List ℕ) _} (cond (b && false) (Ok (number_from front, drop s.bytes bytes)) (stops Constant xs)) (stops Constant xs)
      no_and true xs = refl
      no_and false xs = refl

-- ---- a layer

-- a word and a check of it are a word from low to high
pub checked : {X : Type 0} (low high : ℕ) (bytes : List ℕ) (test : ℕ → Bool) (then : ℕ × List ℕ → Result X Stop) → ((n : ℕ) → test n ≡ (leb low n && leb n high))
    → (word_at bytes >>= λ n. (must (test n.0) Limit bytes >>= λ _. then n)) ≡ (limited_at low high bytes >>= then)
unfolding limited_at
checked {X} low high bytes test then same = go (word_at bytes)
  where
    by_test : (b : Bool) (n : ℕ × List ℕ) → ◌≡◌ {A = Result X Stop} (must b Limit bytes >>= λ _. then n) (cond b (Ok n) (stops Limit bytes) >>= then)
    by_test true n = refl
    by_test false n = refl

    go : (r : Result (ℕ × List ℕ) Stop) → ◌≡◌ {A = Result X Stop} (r >>= λ n. (must (test n.0) Limit bytes >>= λ _. then n)) ((r >>= λ n. cond (leb low n.0 && leb n.0 high) (Ok n) (stops Limit bytes)) >>= then)
    go (Ok n) = rw (same n.0) (by_test (leb low n.0 && leb n.0 high) n)
    go (Err d) = refl

wires_same : (a b u n : ℕ) → u ≤ b → (leb 1 n && (leb n a && leb (u + n) b)) ≡ (leb 1 n && leb n (min a (b - u)))
wires_same a b u n le = grind (arith, nat_tests)

count_same : (b u n : ℕ) → u ≤ b → leb (u + n) b ≡ (leb 0 n && leb n (b - u))
count_same b u n le = grind (arith, nat_tests)

module _ (coefs : List ℕ) (u : Under) (bytes : List ℕ) (few_wires : u.wires ≤ most_total) (few_terms : u.terms ≤ most_total) (high : ℕ) (high_is : high ≡ min most_wires (most_total - u.wires)) where
  abbrev then_terms : ℕ → ℕ × List ℕ → Result (Layer ℕ × List ℕ) Stop
  then_terms wires count = terms_at coefs wires u.width count.0 count.1 >>= λ terms. Ok (record { wires = wires; terms = terms.0 }, terms.1)

  abbrev then_count : ℕ × List ℕ → Result (Layer ℕ × List ℕ) Stop
  then_count wires = word_at wires.1 >>= λ count. (must (leb (u.terms + count.0) most_total) Limit wires.1 >>= λ _. then_terms wires.0 count)

  layer_is : layer_at coefs u bytes ≡ (limited_at 1 high bytes >>= then_count)
  unfolding layer_at
  layer_is =
      checked 1 high bytes (λ n. leb 1 n && (leb n most_wires && leb (u.wires + n) most_total)) then_count
      (λ n. wires_same most_wires most_total u.wires n few_wires ∙ ap (λ (h : ℕ). leb 1 n && leb n h) (sym high_is))

  pub wires_fail : (e : ReadError) → Fails e (limited_at 1 high bytes) → Fails e (layer_at coefs u bytes)
  wires_fail OutOfMemory h = tt
  wires_fail (Stops left kind) h = layer_is ∙ ap (λ (r : Result (ℕ × List ℕ) Stop). r >>= then_count) h

  module _ (wires : ℕ) (at_count : List ℕ) (wires_read : limited_at 1 high bytes ≡ Ok (wires, at_count)) where
    then_is : layer_at coefs u bytes ≡ (limited_at 0 (most_total - u.terms) at_count >>= then_terms wires)
    then_is =
        layer_is ∙ ap (λ (r : Result (ℕ × List ℕ) Stop). r >>= then_count) wires_read
        ∙ checked 0 (most_total - u.terms) at_count (λ n. leb (u.terms + n) most_total) (then_terms wires) (λ n. count_same most_total u.terms n few_terms)

    pub count_fails : (e : ReadError) → Fails e (limited_at 0 (most_total - u.terms) at_count) → Fails e (layer_at coefs u bytes)
    count_fails OutOfMemory h = tt
    count_fails (Stops left kind) h = then_is ∙ ap (λ (r : Result (ℕ × List ℕ) Stop). r >>= then_terms wires) h

    module _ (count : ℕ) (rest : List ℕ) (count_read : limited_at 0 (most_total - u.terms) at_count ≡ Ok (count, rest)) where
      terms_is : layer_at coefs u bytes ≡ then_terms wires (count, rest)
      terms_is = then_is ∙ ap (λ (r : Result (ℕ × List ℕ) Stop). r >>= then_terms wires) count_read

      pub terms_fail : (e : ReadError) → Fails e (terms_at coefs wires u.width count rest) → Fails e (layer_at coefs u bytes)
      terms_fail OutOfMemory h = tt
      terms_fail (Stops left kind) h = terms_is ∙ rw h refl

      pub layer_read : (terms : List (Term ℕ)) (end : List ℕ) → terms_at coefs wires u.width count rest ≡ Ok (terms, end) → layer_at coefs u bytes ≡ Ok (record { wires = wires; terms = terms }, end)
      layer_read terms end e = terms_is ∙ rw e refl
