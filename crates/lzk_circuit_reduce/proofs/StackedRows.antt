-- Rows as the wires of a layer, and rows of which each is there once.
use Rattle.std.specs.Prelude.{◌≡◌, ◌≢◌, ℕ, ◌+◌, ◌<◌, ◌≤◌, None, List, [], ◌∷◌, ◌++◌, length, map}
use Rattle.std.proofs.Common.{zero, suc, ◌⊎◌, inl, inr, refl, sym, ap, ap₂, ◌∙◌, subst, arith, get_or, Bool, true, false, eqb, append_assoc}
use Rattle.std.proofs.lemmas.Bool.{cases_lt, eqb-true, eqb-false}
use Rattle.std.proofs.lemmas.List.{length-append, length-map, append-nil, get_or_append_left}
use Rattle.std.proofs.Math.Seq.{get_or-append_seam}
use Rattle.lzk_field.specs.Ring.{Ops, NumberLaws}
use Rattle.lzk_circuit.specs.declared.layer.Term.{Term}
use Rattle.lzk_circuit.specs.Valid.{AreTerms}
use Rattle.lzk_circuit_reduce.specs.Rows.{IsRow, placed}
use Rattle.lzk_circuit_reduce.specs.Renumbering.{at, of_wire, AreNumbersBelow}
use Rattle.lzk_circuit_reduce.proofs.AppendLaws.{stacked-terms}
use Rattle.lzk_circuit_reduce.proofs.KeptLaws.{own-before, own-added, numbers-exact}

module _ {X : Type 0} (d : X) where
  pub more-before : (xs : List X) (x : X) (k : ℕ) → k < length xs → get_or (xs ++ x ∷ []) k d ≡ get_or xs k d
  more-before xs x k l = get_or_append_left xs (x ∷ []) d k l

  pub more-last : (xs : List X) (x : X) (k : ℕ) → k ≡ length xs → get_or (xs ++ x ∷ []) k d ≡ x
  more-last xs x k e = ap (λ i. get_or (xs ++ x ∷ []) i d) e ∙ get_or-append_seam xs x [] d

  -- what holds of each holds with one more of which it holds
  pub each-more : (P : ℕ → X → Type 0) (xs : List X) (x : X) → ((k : ℕ) → k < length xs → P k (get_or xs k d)) → P (length xs) x → (k : ℕ) → k < length (xs ++ x ∷ []) → P k (get_or (xs ++ x ∷ []) k d)
  each-more P xs x f last k l = elim (cases_lt k (length xs)) [
    | inl m ↦ subst (P k) (sym (more-before xs x k m)) (f k m)
    | inr m ↦
        let e : k ≡ length xs = omega (arith, l, m, length-append xs (x ∷ [])) in
        subst (λ i. P i (get_or (xs ++ x ∷ []) k d)) (sym e) (subst (P (length xs)) (sym (more-last xs x k e)) last)
  ]

module _ {A : Type 0} where
  abbrev pub row_at : List (List (Term A)) → ℕ → List (Term A)
  row_at rows k = get_or rows k []

  -- how many terms they have together
  abbrev pub term_total : List (List (Term A)) → ℕ
  term_total [] = 0
  term_total (row ∷ rows) = length row + term_total rows

  pub total-more : (rows : List (List (Term A))) (row : List (Term A)) → term_total (rows ++ row ∷ []) ≡ term_total rows + length row
  total-more [] row = omega arith
  total-more (x ∷ rows) row = omega (arith, total-more rows row)

module _ {A : Type 0} (o : Ops A) where
  abbrev pub AreRowsOver : ℕ → List (List (Term A)) → Type 0
  AreRowsOver width rows = (k : ℕ) → k < length rows → IsRow o width (row_at rows k)

  rows-front : (width : ℕ) (rows : List (List (Term A))) (row : List (Term A)) → AreRowsOver width (rows ++ row ∷ []) → AreRowsOver width rows
  rows-front width rows row h k l = subst (IsRow o width) (more-before [] rows row k l) (h k (omega (arith, l, length-append rows (row ∷ []))))

  rows-last : (width : ℕ) (rows : List (List (Term A))) (row : List (Term A)) → AreRowsOver width (rows ++ row ∷ []) → IsRow o width row
  rows-last width rows row h = subst (IsRow o width) (more-last [] rows row (length rows) refl) (h (length rows) (omega (arith, length-append rows (row ∷ []))))

  -- terms that are those of the rows, each as a wire of its own
  pub record AreStacked (rows : List (List (Term A))) (terms : List (Term A)) : Type 0 where
    pub terms_are : (width : ℕ) → AreRowsOver width rows → AreTerms o (length rows) width None terms
    pub own : (width : ℕ) → AreRowsOver width rows → (k : ℕ) → k < length rows → of_wire k terms ≡ map (placed k) (row_at rows k)
    pub count : length terms ≡ term_total rows

  stacked-more : (rows : List (List (Term A))) (terms row : List (Term A)) → AreStacked rows terms → AreStacked (rows ++ row ∷ []) (terms ++ map (placed (length rows)) row)
  stacked-more rows terms row s =
      let n = length rows in
      let longer : n + 1 ≡ length (rows ++ row ∷ []) = sym (length-append rows (row ∷ [])) in
      let all = terms ++ map (placed n) row in
      record {
        terms_are = λ width h. subst (λ k. AreTerms o k width None all) longer (stacked-terms o n width terms row (s.terms_are width (rows-front width rows row h)) (rows-last width rows row h));
        own = λ width h.
            let front = rows-front width rows row h in
            each-more [] (λ k us. of_wire k all ≡ map (placed k) us) rows row (λ k l. own-before n k terms row l ∙ s.own width front k l) (own-added o n width None terms row (s.terms_are width front));
        count = length-append terms (map (placed n) row) ∙ omega (arith, s.count, length-map row (placed n), total-more rows row);
      }

  stacked-from : (rows done : List (List (Term A))) (terms : List (Term A)) → AreStacked done terms → (all : List (Term A)) × AreStacked (done ++ rows) all
  stacked-from [] done terms s = (terms, subst (λ rs. AreStacked rs terms) (sym (append-nil done)) s)
  stacked-from (row ∷ rows) done terms s =
      let (all, is) = stacked-from rows (done ++ row ∷ []) (terms ++ map (placed (length done)) row) (stacked-more done terms row s) in
      (all, subst (λ rs. AreStacked rs all) (append_assoc done (row ∷ []) rows) is)

  pub stacked : (rows : List (List (Term A))) → (all : List (Term A)) × AreStacked rows all
  stacked rows = stacked-from rows [] [] (record { terms_are = λ width h. tt; own = λ width h k l. absurd (omega (arith, l)); count = refl })

-- ---- each row once

nat_same : (m n : ℕ) → (m ≡ n) ⊎ (m ≢ n)
nat_same m n = go (eqb m n) refl
  where
    go : (b : Bool) → eqb m n ≡ b → (m ≡ n) ⊎ (m ≢ n)
    go true e = inl (eqb-true m n e)
    go false e = inr (eqb-false m n e)

-- a row is the same as another or is not
abbrev pub SameOrNot : Type 0 → Type 0
SameOrNot A = (x y : List (Term A)) → (x ≡ y) ⊎ (x ≢ y)

module _ {A : Type 0} (o : Ops A) (size : ℕ) (number_of : A → ℕ) (element : ℕ → A) (bytes : ℕ) (laws : NumberLaws o size number_of element bytes) where
  term_of : ℕ → ℕ → ℕ → A → Term A
  term_of g a b c = record { g = g; a = a; b = b; coef = c }

  coef_same : (x y : A) → (x ≡ y) ⊎ (x ≢ y)
  coef_same x y = elim (nat_same (number_of x) (number_of y)) [
    | inl e ↦ inl (numbers-exact o size number_of element bytes laws x y e)
    | inr ne ↦ inr (λ e. ne (ap number_of e))
  ]

  term_same : (t u : Term A) → (t ≡ u) ⊎ (t ≢ u)
  unfolding term_of
  term_same t u = elim (nat_same t.g u.g) [
    | inr ne ↦ inr (λ e. ne (ap (λ (x : Term A). x.g) e))
    | inl eg ↦ elim (nat_same t.a u.a) [
      | inr ne ↦ inr (λ e. ne (ap (λ (x : Term A). x.a) e))
      | inl ea ↦ elim (nat_same t.b u.b) [
        | inr ne ↦ inr (λ e. ne (ap (λ (x : Term A). x.b) e))
        | inl eb ↦ elim (coef_same t.coef u.coef) [
          | inr ne ↦ inr (λ e. ne (ap (λ (x : Term A). x.coef) e))
          | inl ec ↦ inl (ap (λ x. term_of x t.a t.b t.coef) eg ∙ ap (λ x. term_of u.g x t.b t.coef) ea ∙ ap (λ x. term_of u.g u.a x t.coef) eb ∙ ap (λ x. term_of u.g u.a u.b x) ec)
        ]
      ]
    ]
  ]

  pub row_same : SameOrNot A
  row_same [] [] = inl refl
  row_same [] (u ∷ us) = inr (λ e. absurd cc)
  row_same (t ∷ ts) [] = inr (λ e. absurd cc)
  row_same (t ∷ ts) (u ∷ us) = elim (term_same t u) [
    | inr ne ↦ inr (λ e. let first : t ≡ u = cc in ne first)
    | inl e ↦ elim (row_same ts us) [
      | inr ne ↦ inr (λ f. let rest : ts ≡ us = cc in ne rest)
      | inl f ↦ inl (ap₂ (λ (x : Term A) (xs : List (Term A)). x ∷ xs) e f)
    ]
  ]

module _ {A : Type 0} where
  found-in : SameOrNot A → (row : List (Term A)) (ks : List (List (Term A))) → ((k : ℕ) × (k < length ks) × (row_at ks k ≡ row)) ⊎ ((k : ℕ) → k < length ks → row_at ks k ≢ row)
  found-in same row [] = inr (λ k l. absurd (omega (arith, l)))
  found-in same row (x ∷ ks) = elim (same x row) [
    | inl e ↦ inl (0, omega arith, e)
    | inr ne ↦ behind ne (found-in same row ks)
  ]
    where
      none : x ≢ row → ((k : ℕ) → k < length ks → row_at ks k ≢ row) → (k : ℕ) → k < length (x ∷ ks) → row_at (x ∷ ks) k ≢ row
      none ne f zero l = ne
      none ne f (suc k) l = f k (omega (arith, l))

      behind : x ≢ row → ((k : ℕ) × (k < length ks) × (row_at ks k ≡ row)) ⊎ ((k : ℕ) → k < length ks → row_at ks k ≢ row)
          → ((k : ℕ) × (k < length (x ∷ ks)) × (row_at (x ∷ ks) k ≡ row)) ⊎ ((k : ℕ) → k < length (x ∷ ks) → row_at (x ∷ ks) k ≢ row)
      behind ne (inl (k, l, e)) = inl (suc k, omega (arith, l), e)
      behind ne (inr f) = inr (none ne f)

  -- rows with each of them once, and where each stands there
  pub record AreOnce (rows ks : List (List (Term A))) (numbers : List ℕ) : Type 0 where
    pub count : length numbers ≡ length rows
    pub below : AreNumbersBelow (length ks) numbers
    pub first : at numbers 0 ≡ 0
    pub same : (i : ℕ) → i < length rows → row_at ks (at numbers i) ≡ row_at rows i
    pub different : (g h : ℕ) → g < h → h < length ks → row_at ks g ≢ row_at ks h
    pub from : (k : ℕ) → k < length ks → (i : ℕ) × (i < length rows) × (row_at ks k ≡ row_at rows i)
    pub fewer : length ks ≤ length rows
    pub short : term_total ks ≤ term_total rows

  row-there : (rows ks : List (List (Term A))) (numbers : List ℕ) (row : List (Term A)) (k : ℕ) → k < length ks → row_at ks k ≡ row → AreOnce rows ks numbers → AreOnce (rows ++ row ∷ []) ks (numbers ++ k ∷ [])
  row-there rows ks numbers row k l e s =
      let longer : length (rows ++ row ∷ []) ≡ length rows + 1 = length-append rows (row ∷ []) in
      record {
        count = length-append numbers (k ∷ []) ∙ omega (arith, s.count, longer);
        below = each-more 0 (λ i n. n < length ks) numbers k s.below l;
        first = elim (cases_lt 0 (length numbers)) [
          | inl m ↦ more-before 0 numbers k 0 m ∙ s.first
          | inr m ↦ absurd (omega (arith, m, s.count, s.fewer, l))
        ];
        same = each-more [] (λ i us. row_at ks (at (numbers ++ k ∷ []) i) ≡ us) rows row (λ i m. ap (row_at ks) (more-before 0 numbers k i (omega (arith, m, s.count))) ∙ s.same i m) (ap (row_at ks) (more-last 0 numbers k (length rows) (sym s.count)) ∙ e);
        different = s.different;
        from = λ j m. let (i, within, is) = s.from j m in (i, omega (arith, within, longer), is ∙ sym (more-before [] rows row i within));
        fewer = omega (arith, s.fewer, longer);
        short = omega (arith, s.short, total-more rows row);
      }

  row-new : (rows ks : List (List (Term A))) (numbers : List ℕ) (row : List (Term A)) → ((k : ℕ) → k < length ks → row_at ks k ≢ row) → AreOnce rows ks numbers → AreOnce (rows ++ row ∷ []) (ks ++ row ∷ []) (numbers ++ length ks ∷ [])
  row-new rows ks numbers row new s =
      let n = length ks in
      let longer : length (rows ++ row ∷ []) ≡ length rows + 1 = length-append rows (row ∷ []) in
      let wider : length (ks ++ row ∷ []) ≡ n + 1 = length-append ks (row ∷ []) in
      let more = numbers ++ n ∷ [] in
      record {
        count = length-append numbers (n ∷ []) ∙ omega (arith, s.count, longer);
        below = each-more 0 (λ i k. k < length (ks ++ row ∷ [])) numbers n (λ i l. omega (arith, s.below i l, wider)) (omega (arith, wider));
        first = elim (cases_lt 0 (length numbers)) [
          | inl m ↦ more-before 0 numbers n 0 m ∙ s.first
          | inr m ↦ more-last 0 numbers n 0 (omega (arith, m)) ∙ omega (arith, m, s.count, s.fewer)
        ];
        same = each-more [] (λ i us. row_at (ks ++ row ∷ []) (at more i) ≡ us) rows row
            (λ i m. let k = s.below i (omega (arith, m, s.count)) in ap (row_at (ks ++ row ∷ [])) (more-before 0 numbers n i (omega (arith, m, s.count))) ∙ more-before [] ks row (at numbers i) k ∙ s.same i m)
            (ap (row_at (ks ++ row ∷ [])) (more-last 0 numbers n (length rows) (sym s.count)) ∙ more-last [] ks row n refl);
        different = λ g h l m e. elim (cases_lt h n) [
          | inl under ↦ s.different g h l under (sym (more-before [] ks row g (omega (arith, l, under))) ∙ e ∙ more-before [] ks row h under)
          | inr top ↦ new g (omega (arith, l, m, wider)) (sym (more-before [] ks row g (omega (arith, l, m, wider))) ∙ e ∙ more-last [] ks row h (omega (arith, top, m, wider)))
        ];
        from = each-more [] (λ k us. (i : ℕ) × (i < length (rows ++ row ∷ [])) × (us ≡ row_at (rows ++ row ∷ []) i)) ks row
            (λ j m. let (i, within, is) = s.from j m in (i, omega (arith, within, longer), is ∙ sym (more-before [] rows row i within)))
            (length rows, omega (arith, longer), sym (more-last [] rows row (length rows) refl));
        fewer = omega (arith, s.fewer, longer, wider);
        short = omega (arith, s.short, total-more rows row, total-more ks row);
      }

  pub record Once (rows : List (List (Term A))) : Type 0 where
    pub kept : List (List (Term A))
    pub numbers : List ℕ
    pub are : AreOnce rows kept numbers

  once-from : SameOrNot A → (rows done : List (List (Term A))) → Once done → Once (done ++ rows)
  once-from same [] done o = subst Once (sym (append-nil done)) o
  once-from same (row ∷ rows) done o = subst Once (append_assoc done (row ∷ []) rows) (once-from same rows (done ++ row ∷ []) (next (found-in same row o.kept)))
    where
      next : ((k : ℕ) × (k < length o.kept) × (row_at o.kept k ≡ row)) ⊎ ((k : ℕ) → k < length o.kept → row_at o.kept k ≢ row) → Once (done ++ row ∷ [])
      next (inl (k, l, e)) = record { kept = o.kept; numbers = o.numbers ++ k ∷ []; are = row-there done o.kept o.numbers row k l e o.are }
      next (inr new) = record { kept = o.kept ++ row ∷ []; numbers = o.numbers ++ length o.kept ∷ []; are = row-new done o.kept o.numbers row new o.are }

  pub once : SameOrNot A → (rows : List (List (Term A))) → Once rows
  once same rows = once-from same rows [] (record {
    kept = [];
    numbers = [];
    are = record {
      count = refl;
      below = λ k l. absurd (omega (arith, l));
      first = refl;
      same = λ i l. absurd (omega (arith, l));
      different = λ g h l m. absurd (omega (arith, m));
      from = λ k l. absurd (omega (arith, l));
      fewer = omega arith;
      short = omega arith;
    };
  })
