-- The sum of two rows, term by term.
use Rattle.std.specs.Prelude.{◌≡◌, ℕ, ◌+◌, ◌<◌, ◌≤◌, None, List, [], ◌∷◌, ◌++◌, ◌-◌, length, drop, take}
use Rattle.std.proofs.Common.{◌⊎◌, inl, inr, sym, ap, ◌∙◌, arith, subst, get_or}
use Rattle.std.proofs.lemmas.List.{drop_more, drop_all, take_all, length-append, length-drop, append-nil}
use Rattle.std.proofs.lemmas.List.Elements.{All-append, All-drop, All-push}
use Rattle.lzk_field.specs.Ring.{Ops, RingLaws}
use Rattle.lzk_field.specs.Sums.{entry}
use Rattle.lzk_field.proofs.RingBasics.{zero_plus, zero_times, plus_times, plus_swap}
use Rattle.lzk_circuit.specs.declared.layer.Term.{Term}
use Rattle.lzk_circuit_reduce.specs.Rows.{IsRow, IsUnder, AreUnder, row_value, term_value, added, IsNext}
use Rattle.lzk_circuit_reduce.proofs.RowLaws.{Merging, merge_left, merge_right, merge_none, merge_both, value-append, append-terms}

module _ {A : Type 0} (o : Ops A) where
  -- what the loop over two rows keeps
  pub record SoFar (left right sum : List (Term A)) (i j : ℕ) : Type 0 where
    pub left_part : i ≤ length left
    pub right_part : j ≤ length right
    pub row : (width : ℕ) → IsRow o width left → IsRow o width right → Merging o width sum (drop i left) (drop j right)
    pub value : (below : List A) → o.plus (row_value o below sum) (o.plus (row_value o below (drop i left)) (row_value o below (drop j right))) ≡ o.plus (row_value o below left) (row_value o below right)
    pub short : length sum ≤ i + j
    pub under : (ns : List ℕ) (d : ℕ) → AreUnder ns d left → AreUnder ns d right → AreUnder ns d sum

  -- one term of each row at most is taken
  pub taken-few : (x y : Term A) (old new : List (Term A)) (taken : ℕ × ℕ) → IsNext o x y old new taken → (taken.0 ≤ 1) × (taken.1 ≤ 1)
  taken-few x y old new taken (inl n) = (omega (arith, ap (λ p. p.0) n.2), omega (arith, ap (λ p. p.1) n.2))
  taken-few x y old new taken (inr (inl n)) = (omega (arith, ap (λ p. p.0) n.2), omega (arith, ap (λ p. p.1) n.2))
  taken-few x y old new taken (inr (inr n)) = (omega (arith, ap (λ p. p.0) n.2), omega (arith, ap (λ p. p.1) n.2))

  -- and at least one of both
  pub taken-some : (x y : Term A) (old new : List (Term A)) (taken : ℕ × ℕ) → IsNext o x y old new taken → 1 ≤ taken.0 + taken.1
  taken-some x y old new taken (inl n) = omega (arith, ap (λ p. p.0) n.2)
  taken-some x y old new taken (inr (inl n)) = omega (arith, ap (λ p. p.1) n.2)
  taken-some x y old new taken (inr (inr n)) = omega (arith, ap (λ p. p.0) n.2)

module _ {A : Type 0} (o : Ops A) (r : RingLaws o) where
  open o use {plus, times}

  pub merge-starts : (left right : List (Term A)) → SoFar o left right [] 0 0
  merge-starts left right = record {
    left_part = omega arith;
    right_part = omega arith;
    row = λ width h k. record { row = tt; left_after = h; right_after = k };
    value = λ below. zero_plus o r _;
    short = omega arith;
    under = λ ns d h k i t l. absurd (omega (arith, l));
  }

  one_more : (below : List A) (sum : List (Term A)) (t : Term A) → row_value o below (sum ++ t ∷ []) ≡ plus (row_value o below sum) (term_value o below t)
  one_more below sum t = value-append o r below sum (t ∷ []) ∙ ap (plus (row_value o below sum)) (r.plus_zero (term_value o below t))

  length-more : (sum : List (Term A)) (t : Term A) → length (sum ++ t ∷ []) ≡ length sum + 1
  length-more sum t = length-append sum (t ∷ [])

  from_left : (s x u v : A) → plus (plus s x) (plus u v) ≡ plus s (plus (plus x u) v)
  from_left s x u v = r.plus_assoc s x (plus u v) ∙ ap (plus s) (sym (r.plus_assoc x u v))

  from_right : (s y u v : A) → plus (plus s y) (plus u v) ≡ plus s (plus u (plus y v))
  from_right s y u v = r.plus_assoc s y (plus u v) ∙ ap (plus s) (sym (r.plus_assoc y u v) ∙ ap (λ w. plus w v) (r.plus_comm y u) ∙ r.plus_assoc u y v)

  from_both : (s x y u v : A) → plus (plus s (plus x y)) (plus u v) ≡ plus s (plus (plus x u) (plus y v))
  from_both s x y u v = r.plus_assoc s (plus x y) (plus u v) ∙ ap (plus s) (plus_swap o r x y u v)

  both_values : (below : List A) (x y : Term A) → x.a ≡ y.a → x.b ≡ y.b → plus (term_value o below x) (term_value o below y) ≡ times (plus x.coef y.coef) (times (entry o below x.a) (entry o below x.b))
  both_values below x y ea eb =
      ap (λ w. plus (term_value o below x) (times y.coef w)) (sym (ap (λ i. times (entry o below i) (entry o below x.b)) ea ∙ ap (λ i. times (entry o below y.a) (entry o below i)) eb))
      ∙ sym (plus_times o r x.coef y.coef (times (entry o below x.a) (entry o below x.b)))

  pub merge-step : (left right old new : List (Term A)) (x y : Term A) (taken : ℕ × ℕ) (i j : ℕ) → i < length left → j < length right → x ≡ get_or left i x → y ≡ get_or right j y
      → IsNext o x y old new taken → SoFar o left right old i j → SoFar o left right new (i + taken.0) (j + taken.1)
  merge-step left right old new x y taken i j li lj ex ey n s =
      let dl : drop i left ≡ x ∷ drop (i + 1) left = drop_more left i x li ∙ ap (λ t. t ∷ drop (i + 1) left) (sym ex) in
      let dr : drop j right ≡ y ∷ drop (j + 1) right = drop_more right j y lj ∙ ap (λ t. t ∷ drop (j + 1) right) (sym ey) in
      let m : (width : ℕ) → IsRow o width left → IsRow o width right → Merging o width old (x ∷ drop (i + 1) left) (y ∷ drop (j + 1) right) =
      λ width h k. subst (λ us. Merging o width old us (y ∷ drop (j + 1) right)) dl (subst (λ us. Merging o width old (drop i left) us) dr (s.row width h k)) in
      let v : (below : List A) → plus (row_value o below old) (plus (row_value o below (x ∷ drop (i + 1) left)) (row_value o below (y ∷ drop (j + 1) right))) ≡ plus (row_value o below left) (row_value o below right) =
      λ below. sym (ap (λ us. plus (row_value o below old) (plus (row_value o below us) (row_value o below (drop j right)))) dl ∙ ap (λ us. plus (row_value o below old) (plus (row_value o below (x ∷ drop (i + 1) left)) (row_value o below us))) dr) ∙ s.value below in
      let none_right : j ≡ j + 0 = omega arith in
      let none_left : i ≡ i + 0 = omega arith in
      elim n [
        | inl c ↦ subst (λ q. SoFar o left right new (i + q.0) (j + q.1)) (sym c.2) (subst (λ us. SoFar o left right us (i + 1) (j + 0)) (sym c.1) (subst (λ q. SoFar o left right (old ++ x ∷ []) (i + 1) q) none_right (record {
          left_part = omega arith;
          right_part = omega arith;
          row = λ width h k. subst (λ us. Merging o width (old ++ x ∷ []) (drop (i + 1) left) us) (sym dr) (merge_left o width old (drop (i + 1) left) (drop (j + 1) right) x y c.0 (m width h k));
          value = λ below. ap (λ w. plus w (plus (row_value o below (drop (i + 1) left)) (row_value o below (drop j right)))) (one_more below old x) ∙ from_left _ _ _ _ ∙ ap (λ us. plus (row_value o below old) (plus (row_value o below (x ∷ drop (i + 1) left)) (row_value o below us))) dr ∙ v below;
          short = omega (arith, length-more old x, s.short);
          under = λ ns d h k. All-push (IsUnder ns d) old x (s.under ns d h k) (subst (IsUnder ns d) (sym ex) (h i x li));
        })))
        | inr (inl c) ↦ subst (λ q. SoFar o left right new (i + q.0) (j + q.1)) (sym c.2) (subst (λ us. SoFar o left right us (i + 0) (j + 1)) (sym c.1) (subst (λ q. SoFar o left right (old ++ y ∷ []) q (j + 1)) none_left (record {
          left_part = omega arith;
          right_part = omega arith;
          row = λ width h k. subst (λ us. Merging o width (old ++ y ∷ []) us (drop (j + 1) right)) (sym dl) (merge_right o width old (drop (i + 1) left) (drop (j + 1) right) x y c.0 (m width h k));
          value = λ below. ap (λ w. plus w (plus (row_value o below (drop i left)) (row_value o below (drop (j + 1) right)))) (one_more below old y) ∙ from_right _ _ _ _ ∙ ap (λ us. plus (row_value o below old) (plus (row_value o below us) (row_value o below (y ∷ drop (j + 1) right)))) dl ∙ v below;
          short = omega (arith, length-more old y, s.short);
          under = λ ns d h k. All-push (IsUnder ns d) old y (s.under ns d h k) (subst (IsUnder ns d) (sym ey) (k j y lj));
        })))
        | inr (inr c) ↦ subst (λ q. SoFar o left right new (i + q.0) (j + q.1)) (sym c.2) (elim c.3 [
          | inl z ↦ subst (λ us. SoFar o left right us (i + 1) (j + 1)) (sym z.1) (record {
            left_part = omega arith;
            right_part = omega arith;
            row = λ width h k. merge_none o width old (drop (i + 1) left) (drop (j + 1) right) x y (m width h k);
            value = λ below. ap (λ w. plus w (plus (row_value o below (drop (i + 1) left)) (row_value o below (drop (j + 1) right)))) (sym (r.plus_zero (row_value o below old)) ∙ ap (plus (row_value o below old)) (sym (both_values below x y c.0 c.1 ∙ ap (λ w. times w (times (entry o below x.a) (entry o below x.b))) z.0 ∙ zero_times o r _))) ∙ from_both _ _ _ _ _ ∙ v below;
            short = omega (arith, s.short);
            under = s.under;
          })
          | inr z ↦ subst (λ us. SoFar o left right us (i + 1) (j + 1)) (sym z.1) (record {
            left_part = omega arith;
            right_part = omega arith;
            row = λ width h k. merge_both o width old (drop (i + 1) left) (drop (j + 1) right) x y c.0 c.1 z.0 (m width h k);
            value = λ below. ap (λ w. plus w (plus (row_value o below (drop (i + 1) left)) (row_value o below (drop (j + 1) right)))) (one_more below old (added o x y) ∙ ap (plus (row_value o below old)) (sym (both_values below x y c.0 c.1))) ∙ from_both _ _ _ _ _ ∙ v below;
            short = omega (arith, length-more old (added o x y), s.short);
            under = λ ns d h k. All-push (IsUnder ns d) old (added o x y) (s.under ns d h k) (subst (IsUnder ns d) (sym ex) (h i x li));
          })
        ])
      ]

  -- when one of the rows is at its end
  pub merge-row : (width : ℕ) (left right sum : List (Term A)) (i j : ℕ) → (length left ≤ i) ⊎ (length right ≤ j) → SoFar o left right sum i j → IsRow o width left → IsRow o width right → IsRow o width ((sum ++ drop i left) ++ drop j right)
  merge-row width left right sum i j (inl l) s h k =
      let m = s.row width h k in
      subst (λ us. IsRow o width ((sum ++ us) ++ drop j right)) (sym (drop_all i left l)) (subst (λ us. IsRow o width (us ++ drop j right)) (sym (append-nil sum)) (append-terms o 1 width None sum (drop j right) m.row m.right_after))
  merge-row width left right sum i j (inr l) s h k =
      let m = s.row width h k in
      subst (λ us. IsRow o width ((sum ++ drop i left) ++ us)) (sym (drop_all j right l)) (subst (λ us. IsRow o width us) (sym (append-nil (sum ++ drop i left))) (append-terms o 1 width None sum (drop i left) m.row m.left_after))

  pub merge-value : (below : List A) (left right sum : List (Term A)) (i j : ℕ) → SoFar o left right sum i j → row_value o below ((sum ++ drop i left) ++ drop j right) ≡ plus (row_value o below left) (row_value o below right)
  merge-value below left right sum i j s =
      value-append o r below (sum ++ drop i left) (drop j right) ∙ ap (λ w. plus w (row_value o below (drop j right))) (value-append o r below sum (drop i left)) ∙ r.plus_assoc _ _ _ ∙ s.value below

  pub merge-short : (left right sum : List (Term A)) (i j : ℕ) → SoFar o left right sum i j → length ((sum ++ drop i left) ++ drop j right) ≤ length left + length right
  merge-short left right sum i j s =
      omega (arith, length-append (sum ++ drop i left) (drop j right), length-append sum (drop i left), length-drop i left, length-drop j right, s.short, s.left_part, s.right_part)

  pub merge-under : (ns : List ℕ) (d : ℕ) (left right sum : List (Term A)) (i j : ℕ) → SoFar o left right sum i j → AreUnder ns d left → AreUnder ns d right → AreUnder ns d ((sum ++ drop i left) ++ drop j right)
  merge-under ns d left right sum i j s h k =
      All-append (IsUnder ns d) (sum ++ drop i left) (drop j right) (All-append (IsUnder ns d) sum (drop i left) (s.under ns d h k) (All-drop (IsUnder ns d) i left h)) (All-drop (IsUnder ns d) j right k)

-- a slice from a place on
pub tail_is : {X : Type 0} (xs : List X) (i : ℕ) → take (length xs - i) (drop i xs) ≡ drop i xs
tail_is xs i = take_all (length xs - i) (drop i xs) (omega (arith, length-drop i xs))

pub two-tails : {X : Type 0} (sum left right middle all : List X) (i j : ℕ) → middle ≡ sum ++ take (length left - i) (drop i left) → all ≡ middle ++ take (length right - j) (drop j right) → all ≡ (sum ++ drop i left) ++ drop j right
two-tails sum left right middle all i j e f = f ∙ ap (λ us. middle ++ us) (tail_is right j) ∙ ap (λ us. us ++ drop j right) (e ∙ ap (λ us. sum ++ us) (tail_is left i))
