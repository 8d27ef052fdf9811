-- What fields say when one more is read behind them.
use Rattle.std.specs.Prelude.{◌≡◌, ℕ, ◌+◌, ◌-◌, ◌<◌, ◌≤◌, List, [], ◌∷◌, ◌++◌, length, map, take, drop, slice_index_or, slice_set}
use Rattle.std.proofs.Common.{sym, ap, ◌∙◌, arith}
use Rattle.std.proofs.lemmas.List.{length_push, length-drop, drop-append-le, drop_all, take_all, take-append-le, map_push, get_or_append_left, get_or_push, take_more_set}
use Rattle.lzk_field.specs.Bytes.{number_from}
use Rattle.lzk_field.specs.Coding.{Coding}
use Rattle.lzk_verify.specs.Kept.{elements}

module _ (fields : List (List ℕ)) (f : List ℕ) where
  -- the fields before it stay
  pub earlier : (j : ℕ) → j < length fields → slice_index_or (fields ++ f ∷ []) j [] ≡ slice_index_or fields j []
  earlier j h = get_or_append_left fields (f ∷ []) [] j h

  -- and it is the last
  pub newest : (j : ℕ) → length fields ≡ j → slice_index_or (fields ++ f ∷ []) j [] ≡ f
  newest j h = get_or_push fields f [] j h

  -- the fields from a later place on are none
  none_from : (k : ℕ) → length fields < k → drop k (fields ++ f ∷ []) ≡ []
  none_from k h = drop_all k (fields ++ f ∷ []) (omega (arith, h, length_push fields f))

  module _ {A : Type 0} (e : Coding A) where
    -- elements among which its own is gain it
    pub elements_more : (k n : ℕ) → k ≤ length fields → length fields < k + n → elements e (fields ++ f ∷ []) k n ≡ elements e fields k n ++ e.element (number_from f) ∷ []
    elements_more k n from below =
        let g : List ℕ → A = λ x. e.element (number_from x) in
        let front = drop k fields in
        let long : length front ≡ length fields - k = length-drop k fields in
        ap (λ xs. map g (take n xs)) (drop-append-le k fields (f ∷ []) from)
        ∙ ap (map g) (take_all n (front ++ f ∷ []) (omega (arith, from, below, long, length_push front f)))
        ∙ map_push g front f
        ∙ ap (λ xs. map g xs ++ g f ∷ []) (sym (take_all n front (omega (arith, from, below, long))))

    -- elements that stand before it stay
    pub elements_before : (k n : ℕ) → k + n ≤ length fields → elements e (fields ++ f ∷ []) k n ≡ elements e fields k n
    elements_before k n h =
        let g : List ℕ → A = λ x. e.element (number_from x) in
        ap (λ xs. map g (take n xs)) (drop-append-le k fields (f ∷ []) (omega (arith, h)))
        ∙ ap (map g) (take-append-le n (drop k fields) (f ∷ []) (omega (arith, h, length-drop k fields)))

    -- and there are none that stand behind it
    pub elements_behind : (k n : ℕ) → length fields < k → elements e (fields ++ f ∷ []) k n ≡ elements e fields k n
    elements_behind k n h =
        let g : List ℕ → A = λ x. e.element (number_from x) in
        ap (λ xs. map g (take n xs)) (none_from k h ∙ sym (drop_all k fields (omega (arith, h))))

-- a slot is set that comes next
pub slot_more : {A : Type 0} (list : List A) (i : ℕ) (x : A) (before : List A) → i < length list → take i list ≡ before → take (i + 1) (slice_set list i x) ≡ before ++ x ∷ []
slot_more list i x before h is = take_more_set list i x h ∙ ap (λ xs. xs ++ x ∷ []) is
