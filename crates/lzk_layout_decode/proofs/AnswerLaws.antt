-- The elements that are no columns', read two lists at a time.
use Rattle.std.proofs.Common.{◌≡◌, ℕ, List, ◌++◌, length, replicate, Result, Ok, Err, sym, ap, ◌∙◌, append_assoc, Bor}
use Rattle.lzk_layout.specs.declared.params.Params.{Params}
use Rattle.lzk_layout.specs.declared.proof.Proof.{Proof}
use Rattle.lzk_layout.specs.declared.fault.Stop.{Stop}
use Rattle.lzk_layout.specs.Proofs.{HasLengths}
use Rattle.lzk_layout.specs.Answers.{answer_sorts_of, Gives}
use Rattle.lzk_layout.specs.Fields.{Sort, Shape, element, fields_at}
use Rattle.lzk_layout.proofs.FieldLaws.{behind, done, fields_then, fields_stop}

module _ {A : Type 0} (s : Shape) (q : Proof A) (bytes : List ℕ) where
  abbrev first_two : List Sort
  first_two = replicate (length q.messages) element ++ replicate (length q.ldt) element

  abbrev next_two : List Sort
  next_two = replicate (length q.dot) element ++ replicate (length q.quad_head) element

  abbrev last_one : List Sort
  last_one = replicate (length q.quad_tail) element

  split : fields_at s (answer_sorts_of q) bytes ≡ fields_at s (first_two ++ (next_two ++ last_one)) bytes
  split =
      let m : List Sort = replicate (length q.messages) element in
      let l : List Sort = replicate (length q.ldt) element in
      let d : List Sort = replicate (length q.dot) element in
      let h : List Sort = replicate (length q.quad_head) element in
      ap (λ (ss : List Sort). fields_at s ss bytes)
      (ap (λ (ss : List Sort). m ++ (l ++ ss)) (sym (append_assoc d h last_one)) ∙ sym (append_assoc m l (next_two ++ last_one)))

  pub first_two_stop : (d : Stop) → fields_at s first_two bytes ≡ Err d → fields_at s (answer_sorts_of q) bytes ≡ Err d
  first_two_stop d e = split ∙ fields_stop s first_two (next_two ++ last_one) bytes d e

  module _ (m l : List (List ℕ)) (after : List ℕ) (first : fields_at s first_two bytes ≡ Ok (m ++ l, after)) where
    then : fields_at s (answer_sorts_of q) bytes ≡ behind (m ++ l) (fields_at s (next_two ++ last_one) after)
    then = split ∙ fields_then s first_two (next_two ++ last_one) bytes (m ++ l) after first

    pub next_two_stop : (d : Stop) → fields_at s next_two after ≡ Err d → fields_at s (answer_sorts_of q) bytes ≡ Err d
    next_two_stop d e = then ∙ ap (behind (m ++ l)) (fields_stop s next_two last_one after d e)

    module _ (d h : List (List ℕ)) (end : List ℕ) (next : fields_at s next_two after ≡ Ok (d ++ h, end)) where
      last : fields_at s (answer_sorts_of q) bytes ≡ behind (m ++ l) (behind (d ++ h) (fields_at s last_one end))
      last = then ∙ ap (behind (m ++ l)) (fields_then s next_two last_one after (d ++ h) end next)

      in_order : (t : List (List ℕ)) → (m ++ l) ++ ((d ++ h) ++ t) ≡ m ++ (l ++ (d ++ (h ++ t)))
      in_order t = append_assoc m l ((d ++ h) ++ t) ∙ ap (λ (x : List (List ℕ)). m ++ (l ++ x)) (append_assoc d h t)

      pub answers_read : (t : List (List ℕ)) (r : Result (Bor (List ℕ)) Stop) → Gives (λ (rest : Bor (List ℕ)). (t, rest.now)) r (fields_at s last_one end)
          → Gives (λ (rest : Bor (List ℕ)). (m ++ (l ++ (d ++ (h ++ t))), rest.now)) r (fields_at s (answer_sorts_of q) bytes)
      answers_read t (Ok rest) e = last ∙ ap (λ (x : Result (List (List ℕ) × List ℕ) Stop). behind (m ++ l) (behind (d ++ h) x)) e ∙ ap (λ (x : List (List ℕ)). done (x, rest.now)) (in_order t)
      answers_read t (Err e) f = last ∙ ap (λ (x : Result (List (List ℕ) × List ℕ) Stop). behind (m ++ l) (behind (d ++ h) x)) f

-- a proof whose lists are as long as another's
pub same_lengths : {A : Type 0} (p : Params) (q r : Proof A) → HasLengths p q → length r.messages ≡ length q.messages → length r.ldt ≡ length q.ldt → length r.dot ≡ length q.dot → length r.quad_head ≡ length q.quad_head
    → length r.quad_tail ≡ length q.quad_tail → length r.nonces ≡ length q.nonces → length r.columns ≡ length q.columns → HasLengths p r
same_lengths p q r has m l d h t n c = record {
  messages = m ∙ has.messages;
  ldt = l ∙ has.ldt;
  dot = d ∙ has.dot;
  quad_head = h ∙ has.quad_head;
  quad_tail = t ∙ has.quad_tail;
  nonces = n ∙ has.nonces;
  columns = c ∙ has.columns;
}
