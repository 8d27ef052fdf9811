-- The elements of a proof that are no columns', and what the readers answer.
use Rattle.std.specs.Prelude.{◌≡◌, ℕ, List, ◌++◌, length, map, Result, Ok, Err}
use Rattle.lzk_layout.specs.declared.fault.Stop.{Stop}
use Rattle.lzk_layout.specs.declared.proof.Proof.{Proof}
use Rattle.lzk_layout.specs.Fields.{Sort, answer_sorts}

-- the elements sent, and the three answers
abbrev pub answer_fields : {A : Type 0} → (A → List ℕ) → Proof A → List (List ℕ)
answer_fields field proof =
    map field proof.messages
    ++ (map field proof.ldt ++ (map field proof.dot ++ (map field proof.quad_head ++ map field proof.quad_tail)))

-- the sorts of these fields, by the lists' lengths
abbrev pub answer_sorts_of : {A : Type 0} → Proof A → List Sort
answer_sorts_of q =
    answer_sorts (length q.messages) (length q.ldt) (length q.dot) (length q.quad_head) (length q.quad_tail)

-- What a reader returned, seen by view, is what reading gives.
abbrev pub Gives : {T X : Type 0} → (T → X) → Result T Stop → Result X Stop → Type 0
Gives view (Ok x) read = read ≡ Ok (view x)
Gives view (Err e) read = read ≡ Err e
