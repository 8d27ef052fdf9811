-- A sum's tokens are read as that sum, and what is read has these tokens.
use Rattle.std.proofs.Common.{◌≡◌, Bool, true, false, List, [], ◌∷◌, ◌++◌, Option, Some, None, refl, sym, ◌∙◌, ap, append_assoc}
use Rattle.std.proofs.lemmas.List.{append-nil}
use Rattle.lzk_expr.specs.Tokens.{Token}
use Rattle.lzk_expr.specs.Tokens as token
use Rattle.lzk_expr.specs.Grammar.{Sum, Single, Plus, Less, Product, Lone, Times, Factor, Plain, Minus, Atom, Number, Name, Group, sum_tokens, product_tokens, factor_tokens, atom_tokens}
use Rattle.lzk_expr.proofs.Machine.{Before, nothing, State, Need, Have, signed, times, plus, atom, minus_before, close, step, and_then, run, ended, sum_of}

-- what stands before the last product of a sum, and that product
abbrev pub ahead : Sum → Option (Bool × Sum)
ahead (Single p) = None
ahead (Plus s p) = Some (false, s)
ahead (Less s p) = Some (true, s)

abbrev pub last : Sum → Product
last (Single p) = p
last (Plus s p) = p
last (Less s p) = p

whole_is : (s : Sum) → plus (ahead s) (last s) ≡ s
whole_is (Single p) = refl
whole_is (Plus s p) = refl
whole_is (Less s p) = refl

run_more : (s : State) (t : Token) (ts : List Token) (next : State) → step s t ≡ Some next → run s (t ∷ ts) ≡ run next ts
unfolding run
run_more s t ts next e = rw e refl

mutual
  unfolding step

  pub sum_run : (s : Sum) (outer : List Before) (rest : List Token) → run (Need outer nothing) (sum_tokens s ++ rest) ≡ run (Have outer (ahead s) (last s)) rest
  sum_run (Single p) outer rest = product_run p outer None rest
  sum_run (Plus s p) outer rest =
      ap (run (Need outer nothing)) (append_assoc (sum_tokens s) (token.Plus ∷ product_tokens p) rest)
      ∙ sum_run s outer (token.Plus ∷ (product_tokens p ++ rest))
      ∙ run_more (Have outer (ahead s) (last s)) token.Plus (product_tokens p ++ rest) (Need outer (record { sum = Some (false, plus (ahead s) (last s)); product = None; minus = false })) refl
      ∙ product_run p outer (Some (false, plus (ahead s) (last s))) rest
      ∙ ap (λ (x : Sum). run (Have outer (Some (false, x)) p) rest) (whole_is s)
  sum_run (Less s p) outer rest =
      ap (run (Need outer nothing)) (append_assoc (sum_tokens s) (token.Minus ∷ product_tokens p) rest)
      ∙ sum_run s outer (token.Minus ∷ (product_tokens p ++ rest))
      ∙ run_more (Have outer (ahead s) (last s)) token.Minus (product_tokens p ++ rest) (Need outer (record { sum = Some (true, plus (ahead s) (last s)); product = None; minus = false })) refl
      ∙ product_run p outer (Some (true, plus (ahead s) (last s))) rest
      ∙ ap (λ (x : Sum). run (Have outer (Some (true, x)) p) rest) (whole_is s)

  product_run : (p : Product) (outer : List Before) (sum : Option (Bool × Sum)) (rest : List Token) → run (Need outer (record { sum = sum; product = None; minus = false })) (product_tokens p ++ rest) ≡ run (Have outer sum p) rest
  product_run (Lone f) outer sum rest = factor_run f outer sum None rest
  product_run (Times p f) outer sum rest =
      ap (run (Need outer (record { sum = sum; product = None; minus = false }))) (append_assoc (product_tokens p) (token.Times ∷ factor_tokens f) rest)
      ∙ product_run p outer sum (token.Times ∷ (factor_tokens f ++ rest))
      ∙ run_more (Have outer sum p) token.Times (factor_tokens f ++ rest) (Need outer (record { sum = sum; product = Some p; minus = false })) refl
      ∙ factor_run f outer sum (Some p) rest

  factor_run : (f : Factor) (outer : List Before) (sum : Option (Bool × Sum)) (product : Option Product) (rest : List Token) → run (Need outer (record { sum = sum; product = product; minus = false })) (factor_tokens f ++ rest) ≡ run (Have outer sum (times product f)) rest
  factor_run (Plain a) outer sum product rest = atom_run a outer (record { sum = sum; product = product; minus = false }) rest
  factor_run (Minus a) outer sum product rest =
      run_more (Need outer (record { sum = sum; product = product; minus = false })) token.Minus (atom_tokens a ++ rest) (Need outer (record { sum = sum; product = product; minus = true })) refl
      ∙ atom_run a outer (record { sum = sum; product = product; minus = true }) rest

  atom_run : (a : Atom) (outer : List Before) (before : Before) (rest : List Token) → run (Need outer before) (atom_tokens a ++ rest) ≡ run (atom outer before a) rest
  atom_run (Number n) outer before rest = run_more (Need outer before) (token.Number n) rest (atom outer before (Number n)) refl
  atom_run (Name x) outer before rest = run_more (Need outer before) (token.Name x) rest (atom outer before (Name x)) refl
  atom_run (Group s) outer before rest =
      run_more (Need outer before) token.Open ((sum_tokens s ++ (token.Close ∷ [])) ++ rest) (Need (before ∷ outer) nothing) refl
      ∙ ap (run (Need (before ∷ outer) nothing)) (append_assoc (sum_tokens s) (token.Close ∷ []) rest)
      ∙ sum_run s (before ∷ outer) (token.Close ∷ rest)
      ∙ run_more (Have (before ∷ outer) (ahead s) (last s)) token.Close rest (atom outer before (Group (plus (ahead s) (last s)))) refl
      ∙ ap (λ (x : Sum). run (atom outer before (Group x)) rest) (whole_is s)

-- a sum's tokens are read as that sum
pub sum_again : (s : Sum) → sum_of (sum_tokens s) ≡ Some s
unfolding sum_of run
sum_again s =
    let all : run (Need [] nothing) (sum_tokens s) ≡ Some (Have [] (ahead s) (last s)) = ap (run (Need [] nothing)) (sym (append-nil (sum_tokens s))) ∙ sum_run s [] [] in
    rw all (ap (λ (x : Sum). Some x) (whole_is s))

-- ---- what is read has these tokens

abbrev pub sign_tokens : Option (Bool × Sum) → List Token
sign_tokens None = []
sign_tokens (Some (false, s)) = sum_tokens s ++ (token.Plus ∷ [])
sign_tokens (Some (true, s)) = sum_tokens s ++ (token.Minus ∷ [])

abbrev pub front_tokens : Option Product → List Token
front_tokens None = []
front_tokens (Some p) = product_tokens p ++ (token.Times ∷ [])

abbrev pub minus_tokens : Bool → List Token
minus_tokens false = []
minus_tokens true = token.Minus ∷ []

abbrev pub before_tokens : Before → List Token
before_tokens b = sign_tokens b.sum ++ (front_tokens b.product ++ minus_tokens b.minus)

abbrev pub outer_tokens : List Before → List Token
outer_tokens [] = []
outer_tokens (b ∷ outer) = outer_tokens outer ++ (before_tokens b ++ (token.Open ∷ []))

abbrev pub state_tokens : State → List Token
state_tokens (Need outer b) = outer_tokens outer ++ before_tokens b
state_tokens (Have outer sum p) = outer_tokens outer ++ (sign_tokens sum ++ product_tokens p)

plus_tokens : (sum : Option (Bool × Sum)) (p : Product) → sum_tokens (plus sum p) ≡ sign_tokens sum ++ product_tokens p
plus_tokens None p = refl
plus_tokens (Some (false, s)) p = sym (append_assoc (sum_tokens s) (token.Plus ∷ []) (product_tokens p))
plus_tokens (Some (true, s)) p = sym (append_assoc (sum_tokens s) (token.Minus ∷ []) (product_tokens p))

times_tokens : (p : Option Product) (f : Factor) → product_tokens (times p f) ≡ front_tokens p ++ factor_tokens f
times_tokens None f = refl
times_tokens (Some p) f = sym (append_assoc (product_tokens p) (token.Times ∷ []) (factor_tokens f))

signed_tokens : (m : Bool) (a : Atom) → factor_tokens (signed m a) ≡ minus_tokens m ++ atom_tokens a
signed_tokens false a = refl
signed_tokens true a = refl

atom_state : (outer : List Before) (b : Before) (a : Atom) → state_tokens (atom outer b a) ≡ state_tokens (Need outer b) ++ atom_tokens a
atom_state outer b a =
    ap (λ (ts : List Token). outer_tokens outer ++ (sign_tokens b.sum ++ ts)) (times_tokens b.product (signed b.minus a) ∙ ap (λ (ts : List Token). front_tokens b.product ++ ts) (signed_tokens b.minus a))
    ∙ simp append_assoc

abbrev some : {A : Type 0} → A → Option A
some x = Some x

some_is : {A : Type 0} (x y : A) → some x ≡ some y → x ≡ y
some_is x y e = cc

minus_state : (outer : List Before) (b : Before) (m : Bool) (next : State) → b.minus ≡ m → minus_before outer b m ≡ Some next → state_tokens next ≡ state_tokens (Need outer b) ++ (token.Minus ∷ [])
minus_state outer b false next h e =
    ap state_tokens (sym (some_is (Need outer (record { sum = b.sum; product = b.product; minus = true })) next e))
    ∙ sym (ap (λ (m : Bool). (outer_tokens outer ++ (sign_tokens b.sum ++ (front_tokens b.product ++ minus_tokens m))) ++ (token.Minus ∷ [])) h ∙ simp append_assoc)
minus_state outer b true next h e = absurd cc

close_state : (outer : List Before) (sum : Option (Bool × Sum)) (p : Product) (next : State) → close outer (plus sum p) ≡ Some next → state_tokens next ≡ state_tokens (Have outer sum p) ++ (token.Close ∷ [])
close_state [] sum p next e = absurd cc
close_state (b ∷ outer) sum p next e =
    ap state_tokens (sym (some_is (atom outer b (Group (plus sum p))) next e)) ∙ atom_state outer b (Group (plus sum p))
    ∙ ap (λ (ts : List Token). state_tokens (Need outer b) ++ (token.Open ∷ (ts ++ (token.Close ∷ [])))) (plus_tokens sum p) ∙ simp append_assoc

pub step_takes : (s : State) (t : Token) (next : State) → step s t ≡ Some next → state_tokens next ≡ state_tokens s ++ (t ∷ [])
unfolding step
step_takes (Need outer b) (token.Number n) next e = ap state_tokens (sym (some_is (atom outer b (Number n)) next e)) ∙ atom_state outer b (Number n)
step_takes (Need outer b) (token.Name x) next e = ap state_tokens (sym (some_is (atom outer b (Name x)) next e)) ∙ atom_state outer b (Name x)
step_takes (Need outer b) token.Open next e = ap state_tokens (sym (some_is (Need (b ∷ outer) nothing) next e)) ∙ simp (append_assoc, append-nil)
step_takes (Need outer b) token.Minus next e = minus_state outer b b.minus next refl e
step_takes (Need outer b) token.Plus next e = absurd cc
step_takes (Need outer b) token.Times next e = absurd cc
step_takes (Need outer b) token.Close next e = absurd cc
step_takes (Need outer b) token.Equals next e = absurd cc
step_takes (Need outer b) (token.Key k) next e = absurd cc
step_takes (Need outer b) token.Misspelt next e = absurd cc
step_takes (Need outer b) token.Other next e = absurd cc
step_takes (Have outer sum p) token.Times next e = ap state_tokens (sym (some_is (Need outer (record { sum = sum; product = Some p; minus = false })) next e)) ∙ simp (append_assoc, append-nil)
step_takes (Have outer sum p) token.Plus next e =
    ap state_tokens (sym (some_is (Need outer (record { sum = Some (false, plus sum p); product = None; minus = false })) next e))
    ∙ ap (λ (ts : List Token). outer_tokens outer ++ ((ts ++ (token.Plus ∷ [])) ++ [])) (plus_tokens sum p) ∙ simp (append_assoc, append-nil)
step_takes (Have outer sum p) token.Minus next e =
    ap state_tokens (sym (some_is (Need outer (record { sum = Some (true, plus sum p); product = None; minus = false })) next e))
    ∙ ap (λ (ts : List Token). outer_tokens outer ++ ((ts ++ (token.Minus ∷ [])) ++ [])) (plus_tokens sum p) ∙ simp (append_assoc, append-nil)
step_takes (Have outer sum p) token.Close next e = close_state outer sum p next e
step_takes (Have outer sum p) (token.Number n) next e = absurd cc
step_takes (Have outer sum p) (token.Name x) next e = absurd cc
step_takes (Have outer sum p) token.Open next e = absurd cc
step_takes (Have outer sum p) token.Equals next e = absurd cc
step_takes (Have outer sum p) (token.Key k) next e = absurd cc
step_takes (Have outer sum p) token.Misspelt next e = absurd cc
step_takes (Have outer sum p) token.Other next e = absurd cc

from : {A B G : Type 0} (o : Option A) (f : A → Option B) (y : B) → and_then o f ≡ Some y → ((x : A) → o ≡ Some x → f x ≡ Some y → G) → G
from (Some x) f y e k = k x refl e
from None f y e k = absurd cc

pub run_takes : (s : State) (ts : List Token) (end : State) → run s ts ≡ Some end → state_tokens end ≡ state_tokens s ++ ts
unfolding run
run_takes s [] end e = ap state_tokens (sym (some_is s end e)) ∙ sym (append-nil (state_tokens s))
run_takes s (t ∷ ts) end e =
    from (step s t) _ end e (λ next first rest. run_takes next ts end rest ∙ ap (λ (x : List Token). x ++ ts) (step_takes s t next first) ∙ append_assoc (state_tokens s) (t ∷ []) ts)

ended_takes : (end : State) (s : Sum) → ended end ≡ Some s → state_tokens end ≡ sum_tokens s
ended_takes (Need outer b) s e = absurd cc
ended_takes (Have [] sum p) s e = sym (plus_tokens sum p) ∙ ap sum_tokens (some_is (plus sum p) s e)
ended_takes (Have (b ∷ outer) sum p) s e = absurd cc

pub sum_takes : (ts : List Token) (s : Sum) → sum_of ts ≡ Some s → ts ≡ sum_tokens s
unfolding sum_of
sum_takes ts s e = from (run (Need [] nothing) ts) ended s e (λ end all last. sym (run_takes (Need [] nothing) ts end all) ∙ ended_takes end s last)
