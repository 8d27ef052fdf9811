-- Reading an expression token by token.
use Rattle.std.proofs.Common.{Bool, true, false, List, [], ◌∷◌, Option, Some, None}
use Rattle.lzk_expr.specs.Tokens.{Token}
use Rattle.lzk_expr.specs.Tokens as token
use Rattle.lzk_expr.specs.Grammar.{Sum, Single, Plus, Less, Product, Lone, Times, Factor, Plain, Minus, Atom, Number, Name, Group}

-- what stands before an atom in a sum: the sum and its sign, the product, and whether a minus
pub record Before : Type 0 where
  pub sum : Option (Bool × Sum)
  pub product : Option Product
  pub minus : Bool

abbrev pub nothing : Before
nothing = record { sum = None; product = None; minus = false }

-- an atom is needed, or a product is there; outer is what stands before each open parenthesis, the innermost first
pub data State : Type 0 where
  Need : List Before → Before → State
  Have : List Before → Option (Bool × Sum) → Product → State

abbrev pub signed : Bool → Atom → Factor
signed false a = Plain a
signed true a = Minus a

abbrev pub times : Option Product → Factor → Product
times None f = Lone f
times (Some p) f = Times p f

abbrev pub plus : Option (Bool × Sum) → Product → Sum
plus None p = Single p
plus (Some (false, s)) p = Plus s p
plus (Some (true, s)) p = Less s p

abbrev pub atom : List Before → Before → Atom → State
atom outer before a = Have outer before.sum (times before.product (signed before.minus a))

abbrev pub minus_before : List Before → Before → Bool → Option State
minus_before outer before false = Some (Need outer (record { sum = before.sum; product = before.product; minus = true }))
minus_before outer before true = None

abbrev pub close : List Before → Sum → Option State
close [] s = None
close (before ∷ outer) s = Some (atom outer before (Group s))

unfoldable pub step : State → Token → Option State
step (Need outer before) (token.Number n) = Some (atom outer before (Number n))
step (Need outer before) (token.Name x) = Some (atom outer before (Name x))
step (Need outer before) token.Open = Some (Need (before ∷ outer) nothing)
step (Need outer before) token.Minus = minus_before outer before before.minus
step (Need outer before) token.Plus = None
step (Need outer before) token.Times = None
step (Need outer before) token.Close = None
step (Need outer before) token.Equals = None
step (Need outer before) (token.Key k) = None
step (Need outer before) token.Misspelt = None
step (Need outer before) token.Other = None
step (Have outer sum p) token.Times = Some (Need outer (record { sum = sum; product = Some p; minus = false }))
step (Have outer sum p) token.Plus = Some (Need outer (record { sum = Some (false, plus sum p); product = None; minus = false }))
step (Have outer sum p) token.Minus = Some (Need outer (record { sum = Some (true, plus sum p); product = None; minus = false }))
step (Have outer sum p) token.Close = close outer (plus sum p)
step (Have outer sum p) (token.Number n) = None
step (Have outer sum p) (token.Name x) = None
step (Have outer sum p) token.Open = None
step (Have outer sum p) token.Equals = None
step (Have outer sum p) (token.Key k) = None
step (Have outer sum p) token.Misspelt = None
step (Have outer sum p) token.Other = None

abbrev pub and_then : {A B : Type 0} → Option A → (A → Option B) → Option B
and_then None f = None
and_then (Some x) f = f x

unfoldable pub run : State → List Token → Option State
run s [] = Some s
run s (t ∷ ts) = and_then (step s t) (λ next. run next ts)

abbrev pub ended : State → Option Sum
ended (Need outer before) = None
ended (Have [] sum p) = Some (plus sum p)
ended (Have (before ∷ outer) sum p) = None

-- the sum that the tokens are
unfoldable pub sum_of : List Token → Option Sum
sum_of ts = and_then (run (Need [] nothing) ts) ended
