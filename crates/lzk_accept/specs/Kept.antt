-- Linear constraints as they are kept: what is not zero of their coefficients, and their right sides.
use Rattle.std.specs.Prelude.{◌≡◌, ℕ, ◌+◌, ◌-◌, ◌/◌, ◌%◌, ◌<◌, ◌≤◌, ◌^◌, ◌==◌, ◌&&◌, cond, nat_lt, nat_le, List, ◌∷◌, length, slice_index_or}
use Rattle.std.proofs.Common.{zero, suc}
use Rattle.lzk_field.specs.Ring.{Ops}
use Rattle.lzk_field.specs.Sums.{entry, minus, sum_below}
use Rattle.lzk_mle.specs.Multilinear.{eq}
use Rattle.lzk_circuit.specs.Bits.{bits}
use Rattle.lzk_circuit.specs.Valid.{Wiring}
use Rattle.lzk_layout.specs.declared.params.Params.{Params}
use Rattle.lzk_layout.specs.Sizes.{committed_count, params_of}
use Rattle.lzk_layout.specs.Places.{depth, width_at, pads_at, factors_at, factors_sent_at}
use Rattle.lzk_sumcheck.specs.declared.script.Script.{Script}
use Rattle.lzk_sumcheck.specs.Coefficients.{coefficients}
use Rattle.lzk_sumcheck.specs.Script.{point_a, point_b}
use Rattle.lzk_accept.specs.declared.forms.Form.{Form}
use Rattle.lzk_accept.specs.declared.linear.Factors.{Factors}
use Rattle.lzk_accept.specs.Residuals.{linear_coefficient, right_side}

-- A form for each constraint. Each entry of the committed list is in one constraint's own range, which has its
-- coefficient there from own. The tables have so much room.
pub record LinearForms (A : Type 0) : Type 0 where
  pub forms : List (Form A)
  pub own : List A
  pub room : ℕ

module _ {A : Type 0} (o : Ops A) where
  -- a form's coefficient at entry j: that from own in its range, and one at each of the two factors of the layer above
  abbrev pub coefficient_in : List A → Form A → ℕ → A
  coefficient_in own form j =
      o.plus (cond (nat_le form.start j && nat_lt j form.end) (entry o own j) o.zero)
      (o.plus (cond (j == form.above) form.first o.zero) (cond (j == form.above + 1) form.second o.zero))

  -- the form of constraint i
  abbrev pub form_at : List (Form A) → ℕ → Form A
  form_at forms i =
      slice_index_or forms i (record { start = 0; end = 0; above = 0; first = o.zero; second = o.zero; right = o.zero })

  -- the coefficient of constraint i at entry j
  abbrev pub coefficient : LinearForms A → ℕ → ℕ → A
  coefficient f i j = coefficient_in f.own (form_at f.forms i) j

  -- the right side of constraint i
  abbrev pub right : LinearForms A → ℕ → A
  right f i = (form_at f.forms i).right

-- where the entries of constraint i's own range begin and end: a layer's pads, and behind the layers the private inputs
abbrev pub own_start : {A : Type 0} → Wiring A → ℕ → ℕ
own_start c i = cond (nat_lt i (depth c)) (pads_at c i) 0

abbrev pub own_end : {A : Type 0} → Wiring A → ℕ → ℕ
own_end c i = cond (nat_lt i (depth c)) (pads_at c (i + 1)) c.privates

-- The form has the places of constraint i. The uppermost layer has none above, and its own factors stand in their
-- place.
pub record IsPlacedAt {A : Type 0} (c : Wiring A) (i : ℕ) (form : Form A) : Type 0 where
  pub start : form.start ≡ own_start c i
  pub end : form.end ≡ own_end c i
  pub above : form.above ≡ factors_at c (i - 1)

-- forms for each layer of the circuit and for its inputs, each in its place, over as many entries as are committed to
pub record ArePlaced {A : Type 0} (o : Ops A) (c : Wiring A) (forms : List (Form A)) (coefficients : List A)
    : Type 0 where
  pub count : length forms ≡ depth c + 1
  pub own : length coefficients ≡ committed_count c
  pub places : (i : ℕ) → i < depth c + 1 → IsPlacedAt c i (form_at o forms i)

-- forms for each layer of the circuit and for its inputs, with tables for the widest layer
pub record AreFormsOf {A : Type 0} (o : Ops A) (c : Wiring A) (f : LinearForms A) : Type 0 where
  pub count : length f.forms ≡ depth c + 1
  pub own : length f.own ≡ committed_count c
  pub places : (i : ℕ) → i < depth c + 1 → IsPlacedAt c i (form_at o f.forms i)
  pub room : (l : ℕ) → l < depth c + 1 → 2 ^ bits (width_at c l) ≤ f.room

-- forms of some circuit that has these parameters
pub record AreFormsFor {A : Type 0} (o : Ops A) (p : Params) (f : LinearForms A) : Type 0 where
  pub circuit : Wiring A
  pub params : p ≡ params_of circuit
  pub forms : AreFormsOf o circuit f

-- the form's entries are among the first n
pub record IsWithin {A : Type 0} (n : ℕ) (form : Form A) : Type 0 where
  pub start : form.start ≤ form.end
  pub end : form.end ≤ n
  pub above : form.above + 1 < n

-- where value m of the quadratic constraints stands: a layer's own range ends with its factors' pads and their product
abbrev pub source_in : {A : Type 0} → Ops A → List (Form A) → ℕ → ℕ
source_in o forms m = (form_at o forms (m / 3)).end - 3 + m % 3

-- a form is that of linear constraint i
pub record IsConstraint {A : Type 0} (o : Ops A) (point : ℕ → A) (c : Wiring A) (q : ℕ → ℕ → ℕ → ℕ → A)
    (public : List A) (s : Script A) (messages : List A) (i : ℕ) (own : List A) (form : Form A) : Type 0 where
  pub coefficient : (j : ℕ) → j < committed_count c
      → coefficient_in o own form j ≡ linear_coefficient o point c q public s messages i j
  pub right : form.right ≡ right_side o point c q public s messages i

module _ {A : Type 0} (o : Ops A) (c : Wiring A) (messages : List A) where
  -- the first factor that the layer above sends, and zero where there is none
  abbrev pub above_a : ℕ → A
  above_a zero = o.zero
  above_a (suc l) = entry o messages (factors_sent_at c l)

  -- the second one
  abbrev pub above_b : ℕ → A
  above_b zero = o.zero
  above_b (suc l) = entry o messages (factors_sent_at c l + 1)

-- x, and zero at the uppermost layer
abbrev pub below_top : {A : Type 0} → Ops A → A → ℕ → A
below_top o x zero = o.zero
below_top o x (suc l) = x

-- the coefficient of the inputs' constraint at private input number j: how its wire agrees with the inputs' two points
abbrev pub private_coefficient : {A : Type 0} → Ops A → Wiring A → Script A → ℕ → A
private_coefficient o c s j =
    o.plus (eq o (1 + c.publics + j) (point_a o s (depth c)))
    (o.times s.gamma (eq o (1 + c.publics + j) (point_b o s (depth c))))

-- What is written of the inputs' constraint, by the tables of the two points: the private inputs' coefficients from
-- number skip on are these at their wires, and the right side has what the public inputs give, less the two claims.
pub record IsLastForm {A : Type 0} (o : Ops A) (c : Wiring A) (public : List A) (gamma : A) (above : Factors A)
    (first second : List A) (skip : ℕ) (own : List A) (form : Form A) : Type 0 where
  pub privates : (k : ℕ) → skip ≤ k → k < c.privates
      → entry o own k ≡ o.plus (entry o first (1 + c.publics + k)) (o.times gamma (entry o second (1 + c.publics + k)))
  pub left : form.first ≡ o.neg o.one
  pub other : form.second ≡ o.neg gamma
  pub right : form.right
      ≡ o.neg (minus o (minus o (sum_below o (1 + length public)
      (λ k. o.times (o.plus (entry o first k) (o.times gamma (entry o second k))) (entry o (o.one ∷ public) k)))
      above.first) (o.times gamma above.second))

-- what is kept from entry number skip on, with the private inputs' coefficients before it
pub record IsWhole {A : Type 0} (o : Ops A) (c : Wiring A) (s : Script A) (skip : ℕ) (own whole : List A) : Type 0 where
  pub before : (j : ℕ) → j < skip → entry o whole j ≡ private_coefficient o c s j
  pub after : (j : ℕ) → skip ≤ j → j < committed_count c → entry o whole j ≡ entry o own j

-- Kept are the linear constraints, but for the inputs' coefficients at the first skip private inputs. Those are how the
-- private inputs agree with the inputs' two points, and no layer's constraint has any there.
pub record AreRest {A : Type 0} (o : Ops A) (point : ℕ → A) (c : Wiring A) (public : List A) (s : Script A)
    (messages : List A) (skip : ℕ) (forms : List (Form A)) (own : List A) : Type 0 where
  pub entries : (i j : ℕ) → i < depth c + 1 → skip ≤ j → j < committed_count c
      → coefficient_in o own (form_at o forms i) j
      ≡ linear_coefficient o point c (coefficients o c s) public s messages i j
  pub rights : (i : ℕ) → i < depth c + 1
      → (form_at o forms i).right ≡ right_side o point c (coefficients o c s) public s messages i
  pub layers : (i j : ℕ) → i < depth c → j < skip
      → linear_coefficient o point c (coefficients o c s) public s messages i j ≡ o.zero
  pub inputs : (j : ℕ) → j < skip
      → linear_coefficient o point c (coefficients o c s) public s messages (depth c) j ≡ private_coefficient o c s j

-- two tables with room for so many entries each
pub record HaveRoom {A : Type 0} (size : ℕ) (one other : List A) : Type 0 where
  pub first : size ≤ length one
  pub second : size ≤ length other

-- three tables of one length, for each layer of the circuit and for its inputs
pub record AreTables {A : Type 0} (c : Wiring A) (one other weights : List A) : Type 0 where
  pub room : (l : ℕ) → l < depth c + 1 → 2 ^ bits (width_at c l) ≤ length weights
  pub first : length one ≡ length weights
  pub second : length other ≡ length weights

-- two tables of how the wires of layer l agree with its two points
pub record AreTablesAt {A : Type 0} (o : Ops A) (c : Wiring A) (s : Script A) (l : ℕ) (one other : List A)
    : Type 0 where
  pub first : (g : ℕ) → g < width_at c l → entry o one g ≡ eq o g (point_a o s l)
  pub second : (g : ℕ) → g < width_at c l → entry o other g ≡ eq o g (point_b o s l)
