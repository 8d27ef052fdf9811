-- What a desk keeps between verdicts, and what the checks of the answers are handed.
use Rattle.lzk_profile.specs.Profile.{opened_count, most_digests}
use Rattle.std.specs.Prelude.{◌≡◌, ℕ, ◌<◌, ◌≤◌, ◌-◌, ◌+◌, ◌*◌, Bool, true, false, cond, nat_lt, List, [], ◌∷◌, ◌++◌, length, take, Option, Some, None}
use Rattle.lzk_field.specs.Coding.{Coding}
use Rattle.lzk_field.specs.Ring.{Ops}
use Rattle.lzk_field.specs.Sums.{entry, sum_below}
use Rattle.lzk_poly.specs.Extension.{Reach}
use Rattle.lzk_merkle.specs.Nodes as tree
use Rattle.lzk_merkle.specs.Nodes.{AreOpened}
use Rattle.lzk_circuit.specs.Valid.{Wiring}
use Rattle.lzk_layout.specs.declared.params.Params.{Params}
use Rattle.lzk_layout.specs.Sizes.{AreParams}
use Rattle.lzk_layout.specs.Fronts.{digests_in}
use Rattle.lzk_layout.specs.Cursors.{CursorPlace, faulty, reading, CursorState}
use Rattle.lzk_sumcheck.specs.Script as sumcheck
use Rattle.lzk_accept.specs.Challenges as accept
use Rattle.lzk_accept.specs.Challenges.{Transcript}
use Rattle.lzk_accept.specs.Checks.{combined_row_of, wanted_of}
use Rattle.lzk_accept.specs.Kept.{LinearForms, AreFormsOf}
use Rattle.lzk_accept.specs.declared.factored.Factored.{Factored}
use Rattle.lzk_accept.specs.Factored.{HasRoomFor, GivesCombined}
use Rattle.lzk_verify.specs.declared.intake.Intake.{Intake}
use Rattle.lzk_verify.specs.declared.verdict.Verdict.{Verdict}
use Rattle.lzk_verify.specs.declared.verdict.Verdict.TheVariants.{Accepted, CircuitId, PathCount, Root, LowDegree, LinearSum, Linear, Quadratic}
use Rattle.lzk_circbytes.specs.Files.{id_of}
use Rattle.lzk_verify.specs.Checks.{needed_digests}
use Rattle.lzk_verify.specs.Columns.{values_of}
use Rattle.lzk_verify.specs.Extending.{weighted}
use Rattle.lzk_verify.specs.Kept.{sent_count, messages_in, ldt_in, dot_in, head_in, tail_in, whole_columns, column_fields, tape_reached, given_before, Kept, Held, stopped, keeping, IsKept}
use Rattle.lzk_verify.specs.Verdict.{Unless}

-- what a check answers: none where it holds, and otherwise what is kept
abbrev pub IsChecked : {X : Type 0} → Type 0 → X → Option X → Type 0
IsChecked Check kept None = Check
IsChecked Check kept (Some x) = (¬ Check) × (x ≡ kept)

-- what is drawn has the lengths that the circuit and its parameters give
pub record HasRoom {A : Type 0} (c : Wiring A) (p : Params) (t : Transcript A) : Type 0 where
  pub script : sumcheck.HasShape c t.script
  pub challenges : accept.HasShape p t.challenges
  pub columns : length t.columns ≡ opened_count

-- the weights that extend a row's values, and those that extend the values of a product of two rows, to all points
abbrev pub rows : Params → Reach
rows p = record { count = p.block; upto = p.ncol }

abbrev pub products : Params → Reach
products p = record { count = p.dblock; upto = p.ncol }

-- factors and a table for as many rows and positions as the parameters say
pub record HasFactors {A : Type 0} (p : Params) (f : Factored A) : Type 0 where
  pub rows : f.rows ≤ p.nrow - 3
  pub row_factors : length f.row_factors ≡ 4 * f.rows
  pub place_factors : length f.place_factors ≡ 4 * p.wr
  pub table : length f.table ≡ (p.nrow - 3 - f.rows) * p.wr

-- the combined coefficients that factors and a table give are those of these rows
pub record AreRows {A : Type 0} (o : Ops A) (p : Params) (f : Factored A) (rows : ℕ → List A) : Type 0 where
  pub lengths : (i : ℕ) → length (rows i) ≡ p.block
  pub front : (i s : ℕ) → s < opened_count → entry o (rows i) s ≡ o.zero
  pub back : GivesCombined o p f (λ i s. entry o (rows i) (opened_count + s))

-- they give each coefficient of these rows times the weight of its place
abbrev pub AreWeightedRows : {A : Type 0} → Ops A → (ℕ → A) → Params → Factored A → (ℕ → List A) → Type 0
AreWeightedRows o element p f rows = AreRows o p f (λ i. weighted o element (rows i))

-- the answers of a proof, each value times its weight
pub record WeightedAnswers (A : Type 0) : Type 0 where
  pub ldt : List A
  pub dot : List A
  pub quadratic : List A

-- those of the elements that a proof sends
abbrev pub weighted_answers : {A : Type 0} → Ops A → (ℕ → A) → Params → List A → WeightedAnswers A
weighted_answers o element p sent = record {
  ldt = weighted o element (ldt_in p sent);
  dot = weighted o element (dot_in p sent);
  quadratic = weighted o element (values_of o p (head_in p sent) (tail_in p sent));
}

-- as long as the parameters say
pub record AreAnswers {A : Type 0} (p : Params) (a : WeightedAnswers A) : Type 0 where
  pub ldt : length a.ldt ≡ p.block
  pub dot : length a.dot ≡ p.dblock
  pub quadratic : length a.quadratic ≡ p.dblock

-- the room in which a proof is checked, and what its weights reach
pub record Rooms (A : Type 0) : Type 0 where
  pub forms : LinearForms A
  pub combined : Factored A
  pub answers : WeightedAnswers A
  pub inverses : ℕ
  pub nodes : ℕ
  pub rows : Reach
  pub products : Reach

-- that is as much as the parameters want
pub record AreRooms {A : Type 0} (p : Params) (r : Rooms A) : Type 0 where
  pub combined : HasFactors p r.combined
  pub answers : AreAnswers p r.answers
  pub inverses : r.inverses ≡ p.dblock
  pub nodes : r.nodes ≡ 2 * p.mcol
  pub rows : r.rows ≡ rows p
  pub products : r.products ≡ products p

-- an intake's lists are as long as the parameters say
pub record AreLists {A : Type 0} (p : Params) (k : Intake A) : Type 0 where
  pub sent : length k.sent.items ≡ sent_count p
  pub challenges : accept.HasShape p k.drawn.challenges
  pub columns : length k.drawn.columns ≡ opened_count
  pub opened : AreOpened p.mcol k.drawn.columns
  pub column : length k.column.items ≡ p.nrow
  pub leaves : length k.leaves.items ≡ opened_count
  pub rows : k.leaves.rows ≡ p.nrow
  pub digests : length k.digests.items ≡ most_digests
  pub few : k.count ≤ most_digests

-- what the opened columns are checked with is that of what was drawn
pub record AreReady {A : Type 0} (o : Ops A) (element : ℕ → A) (c : Wiring A) (p : Params) (k : Intake A)
    (r : Rooms A) : Type 0 where
  pub rows : AreWeightedRows o element p r.combined
      (combined_row_of o element c k.public.items k.drawn.script (messages_in p k.sent.items) k.drawn.challenges)
  pub wanted : k.wanted
      ≡ wanted_of o element c k.public.items k.drawn.script (messages_in p k.sent.items) k.drawn.challenges
  pub answers : r.answers ≡ weighted_answers o element p k.sent.items

-- an intake and its room are those for a circuit of these parameters
pub record IsSound {A : Type 0} (o : Ops A) (element : ℕ → A) (c : Wiring A) (p : Params) (k : Intake A)
    (r : Rooms A) : Type 0 where
  pub public : length k.public.items ≡ c.publics
  pub script : sumcheck.HasShape c k.drawn.script
  pub lists : AreLists p k
  pub forms : AreFormsOf o c r.forms
  pub factors : HasRoomFor c r.combined
  pub rooms : AreRooms p r
  pub ready : k.is_drawn ≡ true → AreReady o element c p k r

-- the least column at which a check fails, where it is now known whether it holds at one more
abbrev pub least : Option ℕ → Bool → ℕ → Option ℕ
least (Some least_so_far) is_right column = Some least_so_far
least None true column = None
least None false column = Some column

-- the same, of the check itself
abbrev pub IsNoted : Option ℕ → Option ℕ → Type 0 → ℕ → Type 0
IsNoted (Some least_so_far) new Check column = new ≡ Some least_so_far
IsNoted None None Check column = Check
IsNoted None (Some x) Check column = (¬ Check) × (x ≡ column)

-- what an intake keeps, of so many fields, with this number of digests once it is read, and these bytes of the next
-- field
unfoldable pub kept_of : {A : Type 0} → Ops A → Coding A → Wiring A → Params → ℕ → Option ℕ → List ℕ → Intake A → Kept A
kept_of o e c p n digests rest k =
    let root = cond (nat_lt 2 n) k.root [] in
    let sent = take (n - 3) k.sent.items in
    record {
      fields = n;
      rest = rest;
      public = k.public.items;
      start = cond k.is_drawn None (Some k.tape);
      tape = cond k.is_drawn None (Some (tape_reached o e c p k.tape root sent n));
      id = cond (nat_lt 1 n) k.id [];
      root = root;
      sent = sent;
      given = cond k.is_drawn k.drawn (given_before o e c p k.tape root sent n);
      leaves = take (whole_columns p n) k.leaves.items;
      low_degree = k.failing.low_degree;
      linear = k.failing.linear;
      quadratic = k.failing.quadratic;
      nonce = cond (nat_lt 0 (column_fields p n)) k.nonce [];
      column = take (column_fields p n - 1) k.column.items;
      count = digests;
      digests = take k.count k.digests.items;
    }

-- an intake keeps what these fields give, and nothing of the next
abbrev pub IsKeptOf : {A : Type 0} → Ops A → Coding A → Wiring A → Params → List ℕ → List A → List (List ℕ) → Intake A
    → Type 0
IsKeptOf o e c p session public fields k =
    IsKept o e c p session public fields (kept_of o e c p (length fields) (digests_in p fields) [] k)

-- a field more behind so many is kept
abbrev pub IsKeptNext : {A : Type 0} → Ops A → Coding A → Wiring A → Params → ℕ → List ℕ → Intake A → Intake A → Type 0
IsKeptNext o e c p n field k next =
    (session : List ℕ) (public : List _) (fields : List (List ℕ)) → length fields ≡ n
    → IsKeptOf o e c p session public fields k → IsKeptOf o e c p session public (fields ++ field ∷ []) next

-- what a desk holds
unfoldable pub held_of : {A : Type 0} → Ops A → Coding A → Wiring A → Params → Bool → CursorPlace → Intake A
    → Option (Held A)
held_of o e c p false place k = None
held_of o e c p true (faulty fault) k = Some (stopped fault)
held_of o e c p true (reading n digests rest) k = Some (keeping (kept_of o e c p n digests rest k))

-- how a desk's parts hang together
pub record AreParts {A : Type 0} (o : Ops A) (e : Coding A) (c : Wiring A) (p : Params) (id : List ℕ)
    (cursor : CursorState) (k : Intake A) (r : Rooms A) : Type 0 where
  pub valid : AreParams o p
  pub id_is : id ≡ id_of e c
  pub cursor_is : cursor.params ≡ p
  pub sound : IsSound o e.element c p k r

-- where a check kept nothing, the other; where it kept something, the one of that
abbrev pub OrElse : {X : Type 0} → Option X → (X → Type 0) → Type 0 → Type 0
OrElse None failed next = next
OrElse (Some x) failed next = failed x

-- the sum of the linear answer's values at the points of a row's elements
abbrev pub sum_of : {A : Type 0} → Ops A → Params → List A → A
sum_of o p dot = sum_below o (p.block - opened_count) (λ i. entry o dot (opened_count + i))

-- the first check of the answers that fails, of what an intake keeps of all fields
abbrev pub AreFoundAnswers : {A : Type 0} → Ops A → Params → Intake A → Verdict A → Type 0
AreFoundAnswers o p k v =
    OrElse k.failing.low_degree (λ column. v ≡ LowDegree column)
    (let found = sum_of o p (dot_in p k.sent.items) in
    Unless (found ≡ k.wanted) (v ≡ LinearSum found k.wanted)
    (OrElse k.failing.linear (λ column. v ≡ Linear column)
    (OrElse k.failing.quadratic (λ column. v ≡ Quadratic column)
    (v ≡ Accepted))))

-- the first check that fails, of the same
abbrev pub IsFound : {A : Type 0} → Ops A → Params → List ℕ → Intake A → Verdict A → Type 0
IsFound o p id k v =
    Unless (k.id ≡ id) (v ≡ CircuitId k.id)
    (Unless (k.count ≡ needed_digests p k.drawn.columns) (v ≡ PathCount k.count (needed_digests p k.drawn.columns))
    (let found = tree.root_of p.mcol k.drawn.columns k.leaves.items (take k.count k.digests.items) in
    Unless (found ≡ k.root) (v ≡ Root found)
    (AreFoundAnswers o p k v)))
