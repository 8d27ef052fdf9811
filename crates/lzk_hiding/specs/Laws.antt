-- What holds of views, and how many lists of random elements lead to one.
use Rattle.std.specs.Prelude.{◌≡◌, ℕ, ◌+◌, ◌*◌, ◌/◌, ◌%◌, ◌<◌, ◌^◌, cond, nat_lt, List, length, map}
use Rattle.std.specs.List.{range_with_len}
use Rattle.lzk_field.specs.Coding.{Coding}
use Rattle.lzk_field.specs.Ring.{Ops}
use Rattle.lzk_field.specs.Sums.{entry}
use Rattle.lzk_circuit.specs.Valid.{Wiring, IsValid}
use Rattle.lzk_circuit.specs.Wires.{inputs_of}
use Rattle.lzk_circuit.specs.Checks.{IsSatisfied}
use Rattle.lzk_layout.specs.declared.proof.Proof.{Proof}
use Rattle.lzk_layout.specs.Sizes.{params_of}
use Rattle.lzk_sumcheck.specs.declared.script.Script.{Script}
use Rattle.lzk_sumcheck.specs.Script.{HasShape}
use Rattle.lzk_accept.specs.declared.challenges.Challenges.{Challenges}
use Rattle.lzk_ligero_proof.specs.Proving.{HaveCounts, IsProofOf, given}
use Rattle.lzk_hiding.specs.Counting.{HasExactly, AreEquallyMany}
use Rattle.lzk_soundness.specs.Sumchecks.Passing.{Passes}
use Rattle.lzk_hiding.specs.Seen.{random_count, words_for, idle_count, IsSeen, AreColumns}
use Rattle.lzk_hiding.specs.Simulated.{free_count, simulated}

-- The proof that a prover writes is seen by its own tape's script, challenges and columns.
abbrev pub ProofsAreSeen : {A : Type 0} → Ops A → Coding A → Type 0
ProofsAreSeen {A} o e =
    (c : Wiring A) (session : List ℕ) (public private : List A) (word : ℕ → ℕ) (proof : Proof A)
    → IsProofOf o e c session public private word proof
    → (let t = given o e c session public private word proof in
    IsSeen o e c public t.script t.challenges t.columns private word proof)

-- a valid circuit, inputs that satisfy it, a script of its shape, and columns
pub record IsCase {A : Type 0} (o : Ops A) (e : Coding A) (c : Wiring A) (public private : List A) (s : Script A)
    (columns : List ℕ) : Type 0 where
  pub valid : IsValid o c
  pub counts : HaveCounts c public private
  pub satisfied : IsSatisfied o e.number c.layers (inputs_of o public private)
  pub shape : HasShape c s
  pub opened : AreColumns (params_of c) columns

-- What is seen of satisfying inputs passes.
abbrev pub SeenPasses : {A : Type 0} → Ops A → Coding A → Type 0
SeenPasses {A} o e =
    (c : Wiring A) (public private : List A) (s : Script A) (ch : Challenges A) (columns : List ℕ) (word : ℕ → ℕ)
    (proof : Proof A)
    → IsCase o e c public private s columns → IsSeen o e c public s ch columns private word proof
    → Passes o e c public s ch columns proof

-- the lists of random elements by which these private inputs lead to what is seen
abbrev pub LeadsTo : {A : Type 0} → Ops A → Coding A → Wiring A → List A → Script A → Challenges A → List ℕ → List A
    → Proof A → List A → Type 0
LeadsTo o e c public s ch columns private proof elements =
    (length elements ≡ random_count (params_of c))
    × IsSeen o e c public s ch columns private (words_for o e elements) proof

-- To all that passes lead equally many lists of random elements, whichever the satisfying inputs are: as many as the
-- idle ones among them have values.
abbrev pub SeenEquallyOften : {A : Type 0} → Ops A → Coding A → Type 0
SeenEquallyOften {A} o e =
    (c : Wiring A) (public private : List A) (s : Script A) (ch : Challenges A) (columns : List ℕ) (proof : Proof A)
    → IsCase o e c public private s columns → Passes o e c public s ch columns proof
    → HasExactly (e.size ^ idle_count (params_of c)) (LeadsTo o e c public s ch columns private proof)

-- So two private inputs that satisfy the circuit lead to anything that is seen by equally many lists of random
-- elements.
abbrev pub SeenAlike : {A : Type 0} → Ops A → Coding A → Type 0
SeenAlike {A} o e =
    (c : Wiring A) (public first second : List A) (s : Script A) (ch : Challenges A) (columns : List ℕ)
    (proof : Proof A)
    → IsCase o e c public first s columns → IsCase o e c public second s columns
    → AreEquallyMany (LeadsTo o e c public s ch columns first proof) (LeadsTo o e c public s ch columns second proof)

-- there are as many lists of n elements as the field's size to the n
abbrev pub ListsCounted : {A : Type 0} → Coding A → Type 0
ListsCounted {A} e = (n : ℕ) → HasExactly (e.size ^ n) (λ (elements : List A). length elements ≡ n)

-- Any words lead to something, whatever the inputs are.
abbrev pub SomeSeen : {A : Type 0} → Ops A → Coding A → Type 0
SomeSeen {A} o e =
    (c : Wiring A) (public private : List A) (s : Script A) (ch : Challenges A) (columns : List ℕ) (word : ℕ → ℕ)
    → (proof : Proof A) × IsSeen o e c public s ch columns private word proof

-- two proofs show the same
pub record ShowSame {A : Type 0} (first second : Proof A) : Type 0 where
  pub messages : first.messages ≡ second.messages
  pub ldt : first.ldt ≡ second.ldt
  pub dot : first.dot ≡ second.dot
  pub quads : (first.quad_head ≡ second.quad_head) × (first.quad_tail ≡ second.quad_tail)
  pub columns : first.columns ≡ second.columns

-- And to one thing at most.
abbrev pub OneSeen : {A : Type 0} → Ops A → Coding A → Type 0
OneSeen {A} o e =
    (c : Wiring A) (public private : List A) (s : Script A) (ch : Challenges A) (columns : List ℕ) (word : ℕ → ℕ)
    (first second : Proof A)
    → IsSeen o e c public s ch columns private word first → IsSeen o e c public s ch columns private word second
    → ShowSame first second

-- What words lead to is decided by the elements that they stand for.
abbrev pub ElementsDecide : {A : Type 0} → Ops A → Coding A → Type 0
ElementsDecide {A} o e =
    (c : Wiring A) (public private : List A) (s : Script A) (ch : Challenges A) (columns : List ℕ)
    (first second : ℕ → ℕ) (proof : Proof A)
    → IsCase o e c public private s columns
    → ((i : ℕ) → i < random_count (params_of c) → e.element (first i) ≡ e.element (second i))
    → IsSeen o e c public s ch columns private first proof → IsSeen o e c public s ch columns private second proof

-- For satisfying inputs the tape of any proof gives a case.
abbrev pub DrawsAreCases : {A : Type 0} → Ops A → Coding A → Type 0
DrawsAreCases {A} o e =
    (c : Wiring A) (session : List ℕ) (public private : List A) (word : ℕ → ℕ) (proof : Proof A)
    → IsValid o c → HaveCounts c public private → IsSatisfied o e.number c.layers (inputs_of o public private)
    → (let t = given o e c session public private word proof in IsCase o e c public private t.script t.columns)

-- ---- a simulator

-- What a simulator makes passes, whatever it chooses.
abbrev pub SimulatedPasses : {A : Type 0} → Ops A → Coding A → Type 0
SimulatedPasses {A} o e =
    (c : Wiring A) (public : List A) (s : Script A) (ch : Challenges A) (columns : List ℕ) (free : List A)
    → IsValid o c → AreColumns (params_of c) columns
    → Passes o e c public s ch columns (simulated o e c public s ch columns (entry o free))

-- the lists of elements by which a simulator makes what a proof shows
abbrev pub Makes : {A : Type 0} → Ops A → Coding A → Wiring A → List A → Script A → Challenges A → List ℕ → Proof A
    → List A → Type 0
Makes o e c public s ch columns proof free = (length free ≡ free_count (params_of c))
    × ShowSame proof (simulated o e c public s ch columns (entry o free))

-- It makes all that passes, each by one list.
abbrev pub SimulatedOnce : {A : Type 0} → Ops A → Coding A → Type 0
SimulatedOnce {A} o e =
    (c : Wiring A) (public : List A) (s : Script A) (ch : Challenges A) (columns : List ℕ) (proof : Proof A)
    → IsValid o c → AreColumns (params_of c) columns → Passes o e c public s ch columns proof
    → HasExactly 1 (Makes o e c public s ch columns proof)

-- A prover's lists are longer by the idle elements than a simulator's. So to any proof leads the same share of all
-- lists of either.
abbrev pub CountsAgree : {A : Type 0} → Ops A → Type 0
CountsAgree {A} o = (c : Wiring A) → IsValid o c
    → random_count (params_of c) ≡ free_count (params_of c) + idle_count (params_of c)

-- To a proof lead equally large shares of a prover's lists of random elements and of a simulator's lists of free
-- ones: so many of the prover's and one of the simulator's where it passes, and none where it does not.
pub record HasEqualShares {A : Type 0} (o : Ops A) (e : Coding A) (c : Wiring A) (public private : List A)
    (s : Script A) (ch : Challenges A) (columns : List ℕ) (proof : Proof A) : Type 0 where
  pub passing : Passes o e c public s ch columns proof
      → HasExactly (e.size ^ idle_count (params_of c)) (LeadsTo o e c public s ch columns private proof)
      × HasExactly 1 (Makes o e c public s ch columns proof)
  pub only_passing_leads : (elements : List A) → LeadsTo o e c public s ch columns private proof elements
      → Passes o e c public s ch columns proof
  pub only_passing_makes : (free : List A) → Makes o e c public s ch columns proof free
      → Passes o e c public s ch columns proof
  pub shares : e.size ^ idle_count (params_of c) * e.size ^ free_count (params_of c)
      ≡ 1 * e.size ^ random_count (params_of c)

-- Perfect zero knowledge for challenges that do not depend on the prover: all proofs have equal shares, whichever the
-- satisfying inputs are.
abbrev pub Hides : {A : Type 0} → Ops A → Coding A → Type 0
Hides {A} o e =
    (c : Wiring A) (public private : List A) (s : Script A) (ch : Challenges A) (columns : List ℕ) (proof : Proof A)
    → IsCase o e c public private s columns → HasEqualShares o e c public private s ch columns proof

-- ---- words

-- The elements that a prover's words stand for lead to its proof, by its own tape's draws.
abbrev pub ProofsLead : {A : Type 0} → Ops A → Coding A → Type 0
ProofsLead {A} o e =
    (c : Wiring A) (session : List ℕ) (public private : List A) (word : ℕ → ℕ) (proof : Proof A)
    → IsValid o c → HaveCounts c public private → IsSatisfied o e.number c.layers (inputs_of o public private)
    → IsProofOf o e c session public private word proof
    → (let t = given o e c session public private word proof in
    LeadsTo o e c public t.script t.challenges t.columns private proof
    (map (λ i. e.element (word i)) (range_with_len 0 (random_count (params_of c)))))

-- Of the numbers below n, each element has as many as n holds the field's size, and one more where its number is
-- below the remainder.
abbrev pub WordsCounted : {A : Type 0} → Coding A → Type 0
WordsCounted {A} e =
    (n : ℕ) (x : A)
    → HasExactly (n / e.size + cond (nat_lt (e.number x) (n % e.size)) 1 0)
    (λ (word : ℕ). (word < n) × (e.element word ≡ x))
