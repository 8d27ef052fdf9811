-- What a prover sends and opens, by its random elements and for any challenges, and what of it a verifier checks.
use Rattle.lzk_profile.specs.Profile.{opened_count}
use Rattle.std.specs.Prelude.{◌≡◌, ◌≢◌, ℕ, ◌+◌, ◌-◌, ◌<◌, List, length, slice_index}
use Rattle.std.specs.List.{flat_map}
use Rattle.std.proofs.Common.{zero, suc}
use Rattle.lzk_field.specs.Coding.{Coding}
use Rattle.lzk_field.specs.Ring.{Ops}
use Rattle.lzk_field.specs.Sums.{entry}
use Rattle.lzk_circuit.specs.Valid.{Wiring}
use Rattle.lzk_circuit.specs.Wires.{all_values, inputs_of}
use Rattle.lzk_layout.specs.declared.params.Params.{Params}
use Rattle.lzk_layout.specs.declared.proof.Proof.{Proof}
use Rattle.lzk_layout.specs.Sizes.{params_of, sent_counts}
use Rattle.lzk_layout.specs.Places.{depth}
use Rattle.lzk_sumcheck.specs.declared.script.Script.{Script}
use Rattle.lzk_sumcheck.specs.Messages.{IsLayerSent}
use Rattle.lzk_accept.specs.declared.challenges.Challenges.{Challenges}
use Rattle.lzk_ligero_tableau.specs.Tableau.{randoms, tableau, column, row1_words, row2_words, nonce_words}
use Rattle.lzk_ligero_proof.specs.Answered.{answers_of, AreSent}

-- ---- random elements

-- how many random elements there are: all words but those of the columns' nonces
abbrev pub random_count : Params → ℕ
random_count = nonce_words

-- the words that stand for a list of elements: their numbers
abbrev pub words_for : {A : Type 0} → Ops A → Coding A → List A → ℕ → ℕ
words_for o e elements i = e.number (entry o elements i)

-- how many of them stand in no row: one in row 1, whose place has what makes the sum 0, and in row 2 one for each of
-- its zeros
abbrev pub idle_count : Params → ℕ
idle_count p = 1 + p.wr

-- the number of the k-th of these
abbrev pub idle_at : Params → ℕ → ℕ
idle_at p zero = row1_words p + (p.block - 1)
idle_at p (suc k) = row2_words p + (opened_count + k)

-- ---- views

module _ {A : Type 0} (o : Ops A) (e : Coding A) (c : Wiring A) (public : List A) (s : Script A) (ch : Challenges A)
    (columns : List ℕ) where
  -- The sent elements, the answers and the opened columns of a proof are those of a prover with these private inputs
  -- and words, for this script, these challenges and these columns. The other parts of the proof may be anything.
  pub record IsSeen (private : List A) (word : ℕ → ℕ) (proof : Proof A) : Type 0 where
    pub count : length proof.messages ≡ sent_counts c
    pub layers : (l : ℕ) → l < depth c
        → IsLayerSent o e.element c s (all_values o c.layers (inputs_of o public private))
        (randoms o e word 0 (sent_counts c)) proof.messages l
    pub answers : AreSent (params_of c) (answers_of o e.element c (params_of c) public s proof.messages ch
        (tableau o e c private word)) proof
    pub opened : proof.columns ≡ flat_map (column o e c private word) columns

-- 128 columns of the tree, of which no two are the same
pub record AreColumns (p : Params) (columns : List ℕ) : Type 0 where
  pub count : length columns ≡ opened_count
  pub inside : (k : ℕ) → k < opened_count → slice_index columns k < p.mcol
  pub apart : (j k : ℕ) → j < k → k < opened_count → slice_index columns j ≢ slice_index columns k
