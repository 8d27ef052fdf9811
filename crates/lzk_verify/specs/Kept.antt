-- What a verifier that is fed bytes keeps of those that it was fed.
use Rattle.lzk_profile.specs.Profile.{opened_count}
use Rattle.std.specs.Prelude.{◌≡◌, ℕ, ◌+◌, ◌-◌, ◌*◌, ◌/◌, ◌%◌, ◌==◌, Bool, nat_le, nat_lt, min, cond, Option, Some, None, is_some, List, [], length, map, take, drop, slice_index_or}
use Rattle.std.specs.List.{filter, range_with_len}
use Rattle.lzk_field.specs.Bytes.{number_from}
use Rattle.lzk_field.specs.Coding.{Coding}
use Rattle.lzk_field.specs.Ring.{Ops}
use Rattle.lzk_field.specs.Sums.{entry}
use Rattle.lzk_merkle.specs.Leaf.{leaf_of}
use Rattle.lzk_transcript.specs.Tape.{TapeState}
use Rattle.lzk_transcript.specs.Columns.{after_draws, opened}
use Rattle.lzk_circuit.specs.Valid.{Wiring}
use Rattle.lzk_layout.specs.declared.params.Params.{Params}
use Rattle.lzk_layout.specs.declared.part.ProofPart.{ProofPart}
use Rattle.lzk_layout.specs.declared.part.ProofPart.TheVariants.{Magic, Id, Root, Message, Ldt, Dot, QuadHead, QuadTail, Nonce, Column, Count, Digest}
use Rattle.lzk_layout.specs.declared.fault.ProofFault.{ProofFault}
use Rattle.lzk_layout.specs.Sizes.{params_of}
use Rattle.lzk_layout.specs.Places.{depth, output_bits, round_count, sent_at}
use Rattle.lzk_layout.specs.Fields.{shape}
use Rattle.lzk_layout.specs.Files.{AreBytes}
use Rattle.lzk_layout.specs.Parts.{before_opened, before_count}
use Rattle.lzk_layout.specs.Fronts.{digests_in, IsFront, IsFaulty}
use Rattle.lzk_sumcheck.specs.declared.script.LayerScript.{LayerScript}
use Rattle.lzk_sumcheck.specs.declared.script.Script.{Script}
use Rattle.lzk_sumcheck.specs.Draws.{with_element, with_array, with_bytes}
use Rattle.lzk_sumcheck.specs.Opening.{public_tape}
use Rattle.lzk_sumcheck.specs.Script.{after_first, after_rounds, after_layers, after_script, script, layer_at}
use Rattle.lzk_accept.specs.declared.challenges.Challenges.{Challenges}
use Rattle.lzk_accept.specs.Challenges.{Transcript, challenge_count, challenges}
use Rattle.lzk_accept.specs.Checks.{combined_row_of, AtEach, FailsFirst}
use Rattle.lzk_circbytes.specs.Files.{id_of}
use Rattle.lzk_verify.specs.Columns.{values_of, IsLowDegreeIn, IsLinearIn, IsQuadraticIn}

-- ---- the elements sent before the columns, in the order of the file

-- how many they are
abbrev pub sent_count : Params → ℕ
sent_count p = p.nsum + p.block + p.dblock + opened_count + (p.dblock - p.block)

-- where each of them stands among all, and none of the other parts of a file
abbrev pub place_of : Params → ProofPart → Option ℕ
place_of p (Message i) = Some i
place_of p (Ldt i) = Some (p.nsum + i)
place_of p (Dot i) = Some (p.nsum + p.block + i)
place_of p (QuadHead i) = Some (p.nsum + p.block + p.dblock + i)
place_of p (QuadTail i) = Some (p.nsum + p.block + p.dblock + opened_count + i)
place_of p Magic = None
place_of p Id = None
place_of p Root = None
place_of p (Nonce k) = None
place_of p (Column k i) = None
place_of p Count = None
place_of p (Digest i) = None

module _ {A : Type 0} (p : Params) (sent : List A) where
  -- those of the sumchecks
  abbrev pub messages_in : List A
  messages_in = take p.nsum sent

  -- those of the low degree answer
  abbrev pub ldt_in : List A
  ldt_in = take p.block (drop p.nsum sent)

  -- those of the linear answer
  abbrev pub dot_in : List A
  dot_in = take p.dblock (drop (p.nsum + p.block) sent)

  -- the quadratic answer's first values
  abbrev pub head_in : List A
  head_in = take opened_count (drop (p.nsum + p.block + p.dblock) sent)

  -- and its last ones
  abbrev pub tail_in : List A
  tail_in = take (p.dblock - p.block) (drop (p.nsum + p.block + p.dblock + opened_count) sent)

-- ---- what the fields that are whole say

-- the elements of n fields from number k on, as far as they are there
abbrev pub elements : {A : Type 0} → Coding A → List (List ℕ) → ℕ → ℕ → List A
elements e fields k n = map (λ f. e.element (number_from f)) (take n (drop k fields))

-- the number of the first field of opened column k: its nonce
abbrev pub column_place : Params → ℕ → ℕ
column_place p k = before_opened p + k * (1 + p.nrow)

-- of so many fields, how many opened columns are whole
abbrev pub whole_columns : Params → ℕ → ℕ
whole_columns p n = min opened_count ((n - before_opened p) / (1 + p.nrow))

-- how many fields of the opened column are whole that is being read
abbrev pub column_fields : Params → ℕ → ℕ
column_fields p n = cond (nat_lt n (before_count p)) ((n - before_opened p) % (1 + p.nrow)) 0

-- the circuit's id, and the root
abbrev pub id_read : List (List ℕ) → List ℕ
id_read fields = slice_index_or fields 1 []

abbrev pub root_read : List (List ℕ) → List ℕ
root_read fields = slice_index_or fields 2 []

-- the digests of the path
abbrev pub digests_read : Params → List (List ℕ) → List (List ℕ)
digests_read p fields = drop (before_count p + 1) fields

-- the nonce of opened column k, where it is there
abbrev pub nonce_read : Params → List (List ℕ) → ℕ → List ℕ
nonce_read p fields k = slice_index_or fields (column_place p k) []

module _ {A : Type 0} (e : Coding A) (p : Params) (fields : List (List ℕ)) where
  -- the elements sent before the columns
  abbrev pub sent_read : List A
  sent_read = elements e fields 3 (sent_count p)

  -- those of opened column k, as far as they are there
  abbrev pub column_read : ℕ → List A
  column_read k = elements e fields (column_place p k + 1) p.nrow

  -- its leaf
  abbrev pub leaf_read : ℕ → List ℕ
  leaf_read k = leaf_of e.bytes e.number (nonce_read p fields k) (column_read k)

-- ---- what the tape gives so far: start is the tape with session, id and public inputs written, and n fields are whole

module _ {A : Type 0} (o : Ops A) (e : Coding A) (c : Wiring A) (p : Params) (messages : List A) where
  -- how many rounds of layer l have sent both their elements
  abbrev pub rounds_done : ℕ → ℕ
  rounds_done l = min (round_count c l) ((length messages - sent_at c l) / 2)

  -- how many layers have sent all their elements
  abbrev pub layers_done : ℕ
  layers_done = length (filter (λ l. nat_le (sent_at c (l + 1)) (length messages)) (range_with_len 0 (depth c)))

  -- how many elements the layer has sent that is being read, beside those of its rounds that are done
  abbrev pub odd_element : ℕ → ℕ
  odd_element l = sent_at c l + 2 * rounds_done l

  -- the tape within a layer: behind its last challenge, and behind one more element where one is there
  abbrev pub within_layer : ℕ → TapeState → TapeState
  within_layer l t =
      let behind = after_rounds o e messages (sent_at c l) (rounds_done l) t in
      cond (nat_lt (odd_element l) (length messages)) (with_element e (entry o messages (odd_element l)) behind) behind

  -- the tape behind the root, after all writes and draws that the sent elements allow
  unfoldable pub with_messages : TapeState → TapeState
  with_messages t =
      cond (layers_done == depth c) (after_draws (challenge_count p) (after_script o e messages c t))
      (within_layer layers_done
      (after_first c.version (after_layers o e messages c layers_done (after_draws (output_bits c) t))))

  -- what layer l has drawn so far
  abbrev pub layer_drawn : Script A → ℕ → LayerScript A
  layer_drawn s l =
      let layer = layer_at o s l in
      record {
        alpha = layer.alpha;
        beta = layer.beta;
        ra = take ((rounds_done l + 1) / 2) layer.ra;
        rb = take (rounds_done l / 2) layer.rb;
      }

  -- the part of the script that is drawn; gamma is 0 until all elements are sent
  unfoldable pub script_drawn : TapeState → Script A
  script_drawn t =
      let s = script o e messages c t in
      cond (layers_done == depth c) s (record {
        out_point = s.out_point;
        layers = map (layer_drawn s) (range_with_len 0 (layers_done + 1));
        gamma = o.zero;
      })

-- a list that is whole is written to the tape
abbrev pub with_whole : {A : Type 0} → Coding A → ℕ → List A → TapeState → TapeState
with_whole e n xs t = cond (length xs == n) (with_array e xs t) t

-- the script of which nothing is drawn
abbrev pub no_script : {A : Type 0} → Ops A → Script A
no_script o = record { out_point = []; layers = []; gamma = o.zero }

-- no challenge is drawn
abbrev pub no_challenges : {A : Type 0} → Challenges A
no_challenges = record { u = []; lambda = []; mu = []; v = [] }

-- whether of so many fields the root is whole, all elements of the sumchecks, and all answers
abbrev pub has_root : ℕ → Bool
has_root n = nat_le 3 n

abbrev pub has_messages : Params → ℕ → Bool
has_messages p n = nat_le (3 + p.nsum) n

abbrev pub has_answers : Params → ℕ → Bool
has_answers p n = nat_le (before_opened p) n

module _ {A : Type 0} (o : Ops A) (e : Coding A) (c : Wiring A) (p : Params) (start : TapeState) (root : List ℕ)
    (sent : List A) where
  -- the tape behind the challenges, with the answers that are whole written
  abbrev pub with_answers : TapeState → TapeState
  with_answers t =
      with_whole e (p.dblock - p.block) (tail_in p sent) (with_whole e opened_count (head_in p sent)
      (with_whole e p.dblock (dot_in p sent) (with_whole e p.block (ldt_in p sent) t)))

  -- the tape behind gamma, once the elements of the sumchecks are whole
  abbrev pub behind_script : TapeState
  behind_script = after_script o e (messages_in p sent) c (with_bytes root start)

  -- the tape behind the answers, once they are whole
  abbrev pub behind_answers : TapeState
  behind_answers =
      with_array e (tail_in p sent) (with_array e (head_in p sent)
      (with_array e (dot_in p sent) (with_array e (ldt_in p sent) (after_draws (challenge_count p) behind_script))))

  -- all that the tape gives, once the answers are whole
  unfoldable pub whole_transcript : Transcript A
  whole_transcript = record {
    script = script o e (messages_in p sent) c (with_bytes root start);
    challenges = challenges e p behind_script;
    columns = opened p.mcol opened_count behind_answers;
  }

  module _ (n : ℕ) where
    -- the tape after all writes and draws that the fields allow
    unfoldable pub tape_reached : TapeState
    tape_reached =
        cond (has_root n) (with_answers (with_messages o e c p (messages_in p sent) (with_bytes root start))) start

    -- what the tape gave before the answers are whole
    unfoldable pub given_before : Transcript A
    given_before = record {
      script = cond (has_root n) (script_drawn o e c p (messages_in p sent) (with_bytes root start)) (no_script o);
      challenges = cond (has_messages p n) (challenges e p behind_script) no_challenges;
      columns = [];
    }

    -- what the tape gave
    abbrev pub given_so_far : Transcript A
    given_so_far = cond (has_answers p n) whole_transcript given_before

-- ---- what is kept

-- what is kept of bytes that have no fault but that they end
pub record Kept (A : Type 0) : Type 0 where
  -- how many fields are whole, and the bytes of the next
  pub fields : ℕ
  pub rest : List ℕ
  pub public : List A
  -- until the columns are drawn: the tape with the session, the circuit's id and the public inputs written, and the
  -- tape after all writes and draws that the fields allow
  pub start : Option TapeState
  pub tape : Option TapeState
  pub id : List ℕ
  pub root : List ℕ
  -- the elements of the sumchecks and of the answers, in the order of the file
  pub sent : List A
  pub given : Transcript A
  -- of the opened columns that are whole: their leaves, and the least that fails each check
  pub leaves : List (List ℕ)
  pub low_degree : Option ℕ
  pub linear : Option ℕ
  pub quadratic : Option ℕ
  -- of the column that is being read
  pub nonce : List ℕ
  pub column : List A
  pub count : Option ℕ
  pub digests : List (List ℕ)

-- the least of these columns at which a check fails, or none
abbrev pub IsLeastFailing : List ℕ → (ℕ → Type 0) → Option ℕ → Type 0
IsLeastFailing columns CheckAt None = AtEach columns CheckAt
IsLeastFailing columns CheckAt (Some column) = FailsFirst columns CheckAt column

-- the checks of the answers at opened column k of these fields
module _ {A : Type 0} (o : Ops A) (e : Coding A) (c : Wiring A) (p : Params) (public : List A) (fields : List (List ℕ))
    (given : Transcript A) where
  abbrev pub point_at : ℕ → ℕ
  point_at k = p.dblock + slice_index_or given.columns k 0

  abbrev pub LowDegreeRead : ℕ → Type 0
  LowDegreeRead k =
      IsLowDegreeIn o e.element p (column_read e p fields k) (point_at k) (ldt_in p (sent_read e p fields))
      given.challenges.u

  abbrev pub LinearRead : ℕ → Type 0
  LinearRead k =
      IsLinearIn o e.element p (column_read e p fields k) (point_at k) (dot_in p (sent_read e p fields))
      (combined_row_of o e.element c public given.script (messages_in p (sent_read e p fields)) given.challenges)

  abbrev pub QuadraticRead : ℕ → Type 0
  QuadraticRead k =
      IsQuadraticIn o e.element p (column_read e p fields k) (point_at k)
      (values_of o p (head_in p (sent_read e p fields)) (tail_in p (sent_read e p fields))) given.challenges.v

module _ {A : Type 0} (o : Ops A) (e : Coding A) (c : Wiring A) (p : Params) (session : List ℕ) (public : List A)
    (fields : List (List ℕ)) where
  -- the tape that begins, and what it gave so far
  abbrev pub start_of : TapeState
  start_of = public_tape e session (id_of e c) public

  abbrev pub given_of : Transcript A
  given_of = given_so_far o e c p start_of (root_read fields) (sent_read e p fields) (length fields)

  -- the tape after all writes and draws that the fields allow
  abbrev pub tape_of : TapeState
  tape_of = tape_reached o e c p start_of (root_read fields) (sent_read e p fields) (length fields)

  -- the opened columns that are whole
  abbrev pub columns_of : List ℕ
  columns_of = take (whole_columns p (length fields)) given_of.columns

  -- what is kept of these fields is this
  pub record IsKept (k : Kept A) : Type 0 where
    pub fields_are : k.fields ≡ length fields
    pub public_are : k.public ≡ public
    pub start_is : k.start ≡ cond (has_answers p (length fields)) None (Some start_of)
    pub tape_is : k.tape ≡ cond (has_answers p (length fields)) None (Some tape_of)
    pub id_is : k.id ≡ id_read fields
    pub root_is : k.root ≡ root_read fields
    pub sent_are : k.sent ≡ sent_read e p fields
    pub given_is : k.given ≡ given_of
    pub leaves_are : k.leaves ≡ map (leaf_read e p fields) (range_with_len 0 (whole_columns p (length fields)))
    pub low_degree_is : IsLeastFailing columns_of (LowDegreeRead o e c p public fields given_of) k.low_degree
    pub linear_is : IsLeastFailing columns_of (LinearRead o e c p public fields given_of) k.linear
    pub quadratic_is : IsLeastFailing columns_of (QuadraticRead o e c p public fields given_of) k.quadratic
    pub nonce_is : k.nonce
        ≡ cond (nat_lt 0 (column_fields p (length fields))) (nonce_read p fields (whole_columns p (length fields))) []
    pub column_is : k.column
        ≡ cond (nat_lt 0 (column_fields p (length fields))) (column_read e p fields (whole_columns p (length fields)))
        []
    pub count_is : k.count ≡ digests_in p fields
    pub digests_are : k.digests ≡ digests_read p fields

-- What a verifier that is being fed holds: the first fault but that the bytes end, or else what is kept.
pub data Held (A : Type 0) : Type 0 where
  stopped : ProofFault → Held A
  keeping : Kept A → Held A

-- a desk: its circuit, and what it holds while it is being fed
pub record DeskState (A : Type 0) : Type 0 where
  pub circuit : Wiring A
  pub held : Option (Held A)

-- it is being fed
abbrev pub is_fed : {A : Type 0} → DeskState A → Bool
is_fed d = is_some d.held

-- the bytes have a front whose fields and rest are kept
pub record IsKeptOf {A : Type 0} (o : Ops A) (e : Coding A) (c : Wiring A) (session : List ℕ) (public : List A)
    (bytes : List ℕ) (k : Kept A) : Type 0 where
  pub fields : List (List ℕ)
  pub front : IsFront (shape e.bytes e.size) (params_of c) bytes fields k.rest
  pub kept : IsKept o e c (params_of c) session public fields k

-- what is held is that of these bytes
unfoldable pub IsHeldOf : {A : Type 0} → Ops A → Coding A → Wiring A → List ℕ → List A → List ℕ → Option (Held A)
    → Type 0
IsHeldOf o e c session public bytes None = ⊥
IsHeldOf o e c session public bytes (Some (stopped fault)) = IsFaulty (shape e.bytes e.size) (params_of c) bytes fault
IsHeldOf o e c session public bytes (Some (keeping k)) = IsKeptOf o e c session public bytes k

-- The desk stands behind these bytes: it is being fed, and keeps of them, for this session and these public inputs,
-- what a verifier keeps.
pub record Stands {A : Type 0} (o : Ops A) (e : Coding A) (session : List ℕ) (public : List A) (bytes : List ℕ)
    (d : DeskState A) : Type 0 where
  pub are_bytes : AreBytes bytes
  pub held : IsHeldOf o e d.circuit session public bytes d.held
