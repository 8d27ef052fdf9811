-- The inputs of what is shown of a field satisfy what is asserted of it.
use Rattle.std.proofs.Common.{◌≡◌, ℕ, ◌+◌, ◌-◌, ◌*◌, ◌^◌, ◌<◌, ◌≤◌, List, [], ◌++◌, length, take, drop, map, refl, sym, ap, subst, ◌∙◌, arith, append_assoc, append-nil, length-append, ◌∷◌}
use Rattle.std.specs.Prelude.{IsTrue, Bool, true, false, ◌&&◌, ◌||◌, ◌==◌, nat_le}
use Rattle.std.proofs.lemmas.Bool.{leb-true, eqb-true, eq-eqb}
use Rattle.std.proofs.Math.Nat.{pow-le-pow_right}
use Rattle.lzk_goldilocks.specs.Prime.{p}
use Rattle.lzk_goldilocks.specs.Elements.{ops, of_number}
use Rattle.lzk_goldilocks.specs.declared.element.Gold.{Gold}
use Rattle.lzk_gadgets.specs.Inverses.{difference}
use Rattle.lzk_sha_circuit.specs.Digest.{AreBytes, digest_words}
use Rattle.lzk_sha_blocks.specs.Hashed.{AreHashing}
use Rattle.lzk_policy.specs.declared.policy.FieldKind.{FieldKind}
use Rattle.lzk_policy.specs.declared.policy.FieldKind.TheVariants as kinds
use Rattle.lzk_policy.specs.declared.policy.RecordField.{RecordField}
use Rattle.lzk_policy.specs.declared.policy.Claim.{Claim}
use Rattle.lzk_policy.specs.declared.policy.Claim.TheVariants as claims
use Rattle.lzk_policy.specs.Policies.{IsField, has_size, suits, is_date, is_text, is_bytes, is_sealed}
use Rattle.lzk_policy_circuit.specs.Meaning.{AreBytesOf, field_number, value_count, tag_words, pseudonym_message, seal_message, sealed_message, IsPseudonym, IsTrueOf, piece_start, piece_size, piece_number}
use Rattle.lzk_policy_circuit.specs.Layout.{hash_rest, rest_of_hash, message_size, own_of_claim, rest_of_claim}
use Rattle.lzk_policy_circuit.specs.Met.{field_worth, number_worth, IsOrdered, IsStated, IsHashed}
use Rattle.lzk_policy_circuit.proofs.Lists.{take_front, drop_front}
use Rattle.lzk_policy_circuit.proofs.Bytes.{AreBitsOf, number_is, number_below}
use Rattle.lzk_policy_circuit.proofs.Dates.{number_of_small, own_number}
use Rattle.lzk_policy_circuit.proofs.OneOf.{one_of_backward}
use Rattle.lzk_policy_circuit.proofs.Sealing.{bytes_seal, bytes_sealed, long_seal, long_sealed, sealed_hashed, sealed_stated}
use Rattle.lzk_policy_circuit.proofs.Pseudonyms.{message_front, message_rest, length-message_front, length-message_rest, message_parts, message_bits_are, message_satisfies_parts, pseudonym_backward, bytes_message, long_message}
use Rattle.lzk_policy_inputs.specs.declared.value.Value.{Value}
use Rattle.lzk_policy_inputs.specs.declared.value.Value.TheVariants as values
use Rattle.lzk_policy_inputs.specs.Chosen.{IsNumber, IsTag, IsSecret, IsTold, HasKind, number_of, tag_of, secret_of, numbers_of, piece_of}
use Rattle.lzk_policy_inputs.specs.Refused.{IsRight, IsTrueWith}
use Rattle.lzk_policy_inputs.specs.Filled.{order_bits, front_of, rest_of, own_of, hashed_of}
use Rattle.lzk_policy_inputs.proofs.Bits.{length-order_bits, order_is}

-- ---- what a policy says of fields

pub both : (a b : Bool) → IsTrue (a && b) → IsTrue a × IsTrue b
both true b h = (refl, h)
both false b h = absurd cc

pub at_most : (a b : ℕ) → IsTrue (nat_le a b) → a ≤ b
at_most a b h = leb-true a b h

date_size : (k : FieldKind) (n : ℕ) → IsTrue (is_date k) → IsTrue (has_size k n) → n ≡ 4
date_size kinds.Date n d h = eqb-true n 4 h
date_size kinds.Text n d h = absurd cc
date_size kinds.Bytes n d h = absurd cc
date_size kinds.Sealed n d h = absurd cc

pub told_size : (k : FieldKind) (n : ℕ) → IsTrue (is_date k || (is_text k && nat_le n 7)) → IsTrue (has_size k n) → n ≤ 7
told_size kinds.Date n d h = omega (arith, eqb-true n 4 h)
told_size kinds.Text n d h = at_most n 7 d
told_size kinds.Bytes n d h = absurd cc
told_size kinds.Sealed n d h = absurd cc

power : (n k : ℕ) → n ≤ k → 256 ^ n ≤ 256 ^ k
power n k l = pow-le-pow_right (omega arith) l

-- ---- hashes

pub length-digest_words : (w : List ℕ) → length (map of_number (digest_words w)) ≡ 8
unfolding digest_words
length-digest_words w = refl

-- a message of so many bytes
module _ (size : ℕ) (w : List ℕ) (long : length w ≡ size) (bytes : AreBytes w) where
  front_is : message_front w bytes ≡ front_of size w
  front_is =
      let a = message_front w bytes in
      let b = message_rest w bytes in
      sym (take_front (8 * length w) a b (sym (length-message_front w bytes)))
      ∙ ap (take (8 * length w)) (message_parts w bytes) ∙ ap (λ n. front_of n w) long

  rest_is : message_rest w bytes ≡ rest_of size w
  rest_is =
      let a = message_front w bytes in
      let b = message_rest w bytes in
      sym (drop_front (8 * length w) a b (sym (length-message_front w bytes)))
      ∙ ap (drop (8 * length w)) (message_parts w bytes) ∙ ap (λ n. rest_of n w) long

  pub length-front_of : length (front_of size w) ≡ 8 * size
  length-front_of = ap length (sym front_is) ∙ length-message_front w bytes ∙ ap (λ n. 8 * n) long

  pub length-rest_of : length (rest_of size w) ≡ rest_of_hash size
  length-rest_of = ap length (sym rest_is) ∙ length-message_rest w bytes ∙ ap rest_of_hash long

  -- the bits of the message, whatever stands behind them
  pub front_bits : (more : List Gold) → AreBitsOf (front_of size w ++ more) 0 w
  front_bits more = subst (λ (l : List Gold). AreBitsOf (l ++ more) 0 w) front_is (message_bits_are w bytes more)

  pub front_satisfies : AreHashing ops of_number size (map of_number (digest_words w)) (front_of size w ++ rest_of size w)
  front_satisfies =
      subst (λ (n : ℕ). AreHashing ops of_number n (map of_number (digest_words w)) (front_of size w ++ rest_of size w)) long
      (subst (λ (l : List Gold). AreHashing ops of_number (length w) (map of_number (digest_words w)) l) (λ i. front_is i ++ rest_is i) (message_satisfies_parts w bytes))

-- ---- what is shown of a field

pub number_small : (m : List ℕ) (f : RecordField) (v : Value) → IsNumber v → number_of m f v < p
number_small m f (values.Number n) h = h
number_small m f (values.Tag tag) h = absurd h
number_small m f (values.Sealed tag secret) h = absurd h
number_small m f (values.Spelled numbers) h = absurd h
number_small m f values.Own h = absurd h

tag_bytes : (v : Value) → IsTag v → AreBytesOf 16 (tag_of v)
tag_bytes (values.Number n) h = absurd h
tag_bytes (values.Tag tag) h = h
tag_bytes (values.Sealed tag secret) h = absurd h
tag_bytes (values.Spelled numbers) h = absurd h
tag_bytes values.Own h = absurd h

both_bytes : (v : Value) → IsSecret v → AreBytesOf 16 (tag_of v) × AreBytesOf 16 (secret_of v)
both_bytes (values.Number n) h = absurd h
both_bytes (values.Tag tag) h = absurd h
both_bytes (values.Sealed tag secret) h = h
both_bytes (values.Spelled numbers) h = absurd h
both_bytes values.Own h = absurd h

-- the eight numbers behind a tag's
digest_behind : (w : List ℕ) (tags more : List Gold) → length tags ≡ 4 → take 8 (drop 4 ((tags ++ map of_number (digest_words w)) ++ more)) ≡ map of_number (digest_words w)
digest_behind w tags more e =
    let d = map of_number (digest_words w) in
    ap (λ l. take 8 (drop 4 l)) (append_assoc tags d more) ∙ ap (take 8) (drop_front 4 tags (d ++ more) (sym e)) ∙ take_front 8 d more (sym (length-digest_words w))

-- the messages of a seal and of its secret
module _ (v : Value) (k : IsSecret v) where
  seal_w : length (seal_message (secret_of v)) ≡ 20
  seal_w = long_seal (secret_of v) (both_bytes v k).1

  seal_b : AreBytes (seal_message (secret_of v))
  seal_b = bytes_seal (secret_of v) (both_bytes v k).1

  sealed_w : length (sealed_message (secret_of v) (tag_of v)) ≡ 36
  sealed_w = long_sealed (secret_of v) (tag_of v) (both_bytes v k).1 (both_bytes v k).0

  sealed_b : AreBytes (sealed_message (secret_of v) (tag_of v))
  sealed_b = bytes_sealed (secret_of v) (tag_of v) (both_bytes v k).1 (both_bytes v k).0

  seal_front_long : length (front_of 20 (seal_message (secret_of v))) ≡ 160
  seal_front_long = length-front_of 20 (seal_message (secret_of v)) seal_w seal_b

  seal_rest_long : length (rest_of 20 (seal_message (secret_of v))) ≡ hash_rest
  seal_rest_long = length-rest_of 20 (seal_message (secret_of v)) seal_w seal_b

  sealed_front_long : length (front_of 36 (sealed_message (secret_of v) (tag_of v))) ≡ 288
  sealed_front_long = length-front_of 36 (sealed_message (secret_of v) (tag_of v)) sealed_w sealed_b

  sealed_rest_long : length (rest_of 36 (sealed_message (secret_of v) (tag_of v))) ≡ hash_rest
  sealed_rest_long = length-rest_of 36 (sealed_message (secret_of v) (tag_of v)) sealed_w sealed_b

module _ (m : List ℕ) (bytes : AreBytes m) (f : RecordField) (is : IsField (length m) f) where
  pub within : f.place + f.size ≤ length m
  within = at_most (f.place + f.size) (length m) is.1

  pub small_date : IsTrue (is_date f.kind) → field_number m f < 2 ^ 32
  small_date d =
      let four = date_size f.kind f.size d is.0 in
      omega (arith, number_below m f.place f.size bytes within, power f.size 4 (omega (arith, four)))

  worth_is : (bits : List Gold) → AreBitsOf bits 0 m → field_worth bits f ≡ of_number (field_number m f)
  worth_is bits h =
      let zero_at : 8 * f.place ≡ 0 + 8 * f.place = omega arith in
      ap (λ a. number_worth bits a f.size) zero_at ∙ number_is bits 0 m h bytes f.place f.size within

  piece_is : (bits : List Gold) → AreBitsOf bits 0 m → (k : ℕ) → number_worth bits (8 * (f.place + piece_start f.size k)) (piece_size f.size k) ≡ of_number (piece_number m f k)
  piece_is bits h k =
      let place = f.place + piece_start f.size k in
      let size = piece_size f.size k in
      let zero_at : 8 * place ≡ 0 + 8 * place = omega arith in
      ap (λ a. number_worth bits a size) zero_at ∙ number_is bits 0 m h bytes place size (omega (arith, within))

  -- dates in order
  pub most : (name : List ℕ) (v : Value) → IsNumber v → IsTrueOf m f (claims.AtMost name) (numbers_of m f (claims.AtMost name) v)
      → (field_number m f ≤ number_of m f v) × (number_of m f v < 2 ^ 32)
  most name v k t =
      let e = number_of_small (number_of m f v) (number_small m f v k) in
      (omega (arith, e, t.0), omega (arith, e, t.1))

  pub least : (name : List ℕ) (v : Value) → IsNumber v → IsTrueOf m f (claims.AtLeast name) (numbers_of m f (claims.AtLeast name) v)
      → number_of m f v ≤ field_number m f
  least name v k t =
      let e = number_of_small (number_of m f v) (number_small m f v k) in
      omega (arith, e, t)

  -- the message of a pseudonym
  module _ (v : Value) (k : IsTag v) (few : message_size f ≤ 55) where
    message : List ℕ
    message = pseudonym_message m f (tag_of v)

    message_long : length (pseudonym_message m f (tag_of v)) ≡ message_size f
    message_long = long_message m f within (tag_of v) (tag_bytes v k) bytes

    message_bytes : AreBytes (pseudonym_message m f (tag_of v))
    message_bytes = bytes_message m f within (tag_of v) (tag_bytes v k) bytes

    message_front_long : length (front_of (message_size f) (pseudonym_message m f (tag_of v))) ≡ 8 * message_size f
    message_front_long = length-front_of (message_size f) (pseudonym_message m f (tag_of v)) message_long message_bytes

    message_rest_long : length (rest_of (message_size f) (pseudonym_message m f (tag_of v))) ≡ hash_rest
    message_rest_long = length-rest_of (message_size f) (pseudonym_message m f (tag_of v)) message_long message_bytes ∙ omega (arith, few)

    -- the eight numbers behind the tag's
    digest_at : (tags more : List Gold) → length tags ≡ 4
        → take 8 (drop 4 ((tags ++ map of_number (digest_words (pseudonym_message m f (tag_of v)))) ++ more)) ≡ map of_number (digest_words (pseudonym_message m f (tag_of v)))
    digest_at tags more e =
        let d = map of_number (digest_words (pseudonym_message m f (tag_of v))) in
        ap (λ l. take 8 (drop 4 l)) (append_assoc tags d more)
        ∙ ap (take 8) (drop_front 4 tags (d ++ more) (sym e))
        ∙ take_front 8 d more (sym (length-digest_words (pseudonym_message m f (tag_of v))))

  few_bytes : (name : List ℕ) → IsTrue (suits f (claims.Pseudonym name)) → message_size f ≤ 55
  few_bytes name s = at_most (message_size f) 55 (both (is_bytes f.kind) (nat_le (message_size f) 55) s).1

  -- the public numbers are as many as the policy says, and so are the private inputs
  pub length-numbers_of : (claim : Claim) (v : Value) → length (numbers_of m f claim v) ≡ value_count claim
  length-numbers_of (claims.AtMost name) v = refl
  length-numbers_of (claims.AtLeast name) v = refl
  length-numbers_of (claims.Equal name) v = refl
  length-numbers_of (claims.Spelled name) v = refl
  length-numbers_of (claims.OneOf texts) v = refl
  length-numbers_of (claims.Sealed name) v =
      let w = sealed_message (secret_of v) (tag_of v) in
      length-append (map of_number (tag_words (tag_of v))) (map of_number (digest_words w)) ∙ ap (λ n. 4 + n) (length-digest_words w)
  length-numbers_of (claims.Pseudonym name) v =
      let d = map of_number (digest_words (pseudonym_message m f (tag_of v))) in
      length-append (map of_number (tag_words (tag_of v))) d ∙ ap (λ n. 4 + n) (length-digest_words (pseudonym_message m f (tag_of v)))

  pub length-own_of : (claim : Claim) → IsTrue (suits f claim) → (v : Value) → IsRight m f claim v → length (own_of m f claim v) ≡ own_of_claim f claim
  length-own_of (claims.AtMost name) s v r =
      length-order_bits (number_of m f v - field_number m f) (number_of m f v)
  length-own_of (claims.AtLeast name) s v r =
      length-order_bits (field_number m f - number_of m f v) (number_of m f v)
  length-own_of (claims.Equal name) s v r = refl
  length-own_of (claims.Spelled name) s v r = refl
  length-own_of (claims.OneOf texts) s v r = refl
  length-own_of (claims.Pseudonym name) s v r = message_front_long v r.0 (few_bytes name s)
  length-own_of (claims.Sealed name) s v r =
      let w = seal_message (secret_of v) in
      let front = front_of 20 w in
      let words = map of_number (digest_words w) in
      let second = front_of 36 (sealed_message (secret_of v) (tag_of v)) in
      omega (arith, length-append (front ++ words) second, length-append front words, seal_front_long v r.0, length-digest_words w, sealed_front_long v r.0)

  pub length-hashed_of : (claim : Claim) → IsTrue (suits f claim) → (v : Value) → IsRight m f claim v → length (hashed_of m f claim v) ≡ rest_of_claim claim
  length-hashed_of (claims.AtMost name) s v r = refl
  length-hashed_of (claims.AtLeast name) s v r = refl
  length-hashed_of (claims.Equal name) s v r = refl
  length-hashed_of (claims.Spelled name) s v r = refl
  length-hashed_of (claims.OneOf texts) s v r = refl
  length-hashed_of (claims.Pseudonym name) s v r = message_rest_long v r.0 (few_bytes name s)
  length-hashed_of (claims.Sealed name) s v r =
      let first = rest_of 20 (seal_message (secret_of v)) in
      let last = rest_of 36 (sealed_message (secret_of v) (tag_of v)) in
      omega (arith, length-append first last, seal_rest_long v r.0, sealed_rest_long v r.0)

  -- what is true is so whatever numbers stand behind
  pub true_of : (claim : Claim) → IsTrue (suits f claim) → (v : Value) → IsRight m f claim v → (more : List Gold) → IsTrueOf m f claim (numbers_of m f claim v ++ more)
  true_of (claims.AtMost name) s v r more = r.1
  true_of (claims.AtLeast name) s v r more = r.1
  true_of (claims.Equal name) s v r more = r.1
  true_of (claims.Spelled name) s v r more = λ i. of_number (r.1.0 i) ∷ of_number (r.1.1 i) ∷ of_number (r.1.2 i) ∷ of_number (r.1.3 i) ∷ of_number (r.1.4 i) ∷ []
  true_of (claims.OneOf texts) s v r more = r.1
  true_of (claims.Pseudonym name) s v r more = record {
    tag = tag_of v;
    is_tag = tag_bytes v r.0;
    words = refl;
    digest = digest_at v r.0 (few_bytes name s) (map of_number (tag_words (tag_of v))) more refl;
  }
  true_of (claims.Sealed name) s v r more = (
    secret_of v,
    record {
      is_secret = (both_bytes v r.0).1;
      seal = r.1;
      tag = tag_of v;
      is_tag = (both_bytes v r.0).0;
      words = refl;
      digest = digest_behind (sealed_message (secret_of v) (tag_of v)) (map of_number (tag_words (tag_of v))) more refl;
    },
  )

  -- the words of a sealed field are there
  within_seal : (name : List ℕ) → IsTrue (suits f (claims.Sealed name)) → f.place + 32 ≤ length m
  within_seal name s = omega (arith, within, eqb-true f.size 32 (both (is_sealed f.kind) (f.size == 32) s).1)

  -- what is asserted holds
  pub stated_of : (claim : Claim) → IsTrue (suits f claim) → (v : Value) → IsRight m f claim v → (bits numbers own : List Gold) → AreBitsOf bits 0 m
      → IsStated bits f claim (numbers_of m f claim v ++ numbers) (own_of m f claim v ++ own)
  stated_of (claims.AtMost name) s v r bits numbers own h =
      let n = number_of m f v in
      let k = field_number m f in
      let o = most name v r.0 r.1 in
      subst (λ (x : Gold). IsOrdered (difference (of_number n) x) (of_number n) (order_bits (n - k) n ++ own)) (sym (worth_is bits h))
      (order_is k n n own o.0 o.1 o.1)
  stated_of (claims.AtLeast name) s v r bits numbers own h =
      let n = number_of m f v in
      let k = field_number m f in
      let o = least name v r.0 r.1 in
      let small = small_date s in
      subst (λ (x : Gold). IsOrdered (difference x (of_number n)) (of_number n) (order_bits (k - n) n ++ own)) (sym (worth_is bits h))
      (order_is n k n own o small (omega (arith, o, small)))
  stated_of (claims.Equal name) s v r bits numbers own h =
      worth_is bits h ∙ ap of_number (sym r.1) ∙ sym (own_number (of_number (number_of m f v)))
  stated_of (claims.Spelled name) s v r bits numbers own h =
      let one = λ (k : ℕ) (e : piece_of m f v k ≡ piece_number m f k). piece_is bits h k ∙ ap of_number (sym e) in
      (one 0 r.1.0, one 1 r.1.1, one 2 r.1.2, one 3 r.1.3, one 4 r.1.4)
  stated_of (claims.OneOf texts) s v r bits numbers own h =
      one_of_backward m bytes f.place f.size within bits h texts r.1
  stated_of (claims.Pseudonym name) s v r bits numbers own h =
      let w = pseudonym_message m f (tag_of v) in
      let few = few_bytes name s in
      pseudonym_backward m f within (tag_of v) (tag_bytes v r.0) bytes bits (front_of (message_size f) w ++ own) (numbers_of m f (claims.Pseudonym name) v ++ numbers) h
      (front_bits (message_size f) w (message_long v r.0 few) (message_bytes v r.0 few) own) refl
  stated_of (claims.Sealed name) s v r bits numbers own h =
      let w = seal_message (secret_of v) in
      let x = sealed_message (secret_of v) (tag_of v) in
      sealed_stated m bytes f (within_seal name s) bits h (secret_of v) (tag_of v) (both_bytes v r.0).1 (both_bytes v r.0).0 r.1 (front_of 20 w) (map of_number (digest_words w)) (front_of 36 x) (seal_front_long v r.0) refl
      (front_bits 20 w (seal_w v r.0) (seal_b v r.0)) (front_bits 36 x (sealed_w v r.0) (sealed_b v r.0)) own (numbers_of m f (claims.Sealed name) v ++ numbers) refl

  -- and so do the hashes
  pub hashes_of : (claim : Claim) → IsTrue (suits f claim) → (v : Value) → IsRight m f claim v → (numbers own rests : List Gold)
      → IsHashed f claim (numbers_of m f claim v ++ numbers) (own_of m f claim v ++ own) (hashed_of m f claim v ++ rests)
  hashes_of (claims.AtMost name) s v r numbers own rests = tt
  hashes_of (claims.AtLeast name) s v r numbers own rests = tt
  hashes_of (claims.Equal name) s v r numbers own rests = tt
  hashes_of (claims.Spelled name) s v r numbers own rests = tt
  hashes_of (claims.OneOf texts) s v r numbers own rests = tt
  hashes_of (claims.Pseudonym name) s v r numbers own rests =
      let w = pseudonym_message m f (tag_of v) in
      let size = message_size f in
      let few = few_bytes name s in
      let front = front_of size w in
      let rest = rest_of size w in
      let one : take (8 * size) (front ++ own) ≡ front = take_front (8 * size) front own (sym (message_front_long v r.0 few)) in
      let two : take hash_rest (rest ++ rests) ≡ rest = take_front hash_rest rest rests (sym (message_rest_long v r.0 few)) in
      let three = digest_at v r.0 few (map of_number (tag_words (tag_of v))) numbers refl in
      subst (λ (l : List Gold). AreHashing ops of_number size l (take (8 * size) (front ++ own) ++ take hash_rest (rest ++ rests))) (sym three)
      (subst (λ (l : List Gold). AreHashing ops of_number size (map of_number (digest_words w)) l) (λ i. sym one i ++ sym two i)
      (front_satisfies size w (message_long v r.0 few) (message_bytes v r.0 few)))
  hashes_of (claims.Sealed name) s v r numbers own rests =
      let w = seal_message (secret_of v) in
      let x = sealed_message (secret_of v) (tag_of v) in
      sealed_hashed (secret_of v) (tag_of v) (front_of 20 w) (map of_number (digest_words w)) (front_of 36 x) (seal_front_long v r.0) refl own (numbers_of m f (claims.Sealed name) v ++ numbers) (rest_of 20 w) (rest_of 36 x) rests
      (seal_rest_long v r.0) (sealed_rest_long v r.0) (sealed_front_long v r.0) (front_satisfies 20 w (seal_w v r.0) (seal_b v r.0)) (front_satisfies 36 x (sealed_w v r.0) (sealed_b v r.0))
      (digest_behind x (map of_number (tag_words (tag_of v))) numbers refl)

  -- a pseudonym is always true
  pub pseudonym_true : (claim : Claim) (name : List ℕ) → claim ≡ claims.Pseudonym name → IsTrue (suits f claim) → (v : Value) → HasKind claim v → IsTrueWith m f claim v
  pseudonym_true claim name e s v k =
      let now : IsTrueOf m f (claims.Pseudonym name) (numbers_of m f (claims.Pseudonym name) v) =
      (let kind : IsTag v = subst (λ (c : Claim). HasKind c v) e k in
      let few = few_bytes name (subst (λ (c : Claim). IsTrue (suits f c)) e s) in
      let numbers = numbers_of m f (claims.Pseudonym name) v in
      subst (λ (l : List Gold). IsPseudonym m f l) (append-nil numbers) (record {
        tag = tag_of v;
        is_tag = tag_bytes v kind;
        words = refl;
        digest = digest_at v kind few (map of_number (tag_words (tag_of v))) [] refl;
      })) in
      subst (λ (c : Claim). IsTrueWith m f c v) (sym e) now

  told_small : (v : Value) → IsTold v → f.size ≤ 7 → number_of m f v < p
  told_small (values.Number n) h l = h
  told_small (values.Tag tag) h l = absurd h
  told_small (values.Sealed tag secret) h l = absurd h
  told_small (values.Spelled numbers) h l = absurd h
  told_small values.Own h l = omega (arith, number_below m f.place f.size bytes within, power f.size 7 l)

  -- what is told is the record's own number
  pub equal_true : (claim : Claim) (name : List ℕ) → claim ≡ claims.Equal name → IsTrue (suits f claim) → (v : Value) → HasKind claim v → (a b : ℕ) → a ≡ number_of m f v → b ≡ field_number m f
      → (IsTrue (a == b) → IsTrueWith m f claim v) × (IsTrueWith m f claim v → IsTrue (a == b))
  equal_true claim name e s v k a b ea eb =
      let kind : IsTold v = subst (λ (c : Claim). HasKind c v) e k in
      let size = told_size f.kind f.size (subst (λ (c : Claim). IsTrue (suits f c)) e s) is.0 in
      let is_n : (of_number (number_of m f v)).n ≡ number_of m f v = number_of_small (number_of m f v) (told_small v kind size) in (
        λ h. subst (λ (c : Claim). IsTrueWith m f c v) (sym e) (is_n ∙ sym ea ∙ eqb-true a b h ∙ eb),
        λ h. let t : (of_number (number_of m f v)).n ≡ field_number m f = subst (λ (c : Claim). IsTrueWith m f c v) e h in eq-eqb a b (ea ∙ sym is_n ∙ t ∙ sym eb),
      )
