-- What is asserted of a pseudonym's message, and what is shown.
use Rattle.std.proofs.Common.{◌≡◌, ℕ, ◌+◌, ◌-◌, ◌*◌, ◌/◌, ◌%◌, ◌<◌, ◌≤◌, List, [], ◌∷◌, ◌++◌, length, take, drop, map, zero, suc, refl, sym, ap, subst, ◌∙◌, arith, inl, inr, slice_index, get_or, ext_get_or, get_or-take, get_or-append-add, length-append, length-drop}
use Rattle.std.specs.Int.{bit_at}
use Rattle.std.proofs.lemmas.Bool.{cases_lt}
use Rattle.std.proofs.lemmas.List.{get_or_append_left, length-take-le, get_or-drop, take-append-drop, get_or-map}
use Rattle.std.proofs.lemmas.List.FromFn.{length-map-range_with_len, get_or-map-range_with_len}
use Rattle.lzk_field.specs.Sums.{entry}
use Rattle.lzk_goldilocks.specs.Elements.{ops, of_number}
use Rattle.lzk_goldilocks.specs.declared.element.Gold.{Gold}
use Rattle.lzk_sha_circuit.specs.Digest.{AreBytes, digest_words, message_bits}
use Rattle.lzk_sha_blocks.specs.Hashed.{AreHashing}
use Rattle.lzk_sha_blocks.specs.Layout.{private_count}
use Rattle.lzk_sha_blocks.specs.Witness.{digest_private}
use Rattle.lzk_policy.specs.declared.policy.RecordField.{RecordField}
use Rattle.lzk_policy.specs.Lines.{number_at}
use Rattle.lzk_policy_circuit.specs.Meaning.{label, field_bytes, pseudonym_message, tag_words, AreBytesOf, IsPseudonym}
use Rattle.lzk_policy_circuit.specs.Layout.{message_size, rest_of_hash}
use Rattle.lzk_policy_circuit.specs.Met.{byte_worth, number_worth, AreSameBytes, IsComposed}
use Rattle.lzk_policy_circuit.proofs.Hashing.{spelled_message, private_digest, private_satisfies, private_long}
use Rattle.lzk_policy_circuit.proofs.Bytes.{AreBitsOf, byte_is, number_is, same_byte, same_forward, same_backward}
use Rattle.lzk_policy_circuit.proofs.Lists.{front_at, drop_front}

-- ---- hashes

-- what a satisfied hash spells
pub record Spelt (len : ℕ) (public own : List Gold) : Type 0 where
  pub message : List ℕ
  pub size_is : length message ≡ len
  pub bytes_are : AreBytes message
  pub bits_are : AreBitsOf own 0 message
  pub digest_is : public ≡ map of_number (digest_words message)

module _ (len : ℕ) (public own rest : List Gold) (eight : length public ≡ 8) (long : 8 * len ≤ length own) (behind : length rest ≡ rest_of_hash len) where
  private_of : List Gold
  private_of = take (8 * len) own ++ rest

  long_private : length private_of ≡ private_count len
  unfolding private_of
  long_private = omega (arith, length-append (take (8 * len) own) rest, length-take-le (8 * len) own long, behind)

  pub spelt : AreHashing ops of_number len public (take (8 * len) own ++ rest) → Spelt len public own
  unfolding private_of
  spelt zeros =
      let d = spelled_message len public private_of eight long_private zeros in
      let m = d.0 in
      record {
        message = m;
        size_is = d.1;
        bytes_are = d.2;
        bits_are = record { bits = λ i l. bit_of m d.1 d.3.bits i l };
        digest_is = d.3.words;
      } where
        bit_of : (m : List ℕ) → length m ≡ len → take (8 * length m) private_of ≡ map of_number (message_bits m) → (i : ℕ) → i < 8 * length m → entry ops own (0 + i) ≡ of_number (bit_at (slice_index m (i / 8)) (7 - i % 8))
        bit_of m e is i l =
            let f = λ (j : ℕ). bit_at (slice_index m (j / 8)) (7 - j % 8) in
            let inside : i < 8 * len = omega (arith, l, e) in
            let first : 0 + i ≡ i = omega arith in
            let count : length (message_bits m) ≡ 8 * length m = length-map-range_with_len f 0 (8 * length m) in
            ap (entry ops own) first
            ∙ sym (front_at ops.zero (8 * len) i own rest long inside)
            ∙ sym (get_or-take (8 * length m) private_of i ops.zero l)
            ∙ ap (λ xs. get_or xs i ops.zero) is
            ∙ get_or-map of_number (message_bits m) i 0 ops.zero (omega (arith, count, l))
            ∙ ap of_number (get_or-map-range_with_len f 0 (8 * length m) i i 0 l (omega arith))

-- the inputs of a message
module _ (m : List ℕ) (bytes : AreBytes m) where
  pub message_front : List Gold
  message_front = take (8 * length m) (digest_private of_number m)

  pub message_rest : List Gold
  message_rest = drop (8 * length m) (digest_private of_number m)

  long_private_of : length (digest_private of_number m) ≡ private_count (length m)
  long_private_of = private_long m

  pub length-message_front : length message_front ≡ 8 * length m
  unfolding message_front
  length-message_front = length-take-le (8 * length m) (digest_private of_number m) (omega (arith, long_private_of))

  pub length-message_rest : length message_rest ≡ rest_of_hash (length m)
  unfolding message_rest
  length-message_rest = omega (arith, length-drop (8 * length m) (digest_private of_number m), long_private_of)

  pub message_parts : message_front ++ message_rest ≡ digest_private of_number m
  unfolding message_front message_rest
  message_parts = take-append-drop (8 * length m) (digest_private of_number m)

  own_bit : (i : ℕ) → i < 8 * length m → entry ops (digest_private of_number m) i ≡ of_number (bit_at (slice_index m (i / 8)) (7 - i % 8))
  own_bit i l =
      let f = λ (j : ℕ). bit_at (slice_index m (j / 8)) (7 - j % 8) in
      let count : length (message_bits m) ≡ 8 * length m = length-map-range_with_len f 0 (8 * length m) in
      sym (get_or-take (8 * length m) (digest_private of_number m) i ops.zero l)
      ∙ ap (λ xs. get_or xs i ops.zero) (private_digest m bytes).bits
      ∙ get_or-map of_number (message_bits m) i 0 ops.zero (omega (arith, count, l))
      ∙ ap of_number (get_or-map-range_with_len f 0 (8 * length m) i i 0 l (omega arith))

  -- the bits of the message, whatever stands behind them
  pub message_bits_are : (more : List Gold) → AreBitsOf (message_front ++ more) 0 m
  unfolding message_front
  message_bits_are more = record {
    bits = λ i l.
        let first : 0 + i ≡ i = omega arith in
        ap (entry ops (message_front ++ more)) first
        ∙ front_at ops.zero (8 * length m) i (digest_private of_number m) more (omega (arith, long_private_of)) l
        ∙ own_bit i l;
  }

  pub message_satisfies_parts : AreHashing ops of_number (length m) (map of_number (digest_words m)) (message_front ++ message_rest)
  message_satisfies_parts = subst (λ (l : List Gold). AreHashing ops of_number (length m) (map of_number (digest_words m)) l) (sym message_parts) (private_satisfies m bytes)

-- ---- messages of pseudonyms

pub number_behind : (n : ℕ) (w : List ℕ) (place k : ℕ) → number_at (drop n w) place k ≡ number_at w (n + place) k
number_behind n w place zero = refl
number_behind n w place (suc k) =
    let at : n + (place + k) ≡ n + place + k = omega arith in
    (λ i. 256 * number_behind n w place k i + (get_or-drop n w (place + k) 0 ∙ ap (slice_index w) at) i)

pub bytes_append : (xs ys : List ℕ) → AreBytes xs → AreBytes ys → AreBytes (xs ++ ys)
bytes_append xs ys hx hy k l =
    elim (cases_lt k (length xs)) [
      | inl less ↦ subst (λ (n : ℕ). n < 256) (sym (get_or_append_left xs ys 0 k less)) (hx k less)
      | inr more ↦
          let there : length xs + (k - length xs) ≡ k = omega (arith, more) in
          let inside : k - length xs < length ys = omega (arith, length-append xs ys, l, more) in
          let is : slice_index (xs ++ ys) k ≡ slice_index ys (k - length xs) = ap (slice_index (xs ++ ys)) (sym there) ∙ get_or-append-add xs ys (k - length xs) 0 in
          subst (λ (n : ℕ). n < 256) (sym is) (hy (k - length xs) inside)
    ]

bytes_take : (n : ℕ) (xs : List ℕ) → n ≤ length xs → AreBytes xs → AreBytes (take n xs)
bytes_take n xs le h k l =
    let inside : k < n = omega (arith, length-take-le n xs le, l) in
    subst (λ (b : ℕ). b < 256) (sym (get_or-take n xs k 0 inside)) (h k (omega (arith, inside, le)))

pub bytes_drop : (n : ℕ) (xs : List ℕ) → AreBytes xs → AreBytes (drop n xs)
bytes_drop n xs h k l =
    subst (λ (b : ℕ). b < 256) (sym (get_or-drop n xs k 0)) (h (n + k) (omega (arith, length-drop n xs, l)))

pub four_of : (P : ℕ → Type 0) → P 0 → P 1 → P 2 → P 3 → (k : ℕ) → k < 4 → P k
four_of P a b c d zero l = a
four_of P a b c d (suc zero) l = b
four_of P a b c d (suc (suc zero)) l = c
four_of P a b c d (suc (suc (suc zero))) l = d
four_of P a b c d (suc (suc (suc (suc k)))) l = absurd (omega (arith, l))

pub long_label : length label ≡ 4
long_label = refl

pub bytes_label : AreBytes label
bytes_label k l = four_of (λ j. slice_index label j < 256) (omega arith) (omega arith) (omega arith) (omega arith) k (omega (arith, l, long_label))

four_entries : (xs : List Gold) → 4 ≤ length xs → take 4 xs ≡ entry ops xs 0 ∷ entry ops xs 1 ∷ entry ops xs 2 ∷ entry ops xs 3 ∷ []
four_entries [] l = absurd (omega (arith, l))
four_entries (a ∷ []) l = absurd (omega (arith, l))
four_entries (a ∷ b ∷ []) l = absurd (omega (arith, l))
four_entries (a ∷ b ∷ c ∷ []) l = absurd (omega (arith, l))
four_entries (a ∷ b ∷ c ∷ d ∷ xs) l = refl

module _ (m : List ℕ) (f : RecordField) (within : f.place + f.size ≤ length m) where
  long_field : length (field_bytes m f) ≡ f.size
  long_field = length-take-le f.size (drop f.place m) (omega (arith, length-drop f.place m, within))

  long_front : length (label ++ field_bytes m f) ≡ 4 + f.size
  long_front = omega (arith, length-append label (field_bytes m f), long_label, long_field)

  field_at : (k : ℕ) → k < f.size → slice_index (label ++ field_bytes m f) (4 + k) ≡ slice_index m (f.place + k)
  field_at k l =
      get_or-append-add label (field_bytes m f) k 0
      ∙ get_or-take f.size (drop f.place m) k 0 l
      ∙ get_or-drop f.place m k 0

  -- a message of the size that begins as it is to begin
  composed : (w : List ℕ) → length w ≡ message_size f → ((k : ℕ) → k < 4 → slice_index w k ≡ slice_index label k)
      → ((k : ℕ) → k < f.size → slice_index m (f.place + k) ≡ slice_index w (4 + k)) → w ≡ pseudonym_message m f (drop (4 + f.size) w)
  composed w long first second =
      let n = 4 + f.size in
      let front = label ++ field_bytes m f in
      let short : length (take n w) ≡ n = length-take-le n w (omega (arith, long)) in
      let same : take n w ≡ front = ext_get_or 0 (take n w) front (short ∙ sym long_front) (λ i l.
      let inside : i < n = omega (arith, short, l) in
      get_or-take n w i 0 inside ∙ here i inside) in
      sym (take-append-drop n w) ∙ ap (λ xs. xs ++ drop n w) same where
        here : (i : ℕ) → i < 4 + f.size → slice_index w i ≡ slice_index (label ++ field_bytes m f) i
        here i l = elim (cases_lt i 4) [
          | inl less ↦ first i less ∙ sym (get_or_append_left label (field_bytes m f) 0 i (omega (arith, long_label, less)))
          | inr more ↦
              let k = i - 4 in
              let there : 4 + (i - 4) ≡ i = omega (arith, more) in
              let inside : i - 4 < f.size = omega (arith, more, l) in
              ap (slice_index w) (sym there) ∙ sym (second (i - 4) inside) ∙ sym (field_at (i - 4) inside) ∙ ap (slice_index (label ++ field_bytes m f)) there
        ]

  module _ (bits own values : List Gold) (hb : AreBitsOf bits 0 m) (bytes : AreBytes m) (four : 4 ≤ length values) where
    -- what the message of a satisfied hash is
    pub pseudonym_forward : (w : List ℕ) → length w ≡ message_size f → AreBytes w → AreBitsOf own 0 w → IsComposed bits f values own
        → take 8 (drop 4 values) ≡ map of_number (digest_words w) → IsPseudonym m f values
    pseudonym_forward w long bw ho h digest =
        let n = 4 + f.size in
        let label_byte = λ (k : ℕ) (l : k < 4) (e : byte_worth own (0 + 8 * k) ≡ of_number (slice_index label k)).
        let inside : k < length w = omega (arith, l, long) in
        same_byte (slice_index w k) (slice_index label k) (bw k inside) (bytes_label k (omega (arith, l, long_label))) (sym (byte_is own 0 w ho bw k inside) ∙ e) in
        let first = four_of (λ k. slice_index w k ≡ slice_index label k)
        (label_byte 0 (omega arith) h.label_is.0) (label_byte 1 (omega arith) h.label_is.1) (label_byte 2 (omega arith) h.label_is.2) (label_byte 3 (omega arith) h.label_is.3) in
        let zero_at : 8 * f.place ≡ 0 + 8 * f.place = omega arith in
        let second = same_forward bits own 0 0 m w hb ho bytes bw f.place 4 f.size within (omega (arith, long))
        (subst (λ (a : ℕ). AreSameBytes bits a own 32 f.size) zero_at h.secret_is) in
        let tag = drop n w in
        let word = λ (j a : ℕ) (l : j + 4 ≤ 16) (e : a ≡ 0 + 8 * (n + j)).
        ap (λ b. number_worth own b 4) e ∙ number_is own 0 w ho bw (n + j) 4 (omega (arith, long, l)) ∙ ap of_number (sym (number_behind n w j 4)) in
        let w0 = word 0 (32 + 8 * f.size) (omega arith) (omega arith) in
        let w1 = word 4 (32 + 8 * f.size + 32) (omega arith) (omega arith) in
        let w2 = word 8 (32 + 8 * f.size + 64) (omega arith) (omega arith) in
        let w3 = word 12 (32 + 8 * f.size + 96) (omega arith) (omega arith) in
        record {
          tag = tag;
          is_tag = record { size_is = omega (arith, length-drop n w, long); bytes_are = bytes_drop n w bw };
          words = four_entries values four ∙ (λ i. (sym h.tag_is.0 ∙ w0) i ∷ (sym h.tag_is.1 ∙ w1) i ∷ (sym h.tag_is.2 ∙ w2) i ∷ (sym h.tag_is.3 ∙ w3) i ∷ []);
          digest = digest ∙ ap (λ l. map of_number (digest_words l)) (composed w long first (λ k l. second k l));
        }

  module _ (tag : List ℕ) (is_tag : AreBytesOf 16 tag) (bytes : AreBytes m) where
    pub bytes_message : AreBytes (pseudonym_message m f tag)
    bytes_message =
        bytes_append (label ++ field_bytes m f) tag (bytes_append label (field_bytes m f) bytes_label
        (bytes_take f.size (drop f.place m) (omega (arith, length-drop f.place m, within)) (bytes_drop f.place m bytes))) is_tag.bytes_are

    pub long_message : length (pseudonym_message m f tag) ≡ message_size f
    long_message = omega (arith, length-append (label ++ field_bytes m f) tag, long_front, is_tag.size_is)

    pub pseudonym_backward : (bits own values : List Gold) → AreBitsOf bits 0 m → AreBitsOf own 0 (pseudonym_message m f tag) → take 4 values ≡ map of_number (tag_words tag)
        → IsComposed bits f values own
    pseudonym_backward bits own values hb ho words =
        let n = 4 + f.size in
        let w = pseudonym_message m f tag in
        let front = label ++ field_bytes m f in
        let label_byte = λ (k : ℕ) (l : k < 4) (e : slice_index w k ≡ slice_index label k).
        byte_is own 0 w ho bytes_message k (omega (arith, l, long_message)) ∙ ap of_number e in
        let zero_at : 0 + 8 * f.place ≡ 8 * f.place = omega arith in
        let secret = same_backward bits own 0 0 m w hb ho bytes bytes_message f.place 4 f.size within (omega (arith, long_message)) (λ k l.
        sym (field_at k l) ∙ sym (get_or_append_left front tag 0 (4 + k) (omega (arith, long_front, l)))) in
        let rest : drop n w ≡ tag = drop_front n front tag (sym long_front) in
        let word = λ (j a : ℕ) (l : j + 4 ≤ 16) (e : a ≡ 0 + 8 * (n + j)).
        ap (λ b. number_worth own b 4) e ∙ number_is own 0 w ho bytes_message (n + j) 4 (omega (arith, long_message, l)) ∙ ap of_number (sym (number_behind n w j 4) ∙ ap (λ t. number_at t j 4) rest) in
        let at = λ (j : ℕ) (l : j < 4). sym (get_or-take 4 values j ops.zero l) ∙ ap (λ xs. entry ops xs j) words in
        record {
          label_is = (label_byte 0 (omega arith) refl, label_byte 1 (omega arith) refl, label_byte 2 (omega arith) refl, label_byte 3 (omega arith) refl);
          secret_is = subst (λ (a : ℕ). AreSameBytes bits a own 32 f.size) zero_at secret;
          tag_is = (
            word 0 (32 + 8 * f.size) (omega arith) (omega arith) ∙ sym (at 0 (omega arith)),
            word 4 (32 + 8 * f.size + 32) (omega arith) (omega arith) ∙ sym (at 1 (omega arith)),
            word 8 (32 + 8 * f.size + 64) (omega arith) (omega arith) ∙ sym (at 2 (omega arith)),
            word 12 (32 + 8 * f.size + 96) (omega arith) (omega arith) ∙ sym (at 3 (omega arith)),
          );
        }
