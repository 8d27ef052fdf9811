-- What is asserted of a sealed secret, and what is shown of it.
use Rattle.std.proofs.Common.{◌≡◌, ℕ, ◌+◌, ◌*◌, ◌/◌, ◌%◌, ◌-◌, ◌^◌, ◌<◌, ◌≤◌, List, ◌++◌, length, take, drop, map, zero, suc, refl, sym, ap, subst, ◌∙◌, arith, inl, inr, slice_index, ext_get_or, get_or-take, length-append, length-drop, append_assoc}
use Rattle.std.specs.Int.{bit_at}
use Rattle.std.proofs.lemmas.Bool.{cases_lt}
use Rattle.std.proofs.lemmas.List.{length-map, length-take-le, get_or-drop, take-append-drop, get_or-map, take_all}
use Rattle.std.proofs.lemmas.List.FromFn.{length-map-range_with_len, get_or-map-range_with_len}
use Rattle.lzk_field.specs.Sums.{entry}
use Rattle.lzk_goldilocks.specs.Prime.{p}
use Rattle.lzk_goldilocks.specs.Elements.{ops, of_number}
use Rattle.lzk_goldilocks.specs.declared.element.Gold.{Gold}
use Rattle.sha2.specs.Sha256.{initial_hash_256, padded_message}
use Rattle.lzk_sha_circuit.specs.Digest.{AreBytes, digest_words, message_bits}
use Rattle.lzk_sha_blocks.specs.Hashed.{AreHashing}
use Rattle.lzk_sha_circuit.proofs.Messages.{compress_below, digest_words_are}
use Rattle.lzk_sha_circuit.proofs.Numbered.{gold_numbered}
use Rattle.lzk_sha_circuit.proofs.Standard.{eight_cases}
use Rattle.lzk_policy.specs.declared.policy.RecordField.{RecordField}
use Rattle.lzk_policy.specs.Lines.{number_at}
use Rattle.lzk_policy_circuit.specs.Held.{HoldsSecret}
use Rattle.lzk_policy_circuit.specs.Meaning.{label, seal_label, seal_message, sealed_message, field_bytes, field_words, tag_words, AreBytesOf}
use Rattle.lzk_policy_circuit.specs.Layout.{hash_rest, secret_field}
use Rattle.lzk_policy_circuit.specs.Met.{byte_worth, number_worth, AreWordsOf, IsSealComposed, AreSealHashed}
use Rattle.lzk_policy_circuit.proofs.Bytes.{AreBitsOf, byte_is, number_is, number_below, same_byte}
use Rattle.lzk_policy_circuit.proofs.Lists.{drop_front, take_front}
use Rattle.lzk_policy_circuit.proofs.Pseudonyms.{spelt, bytes_append, bytes_drop, bytes_label, long_label, four_of, pseudonym_forward, pseudonym_backward}

-- ---- words

pub long_words : (w : List ℕ) → length (digest_words w) ≡ 8
unfolding digest_words
long_words w = refl

word_below : (w : List ℕ) → length w ≤ 55 → (k : ℕ) → k < 8 → slice_index (digest_words w) k < 2 ^ 32
word_below w few k l =
    subst (λ (xs : List ℕ). slice_index xs k < 2 ^ 32) (sym (digest_words_are w few)) (compress_below initial_hash_256 (padded_message w) k l)

-- the words of a digest among inputs
entry_of_words : (w : List ℕ) (xs : List Gold) → xs ≡ map of_number (digest_words w) → (k : ℕ) → k < 8 → entry ops xs k ≡ of_number (slice_index (digest_words w) k)
entry_of_words w xs e k l =
    ap (λ ys. entry ops ys k) e ∙ get_or-map of_number (digest_words w) k 0 ops.zero (omega (arith, long_words w, l))

words_at : (xs ys : List Gold) (at from n : ℕ) → AreWordsOf xs at ys from n → (k : ℕ) → k < n → number_worth xs (at + 32 * k) 4 ≡ entry ops ys (from + k)
words_at xs ys at from zero h k l = absurd (omega (arith, l))
words_at xs ys at from (suc n) h k l =
    elim (cases_lt k n) [
      | inl less ↦ words_at xs ys at from n h.0 k less
      | inr more ↦
          let e : n ≡ k = omega (arith, l, more) in
          subst (λ (j : ℕ). number_worth xs (at + 32 * j) 4 ≡ entry ops ys (from + j)) e h.1
    ]

words_from : (xs ys : List Gold) (at from n : ℕ) → ((k : ℕ) → k < n → number_worth xs (at + 32 * k) 4 ≡ entry ops ys (from + k)) → AreWordsOf xs at ys from n
words_from xs ys at from zero h = tt
words_from xs ys at from (suc n) h = (words_from xs ys at from n (λ k l. h k (omega (arith, l))), h n (omega arith))

-- the bits of a message as a list
pub bits_taken : (own : List Gold) (m : List ℕ) → AreBitsOf own 0 m → 8 * length m ≤ length own → take (8 * length m) own ≡ map of_number (message_bits m)
bits_taken own m h room =
    let n = 8 * length m in
    let f = λ (j : ℕ). bit_at (slice_index m (j / 8)) (7 - j % 8) in
    let count : length (message_bits m) ≡ n = length-map-range_with_len f 0 n in
    let taken : length (take n own) ≡ n = length-take-le n own room in
    ext_get_or ops.zero (take n own) (map of_number (message_bits m)) (omega (arith, taken, length-map (message_bits m) of_number, count)) (λ i q.
    let l : i < n = omega (arith, q, taken) in
    let first : 0 + i ≡ i = omega arith in
    get_or-take n own i ops.zero l
    ∙ sym (ap (entry ops own) first)
    ∙ h.bits i l
    ∙ sym (get_or-map of_number (message_bits m) i 0 ops.zero (omega (arith, count, l)) ∙ ap of_number (get_or-map-range_with_len f 0 n i i 0 l (omega arith))))

-- ---- messages

long_seal_label : length seal_label ≡ 4
long_seal_label = refl

seal_label_below : (k : ℕ) → k < 4 → slice_index seal_label k < 256
seal_label_below = four_of (λ k. slice_index seal_label k < 256) (omega arith) (omega arith) (omega arith) (omega arith)

bytes_seal_label : AreBytes seal_label
bytes_seal_label k l = seal_label_below k (omega (arith, l, long_seal_label))

module _ (secret : List ℕ) (is : AreBytesOf 16 secret) where
  pub long_seal : length (seal_message secret) ≡ 20
  long_seal = omega (arith, length-append seal_label secret, long_seal_label, is.size_is)

  pub bytes_seal : AreBytes (seal_message secret)
  bytes_seal = bytes_append seal_label secret bytes_seal_label is.bytes_are

  secret_there : field_bytes (seal_message secret) secret_field ≡ secret
  secret_there = ap (take 16) (drop_front 4 seal_label secret refl) ∙ take_all 16 secret (omega (arith, is.size_is))

module _ (secret tag : List ℕ) (is : AreBytesOf 16 secret) (is_tag : AreBytesOf 16 tag) where
  pub long_sealed : length (sealed_message secret tag) ≡ 36
  long_sealed = omega (arith, length-append (label ++ secret) tag, length-append label secret, long_label, is.size_is, is_tag.size_is)

  pub bytes_sealed : AreBytes (sealed_message secret tag)
  bytes_sealed =
      bytes_append (label ++ secret) tag
      (bytes_append label secret bytes_label is.bytes_are) is_tag.bytes_are

-- a message of 20 bytes that begins as a seal's does is one
seal_of : (w : List ℕ) → length w ≡ 20 → ((k : ℕ) → k < 4 → slice_index w k ≡ slice_index seal_label k) → w ≡ seal_message (drop 4 w)
seal_of w long first =
    let short : length (take 4 w) ≡ 4 = length-take-le 4 w (omega (arith, long)) in
    let same : take 4 w ≡ seal_label = ext_get_or 0 (take 4 w) seal_label short (λ i l.
    let inside : i < 4 = omega (arith, short, l) in
    get_or-take 4 w i 0 inside ∙ first i inside) in
    sym (take-append-drop 4 w) ∙ ap (λ xs. xs ++ drop 4 w) same

-- where the parts stand
module _ (secret tag : List ℕ) (front words second : List Gold) (long_front : length front ≡ 160) (words_are : words ≡ map of_number (digest_words (seal_message secret))) (more : List Gold) where
  turn : ((front ++ words) ++ second) ++ more ≡ front ++ (words ++ (second ++ more))
  turn = append_assoc (front ++ words) second more ∙ append_assoc front words (second ++ more)

  eight : length words ≡ 8
  eight = ap length words_are ∙ length-map (digest_words (seal_message secret)) of_number ∙ long_words (seal_message secret)

  second_there : drop 168 (((front ++ words) ++ second) ++ more) ≡ second ++ more
  second_there =
      ap (drop 168) (append_assoc (front ++ words) second more)
      ∙ drop_front 168 (front ++ words) (second ++ more) (sym (omega (arith, length-append front words, long_front, eight)))

  words_there : take 8 (drop 160 (((front ++ words) ++ second) ++ more)) ≡ words
  words_there =
      ap (λ l. take 8 (drop 160 l)) turn ∙ ap (take 8) (drop_front 160 front (words ++ (second ++ more)) (sym long_front)) ∙ take_front 8 words (second ++ more) (sym eight)

  front_there : take 160 (((front ++ words) ++ second) ++ more) ≡ front
  front_there = ap (take 160) turn ∙ take_front 160 front (words ++ (second ++ more)) (sym long_front)

  pub sealed_hashed : (values first last others : List Gold) → length first ≡ 6376 → length last ≡ 6376 → length second ≡ 288
      → AreHashing ops of_number 20 words (front ++ first) → AreHashing ops of_number 36 (map of_number (digest_words (sealed_message secret tag))) (second ++ last)
      → take 8 (drop 4 values) ≡ map of_number (digest_words (sealed_message secret tag)) → AreSealHashed values (((front ++ words) ++ second) ++ more) ((first ++ last) ++ others)
  sealed_hashed values first last others lf ll ls one two digest =
      let whole : (first ++ last) ++ others ≡ first ++ (last ++ others) = append_assoc first last others in
      let own : List Gold = ((front ++ words) ++ second) ++ more in
      let rest_one : take hash_rest ((first ++ last) ++ others) ≡ first = ap (take hash_rest) whole ∙ take_front hash_rest first (last ++ others) (sym lf) in
      let rest_two : take hash_rest (drop hash_rest ((first ++ last) ++ others)) ≡ last =
      ap (λ l. take hash_rest (drop hash_rest l)) whole ∙ ap (take hash_rest) (drop_front hash_rest first (last ++ others) (sym lf)) ∙ take_front hash_rest last others (sym ll) in
      let bits_two : take 288 (drop 168 own) ≡ second = ap (take 288) second_there ∙ take_front 288 second more (sym ls) in
      record {
        seal = subst (λ (T : Type 0). T) (λ i. AreHashing ops of_number 20 (sym words_there i) (sym front_there i ++ sym rest_one i)) one;
        message = subst (λ (T : Type 0). T) (λ i. AreHashing ops of_number 36 (sym digest i) (sym bits_two i ++ sym rest_two i)) two;
      }

module _ (m : List ℕ) (bytes : AreBytes m) (f : RecordField) (within : f.place + 32 ≤ length m) (bits : List Gold) (hb : AreBitsOf bits 0 m) where
  -- a word of the field, and what its entries are worth
  field_word : (k : ℕ) → k < 8 → slice_index (field_words m f) k ≡ number_at m (f.place + 4 * k) 4
  field_word =
      let first : f.place ≡ f.place + 4 * 0 = omega arith in
      eight_cases (λ k. slice_index (field_words m f) k ≡ number_at m (f.place + 4 * k) 4) (ap (λ a. number_at m a 4) first) refl refl refl refl refl refl refl

  worth_of : (k : ℕ) → k < 8 → number_worth bits (8 * f.place + 32 * k) 4 ≡ of_number (slice_index (field_words m f) k)
  worth_of k l =
      let place : 8 * f.place + 32 * k ≡ 0 + 8 * (f.place + 4 * k) = omega arith in
      ap (λ a. number_worth bits a 4) place ∙ number_is bits 0 m hb bytes (f.place + 4 * k) 4 (omega (arith, within, l)) ∙ ap of_number (sym (field_word k l))

  field_below : (k : ℕ) → k < 8 → slice_index (field_words m f) k < 2 ^ 32
  field_below k l =
      let below = number_below m (f.place + 4 * k) 4 bytes (omega (arith, within, l)) in
      omega (arith, below, field_word k l)

  -- ---- what is asserted is true

  sealed_words : (w : List ℕ) (own : List Gold) → length w ≤ 55 → take 8 (drop 160 own) ≡ map of_number (digest_words w) → AreWordsOf bits (8 * f.place) own 160 8 → field_words m f ≡ digest_words w
  sealed_words w own few digest h =
      ext_get_or 0 (field_words m f) (digest_words w) (sym (long_words w)) (λ k l.
      let there = sym (worth_of k l) ∙ words_at bits own (8 * f.place) 160 8 h k l
      ∙ sym (get_or-drop 160 own k ops.zero) ∙ sym (get_or-take 8 (drop 160 own) k ops.zero l) ∙ entry_of_words w (take 8 (drop 160 own)) digest k l in
      gold_numbered.same (slice_index (field_words m f) k) (slice_index (digest_words w) k) (small _ (field_below k l)) (small _ (word_below w few k l)) there) where
        small : (n : ℕ) → n < 2 ^ 32 → n < p
        small n l = omega (arith, l)

  pub sealed_forward : (values own rests : List Gold) → 12 ≤ length values → 456 ≤ length own → 12752 ≤ length rests → IsSealComposed bits f values own → AreSealHashed values own rests → HoldsSecret m f values own
  sealed_forward values own rests lv lo lr a b =
      let one : length (take 8 (drop 160 own)) ≡ 8 = length-take-le 8 (drop 160 own) (omega (arith, length-drop 160 own, lo)) in
      let two : length (take 8 (drop 4 values)) ≡ 8 = length-take-le 8 (drop 4 values) (omega (arith, length-drop 4 values, lv)) in
      let rest_one : length (take hash_rest rests) ≡ 6376 = length-take-le hash_rest rests (omega (arith, lr)) in
      let rest_two : length (take hash_rest (drop hash_rest rests)) ≡ 6376 = length-take-le hash_rest (drop hash_rest rests) (omega (arith, length-drop hash_rest rests, lr)) in
      let s = spelt 20 (take 8 (drop 160 own)) own (take hash_rest rests) one (omega (arith, lo)) rest_one b.seal in
      let t = spelt 36 (take 8 (drop 4 values)) (drop 168 own) (take hash_rest (drop hash_rest rests)) two (omega (arith, length-drop 168 own, lo)) rest_two b.message in
      let w = s.message in
      let secret = drop 4 w in
      let label_byte = λ (k : ℕ) (l : k < 4) (e : byte_worth own (0 + 8 * k) ≡ of_number (slice_index seal_label k)).
      let inside : k < length w = omega (arith, l, s.size_is) in
      same_byte (slice_index w k) (slice_index seal_label k) (s.bytes_are k inside) (seal_label_below k l) (sym (byte_is own 0 w s.bits_are s.bytes_are k inside) ∙ e) in
      let first = four_of (λ k. slice_index w k ≡ slice_index seal_label k)
      (label_byte 0 (omega arith) a.label_is.0) (label_byte 1 (omega arith) a.label_is.1) (label_byte 2 (omega arith) a.label_is.2) (label_byte 3 (omega arith) a.label_is.3) in
      let is : w ≡ seal_message secret = seal_of w s.size_is (λ k l. first k l) in
      let is_secret : AreBytesOf 16 secret = record { size_is = omega (arith, length-drop 4 w, s.size_is); bytes_are = bytes_drop 4 w s.bytes_are } in
      let there : field_bytes w secret_field ≡ secret = take_all 16 secret (omega (arith, is_secret.size_is)) in
      let inside : 4 + 16 ≤ length w = omega (arith, s.size_is) in
      let q = pseudonym_forward w secret_field inside own (drop 168 own) values s.bits_are s.bytes_are (omega (arith, lv)) t.message t.size_is t.bytes_are t.bits_are a.message_is t.digest_is in
      let room : 8 * length w ≤ length own = omega (arith, s.size_is, lo) in
      record {
        secret = secret;
        sealed = record {
          is_secret = is_secret;
          seal = sealed_words w own (omega (arith, s.size_is)) s.digest_is a.words_are ∙ ap digest_words is;
          tag = q.tag;
          is_tag = q.is_tag;
          words = q.words;
          digest = q.digest ∙ ap (λ (xs : List ℕ). map of_number (digest_words (label ++ xs ++ q.tag))) there;
        };
        bits = ap (λ n. take (8 * n) own) (sym s.size_is) ∙ bits_taken own w s.bits_are room ∙ ap (λ (x : List ℕ). map of_number (message_bits x)) is;
      }

  -- ---- and what is true has inputs

  module _ (secret tag : List ℕ) (is : AreBytesOf 16 secret) (is_tag : AreBytesOf 16 tag) (seal : field_words m f ≡ digest_words (seal_message secret)) (front words second : List Gold)
      (long_front : length front ≡ 160) (words_are : words ≡ map of_number (digest_words (seal_message secret))) (front_bits : (more : List Gold) → AreBitsOf (front ++ more) 0 (seal_message secret))
      (second_bits : (more : List Gold) → AreBitsOf (second ++ more) 0 (sealed_message secret tag)) (more : List Gold) where
    pub sealed_stated : (values : List Gold) → take 4 values ≡ map of_number (tag_words tag) → IsSealComposed bits f values (((front ++ words) ++ second) ++ more)
    sealed_stated values tags =
        let w = seal_message secret in
        let bw = bytes_seal secret is in
        let long = long_seal secret is in
        let inside : 4 + 16 ≤ length w = omega (arith, long) in
        let own : List Gold = ((front ++ words) ++ second) ++ more in
        let turned = turn secret tag front words second long_front words_are more in
        let second_at = second_there secret tag front words second long_front words_are more in
        let words_at_ = words_there secret tag front words second long_front words_are more in
        let bits_one : AreBitsOf own 0 w = subst (λ (l : List Gold). AreBitsOf l 0 w) (sym turned) (front_bits (words ++ (second ++ more))) in
        let message : List ℕ = sealed_message secret tag in
        let same : label ++ field_bytes w secret_field ++ tag ≡ message = ap (λ (xs : List ℕ). label ++ xs ++ tag) (secret_there secret is) in
        let bits_two : AreBitsOf (drop 168 own) 0 (label ++ field_bytes w secret_field ++ tag) =
        subst (λ (x : List ℕ). AreBitsOf (drop 168 own) 0 x) (sym same) (subst (λ (l : List Gold). AreBitsOf l 0 message) (sym second_at) (second_bits more)) in
        let label_byte = λ (k : ℕ) (l : k < 4). byte_is own 0 w bits_one bw k (omega (arith, l, long)) in
        record {
          label_is = (label_byte 0 (omega arith), label_byte 1 (omega arith), label_byte 2 (omega arith), label_byte 3 (omega arith));
          words_are = words_from bits own (8 * f.place) 160 8 (λ k l.
              worth_of k l ∙ ap (λ (xs : List ℕ). of_number (slice_index xs k)) seal
              ∙ sym (entry_of_words w (take 8 (drop 160 own)) (words_at_ ∙ words_are) k l)
              ∙ get_or-take 8 (drop 160 own) k ops.zero l ∙ get_or-drop 160 own k ops.zero);
          message_is = pseudonym_backward w secret_field inside tag is_tag bw own (drop 168 own) values bits_one bits_two tags;
        }
