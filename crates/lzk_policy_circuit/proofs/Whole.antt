-- A policy's circuit is satisfied by some private inputs exactly where there is a record.
use Rattle.std.proofs.Common.{◌≡◌, ℕ, ◌+◌, ◌*◌, ◌/◌, ◌%◌, ◌^◌, ◌<◌, ◌≤◌, List, [], ◌∷◌, ◌++◌, length, take, drop, map, zero, suc, refl, sym, ap, subst, ◌∙◌, arith, Option, Some, append_assoc, append-nil, length-append, length-drop, slice_index, ext_get_or, get_or-take}
use Rattle.std.specs.Prelude.{◌-◌, nat_lt, max, replicate, if◌then◌else◌, IsTrue, Bool, true, false, ◌&&◌, ◌||◌, ◌==◌, nat_le, MatchOption, slice_get}
use Rattle.std.specs.List.{AllByRecursion}
use Rattle.std.proofs.lemmas.Bool.{leb-true, eqb-true}
use Rattle.std.proofs.Math.Nat.{pow-le-pow_right, le-max_left}
use Rattle.std.specs.Int.{bit_at}
use Rattle.std.proofs.lemmas.List.{length-map, length-take-le, length-replicate, get_or-map}
use Rattle.std.proofs.lemmas.List.FromFn.{length-map-range_with_len, get_or-map-range_with_len}
use Rattle.lzk_field.specs.Sums.{entry}
use Rattle.lzk_goldilocks.specs.Elements.{ops, of_number}
use Rattle.lzk_goldilocks.specs.declared.element.Gold.{Gold}
use Rattle.lzk_gadgets.specs.Inverses.{difference}
use Rattle.lzk_sha_circuit.specs.Digest.{AreBytes, digest_words, message_bits}
use Rattle.lzk_sha_blocks.specs.Hashed.{AreHashing}
use Rattle.lzk_policy.specs.declared.policy.FieldKind.{FieldKind}
use Rattle.lzk_policy.specs.declared.policy.FieldKind.TheVariants as kinds
use Rattle.lzk_policy.specs.declared.policy.RecordField.{RecordField}
use Rattle.lzk_policy.specs.declared.policy.Claim.{Claim}
use Rattle.lzk_policy.specs.declared.policy.Claim.TheVariants as claims
use Rattle.lzk_policy.specs.declared.policy.Show.{Show}
use Rattle.lzk_policy.specs.Lines.{most_texts}
use Rattle.lzk_policy.specs.Policies.{Contents, IsPolicy, IsField, IsShowOf, has_size, suits, are_texts_of, is_date, is_text, is_bytes, is_sealed}
use Rattle.lzk_policy_circuit.specs.Meaning.{field_number, value_count, values_of, pseudonym_message, seal_message, sealed_message, IsTrueOf, AreTrueOf, IsShown, public_count, piece_start, piece_size, piece_number}
use Rattle.lzk_policy_circuit.specs.Layout.{hash_rest, rest_of_hash, message_size, own_of, own_of_claim, rest_of_claim, own_count, owns_of, rests_of, stated_count, needed_count, private_count, padded}
use Rattle.lzk_policy_circuit.specs.Held.{RecordsAreHeld, IsSecretHeld, AreSecretsHeld}
use Rattle.lzk_policy_circuit.specs.Met.{field_worth, number_worth, IsOrdered, IsStated, AreStated, IsHashed, AreHashed, Satisfy}
use Rattle.lzk_policy_circuit.proofs.Lists.{drop_front, take_front, drop_twice}
use Rattle.lzk_policy_circuit.proofs.Bytes.{AreBitsOf, number_is, number_below}
use Rattle.lzk_policy_circuit.proofs.Dates.{most_forward, least_forward, ordered, number_of_small, own_number}
use Rattle.lzk_policy_circuit.proofs.OneOf.{one_of_forward, one_of_backward}
use Rattle.lzk_policy_circuit.proofs.Sealing.{bytes_seal, bytes_sealed, long_seal, long_sealed, long_words, sealed_forward, sealed_hashed, sealed_stated}
use Rattle.lzk_policy_circuit.proofs.Pseudonyms.{spelt, message_front, message_rest, length-message_front, length-message_rest, message_bits_are, message_satisfies_parts, pseudonym_forward, pseudonym_backward, bytes_message, long_message}

-- ---- what a policy says of fields

both : (a b : Bool) → IsTrue (a && b) → IsTrue a × IsTrue b
both true b h = (refl, h)
both false b h = absurd cc

at_most : (a b : ℕ) → IsTrue (nat_le a b) → a ≤ b
at_most a b h = leb-true a b h

equal : (a b : ℕ) → IsTrue (a == b) → a ≡ b
equal a b h = eqb-true a b h

date_size : (k : FieldKind) (n : ℕ) → IsTrue (is_date k) → IsTrue (has_size k n) → n ≡ 4
date_size kinds.Date n d h = equal n 4 h
date_size kinds.Text n d h = absurd cc
date_size kinds.Bytes n d h = absurd cc
date_size kinds.Sealed n d h = absurd cc

told_size : (k : FieldKind) (n : ℕ) → IsTrue (is_date k || (is_text k && nat_le n 7)) → IsTrue (has_size k n) → n ≤ 7
told_size kinds.Date n d h = omega (arith, equal n 4 h)
told_size kinds.Text n d h = at_most n 7 d
told_size kinds.Bytes n d h = absurd cc
told_size kinds.Sealed n d h = absurd cc

text_size : (k : FieldKind) (n : ℕ) → IsTrue (is_text k) → IsTrue (has_size k n) → n ≤ 32
text_size kinds.Text n d h = at_most n 32 (both (nat_le 1 n) (nat_le n 32) h).1
text_size kinds.Date n d h = absurd cc
text_size kinds.Bytes n d h = absurd cc
text_size kinds.Sealed n d h = absurd cc

five_entries : (xs : List Gold) → 5 ≤ length xs → take 5 xs ≡ entry ops xs 0 ∷ entry ops xs 1 ∷ entry ops xs 2 ∷ entry ops xs 3 ∷ entry ops xs 4 ∷ []
five_entries [] l = absurd (omega (arith, l))
five_entries (a ∷ []) l = absurd (omega (arith, l))
five_entries (a ∷ b ∷ []) l = absurd (omega (arith, l))
five_entries (a ∷ b ∷ c ∷ []) l = absurd (omega (arith, l))
five_entries (a ∷ b ∷ c ∷ d ∷ []) l = absurd (omega (arith, l))
five_entries (a ∷ b ∷ c ∷ d ∷ e ∷ xs) l = refl

power : (n k : ℕ) → n ≤ k → 256 ^ n ≤ 256 ^ k
power n k l = pow-le-pow_right (omega arith) l

module _ (m : List ℕ) (bytes : AreBytes m) (f : RecordField) (is : IsField (length m) f) where
  within : f.place + f.size ≤ length m
  within = at_most (f.place + f.size) (length m) is.1

  small_date : IsTrue (is_date f.kind) → field_number m f < 2 ^ 32
  small_date d =
      let four = date_size f.kind f.size d is.0 in
      let below = number_below m f.place f.size bytes within in
      omega (arith, below, power f.size 4 (omega (arith, four)))

  small_text : f.size ≤ 7 → field_number m f < 2 ^ 56
  small_text l =
      let below = number_below m f.place f.size bytes within in
      omega (arith, below, power f.size 7 l)

  worth_is : (bits : List Gold) → AreBitsOf bits 0 m → field_worth bits f ≡ of_number (field_number m f)
  worth_is bits h =
      let zero_at : 8 * f.place ≡ 0 + 8 * f.place = omega arith in
      ap (λ a. number_worth bits a f.size) zero_at ∙ number_is bits 0 m h bytes f.place f.size within

  piece_is : (bits : List Gold) → AreBitsOf bits 0 m → (k : ℕ) → number_worth bits (8 * (f.place + piece_start f.size k)) (piece_size f.size k) ≡ of_number (piece_number m f k)
  piece_is bits h k =
      let place = f.place + piece_start f.size k in
      let size = piece_size f.size k in
      let zero_at : 8 * place ≡ 0 + 8 * place = omega arith in
      ap (λ a. number_worth bits a size) zero_at ∙ number_is bits 0 m h bytes place size (omega (arith, within))

  number_of_date : IsTrue (is_date f.kind) → (of_number (field_number m f)).n ≡ field_number m f
  number_of_date d = number_of_small (field_number m f) (omega (arith, small_date d))

  number_of_told : f.size ≤ 7 → (of_number (field_number m f)).n ≡ field_number m f
  number_of_told l = number_of_small (field_number m f) (omega (arith, small_text l))

  within_seal : IsTrue (is_sealed f.kind && (f.size == 32)) → f.place + 32 ≤ length m
  within_seal s = omega (arith, within, equal f.size 32 (both (is_sealed f.kind) (f.size == 32) s).1)

  -- ---- what is asserted is true

  claim_forward : (claim : Claim) → IsTrue (suits f claim) → (bits public own rests : List Gold) → AreBitsOf bits 0 m → value_count claim ≤ length public → own_of_claim f claim ≤ length own → rest_of_claim claim ≤ length rests
      → IsStated bits f claim public own → IsHashed f claim public own rests → IsTrueOf m f claim public
  claim_forward (claims.AtMost value) s bits public own rests h lp lo lr a b =
      let n = field_number m f in
      let v = entry ops public 0 in
      let e = worth_is bits h in
      let is_n = number_of_date s in
      let r = most_forward (of_number n) v own lo (omega (arith, is_n, small_date s)) (subst (λ (x : Gold). IsOrdered (difference v x) v own) e a) in
      (omega (arith, r.0, is_n), r.1)
  claim_forward (claims.AtLeast value) s bits public own rests h lp lo lr a b =
      let n = field_number m f in
      let v = entry ops public 0 in
      let is_n = number_of_date s in
      let r = least_forward (of_number n) v own lo (subst (λ (x : Gold). IsOrdered (difference x v) v own) (worth_is bits h) a) in
      omega (arith, r, is_n)
  claim_forward (claims.Equal value) s bits public own rests h lp lo lr a b =
      ap (λ (x : Gold). x.n) (sym a ∙ worth_is bits h) ∙ number_of_told (told_size f.kind f.size s is.0)
  claim_forward (claims.Spelled value) s bits public own rests h lp lo lr a b =
      let one = λ (k : ℕ). piece_is bits h k in
      five_entries public lp ∙ (λ i. (sym a.0 ∙ one 0) i ∷ (sym a.1 ∙ one 1) i ∷ (sym a.2 ∙ one 2) i ∷ (sym a.3 ∙ one 3) i ∷ (sym a.4 ∙ one 4) i ∷ [])
  claim_forward (claims.OneOf texts) s bits public own rests h lp lo lr a b =
      let t = both (is_text f.kind && nat_le (length texts) most_texts) (are_texts_of f.size texts) s in
      let few = text_size f.kind f.size (both (is_text f.kind) (nat_le (length texts) most_texts) t.0).0 is.0 in
      one_of_forward m bytes f.place f.size within bits h texts (omega (arith, few)) t.1 a
  claim_forward (claims.Pseudonym value) s bits public own rests h lp lo lr a b =
      let len = message_size f in
      let few : len ≤ 55 = at_most len 55 (both (is_bytes f.kind) (nat_le len 55) s).1 in
      let eight : length (take 8 (drop 4 public)) ≡ 8 = length-take-le 8 (drop 4 public) (omega (arith, length-drop 4 public, lp)) in
      let w = spelt len (take 8 (drop 4 public)) own (take hash_rest rests) eight lo (length-take-le hash_rest rests lr ∙ omega (arith, few)) b in
      pseudonym_forward m f within bits own public h bytes (omega (arith, lp)) w.message w.size_is w.bytes_are w.bits_are a w.digest_is
  claim_forward (claims.Sealed value) s bits public own rests h lp lo lr a b =
      let held = sealed_forward m bytes f (within_seal s) bits h public own rests lp lo lr a b in
      (held.secret, held.sealed)

  secret_forward : (claim : Claim) → IsTrue (suits f claim) → (bits public own rests : List Gold) → AreBitsOf bits 0 m → value_count claim ≤ length public → own_of_claim f claim ≤ length own → rest_of_claim claim ≤ length rests
      → IsStated bits f claim public own → IsHashed f claim public own rests → IsSecretHeld m f claim public own
  secret_forward (claims.AtMost value) s bits public own rests h lp lo lr a b = tt
  secret_forward (claims.AtLeast value) s bits public own rests h lp lo lr a b = tt
  secret_forward (claims.Equal value) s bits public own rests h lp lo lr a b = tt
  secret_forward (claims.Spelled value) s bits public own rests h lp lo lr a b = tt
  secret_forward (claims.OneOf texts) s bits public own rests h lp lo lr a b = tt
  secret_forward (claims.Pseudonym value) s bits public own rests h lp lo lr a b = tt
  secret_forward (claims.Sealed value) s bits public own rests h lp lo lr a b = sealed_forward m bytes f (within_seal s) bits h public own rests lp lo lr a b

  -- ---- and what is true has inputs

  pub record Found (claim : Claim) (public : List Gold) : Type 0 where
    pub own : List Gold
    pub rest : List Gold
    pub own_size : length own ≡ own_of_claim f claim
    pub rest_size : length rest ≡ rest_of_claim claim
    pub stated : (bits more : List Gold) → AreBitsOf bits 0 m → IsStated bits f claim public (own ++ more)
    pub hashed : (more others : List Gold) → IsHashed f claim public (own ++ more) (rest ++ others)

  claim_backward : (claim : Claim) → IsTrue (suits f claim) → (public : List Gold) → IsTrueOf m f claim public → Found claim public
  claim_backward (claims.AtMost value) s public t =
      let n = field_number m f in
      let v = entry ops public 0 in
      let is_n = number_of_date s in
      let o = ordered (of_number n) v v (omega (arith, t.0, is_n)) t.1 t.1 in
      record {
        own = o.0;
        rest = [];
        own_size = o.1;
        rest_size = refl;
        stated = λ bits more h. subst (λ (x : Gold). IsOrdered (difference v x) v (o.0 ++ more)) (sym (worth_is bits h)) (o.2 more);
        hashed = λ more others. tt;
      }
  claim_backward (claims.AtLeast value) s public t =
      let n = field_number m f in
      let v = entry ops public 0 in
      let is_n = number_of_date s in
      let small = small_date s in
      let o = ordered v (of_number n) v (omega (arith, t, is_n)) (omega (arith, is_n, small)) (omega (arith, t, small)) in
      record {
        own = o.0;
        rest = [];
        own_size = o.1;
        rest_size = refl;
        stated = λ bits more h. subst (λ (x : Gold). IsOrdered (difference x v) v (o.0 ++ more)) (sym (worth_is bits h)) (o.2 more);
        hashed = λ more others. tt;
      }
  claim_backward (claims.Equal value) s public t = record {
    own = [];
    rest = [];
    own_size = refl;
    rest_size = refl;
    stated = λ bits more h. worth_is bits h ∙ ap of_number (sym t) ∙ sym (own_number (entry ops public 0));
    hashed = λ more others. tt;
  }
  claim_backward (claims.Spelled value) s public t =
      let at = λ (j : ℕ) (l : j < 5). sym (get_or-take 5 public j ops.zero l) ∙ ap (λ xs. entry ops xs j) t in
      record {
        own = [];
        rest = [];
        own_size = refl;
        rest_size = refl;
        stated = λ bits more h. (
          piece_is bits h 0 ∙ sym (at 0 (omega arith)),
          piece_is bits h 1 ∙ sym (at 1 (omega arith)),
          piece_is bits h 2 ∙ sym (at 2 (omega arith)),
          piece_is bits h 3 ∙ sym (at 3 (omega arith)),
          piece_is bits h 4 ∙ sym (at 4 (omega arith)),
        );
        hashed = λ more others. tt;
      }
  claim_backward (claims.OneOf texts) s public t = record {
    own = [];
    rest = [];
    own_size = refl;
    rest_size = refl;
    stated = λ bits more h. one_of_backward m bytes f.place f.size within bits h texts t;
    hashed = λ more others. tt;
  }
  claim_backward (claims.Pseudonym value) s public t =
      let len = message_size f in
      let few : len ≤ 55 = at_most len 55 (both (is_bytes f.kind) (nat_le len 55) s).1 in
      let w = pseudonym_message m f t.tag in
      let long : length w ≡ len = long_message m f within t.tag t.is_tag bytes in
      let bw : AreBytes w = bytes_message m f within t.tag t.is_tag bytes in
      let own = message_front w bw in
      let rest = message_rest w bw in
      let long_own : length own ≡ 8 * len = length-message_front w bw ∙ ap (λ n. 8 * n) long in
      let long_rest : length rest ≡ hash_rest = length-message_rest w bw ∙ omega (arith, long, few) in
      record {
        own = own;
        rest = rest;
        own_size = long_own;
        rest_size = long_rest;
        stated = λ bits more h. pseudonym_backward m f within t.tag t.is_tag bytes bits (own ++ more) public h (message_bits_are w bw more) t.words;
        hashed = λ more others.
            let one : take (8 * len) (own ++ more) ≡ own = take_front (8 * len) own more (sym long_own) in
            let two : take hash_rest (rest ++ others) ≡ rest = take_front hash_rest rest others (sym long_rest) in
            let three : map of_number (digest_words w) ≡ take 8 (drop 4 public) = sym t.digest in
            subst (λ (l : List Gold). AreHashing ops of_number len l (take (8 * len) (own ++ more) ++ take hash_rest (rest ++ others))) three
            (subst (λ (k : ℕ). AreHashing ops of_number k (map of_number (digest_words w)) (take (8 * len) (own ++ more) ++ take hash_rest (rest ++ others))) long
            (subst (λ (l : List Gold). AreHashing ops of_number (length w) (map of_number (digest_words w)) l) (λ i. sym one i ++ sym two i) (message_satisfies_parts w bw)));
      }
  claim_backward (claims.Sealed value) s public t =
      let secret = t.0 in
      let r = t.1 in
      let w = seal_message secret in
      let v = sealed_message secret r.tag in
      let lw : length w ≡ 20 = long_seal secret r.is_secret in
      let lv : length v ≡ 36 = long_sealed secret r.tag r.is_secret r.is_tag in
      let bw : AreBytes w = bytes_seal secret r.is_secret in
      let bv : AreBytes v = bytes_sealed secret r.tag r.is_secret r.is_tag in
      let front = message_front w bw in
      let first = message_rest w bw in
      let second = message_front v bv in
      let last = message_rest v bv in
      let words = map of_number (digest_words w) in
      let long_front : length front ≡ 160 = length-message_front w bw ∙ ap (λ n. 8 * n) lw in
      let long_second : length second ≡ 288 = length-message_front v bv ∙ ap (λ n. 8 * n) lv in
      let long_first : length first ≡ 6376 = length-message_rest w bw ∙ ap rest_of_hash lw in
      let long_last : length last ≡ 6376 = length-message_rest v bv ∙ ap rest_of_hash lv in
      let eight : length words ≡ 8 = length-map (digest_words w) of_number ∙ long_words w in
      let one = subst (λ (n : ℕ). AreHashing ops of_number n words (front ++ first)) lw (message_satisfies_parts w bw) in
      let two = subst (λ (n : ℕ). AreHashing ops of_number n (map of_number (digest_words v)) (second ++ last)) lv (message_satisfies_parts v bv) in
      record {
        own = (front ++ words) ++ second;
        rest = first ++ last;
        own_size = omega (arith, length-append (front ++ words) second, length-append front words, long_front, eight, long_second);
        rest_size = omega (arith, length-append first last, long_first, long_last);
        stated = λ bits more h.
            sealed_stated m bytes f (within_seal s) bits h secret r.tag r.is_secret r.is_tag r.seal front words second long_front refl (message_bits_are w bw) (message_bits_are v bv) more public r.words;
        hashed = λ more others.
            sealed_hashed secret r.tag front words second long_front refl more public first last others long_first long_last long_second one two r.digest;
      }

-- ---- all that is shown

at_field : (o : Option RecordField) (f : RecordField) (P : RecordField → Type 0) → o ≡ Some f → MatchOption o ⊥ P → P f
at_field o f P e h = subst (λ (x : Option RecordField). MatchOption x ⊥ P) e h

put_field : (o : Option RecordField) (f : RecordField) (P : RecordField → Type 0) → o ≡ Some f → P f → MatchOption o ⊥ P
put_field o f P e h = subst (λ (x : Option RecordField). MatchOption x ⊥ P) (sym e) h

slot_size : (fields : List RecordField) (s : Show) (f : RecordField) → slice_get fields s.field ≡ Some f → own_count fields s ≡ own_of_claim f s.claim
slot_size fields s f e = ap (λ o. own_of o s.claim) e

-- the field that stands at a place
field_there : (n : ℕ) (fields : List RecordField) (k : ℕ) (f : RecordField) → AllByRecursion (IsField n) fields → slice_get fields k ≡ Some f → IsField n f
field_there n [] k f h e = absurd cc
field_there n (g ∷ gs) zero f h e = let same : g ≡ f = cc in subst (IsField n) same h.0
field_there n (g ∷ gs) (suc k) f h e = field_there n gs k f h.1 e

module _ (m : List ℕ) (bytes : AreBytes m) (fields : List RecordField) (are : AllByRecursion (IsField (length m)) fields) where
  shows_forward : (ss : List Show) → AllByRecursion (IsShowOf fields) ss → (bits public own rests : List Gold) → AreBitsOf bits 0 m → values_of ss ≤ length public → owns_of fields ss ≤ length own → rests_of ss ≤ length rests
      → AreStated bits fields ss public own → AreHashed fields ss public own rests → AreTrueOf m fields ss public
  shows_forward [] w bits public own rests h lp lo lr a b = tt
  shows_forward (s ∷ ss) w bits public own rests h lp lo lr a b =
      let f = w.0.0 in
      let there = w.0.1 in
      let size = slot_size fields s f there in
      let first = claim_forward m bytes f (field_there (length m) fields s.field f are there) s.claim w.0.2 bits public own rests h (omega (arith, lp)) (omega (arith, lo, size)) (omega (arith, lr))
      (at_field (slice_get fields s.field) f (λ g. IsStated bits g s.claim public own) there a.0)
      (at_field (slice_get fields s.field) f (λ g. IsHashed g s.claim public own rests) there b.0) in
      let n = value_count s.claim in
      let k = own_count fields s in
      let r = rest_of_claim s.claim in (
        put_field (slice_get fields s.field) f (λ g. IsTrueOf m g s.claim public) there first,
        shows_forward ss w.1 bits (drop n public) (drop k own) (drop r rests) h
            (omega (arith, length-drop n public, lp)) (omega (arith, length-drop k own, lo)) (omega (arith, length-drop r rests, lr)) a.1 b.1,
      )

  secrets_forward : (ss : List Show) → AllByRecursion (IsShowOf fields) ss → (bits public own rests : List Gold) → AreBitsOf bits 0 m → values_of ss ≤ length public → owns_of fields ss ≤ length own → rests_of ss ≤ length rests
      → AreStated bits fields ss public own → AreHashed fields ss public own rests → AreSecretsHeld m fields ss public own
  secrets_forward [] w bits public own rests h lp lo lr a b = tt
  secrets_forward (s ∷ ss) w bits public own rests h lp lo lr a b =
      let f = w.0.0 in
      let there = w.0.1 in
      let size = slot_size fields s f there in
      let first = secret_forward m bytes f (field_there (length m) fields s.field f are there) s.claim w.0.2 bits public own rests h (omega (arith, lp)) (omega (arith, lo, size)) (omega (arith, lr))
      (at_field (slice_get fields s.field) f (λ g. IsStated bits g s.claim public own) there a.0)
      (at_field (slice_get fields s.field) f (λ g. IsHashed g s.claim public own rests) there b.0) in
      let n = value_count s.claim in
      let k = own_count fields s in
      let r = rest_of_claim s.claim in (
        put_field (slice_get fields s.field) f (λ g. IsSecretHeld m g s.claim public own) there first,
        secrets_forward ss w.1 bits (drop n public) (drop k own) (drop r rests) h
            (omega (arith, length-drop n public, lp)) (omega (arith, length-drop k own, lo)) (omega (arith, length-drop r rests, lr)) a.1 b.1,
      )

  pub record AllFound (ss : List Show) (public : List Gold) : Type 0 where
    pub own : List Gold
    pub rests : List Gold
    pub own_size : length own ≡ owns_of fields ss
    pub rests_size : length rests ≡ rests_of ss
    pub stated : (bits more : List Gold) → AreBitsOf bits 0 m → AreStated bits fields ss public (own ++ more)
    pub hashed : (more others : List Gold) → AreHashed fields ss public (own ++ more) (rests ++ others)

  shows_backward : (ss : List Show) → AllByRecursion (IsShowOf fields) ss → (public : List Gold) → AreTrueOf m fields ss public → AllFound ss public
  shows_backward [] w public t = record {
    own = [];
    rests = [];
    own_size = refl;
    rests_size = refl;
    stated = λ bits more h. tt;
    hashed = λ more others. tt;
  }
  shows_backward (s ∷ ss) w public t =
      let f = w.0.0 in
      let there = w.0.1 in
      let size = slot_size fields s f there in
      let n = value_count s.claim in
      let k = own_count fields s in
      let r = rest_of_claim s.claim in
      let one = claim_backward m bytes f (field_there (length m) fields s.field f are there) s.claim w.0.2 public
      (at_field (slice_get fields s.field) f (λ g. IsTrueOf m g s.claim public) there t.0) in
      let more_ = shows_backward ss w.1 (drop n public) t.1 in
      record {
        own = one.own ++ more_.own;
        rests = one.rest ++ more_.rests;
        own_size = omega (arith, length-append one.own more_.own, one.own_size, more_.own_size, size);
        rests_size = omega (arith, length-append one.rest more_.rests, one.rest_size, more_.rests_size);
        stated = λ bits more h.
            let turn : (one.own ++ more_.own) ++ more ≡ one.own ++ (more_.own ++ more) = append_assoc one.own more_.own more in
            let behind : drop k ((one.own ++ more_.own) ++ more) ≡ more_.own ++ more = ap (drop k) turn ∙ drop_front k one.own (more_.own ++ more) (size ∙ sym one.own_size) in (
              put_field (slice_get fields s.field) f (λ g. IsStated bits g s.claim public ((one.own ++ more_.own) ++ more)) there
                  (subst (λ (l : List Gold). IsStated bits f s.claim public l) (sym turn) (one.stated bits (more_.own ++ more) h)),
              subst (λ (l : List Gold). AreStated bits fields ss (drop n public) l) (sym behind) (more_.stated bits more h),
            );
        hashed = λ more others.
            let turn : (one.own ++ more_.own) ++ more ≡ one.own ++ (more_.own ++ more) = append_assoc one.own more_.own more in
            let behind : drop k ((one.own ++ more_.own) ++ more) ≡ more_.own ++ more = ap (drop k) turn ∙ drop_front k one.own (more_.own ++ more) (size ∙ sym one.own_size) in
            let rturn : (one.rest ++ more_.rests) ++ others ≡ one.rest ++ (more_.rests ++ others) = append_assoc one.rest more_.rests others in
            let rbehind : drop r ((one.rest ++ more_.rests) ++ others) ≡ more_.rests ++ others = ap (drop r) rturn ∙ drop_front r one.rest (more_.rests ++ others) (sym one.rest_size) in (
              put_field (slice_get fields s.field) f (λ g. IsHashed g s.claim public ((one.own ++ more_.own) ++ more) ((one.rest ++ more_.rests) ++ others)) there
                  (subst (λ (l : List Gold). IsHashed f s.claim public l ((one.rest ++ more_.rests) ++ others)) (sym turn)
                  (subst (λ (l : List Gold). IsHashed f s.claim public (one.own ++ (more_.own ++ more)) l) (sym rturn) (one.hashed (more_.own ++ more) (more_.rests ++ others)))),
              subst (λ (l : List Gold). AreHashed fields ss (drop n public) l (drop r ((one.rest ++ more_.rests) ++ others))) (sym behind)
                  (subst (λ (l : List Gold). AreHashed fields ss (drop n public) (more_.own ++ more) l) (sym rbehind) (more_.hashed more others)),
            );
      }

-- ---- the whole

-- idle inputs are beside those that have a meaning
padded_at : (n : ℕ) (b : Bool) → n ≤ (if b then n else max n 16384)
padded_at n true = omega arith
padded_at n false = le-max_left n 16384

pub padded_most : (n : ℕ) → n ≤ padded n
unfolding padded
padded_most n = padded_at n (nat_lt n 9000)

-- the record stands in the private inputs
pub satisfied_held : RecordsAreHeld
satisfied_held c public private w np nq h =
    let n = 8 * c.size in
    let s = stated_count c in
    let k = rest_of_hash c.size in
    let own = take s private in
    let eight : length (take 8 public) ≡ 8 = length-take-le 8 public (omega (arith, np)) in
    let enough : s + (k + rests_of c.shows) ≤ length private = subst (λ (j : ℕ). needed_count c ≤ j) (sym nq) (padded_most (needed_count c)) in
    let long : length own ≡ s = length-take-le s private (omega (arith, enough)) in
    let rest : length (take k (drop s private)) ≡ k = length-take-le k (drop s private) (omega (arith, length-drop s private, enough)) in
    let d = spelt c.size (take 8 public) own (take k (drop s private)) eight (omega (arith, long)) rest h.hashed in
    let m = d.message in
    let fields = subst (λ (j : ℕ). AllByRecursion (IsField j) c.fields) (sym d.size_is) w.fields in
    let twice : rests_of c.shows ≤ length (drop (s + k) private) = omega (arith, length-drop (s + k) private, enough) in
    let f = λ (j : ℕ). bit_at (slice_index m (j / 8)) (7 - j % 8) in
    let count : length (message_bits m) ≡ 8 * length m = length-map-range_with_len f 0 (8 * length m) in
    let taken : length (take n private) ≡ n = length-take-le n private (omega (arith, enough)) in
    record {
      m = m;
      shown = record {
        bytes = record { size_is = d.size_is; bytes_are = d.bytes_are };
        digest = d.digest_is;
        lines = shows_forward m d.bytes_are c.fields fields c.shows w.shows own (drop 8 public) (drop n own) (drop (s + k) private) d.bits_are
            (omega (arith, length-drop 8 public, np)) (omega (arith, length-drop n own, long)) (omega (arith, twice)) h.stated h.pseudonyms;
      };
      secrets = secrets_forward m d.bytes_are c.fields fields c.shows w.shows own (drop 8 public) (drop n own) (drop (s + k) private) d.bits_are
          (omega (arith, length-drop 8 public, np)) (omega (arith, length-drop n own, long)) (omega (arith, twice)) h.stated h.pseudonyms;
      bits = ext_get_or ops.zero (take n private) (map of_number (message_bits m)) (taken ∙ omega (arith, length-map (message_bits m) of_number, count, d.size_is))
          (λ i q.
          let l : i < n = omega (arith, q, taken) in
          let inside : i < 8 * length m = omega (arith, l, d.size_is) in
          let first : 0 + i ≡ i = omega arith in
          get_or-take n private i ops.zero l
          ∙ sym (get_or-take s private i ops.zero (omega (arith, l)))
          ∙ sym (ap (entry ops own) first)
          ∙ d.bits_are.bits i inside
          ∙ sym (get_or-map of_number (message_bits m) i 0 ops.zero (omega (arith, count, inside)) ∙ ap of_number (get_or-map-range_with_len f 0 (8 * length m) i i 0 inside (omega arith))));
    }

pub satisfied_forward : (c : Contents) → IsPolicy c → (public private : List Gold) → length public ≡ public_count c → length private ≡ private_count c → Satisfy c public private
    → (m : List ℕ) × IsShown c m public
satisfied_forward c w public private np nq h = let r = satisfied_held c public private w np nq h in (r.m, r.shown)

pub satisfied_backward : (c : Contents) → IsPolicy c → (m : List ℕ) (public : List Gold) → IsShown c m public
    → (private : List Gold) × (length private ≡ private_count c) × Satisfy c public private
satisfied_backward c w m public h =
    let bytes = h.bytes.bytes_are in
    let size = h.bytes.size_is in
    let n = 8 * c.size in
    let s = stated_count c in
    let k = rest_of_hash c.size in
    let fields = subst (λ (j : ℕ). AllByRecursion (IsField j) c.fields) (sym size) w.fields in
    let r = shows_backward m bytes c.fields fields c.shows w.shows (drop 8 public) h.lines in
    let front = message_front m bytes in
    let rest = message_rest m bytes in
    let stated = front ++ r.own in
    let idle : List Gold = replicate (private_count c - needed_count c) ops.zero in
    let others = r.rests ++ idle in
    let behind = rest ++ others in
    let private = stated ++ behind in
    let long_front : length front ≡ n = length-message_front m bytes ∙ ap (λ j. 8 * j) size in
    let long_rest : length rest ≡ rest_of_hash c.size = length-message_rest m bytes ∙ ap rest_of_hash size in
    let long_stated : length stated ≡ s = omega (arith, length-append front r.own, long_front, r.own_size) in
    let stated_at : take s private ≡ stated = take_front s stated behind (sym long_stated) in
    let behind_at : drop s private ≡ behind = drop_front s stated behind (sym long_stated) in
    let own_at : drop n (take s private) ≡ r.own ++ [] = ap (drop n) stated_at ∙ drop_front n front r.own (sym long_front) ∙ sym (append-nil r.own) in
    let front_at_ : take n (take s private) ≡ front = ap (take n) stated_at ∙ take_front n front r.own (sym long_front) in
    let rest_at : take k (drop s private) ≡ rest = ap (take k) behind_at ∙ take_front k rest others (sym long_rest) in
    let rests_at : drop (s + k) private ≡ others =
    sym (drop_twice s k private) ∙ ap (drop k) behind_at ∙ drop_front k rest others (sym long_rest) in
    let bits : AreBitsOf (take s private) 0 m = subst (λ (l : List Gold). AreBitsOf l 0 m) (sym stated_at) (message_bits_are m bytes r.own) in
    let whole : length private ≡ private_count c = omega (
      arith,
      length-append stated behind,
      length-append rest others,
      length-append r.rests idle,
      length-replicate (private_count c - needed_count c) ops.zero,
      long_stated,
      long_rest,
      r.rests_size,
      padded_most (needed_count c),
    ) in (
      private,
      whole,
      record {
        stated = subst (λ (l : List Gold). AreStated (take s private) c.fields c.shows (drop 8 public) l) (sym own_at) (r.stated (take s private) [] bits);
        hashed =
            subst (λ (l : List Gold). AreHashing ops of_number c.size l (take n (take s private) ++ take k (drop s private))) (sym h.digest)
            (subst (λ (j : ℕ). AreHashing ops of_number j (map of_number (digest_words m)) (take n (take s private) ++ take k (drop s private))) size
            (subst (λ (l : List Gold). AreHashing ops of_number (length m) (map of_number (digest_words m)) l) (λ i. sym front_at_ i ++ sym rest_at i) (message_satisfies_parts m bytes)));
        pseudonyms =
            subst (λ (l : List Gold). AreHashed c.fields c.shows (drop 8 public) l (drop (s + k) private)) (sym own_at)
            (subst (λ (l : List Gold). AreHashed c.fields c.shows (drop 8 public) (r.own ++ []) l) (sym rests_at) (r.hashed [] idle));
      },
    )
