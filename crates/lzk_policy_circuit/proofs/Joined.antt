-- What satisfies the statement, its hashes, and all of them side by side.
use Rattle.std.proofs.Common.{◌≡◌, ℕ, ◌+◌, ◌*◌, ◌≤◌, List, [], ◌∷◌, ◌++◌, length, take, drop, zero, suc, refl, sym, ap, subst, ◌∙◌, arith, None, Option, Some, mul-suc, length-append, length-drop}
use Rattle.std.specs.Prelude.{◌↔◌, MatchOption, slice_get, IsTrue, Bool, true, false, ◌&&◌, nat_le}
use Rattle.std.proofs.lemmas.Bool.{leb-true}
use Rattle.std.specs.List.{AllByRecursion, range_with_len}
use Rattle.std.proofs.lemmas.List.{length-take-le, drop-take}
use Rattle.lzk_goldilocks.specs.Prime.{p, element_bytes}
use Rattle.lzk_goldilocks.specs.Elements.{ops, of_number, number, laws}
use Rattle.lzk_goldilocks.specs.declared.element.Gold.{Gold}
use Rattle.std.proofs.Math.Seq.{take-length}
use Rattle.lzk_circuit.specs.declared.layer.Layer.{Layer}
use Rattle.lzk_circuit.specs.Checks.{IsSatisfied}
use Rattle.lzk_circuit.specs.Valid.{Wiring, input_width, IsValid}
use Rattle.lzk_circuit.specs.Wires.{wires_of, inputs_of, IsFirstNonzero}
use Rattle.lzk_gadgets.specs.Claims.{AreAllZero, Holds}
use Rattle.lzk_circuit_beside.specs.Chosen.{chosen}
use Rattle.lzk_sha_blocks.specs.Hashed.{AreHashing}
use Rattle.lzk_sha_blocks.specs.Layout.{private_count}
use Rattle.lzk_policy.specs.declared.policy.RecordField.{RecordField}
use Rattle.lzk_policy.specs.declared.policy.Show.{Show}
use Rattle.lzk_policy.specs.declared.policy.Claim.{Claim}
use Rattle.lzk_policy.specs.declared.policy.Claim.TheVariants as claims
use Rattle.lzk_policy.specs.Policies.{Contents, IsPolicy, IsShowOf, suits, is_bytes}
use Rattle.lzk_policy_circuit.specs.Meaning.{value_count, public_count, IsShown}
use Rattle.lzk_policy_circuit.specs.Layout as layout
use Rattle.lzk_policy_circuit.specs.Layout.{message_size, rest_of_hash, own_of, own_of_claim, own_count, owns_of, stated_count, rest_of_claim, asserts_of, asserts_of_claim, asserts_of_field}
use Rattle.lzk_policy_circuit.specs.Met.{AreStated, IsHashed, AreHashed, AreSealHashed, Satisfy}
use Rattle.lzk_policy_circuit.specs.Places.{hash_places}
use Rattle.lzk_policy_circuit.proofs.Adding.{Stated}
use Rattle.lzk_policy_circuit.proofs.Lists.{drop_twice}
use Rattle.lzk_policy_circuit.proofs.Whole.{satisfied_forward, satisfied_backward}
use Rattle.lzk_policy_circuit.proofs.Parts.{own_checks, all_zero_forward, all_zero_backward, chosen_front, chosen_hash, words_public, words_private}

-- ---- exactly where

pub then_iff : {A B C : Type 0} → A ↔ B → B ↔ C → A ↔ C
then_iff f g = (λ a. g.0 (f.0 a), λ c. f.1 (g.1 c))

pub both_iff : {A B C D : Type 0} → A ↔ B → C ↔ D → (A × C) ↔ (B × D)
both_iff f g = (λ h. (f.0 h.0, g.0 h.1), λ h. (f.1 h.0, g.1 h.1))

-- ---- the statement

width_of : (c : Wiring Gold) (public private : List Gold) → length public ≡ c.publics → length private ≡ c.privates → length (inputs_of ops public private) ≡ input_width c
width_of c public private np nq = omega (arith, length-append public private, np, nq)

pub stated_satisfied : (c : Wiring Gold) (old new : Stated) (public private : List Gold) (C : Type 0) → IsValid ops c → c.version ≡ 1 → length public ≡ c.publics → length private ≡ c.privates
    → AreAllZero ops (wires_of ops c.layers (inputs_of ops public private)) ↔ Holds ops new public private → Holds ops new public private ↔ (Holds ops old public private × C) → Holds ops old public private
    → IsSatisfied ops number c.layers (inputs_of ops public private) ↔ C
stated_satisfied c old new public private C valid one np nq outs claims before =
    let xs = inputs_of ops public private in
    let checks = own_checks ops p number of_number element_bytes laws c xs valid one (width_of c public private np nq) in
    let zeros : IsSatisfied ops number c.layers xs ↔ AreAllZero ops (wires_of ops c.layers xs) = (
      λ h. all_zero_forward ops (wires_of ops c.layers xs) (subst (λ (l : List Gold). IsFirstNonzero ops l None) checks h),
      λ h. subst (λ (l : List Gold). IsFirstNonzero ops l None) (sym checks) (all_zero_backward ops (wires_of ops c.layers xs) h),
    ) in
    (λ h. (claims.0 (outs.0 (zeros.0 h))).1, λ h. zeros.1 (outs.1 (claims.1 (before, h))))

second : (a b : Bool) → (a && b) ≡ true → b ≡ true
second true b h = h
second false b h = absurd cc

-- a statement has an assert or more for each thing that is shown, and not too many
few_asserts : (f : RecordField) (claim : Claim) → IsTrue (suits f claim) → (1 ≤ asserts_of_claim f claim) × (asserts_of_claim f claim ≤ 70)
few_asserts f (claims.AtMost value) s = (omega arith, omega arith)
few_asserts f (claims.AtLeast value) s = (omega arith, omega arith)
few_asserts f (claims.Equal value) s = (omega arith, omega arith)
few_asserts f (claims.Spelled value) s = (omega arith, omega arith)
few_asserts f (claims.OneOf texts) s = (omega arith, omega arith)
few_asserts f (claims.Sealed value) s = (omega arith, omega arith)
few_asserts f (claims.Pseudonym value) s =
    let small : 4 + f.size + 16 ≤ 55 = leb-true (4 + f.size + 16) 55 (second (is_bytes f.kind) (nat_le (4 + f.size + 16) 55) s) in
    (omega arith, omega (arith, small))

pub asserts_between : (fields : List RecordField) (ss : List Show) → AllByRecursion (IsShowOf fields) ss → (length ss ≤ asserts_of fields ss) × (asserts_of fields ss ≤ 70 * length ss)
asserts_between fields [] w = (omega arith, omega arith)
asserts_between fields (s ∷ ss) w =
    let count = ap (λ o. asserts_of_field o s.claim) w.0.1 in
    let first = few_asserts w.0.0 s.claim w.0.2 in
    let rest = asserts_between fields ss w.1 in
    (omega (arith, count, first.0, rest.0), omega (arith, count, first.1, rest.1, mul-suc 70 (length ss)))

-- ---- a hash

-- what stands beside a circuit is satisfied where the hash is
pub hash_satisfied : (first hash whole : Wiring Gold) (public private : List Gold) (len words bits rest : ℕ)
    → ((a b : List Gold) → length a ≡ 8 → length b ≡ private_count len → IsSatisfied ops number hash.layers (inputs_of ops a b) ↔ AreHashing ops of_number len a b)
    → first.privates ≤ length private → words + 8 ≤ length public + length private → bits + 8 * len ≤ length private → rest + rest_of_hash len ≤ length private
    → IsSatisfied ops number whole.layers (inputs_of ops public private) ↔
    (IsSatisfied ops number first.layers (chosen ops (range_with_len 1 (length public + first.privates)) (inputs_of ops public private)) ×
    IsSatisfied ops number hash.layers (chosen ops (hash_places (1 + words) (1 + length public + bits) (8 * len) (1 + length public + rest) (rest_of_hash len)) (inputs_of ops public private)))
    → IsSatisfied ops number whole.layers (inputs_of ops public private) ↔
    (IsSatisfied ops number first.layers (inputs_of ops public (take first.privates private)) ×
    AreHashing ops of_number len (take 8 (drop words (public ++ private))) (take (8 * len) (drop bits private) ++ take (rest_of_hash len) (drop rest private)))
hash_satisfied first hash whole public private len words bits rest own lq lw lb lr both =
    let n = rest_of_hash len in
    let a = take 8 (drop words (public ++ private)) in
    let b = take (8 * len) (drop bits private) ++ take n (drop rest private) in
    let la : length a ≡ 8 = length-take-le 8 (drop words (public ++ private)) (omega (arith, length-drop words (public ++ private), length-append public private, lw)) in
    let l1 : length (take (8 * len) (drop bits private)) ≡ 8 * len = length-take-le (8 * len) (drop bits private) (omega (arith, length-drop bits private, lb)) in
    let l2 : length (take n (drop rest private)) ≡ n = length-take-le n (drop rest private) (omega (arith, length-drop rest private, lr)) in
    let lb_ : length b ≡ private_count len = omega (arith, length-append (take (8 * len) (drop bits private)) (take n (drop rest private)), l1, l2) in
    let front = chosen_front ops public private first.privates lq in
    let there = chosen_hash ops public private words bits (8 * len) rest n lw lb lr in
    let hash_is = own a b la lb_ in
    let F = λ (xs : List Gold). IsSatisfied ops number first.layers xs in
    let H = λ (xs : List Gold). IsSatisfied ops number hash.layers xs in (
      λ h. let r = both.0 h in (subst F front r.0, hash_is.0 (subst H there r.1)),
      λ h. both.1 (subst F (sym front) h.0, subst H (sym there) (hash_is.1 h.1)),
    )

-- ---- pseudonyms

pub hashes_claim : (fields : List RecordField) (s : Show) (ss : List Show) (f : RecordField) (p q : List Gold) (words bits rest next behind last : ℕ) → slice_get fields s.field ≡ Some f
    → next ≡ words + value_count s.claim → behind ≡ bits + own_of_claim f s.claim → last ≡ rest + rest_of_claim s.claim
    → (IsHashed f s.claim (drop words p) (drop bits q) (drop rest q) × AreHashed fields ss (drop next p) (drop behind q) (drop last q)) ↔ AreHashed fields (s ∷ ss) (drop words p) (drop bits q) (drop rest q)
hashes_claim fields s ss f p q words bits rest next behind last there en eb el =
    let ep : drop next p ≡ drop (value_count s.claim) (drop words p) = ap (λ n. drop n p) en ∙ sym (drop_twice words (value_count s.claim) p) in
    let size = ap (λ o. own_of o s.claim) there in
    let eq : drop behind q ≡ drop (own_count fields s) (drop bits q) =
    ap (λ n. drop n q) eb ∙ sym (drop_twice bits (own_of_claim f s.claim) q) ∙ ap (λ n. drop n (drop bits q)) (sym size) in
    let er : drop last q ≡ drop (rest_of_claim s.claim) (drop rest q) = ap (λ n. drop n q) el ∙ sym (drop_twice rest (rest_of_claim s.claim) q) in
    let same : AreHashed fields ss (drop next p) (drop behind q) (drop last q) ≡ AreHashed fields ss (drop (value_count s.claim) (drop words p)) (drop (own_count fields s) (drop bits q)) (drop (rest_of_claim s.claim) (drop rest q)) =
    λ i. AreHashed fields ss (ep i) (eq i) (er i) in
    let P = λ (g : RecordField). IsHashed g s.claim (drop words p) (drop bits q) (drop rest q) in
    let M = λ (o : Option RecordField). MatchOption o ⊥ P in (
      λ h. (subst M (sym there) h.0, subst (λ (T : Type 0). T) same h.1),
      λ h. (subst M there h.0, subst (λ (T : Type 0). T) (sym same) h.1),
    )

module _ {A : Type 0} where
  none_taken : (xs : List A) → take {A = A} 0 xs ≡ []
  none_taken [] = refl
  none_taken (x ∷ xs) = refl

  of_nothing : (k : ℕ) → take {A = A} k [] ≡ []
  of_nothing zero = refl
  of_nothing (suc k) = refl

  take_twice : (n m : ℕ) (xs : List A) → take n (take (n + m) xs) ≡ take n xs
  take_twice zero m xs = none_taken (take (0 + m) xs) ∙ sym (none_taken xs)
  take_twice (suc n) m [] = ap (take (suc n)) (of_nothing (suc n + m))
  take_twice (suc n) m (x ∷ xs) =
      let e : suc n + m ≡ suc (n + m) = omega arith in
      ap (λ k. take (suc n) (take k (x ∷ xs))) e ∙ ap (λ l. x ∷ l) (take_twice n m xs)

  part_of : (a b c m : ℕ) (xs : List A) → take b (drop a (take (a + b + c + m) xs)) ≡ take b (drop a xs)
  part_of a b c m xs =
      let e : a + b + c + m ≡ a + (b + (c + m)) = omega arith in
      ap (λ n. take b (drop a (take n xs))) e ∙ ap (take b) (drop-take a (b + (c + m)) xs) ∙ take_twice b (c + m) (drop a xs)

seal_front : (m : ℕ) (public own rests : List Gold) → AreSealHashed public (take (456 + m) own) rests ↔ AreSealHashed public own rests
seal_front m public own rests =
    let first : take 160 (take (456 + m) own) ≡ take 160 own = (let e : 456 + m ≡ 160 + (296 + m) = omega arith in ap (λ n. take 160 (take n own)) e ∙ take_twice 160 (296 + m) own) in
    let words : take 8 (drop 160 (take (456 + m) own)) ≡ take 8 (drop 160 own) = part_of 160 8 288 m own in
    let last : take 288 (drop 168 (take (456 + m) own)) ≡ take 288 (drop 168 own) = part_of 168 288 0 m own in
    let F = λ (w x : List Gold). AreHashing ops of_number 20 w (x ++ take 6376 rests) in
    let L = λ (x : List Gold). AreHashing ops of_number 36 (take 8 (drop 4 public)) (x ++ take 6376 (drop 6376 rests)) in (
      λ h. record { seal = subst (λ (T : Type 0). T) (λ i. F (words i) (first i)) h.seal; message = subst L last h.message },
      λ h. record { seal = subst (λ (T : Type 0). T) (λ i. F (sym words i) (sym first i)) h.seal; message = subst L (sym last) h.message },
    )

-- only the first own inputs matter
first_hashed : (o : Option RecordField) (claim : Claim) (m : ℕ) (public own rests : List Gold)
    → MatchOption o ⊥ (λ f. IsHashed f claim public (take (own_of o claim + m) own) rests) ↔ MatchOption o ⊥ (λ f. IsHashed f claim public own rests)
first_hashed None claim m public own rests = (λ h. h, λ h. h)
first_hashed (Some f) (claims.AtMost value) m public own rests = (λ h. h, λ h. h)
first_hashed (Some f) (claims.AtLeast value) m public own rests = (λ h. h, λ h. h)
first_hashed (Some f) (claims.Equal value) m public own rests = (λ h. h, λ h. h)
first_hashed (Some f) (claims.Spelled value) m public own rests = (λ h. h, λ h. h)
first_hashed (Some f) (claims.OneOf texts) m public own rests = (λ h. h, λ h. h)
first_hashed (Some f) (claims.Sealed value) m public own rests = seal_front m public own rests
first_hashed (Some f) (claims.Pseudonym value) m public own rests =
    let len = message_size f in
    let P = λ (l : List Gold). AreHashing ops of_number len (take 8 (drop 4 public)) (l ++ take 6376 rests) in
    (λ h. subst P (take_twice (8 * len) m own) h, λ h. subst P (sym (take_twice (8 * len) m own)) h)

pub hashed_front : (fields : List RecordField) (ss : List Show) (public own rests : List Gold)
    → AreHashed fields ss public (take (owns_of fields ss) own) rests ↔ AreHashed fields ss public own rests
hashed_front fields [] public own rests = (λ h. tt, λ h. tt)
hashed_front fields (s ∷ ss) public own rests =
    let k = own_count fields s in
    let m = owns_of fields ss in
    let first = first_hashed (slice_get fields s.field) s.claim m public own rests in
    let turn : drop k (take (k + m) own) ≡ take m (drop k own) = drop-take k m own in
    let next = drop (value_count s.claim) public in
    let last = drop (rest_of_claim s.claim) rests in
    let r = hashed_front fields ss next (drop k own) last in
    let P = λ (l : List Gold). AreHashed fields ss next l last in
    (λ h. (first.0 h.0, r.0 (subst P turn h.1)), λ h. (first.1 h.0, subst P (sym turn) (r.1 h.1)))

-- what is no pseudonym has no hash
pub no_hash : (f : RecordField) (claim : Claim) (a b d : List Gold) → ((v : List ℕ) → claim ≡ claims.Pseudonym v → ⊥) → ((v : List ℕ) → claim ≡ claims.Sealed v → ⊥) → IsHashed f claim a b d
no_hash f (claims.AtMost value) a b d never none = tt
no_hash f (claims.AtLeast value) a b d never none = tt
no_hash f (claims.Equal value) a b d never none = tt
no_hash f (claims.Spelled value) a b d never none = tt
no_hash f (claims.OneOf texts) a b d never none = tt
no_hash f (claims.Pseudonym value) a b d never none = absurd (never value refl)
no_hash f (claims.Sealed value) a b d never none = absurd (none value refl)

-- ---- the whole

nothing_dropped : {A : Type 0} (xs : List A) → drop 0 xs ≡ xs
nothing_dropped [] = refl
nothing_dropped (x ∷ xs) = refl

-- the statement holds, and the hashes are those of the record and of the pseudonyms
pub whole_satisfied : (c : Contents) (A B : Type 0) (public private : List Gold) → 8 ≤ length public
    → B ↔ (A × AreHashing ops of_number c.size (take 8 (drop 0 (public ++ private))) (take (8 * c.size) (drop 0 private) ++ take (rest_of_hash c.size) (drop (stated_count c) private)))
    → A ↔ AreStated (take (stated_count c) private) c.fields c.shows (drop 8 public) (drop (8 * c.size) (take (stated_count c) private))
    → (B × AreHashed c.fields c.shows (drop 8 public) (drop (8 * c.size) private) (drop (stated_count c + rest_of_hash c.size) private)) ↔ Satisfy c public private
whole_satisfied c A B public private eight b a =
    let n = 8 * c.size in
    let m = owns_of c.fields c.shows in
    let s = stated_count c in
    let k = rest_of_hash c.size in
    let words : take 8 (drop 0 (public ++ private)) ≡ take 8 public = words_public ops public private 0 (omega (arith, eight)) ∙ ap (take 8) (nothing_dropped public) in
    let front : take n (drop 0 private) ≡ take n (take s private) = ap (take n) (nothing_dropped private) ∙ sym (take_twice n m private) in
    let own : drop n (take s private) ≡ take m (drop n private) = drop-take n m private in
    let rest = take k (drop s private) in
    let H = λ (x y : List Gold). AreHashing ops of_number c.size x (y ++ rest) in
    let same : H (take 8 (drop 0 (public ++ private))) (take n (drop 0 private)) ≡ H (take 8 public) (take n (take s private)) = λ i. H (words i) (front i) in
    let P = λ (l : List Gold). AreHashed c.fields c.shows (drop 8 public) l (drop (s + k) private) in
    let few = hashed_front c.fields c.shows (drop 8 public) (drop n private) (drop (s + k) private) in (
      λ h.
          let r = b.0 h.0 in
          record {
            stated = a.0 r.0;
            hashed = subst (λ (T : Type 0). T) same r.1;
            pseudonyms = subst P (sym own) (few.1 h.1);
          },
      λ h. (b.1 (a.1 h.stated, subst (λ (T : Type 0). T) (sym same) h.hashed), few.0 (subst P own h.pseudonyms)),
    )

-- the message of a pseudonym is one block
one_block : (f : RecordField) (claim : Claim) (v : List ℕ) → claim ≡ claims.Pseudonym v → IsTrue (suits f claim) → rest_of_hash (4 + f.size + 16) ≡ 6376
one_block f claim v is s =
    let t = subst (λ (k : Claim). IsTrue (suits f k)) is s in
    let small : 4 + f.size + 16 ≤ 55 = leb-true (4 + f.size + 16) 55 (second (is_bytes f.kind) (nat_le (4 + f.size + 16) 55) t) in
    omega (arith, small)

-- a circuit beside the hash of a pseudonym
pub pseudonym_hashed : (layers : List (Layer Gold)) (f : RecordField) (claim : Claim) (v : List ℕ) (public private : List Gold) (n words bits rest : ℕ) → claim ≡ claims.Pseudonym v → IsTrue (suits f claim) → n ≡ length private
    → words + 12 ≤ length public
    → (IsSatisfied ops number layers (inputs_of ops public (take n private)) × AreHashing ops of_number (4 + f.size + 16) (take 8 (drop (words + 4) (public ++ private))) (take (8 * (4 + f.size + 16)) (drop bits private) ++ take (rest_of_hash (4 + f.size + 16)) (drop rest private)))
    ↔ (IsSatisfied ops number layers (inputs_of ops public private) × IsHashed f claim (drop words public) (drop bits private) (drop rest private))
pseudonym_hashed layers f claim v public private n words bits rest is suit e room =
    let all : take n private ≡ private = ap (λ k. take k private) e ∙ take-length private in
    let at : take 8 (drop (words + 4) (public ++ private)) ≡ take 8 (drop 4 (drop words public)) = words_public ops public private (words + 4) (omega (arith, room)) ∙ ap (take 8) (sym (drop_twice words 4 public)) in
    let one = one_block f claim v is suit in
    let F = λ (l : List Gold). IsSatisfied ops number layers (inputs_of ops public l) in
    let H = λ (l : List Gold) (k : ℕ). AreHashing ops of_number (4 + f.size + 16) l (take (8 * (4 + f.size + 16)) (drop bits private) ++ take k (drop rest private)) in
    let K = λ (k : Claim). IsHashed f k (drop words public) (drop bits private) (drop rest private) in
    let same : H (take 8 (drop (words + 4) (public ++ private))) (rest_of_hash (4 + f.size + 16)) ≡ H (take 8 (drop 4 (drop words public))) 6376 = λ i. H (at i) (one i) in (
      λ h. (subst F all h.0, subst K (sym is) (subst (λ (T : Type 0). T) same h.1)),
      λ h. (subst F (sym all) h.0, subst (λ (T : Type 0). T) (sym same) (subst K is h.1)),
    )

-- a circuit beside the hash of a seal, and this one beside that of a pseudonym of its secret
pub seal_hashed : (layers : List (Layer Gold)) (public private : List Gold) (M W : Type 0) (n words bits rest : ℕ) → n ≡ length private → words + 12 ≤ length public
    → M ↔ (IsSatisfied ops number layers (inputs_of ops public (take n private)) × AreHashing ops of_number 20 (take 8 (drop (length public + bits + 160) (public ++ private))) (take 160 (drop bits private) ++ take 6376 (drop rest private)))
    → W ↔ (M × AreHashing ops of_number 36 (take 8 (drop (words + 4) (public ++ private))) (take 288 (drop (bits + 168) private) ++ take 6376 (drop (rest + 6376) private)))
    → W ↔ (IsSatisfied ops number layers (inputs_of ops public private) × AreSealHashed (drop words public) (drop bits private) (drop rest private))
seal_hashed layers public private M W n words bits rest e room one two =
    let all : take n private ≡ private = ap (λ k. take k private) e ∙ take-length private in
    let place : length public + bits + 160 ≡ length public + (bits + 160) = omega arith in
    let own : take 8 (drop (length public + bits + 160) (public ++ private)) ≡ take 8 (drop 160 (drop bits private)) =
    ap (λ k. take 8 (drop k (public ++ private))) place ∙ words_private ops public private (bits + 160) ∙ ap (take 8) (sym (drop_twice bits 160 private)) in
    let at : take 8 (drop (words + 4) (public ++ private)) ≡ take 8 (drop 4 (drop words public)) = words_public ops public private (words + 4) (omega (arith, room)) ∙ ap (take 8) (sym (drop_twice words 4 public)) in
    let far : drop (bits + 168) private ≡ drop 168 (drop bits private) = sym (drop_twice bits 168 private) in
    let last : drop (rest + 6376) private ≡ drop 6376 (drop rest private) = sym (drop_twice rest 6376 private) in
    let F = λ (l : List Gold). IsSatisfied ops number layers (inputs_of ops public l) in
    let S = λ (l : List Gold). AreHashing ops of_number 20 l (take 160 (drop bits private) ++ take 6376 (drop rest private)) in
    let same : AreHashing ops of_number 36 (take 8 (drop (words + 4) (public ++ private))) (take 288 (drop (bits + 168) private) ++ take 6376 (drop (rest + 6376) private))
    ≡ AreHashing ops of_number 36 (take 8 (drop 4 (drop words public))) (take 288 (drop 168 (drop bits private)) ++ take 6376 (drop 6376 (drop rest private))) =
    λ i. AreHashing ops of_number 36 (at i) (take 288 (far i) ++ take 6376 (last i)) in (
      λ h.
          let r = two.0 h in
          let t = one.0 r.0 in
          (subst F all t.0, record { seal = subst S own t.1; message = subst (λ (T : Type 0). T) same r.1 }),
      λ h. two.1 (one.1 (subst F (sym all) h.0, subst S (sym own) h.1.seal), subst (λ (T : Type 0). T) (sym same) h.1.message),
    )

-- one hash and then others
pub hashed_then : (W M C : Type 0) (fields : List RecordField) (all : List Show) (s : Show) (ss : List Show) (f : RecordField) (p q : List Gold) (words bits rest next behind last : ℕ) → all ≡ s ∷ ss → slice_get fields s.field ≡ Some f
    → next ≡ words + value_count s.claim → behind ≡ bits + own_of_claim f s.claim → last ≡ rest + rest_of_claim s.claim
    → M ↔ (C × IsHashed f s.claim (drop words p) (drop bits q) (drop rest q)) → W ↔ (M × AreHashed fields ss (drop next p) (drop behind q) (drop last q))
    → W ↔ (C × AreHashed fields all (drop words p) (drop bits q) (drop rest q))
hashed_then W M C fields all s ss f p q words bits rest next behind last e there en eb el m w =
    let both = hashes_claim fields s ss f p q words bits rest next behind last there en eb el in
    subst (λ (l : List Show). W ↔ (C × AreHashed fields l (drop words p) (drop bits q) (drop rest q))) (sym e) (
      λ h. let r = w.0 h in let t = m.0 r.0 in (t.0, both.0 (t.1, r.1)),
      λ h. let r = both.1 h.1 in w.1 (m.1 (h.0, r.0), r.1),
    )

-- some private inputs satisfy the circuit exactly where there is a record
pub shown_exactly : (c : Contents) → IsPolicy c → (public : List Gold) → length public ≡ public_count c → (layers : List (Layer Gold)) (n : ℕ) → n ≡ layout.private_count c
    → ((private : List Gold) → length private ≡ layout.private_count c → IsSatisfied ops number layers (inputs_of ops public private) ↔ Satisfy c public private)
    → ((private : List Gold) × (length private ≡ n) × IsSatisfied ops number layers (inputs_of ops public private)) ↔ ((m : List ℕ) × IsShown c m public)
shown_exactly c w public np layers n e h = (
  λ s.
      let long = s.1 ∙ e in
      satisfied_forward c w public s.0 np long ((h s.0 long).0 s.2),
  λ r.
      let s = satisfied_backward c w r.0 public r.1 in
      (s.0, s.1 ∙ sym e, (h s.0 s.1).1 s.2),
)
