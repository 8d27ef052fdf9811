-- The inputs of all that is shown satisfy a policy's circuit.
use Rattle.std.proofs.Common.{◌≡◌, ℕ, ◌+◌, ◌*◌, ◌<◌, List, [], ◌∷◌, ◌++◌, length, take, drop, map, zero, suc, refl, sym, ap, subst, ◌∙◌, arith, Option, Some, None, length-append, append_assoc}
use Rattle.std.specs.Prelude.{MatchOption, slice_get}
use Rattle.std.specs.List.{AllByRecursion}
use Rattle.lzk_goldilocks.specs.Elements.{ops, of_number}
use Rattle.lzk_goldilocks.specs.declared.element.Gold.{Gold}
use Rattle.lzk_sha_circuit.specs.Digest.{AreBytes, digest_words}
use Rattle.lzk_sha_blocks.specs.Hashed.{AreHashing}
use Rattle.lzk_policy.specs.declared.policy.RecordField.{RecordField}
use Rattle.lzk_policy.specs.declared.policy.Claim.{Claim}
use Rattle.lzk_policy.specs.declared.policy.Show.{Show}
use Rattle.lzk_policy.specs.Policies.{Contents, IsPolicy, IsField, IsShowOf}
use Rattle.lzk_policy_circuit.specs.Meaning.{value_count, values_of, public_count, IsTrueOf, AreTrueOf, IsShown}
use Rattle.lzk_policy_circuit.specs.Layout.{rest_of_hash, own_of_claim, rest_of_claim, own_count, owns_of, rests_of, stated_count, needed_count, private_count, idle_count}
use Rattle.lzk_policy_circuit.specs.Layout as layout
use Rattle.lzk_policy_circuit.specs.Met.{IsStated, AreStated, IsHashed, AreHashed, Satisfy}
use Rattle.lzk_policy_circuit.proofs.Lists.{drop_front, take_front, drop_twice}
use Rattle.lzk_policy_circuit.proofs.Bytes.{AreBitsOf}
use Rattle.lzk_policy_circuit.proofs.Whole.{padded_most}
use Rattle.std.proofs.lemmas.List.{length-replicate}
use Rattle.lzk_policy_inputs.specs.declared.value.Value.{Value}
use Rattle.lzk_policy_inputs.specs.Chosen.{HasKind, numbers_of, of_field, joined, public_of}
use Rattle.lzk_policy_inputs.specs.Refused.{AtPlace, AtAll, IsRight, IsTrueWith, IsRightBefore}
use Rattle.lzk_policy_inputs.specs.Filled.{front_of, rest_of, own_of, hashed_of, idle_of, meant_of, private_of}
use Rattle.lzk_policy_inputs.proofs.Claims.{length-digest_words, length-front_of, length-rest_of, front_bits, front_satisfies, length-numbers_of, length-own_of, length-hashed_of, true_of, stated_of, hashes_of}

-- ---- fields

pub at_field : (o : Option RecordField) (f : RecordField) (P : RecordField → Type 0) → o ≡ Some f → MatchOption o ⊥ P → P f
at_field o f P e h = subst (λ (x : Option RecordField). MatchOption x ⊥ P) e h

pub put_field : (o : Option RecordField) (f : RecordField) (P : RecordField → Type 0) → o ≡ Some f → P f → MatchOption o ⊥ P
put_field o f P e h = subst (λ (x : Option RecordField). MatchOption x ⊥ P) (sym e) h

-- the field that stands at a place
pub field_there : (n : ℕ) (fields : List RecordField) (k : ℕ) (f : RecordField) → AllByRecursion (IsField n) fields → slice_get fields k ≡ Some f → IsField n f
field_there n [] k f h e = absurd cc
field_there n (g ∷ gs) zero f h e = let same : g ≡ f = cc in subst (IsField n) same h.0
field_there n (g ∷ gs) (suc k) f h e = field_there n gs k f h.1 e

-- one thing more
pub joined_is : (g : RecordField → Claim → Value → List Gold) (fields : List RecordField) (s : Show) (ss : List Show) (v : Value) (vs : List Value) (f : RecordField) → slice_get fields s.field ≡ Some f
    → joined g fields (s ∷ ss) (v ∷ vs) ≡ g f s.claim v ++ joined g fields ss vs
joined_is g fields s ss v vs f e = ap (λ o. of_field o (λ x. g x s.claim v) ++ joined g fields ss vs) e

-- what is so at each place is so for all
pub at_all : (m : List ℕ) (fields : List RecordField) (ss : List Show) (vs : List Value) → length vs ≡ length ss
    → ((k : ℕ) → k < length ss → AtPlace (λ f c v. HasKind c v) fields ss vs k)
    → ((k : ℕ) → k < length ss → AtPlace (λ f c v. IsTrueWith m f c v) fields ss vs k)
    → AtAll (IsRight m) fields ss vs
at_all m fields [] vs e h t = tt
at_all m fields (s ∷ ss) [] e h t = absurd (omega (arith, e))
at_all m fields (s ∷ ss) (v ∷ vs) e h t = (
  both (slice_get fields s.field) (h 0 (omega arith)) (t 0 (omega arith)),
  at_all m fields ss vs (omega (arith, e)) (λ k l. h (suc k) (omega (arith, l))) (λ k l. t (suc k) (omega (arith, l))),
) where
  both : (o : Option RecordField) → MatchOption o ⊥ (λ f. HasKind s.claim v) → MatchOption o ⊥ (λ f. IsTrueWith m f s.claim v) → MatchOption o ⊥ (λ f. IsRight m f s.claim v)
  both None a b = a
  both (Some f) a b = (a, b)

-- ---- all that is shown

module _ (m : List ℕ) (bytes : AreBytes m) (fields : List RecordField) (are : AllByRecursion (IsField (length m)) fields) where
  pub record AllFilled (bits : List Gold) (ss : List Show) (vs : List Value) : Type 0 where
    pub numbers_size : length (joined (numbers_of m) fields ss vs) ≡ values_of ss
    pub own_size : length (joined (own_of m) fields ss vs) ≡ layout.owns_of fields ss
    pub rests_size : length (joined (hashed_of m) fields ss vs) ≡ layout.rests_of ss
    pub lines : AreTrueOf m fields ss (joined (numbers_of m) fields ss vs)
    pub stated : AreStated bits fields ss (joined (numbers_of m) fields ss vs) (joined (own_of m) fields ss vs)
    pub hashed : (others : List Gold) → AreHashed fields ss (joined (numbers_of m) fields ss vs) (joined (own_of m) fields ss vs) (joined (hashed_of m) fields ss vs ++ others)

  pub filled : (bits : List Gold) → AreBitsOf bits 0 m → (ss : List Show) → AllByRecursion (IsShowOf fields) ss → (vs : List Value) → AtAll (IsRight m) fields ss vs → AllFilled bits ss vs
  filled bits h [] w vs r = record { numbers_size = refl; own_size = refl; rests_size = refl; lines = tt; stated = tt; hashed = λ others. tt }
  filled bits h (s ∷ ss) w [] r = absurd r
  filled bits h (s ∷ ss) w (v ∷ vs) r =
      let f = w.0.0 in
      let there = w.0.1 in
      let suit = w.0.2 in
      let c = s.claim in
      let is = field_there (length m) fields s.field f are there in
      let right = at_field (slice_get fields s.field) f (λ g. IsRight m g c v) there r.0 in
      let more = filled bits h ss w.1 vs r.1 in
      let n1 = numbers_of m f c v in
      let n2 = joined (numbers_of m) fields ss vs in
      let o1 = own_of m f c v in
      let o2 = joined (own_of m) fields ss vs in
      let r1 = hashed_of m f c v in
      let r2 = joined (hashed_of m) fields ss vs in
      let en = joined_is (numbers_of m) fields s ss v vs f there in
      let eo = joined_is (own_of m) fields s ss v vs f there in
      let er = joined_is (hashed_of m) fields s ss v vs f there in
      let long_n : value_count c ≡ length n1 = sym (length-numbers_of m bytes f is c v) in
      let size : own_count fields s ≡ own_of_claim f c = ap (λ o. layout.own_of o c) there in
      let long_o : own_count fields s ≡ length o1 = size ∙ sym (length-own_of m bytes f is c suit v right) in
      let long_r : rest_of_claim c ≡ length r1 = sym (length-hashed_of m bytes f is c suit v right) in
      let dn : drop (value_count c) (n1 ++ n2) ≡ n2 = drop_front (value_count c) n1 n2 long_n in
      let do_ : drop (own_count fields s) (o1 ++ o2) ≡ o2 = drop_front (own_count fields s) o1 o2 long_o in
      record {
        numbers_size = ap length en ∙ length-append n1 n2 ∙ (λ i. sym long_n i + more.numbers_size i);
        own_size = ap length eo ∙ length-append o1 o2 ∙ (λ i. sym long_o i + more.own_size i);
        rests_size = ap length er ∙ length-append r1 r2 ∙ (λ i. sym long_r i + more.rests_size i);
        lines = subst (λ (l : List Gold). AreTrueOf m fields (s ∷ ss) l) (sym en) (
          put_field (slice_get fields s.field) f (λ g. IsTrueOf m g c (n1 ++ n2)) there (true_of m bytes f is c suit v right n2),
          subst (λ (l : List Gold). AreTrueOf m fields ss l) (sym dn) more.lines,
        );
        stated = subst (λ (T : Type 0). T) (λ i. AreStated bits fields (s ∷ ss) (sym en i) (sym eo i)) (
          put_field (slice_get fields s.field) f (λ g. IsStated bits g c (n1 ++ n2) (o1 ++ o2)) there (stated_of m bytes f is c suit v right bits n2 o2 h),
          subst (λ (T : Type 0). T) (λ i. AreStated bits fields ss (sym dn i) (sym do_ i)) more.stated,
        );
        hashed = λ others.
            let all = r2 ++ others in
            let turn : joined (hashed_of m) fields (s ∷ ss) (v ∷ vs) ++ others ≡ r1 ++ all = ap (λ l. l ++ others) er ∙ append_assoc r1 r2 others in
            let dr : drop (rest_of_claim c) (r1 ++ all) ≡ all = drop_front (rest_of_claim c) r1 all long_r in
            subst (λ (T : Type 0). T) (λ i. AreHashed fields (s ∷ ss) (sym en i) (sym eo i) (sym turn i)) (
              put_field (slice_get fields s.field) f (λ g. IsHashed g c (n1 ++ n2) (o1 ++ o2) (r1 ++ all)) there (hashes_of m bytes f is c suit v right n2 o2 all),
              subst (λ (T : Type 0). T) (λ i. AreHashed fields ss (sym dn i) (sym do_ i) (sym dr i)) (more.hashed others),
            );
      }

-- ---- the whole

pub record IsWhole (p : Contents) (m : List ℕ) (vs : List Value) : Type 0 where
  pub shown : IsShown p m (public_of p m vs)
  pub publics : length (public_of p m vs) ≡ public_count p
  pub needed : length (meant_of p m vs) ≡ needed_count p
  pub privates : length (private_of p m vs) ≡ private_count p
  pub satisfied : Satisfy p (public_of p m vs) (private_of p m vs)

pub whole : (p : Contents) (m : List ℕ) (vs : List Value) → IsPolicy p → AreBytes m → IsRightBefore p m vs (length p.shows) → IsWhole p m vs
whole p m vs w bytes right =
    let size = right.size in
    let n = 8 * p.size in
    let s = stated_count p in
    let k = rest_of_hash p.size in
    let fields = subst (λ (j : ℕ). AllByRecursion (IsField j) p.fields) (sym size) w.fields in
    let all = at_all m p.fields p.shows vs right.count right.kinds right.truths in
    let public = public_of p m vs in
    let private = private_of p m vs in
    let words = map of_number (digest_words m) in
    let numbers = joined (numbers_of m) p.fields p.shows vs in
    let front = front_of p.size m in
    let own = joined (own_of m) p.fields p.shows vs in
    let rest = rest_of p.size m in
    let rests = joined (hashed_of m) p.fields p.shows vs in
    let stated = front ++ own in
    let idle = idle_of p in
    let others = rests ++ idle in
    let behind = rest ++ others in
    let turn : private ≡ stated ++ behind = append_assoc stated (rest ++ rests) idle ∙ ap (λ l. stated ++ l) (append_assoc rest rests idle) in
    let long_words : length words ≡ 8 = length-digest_words m in
    let words_at : take 8 public ≡ words = take_front 8 words numbers (sym long_words) in
    let numbers_at : drop 8 public ≡ numbers = drop_front 8 words numbers (sym long_words) in
    let all_bits : AreBitsOf (front ++ own) 0 m = front_bits p.size m size bytes own in
    let r = filled m bytes p.fields fields (front ++ own) all_bits p.shows w.shows vs all in
    let long_front : length front ≡ n = length-front_of p.size m size bytes in
    let long_rest : length rest ≡ k = length-rest_of p.size m size bytes in
    let long_stated : length stated ≡ s = omega (arith, length-append front own, long_front, r.own_size) in
    let stated_at : take s private ≡ stated = ap (take s) turn ∙ take_front s stated behind (sym long_stated) in
    let behind_at : drop s private ≡ behind = ap (drop s) turn ∙ drop_front s stated behind (sym long_stated) in
    let own_at : drop n (take s private) ≡ own = ap (drop n) stated_at ∙ drop_front n front own (sym long_front) in
    let front_at_ : take n (take s private) ≡ front = ap (take n) stated_at ∙ take_front n front own (sym long_front) in
    let rest_at : take k (drop s private) ≡ rest = ap (take k) behind_at ∙ take_front k rest others (sym long_rest) in
    let rests_at : drop (s + k) private ≡ others =
    sym (drop_twice s k private) ∙ ap (drop k) behind_at ∙ drop_front k rest others (sym long_rest) in
    record {
      shown = record {
        bytes = record { size_is = size; bytes_are = bytes };
        digest = words_at;
        lines = subst (λ (l : List Gold). AreTrueOf m p.fields p.shows l) (sym numbers_at) r.lines;
      };
      publics = omega (arith, length-append words numbers, long_words, r.numbers_size);
      needed = omega (arith, length-append stated (rest ++ rests), length-append rest rests, long_stated, long_rest, r.rests_size);
      privates = ap length turn ∙ omega (
        arith,
        length-append stated behind,
        length-append rest others,
        length-append rests idle,
        length-replicate (idle_count p) ops.zero,
        long_stated,
        long_rest,
        r.rests_size,
        padded_most (needed_count p),
      );
      satisfied = record {
        stated = subst (λ (T : Type 0). T) (λ i. AreStated (sym stated_at i) p.fields p.shows (sym numbers_at i) (sym own_at i)) r.stated;
        hashed = subst (λ (T : Type 0). T) (λ i. AreHashing ops of_number p.size (sym words_at i) (sym front_at_ i ++ sym rest_at i)) (front_satisfies p.size m size bytes);
        pseudonyms = subst (λ (T : Type 0). T) (λ i. AreHashed p.fields p.shows (sym numbers_at i) (sym own_at i) (sym rests_at i)) (r.hashed idle);
      };
    }

-- ---- as they are appended

module _ (p : Contents) (m : List ℕ) (vs : List Value) (shows : List Show) (es : shows ≡ p.shows) where
  pub public_is : (none first all : List Gold) → none ≡ [] → first ≡ none ++ map of_number (digest_words m) → all ≡ first ++ joined (numbers_of m) p.fields shows vs → all ≡ public_of p m vs
  public_is none first all en ef ea =
      ea ∙ (λ i. (ef ∙ (λ j. en j ++ map of_number (digest_words m))) i ++ joined (numbers_of m) p.fields (es i) vs)

  pub meant_is : (none first stated bare rest hashed all : List Gold) → length m ≡ p.size → none ≡ [] → bare ≡ []
      → first ≡ none ++ front_of (length m) m → stated ≡ first ++ joined (own_of m) p.fields shows vs
      → rest ≡ bare ++ rest_of (length m) m → hashed ≡ rest ++ joined (hashed_of m) p.fields shows vs
      → all ≡ stated ++ hashed → all ≡ meant_of p m vs
  meant_is none first stated bare rest hashed all size en eb ef es_ er eh ea =
      let f : first ≡ front_of p.size m = ef ∙ (λ i. en i ++ front_of (size i) m) in
      let r : rest ≡ rest_of p.size m = er ∙ (λ i. eb i ++ rest_of (size i) m) in
      ea ∙ (λ i. (es_ ∙ (λ j. f j ++ joined (own_of m) p.fields (es j) vs)) i ++ (eh ∙ (λ j. r j ++ joined (hashed_of m) p.fields (es j) vs)) i)
