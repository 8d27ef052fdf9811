-- How what a statement of a policy claims is put together.
use Rattle.std.proofs.Common.{◌≡◌, ℕ, ◌+◌, ◌-◌, ◌*◌, ◌<◌, ◌≤◌, List, [], ◌∷◌, length, take, drop, zero, suc, refl, sym, ap, subst, ◌∙◌, arith, inl, inr, mul-suc, Option, Some, ◌++◌, length-drop}
use Rattle.std.specs.Prelude.{◌↔◌, MatchOption, slice_get, ◌&&◌, nat_le, IsTrue}
use Rattle.std.proofs.lemmas.Bool.{leb-true}
use Rattle.std.proofs.lemmas.List.{get_or-drop, map-append, take_more}
use Rattle.lzk_field.specs.Sums.{entry}
use Rattle.lzk_goldilocks.specs.Elements.{ops, of_number}
use Rattle.lzk_goldilocks.specs.declared.element.Gold.{Gold}
use Rattle.lzk_gadgets.specs.Claims.{Claims, AreInputs, value, values, Keeps, Makes, Adds}
use Rattle.lzk_gadgets.specs.Inverses.{difference, IsAmong}
use Rattle.lzk_gadgets.specs.Spelled.{worth, Spells}
use Rattle.lzk_gadgets.proofs.ClaimLaws.{adds_then, adds_nothing}
use Rattle.lzk_policy.specs.declared.policy.RecordField.{RecordField}
use Rattle.lzk_policy.specs.declared.policy.Show.{Show}
use Rattle.lzk_policy.specs.declared.policy.Claim.{Claim}
use Rattle.lzk_policy.specs.declared.policy.Claim.TheVariants as claims
use Rattle.lzk_policy.specs.Lines.{most_texts}
use Rattle.lzk_policy.specs.Policies.{suits, is_text, are_texts_of}
use Rattle.lzk_policy_circuit.specs.Meaning.{value_count, piece_start, piece_size}
use Rattle.lzk_policy_circuit.specs.Layout.{own_of, own_of_claim, own_count, asserts_of_claim, asserts_of_field, asserts_of}
use Rattle.lzk_policy_circuit.specs.Met.{byte_worth, number_worth, AreSameBytes, IsLabelled, IsTagged, IsComposed, IsSealComposed, IsOrdered, IsStated, AreStated, IsPiece, IsSpelledBy, IsOneOf}
use Rattle.lzk_policy_circuit.proofs.Lists.{drop_twice}
use Rattle.lzk_policy_circuit.proofs.Squares.{both_true}

abbrev pub Stated : Type 0
Stated = Claims Gold

abbrev pub Said : Type 1
Said = List Gold → List Gold → Type 0

pub inputs_back : (a : ℕ) (s t : Stated) (p q : List Gold) → Keeps ops a s t → AreInputs t p q → AreInputs s p q
inputs_back a s t p q k i = record { publics = i.publics ∙ k.publics; privates = i.privates ∙ k.privates }

pub adds_both : (a b c j k l : ℕ) (s t u : Stated) (D E : Said) → Adds ops a j s t D → Adds ops b k t u E → a + b ≤ c → j + k ≡ l → Adds ops c l s u (λ p q. D p q × E p q)
adds_both a b c j k l s t u D E d e le few = adds_then ops a b c j k l s t u D E (λ p q. D p q × E p q) d e le few (λ p q i. (λ h. h, λ h. h))

pub adds_as : (c l : ℕ) (s u : Stated) (D E : Said) → Adds ops c l s u D → ((p q : List Gold) → AreInputs s p q → D p q ↔ E p q) → Adds ops c l s u E
adds_as c l s u D E d f = record {
  keeps = d.keeps;
  count = d.count;
  claims = λ p q i. (
    λ h. let r = (d.claims p q i).0 h in (r.0, (f p q i).0 r.1),
    λ h. (d.claims p q i).1 (h.0, (f p q i).1 h.1),
  );
}

pub adds_most : (a c l m : ℕ) (s u : Stated) (D : Said) → Adds ops a l s u D → a ≤ c → l ≡ m → Adds ops c m s u D
adds_most a c l m s u D d le e = record {
  keeps = record {
    publics = d.keeps.publics;
    privates = d.keeps.privates;
    more = d.keeps.more;
    few = omega (arith, d.keeps.few, le);
    same = d.keeps.same;
  };
  count = d.count ∙ ap (λ n. length s.asserts + n) e;
  claims = d.claims;
}

-- ---- numbers

pub bytes_worth : (b7 b6 b5 b4 b3 b2 b1 b0 : Gold) (q : List Gold) (at : ℕ)
    → b7 ≡ entry ops q (at + 7) → b6 ≡ entry ops q (at + 6) → b5 ≡ entry ops q (at + 5) → b4 ≡ entry ops q (at + 4)
    → b3 ≡ entry ops q (at + 3) → b2 ≡ entry ops q (at + 2) → b1 ≡ entry ops q (at + 1) → b0 ≡ entry ops q at
    → worth (b7 ∷ b6 ∷ b5 ∷ b4 ∷ b3 ∷ b2 ∷ b1 ∷ b0 ∷ []) ≡ byte_worth q at
unfolding byte_worth
bytes_worth b7 b6 b5 b4 b3 b2 b1 b0 q at e7 e6 e5 e4 e3 e2 e1 e0 i =
    worth (e7 i ∷ e6 i ∷ e5 i ∷ e4 i ∷ e3 i ∷ e2 i ∷ e1 i ∷ e0 i ∷ [])

pub no_bytes : (z : Gold) (q : List Gold) (at n : ℕ) → z ≡ ops.zero → n ≡ 0 → z ≡ number_worth q at n
unfolding number_worth
no_bytes z q at n e f = e ∙ ap (number_worth q at) (sym f)

pub more_bytes : (one two last above v : Gold) (q : List Gold) (at n place : ℕ) → one ≡ ops.one → two ≡ of_number 256 → last ≡ byte_worth q place → above ≡ number_worth q at (n - 1)
    → place ≡ at + 8 * (n - 1) → 0 < n → v ≡ ops.plus (ops.times one last) (ops.times two above) → v ≡ number_worth q at n
unfolding number_worth
more_bytes one two last above v q at n place e1 e2 el ea ep some ev =
    let is : suc (n - 1) ≡ n = omega (arith, some) in
    ev ∙ (λ i. ops.plus (ops.times (e1 i) ((el ∙ ap (byte_worth q) ep) i)) (ops.times (e2 i) (ea i))) ∙ ap (number_worth q at) is

-- the bytes of what stands behind some inputs
pub byte_behind : (q : List Gold) (own at : ℕ) → byte_worth q (own + at) ≡ byte_worth (drop own q) at
unfolding byte_worth
byte_behind q own at i =
    worth (here 7 i ∷ here 6 i ∷ here 5 i ∷ here 4 i ∷ here 3 i ∷ here 2 i ∷ here 1 i ∷ sym (get_or-drop own q at ops.zero) i ∷ []) where
      here : (k : ℕ) → entry ops q (own + at + k) ≡ entry ops (drop own q) (at + k)
      here k = let e : own + at + k ≡ own + (at + k) = omega arith in ap (entry ops q) e ∙ sym (get_or-drop own q (at + k) ops.zero)

pub number_behind : (q : List Gold) (own at n : ℕ) → number_worth q (own + at) n ≡ number_worth (drop own q) at n
unfolding number_worth
number_behind q own at zero = refl
number_behind q own at (suc n) =
    let e : own + at + 8 * n ≡ own + (at + 8 * n) = omega arith in
    λ i. ops.plus (ops.times ops.one ((ap (byte_worth q) e ∙ byte_behind q own (at + 8 * n)) i)) (ops.times (of_number 256) (number_behind q own at n i))

pub same_behind : (q : List Gold) (at own from n : ℕ) → AreSameBytes q at q (own + from) n ↔ AreSameBytes q at (drop own q) from n
same_behind q at own from zero = (λ h. tt, λ h. tt)
same_behind q at own from (suc n) =
    let e : own + from + 8 * n ≡ own + (from + 8 * n) = omega arith in
    let is = ap (byte_worth q) e ∙ byte_behind q own (from + 8 * n) in
    let r = same_behind q at own from n in
    (λ h. (r.0 h.0, h.1 ∙ is), λ h. (r.1 h.0, h.1 ∙ sym is))

-- ---- claims in other words

pub same_by : (x y v w : Gold) → x ≡ v → y ≡ w → (x ≡ y) ↔ (v ≡ w)
same_by x y v w e f = (λ h. sym e ∙ h ∙ f, λ h. e ∙ h ∙ sym f)

pub among_by : (x y : Gold) (cs ds : List Gold) → x ≡ y → cs ≡ ds → IsAmong x cs ↔ IsAmong y ds
among_by x y cs ds e f = (
  λ h. subst (λ (g : Gold). IsAmong g ds) e (subst (λ (l : List Gold). IsAmong x l) f h),
  λ h. subst (λ (l : List Gold). IsAmong x l) (sym f) (subst (λ (g : Gold). IsAmong g ds) (sym e) h),
)

pub one_of_one : (x y c d : Gold) → x ≡ y → c ≡ d → IsAmong x (c ∷ []) ↔ (y ≡ d)
one_of_one x y c d e f = (λ h. elim h [ inl a ↦ sym e ∙ a ∙ f | inr n ↦ absurd n ], λ h. inl (e ∙ h ∙ sym f))

pub spells_by : (x y : Gold) (xs ys : List Gold) → x ≡ y → xs ≡ ys → Spells x.n xs ↔ Spells y.n ys
spells_by x y xs ys e f = (
  λ h. subst (λ (g : Gold). Spells g.n ys) e (subst (λ (l : List Gold). Spells x.n l) f h),
  λ h. subst (λ (l : List Gold). Spells x.n l) (sym f) (subst (λ (g : Gold). Spells g.n ys) (sym e) h),
)

pub ordered_by : (a b g v : Gold) (q : List Gold) (own : ℕ) → a ≡ g → b ≡ v
    → (Spells a.n (take 32 (drop own q)) × Spells b.n (take 32 (drop (own + 32) q))) ↔ IsOrdered g v (drop own q)
ordered_by a b g v q own e f =
    let behind : take 32 (drop (own + 32) q) ≡ take 32 (drop 32 (drop own q)) = ap (take 32) (sym (drop_twice own 32 q)) in
    let first = spells_by a g (take 32 (drop own q)) (take 32 (drop own q)) e refl in
    let second = spells_by b v (take 32 (drop (own + 32) q)) (take 32 (drop 32 (drop own q))) f behind in
    (λ h. record { difference_is = first.0 h.0; value_is = second.0 h.1 }, λ h. (first.1 h.difference_is, second.1 h.value_is))

-- ---- several claims

pub makes_most : (a b : ℕ) (s t : Stated) (x : ℕ) → Makes ops a s t x → a ≤ b → Makes ops b s t x
makes_most a b s t x m le = record {
  keeps = record {
    publics = m.keeps.publics;
    privates = m.keeps.privates;
    more = m.keeps.more;
    few = omega (arith, m.keeps.few, le);
    same = m.keeps.same;
  };
  there = m.there;
  count = m.count;
  holds = m.holds;
}

pub adds_four : (a k : ℕ) (s t u v w : Stated) (D E F G : Said) → Adds ops a k s t D → Adds ops a k t u E → Adds ops a k u v F → Adds ops a k v w G
    → Adds ops (4 * a) (4 * k) s w (λ p q. ((D p q × E p q) × F p q) × G p q)
adds_four a k s t u v w D E F G d e f g =
    adds_both (3 * a) a (4 * a) (3 * k) k (4 * k) s v w (λ p q. (D p q × E p q) × F p q) G
    (adds_both (2 * a) a (3 * a) (2 * k) k (3 * k) s u v (λ p q. D p q × E p q) F
    (adds_both a a (2 * a) k k (2 * k) s t u D E d e (omega arith) (omega arith)) f (omega arith) (omega arith))
    g (omega arith) (omega arith)

pub adds_five : (a k : ℕ) (s t u v w x : Stated) (D E F G H : Said) → Adds ops a k s t D → Adds ops a k t u E → Adds ops a k u v F → Adds ops a k v w G → Adds ops a k w x H
    → Adds ops (5 * a) (5 * k) s x (λ p q. (((D p q × E p q) × F p q) × G p q) × H p q)
adds_five a k s t u v w x D E F G H d e f g h =
    adds_both (4 * a) a (5 * a) (4 * k) k (5 * k) s w x (λ p q. ((D p q × E p q) × F p q) × G p q) H
    (adds_four a k s t u v w D E F G d e f g) h (omega arith) (omega arith)

pub labelled : (q : List Gold) (own : ℕ)
    → ((((byte_worth q own ≡ of_number 76) × (byte_worth q (own + 8) ≡ of_number 90)) × (byte_worth q (own + 16) ≡ of_number 80)) × (byte_worth q (own + 24) ≡ of_number 49))
    ↔ IsLabelled (drop own q)
labelled q own =
    let first : byte_worth q own ≡ byte_worth (drop own q) 0 = (let e : own ≡ own + 0 = omega arith in ap (byte_worth q) e ∙ byte_behind q own 0) in
    let second = byte_behind q own 8 in
    let third = byte_behind q own 16 in
    let fourth = byte_behind q own 24 in (
      λ h. (sym first ∙ h.0.0.0, sym second ∙ h.0.0.1, sym third ∙ h.0.1, sym fourth ∙ h.1),
      λ h. (((first ∙ h.0, second ∙ h.1), third ∙ h.2), fourth ∙ h.3),
    )

pub tagged : (p q : List Gold) (at i : ℕ)
    → ((((number_worth q at 4 ≡ entry ops p i) × (number_worth q (at + 32) 4 ≡ entry ops p (i + 1))) × (number_worth q (at + 64) 4 ≡ entry ops p (i + 2))) × (number_worth q (at + 96) 4 ≡ entry ops p (i + 3)))
    ↔ IsTagged q at (drop i p)
tagged p q at i =
    let first : entry ops p i ≡ entry ops (drop i p) 0 = (let e : i ≡ i + 0 = omega arith in ap (entry ops p) e ∙ sym (get_or-drop i p 0 ops.zero)) in
    let second = sym (get_or-drop i p 1 ops.zero) in
    let third = sym (get_or-drop i p 2 ops.zero) in
    let fourth = sym (get_or-drop i p 3 ops.zero) in (
      λ h. (h.0.0.0 ∙ first, h.0.0.1 ∙ second, h.0.1 ∙ third, h.1 ∙ fourth),
      λ h. (((h.0 ∙ sym first, h.1 ∙ sym second), h.2 ∙ sym third), h.3 ∙ sym fourth),
    )

pub tag_behind : (q values : List Gold) (own at : ℕ) → IsTagged q (own + at) values ↔ IsTagged (drop own q) at values
tag_behind q values own at =
    let a = number_behind q own at 4 in
    let e = λ (k : ℕ). let turn : own + at + k ≡ own + (at + k) = omega arith in ap (λ n. number_worth q n 4) turn ∙ number_behind q own (at + k) 4 in (
      λ h. (sym a ∙ h.0, sym (e 32) ∙ h.1, sym (e 64) ∙ h.2, sym (e 96) ∙ h.3),
      λ h. (a ∙ h.0, e 32 ∙ h.1, e 64 ∙ h.2, e 96 ∙ h.3),
    )

-- pieces of a text
pub piece_added : (s u : Stated) (f : RecordField) (i k at size : ℕ) → at ≡ 8 * (f.place + piece_start f.size k) → size ≡ piece_size f.size k → size ≤ 7
    → Adds ops (2 + 10 * size) 1 s u (λ p q. number_worth q at size ≡ entry ops p (i + k)) → Adds ops 72 1 s u (λ p q. IsPiece q f (drop i p) k)
piece_added s u f i k at size ea es few d =
    let D = λ (p q : List Gold). number_worth q at size ≡ entry ops p (i + k) in
    adds_as 72 1 s u D (λ p q. IsPiece q f (drop i p) k) (adds_most (2 + 10 * size) 72 1 1 s u D d (omega (arith, few)) refl)
    (λ p q a. same_by (number_worth q at size) (entry ops p (i + k)) (number_worth q (8 * (f.place + piece_start f.size k)) (piece_size f.size k)) (entry ops (drop i p) k)
    (λ j. number_worth q (ea j) (es j)) (sym (get_or-drop i p k ops.zero)))

pub pieces_told : (q values : List Gold) (f : RecordField)
    → ((((IsPiece q f values 0 × IsPiece q f values 1) × IsPiece q f values 2) × IsPiece q f values 3) × IsPiece q f values 4) ↔ IsSpelledBy q f values
pieces_told q values f = (λ h. (h.0.0.0.0, h.0.0.0.1, h.0.0.1, h.0.1, h.1), λ h. ((((h.0, h.1), h.2), h.3), h.4))

pub composed : (q values : List Gold) (f : RecordField) (own at : ℕ) → at ≡ own + 32 + 8 * f.size
    → ((IsLabelled (drop own q) × AreSameBytes q (8 * f.place) q (own + 32) f.size) × IsTagged q at values) ↔ IsComposed q f values (drop own q)
composed q values f own at e =
    let same = same_behind q (8 * f.place) own 32 f.size in
    let turn : at ≡ own + (32 + 8 * f.size) = omega (arith, e) in
    let tag = tag_behind q values own (32 + 8 * f.size) in (
      λ h. record { label_is = h.0.0; secret_is = same.0 h.0.1; tag_is = tag.0 (subst (λ (n : ℕ). IsTagged q n values) turn h.1) },
      λ h. ((h.label_is, same.1 h.secret_is), subst (λ (n : ℕ). IsTagged q n values) (sym turn) (tag.1 h.tag_is)),
    )

-- the same of bytes, none and one more
pub same_none : (n : ℕ) (s : Stated) (at from : ℕ) → n ≡ 0 → Adds ops (19 * n) n s s (λ p q. AreSameBytes q at q from n)
same_none n s at from e =
    subst (λ (k : ℕ). Adds ops (19 * k) k s s (λ p q. AreSameBytes q at q from k)) (sym e) (adds_nothing ops (19 * 0) s (λ p q. AreSameBytes q at q from 0) (λ p q i. tt))

pub same_more : (n : ℕ) (s t u : Stated) (at from a b : ℕ) → 0 < n → a ≡ at + 8 * (n - 1) → b ≡ from + 8 * (n - 1)
    → Adds ops (19 * (n - 1)) (n - 1) s t (λ p q. AreSameBytes q at q from (n - 1)) → Adds ops 19 1 t u (λ p q. byte_worth q a ≡ byte_worth q b) → Adds ops (19 * n) n s u (λ p q. AreSameBytes q at q from n)
same_more n s t u at from a b some ea eb d e =
    let k = n - 1 in
    let is : suc (n - 1) ≡ n = omega (arith, some) in
    let last = adds_as 19 1 t u (λ p q. byte_worth q a ≡ byte_worth q b) (λ p q. byte_worth q (at + 8 * k) ≡ byte_worth q (from + 8 * k)) e
    (λ p q i. same_by (byte_worth q a) (byte_worth q b) (byte_worth q (at + 8 * k)) (byte_worth q (from + 8 * k)) (ap (byte_worth q) ea) (ap (byte_worth q) eb)) in
    subst (λ (j : ℕ). Adds ops (19 * j) j s u (λ p q. AreSameBytes q at q from j)) is
    (adds_both (19 * k) 19 (19 * suc k) k 1 (suc k) s t u (λ p q. AreSameBytes q at q from k) (λ p q. byte_worth q (at + 8 * k) ≡ byte_worth q (from + 8 * k)) d last (omega (arith, mul-suc 19 k)) (omega arith))

-- ---- all that is shown

pub by_entry : (P : Gold → Type 0) (x y : Gold) → x ≡ y → P x ↔ P y
by_entry P x y e = (λ h. subst P e h, λ h. subst P (sym e) h)

pub first_entry : (p : List Gold) (i : ℕ) → entry ops p i ≡ entry ops (drop i p) 0
first_entry p i = let e : i ≡ i + 0 = omega arith in ap (entry ops p) e ∙ sym (get_or-drop i p 0 ops.zero)

pub shows_claim : (fields : List RecordField) (s : Show) (ss : List Show) (f : RecordField) (p q : List Gold) (i own next behind : ℕ) → slice_get fields s.field ≡ Some f
    → next ≡ i + value_count s.claim → behind ≡ own + own_of_claim f s.claim
    → (IsStated q f s.claim (drop i p) (drop own q) × AreStated q fields ss (drop next p) (drop behind q)) ↔ AreStated q fields (s ∷ ss) (drop i p) (drop own q)
shows_claim fields s ss f p q i own next behind there en eb =
    let ep : drop next p ≡ drop (value_count s.claim) (drop i p) = ap (λ n. drop n p) en ∙ sym (drop_twice i (value_count s.claim) p) in
    let size = ap (λ o. own_of o s.claim) there in
    let eq : drop behind q ≡ drop (own_count fields s) (drop own q) =
    ap (λ n. drop n q) eb ∙ sym (drop_twice own (own_of_claim f s.claim) q) ∙ ap (λ n. drop n (drop own q)) (sym size) in
    let P = λ (g : RecordField). IsStated q g s.claim (drop i p) (drop own q) in
    let M = λ (o : Option RecordField). MatchOption o ⊥ P in (
      λ h. (subst M (sym there) h.0, subst (λ (l : List Gold). AreStated q fields ss l (drop (own_count fields s) (drop own q))) ep (subst (λ (l : List Gold). AreStated q fields ss (drop next p) l) eq h.1)),
      λ h. (subst M there h.0, subst (λ (l : List Gold). AreStated q fields ss (drop next p) l) (sym eq) (subst (λ (l : List Gold). AreStated q fields ss l (drop (own_count fields s) (drop own q))) (sym ep) h.1)),
    )

-- the list of what is shown is its first and the others
pub shows_added : (fields : List RecordField) (all : List Show) (s : Show) (ss : List Show) (f : RecordField) (a t u : Stated) (i own next behind : ℕ) → all ≡ s ∷ ss → slice_get fields s.field ≡ Some f
    → next ≡ i + value_count s.claim → behind ≡ own + own_of_claim f s.claim
    → Adds ops 4000 (asserts_of_claim f s.claim) a t (λ p q. IsStated q f s.claim (drop i p) (drop own q))
    → Adds ops (4000 * length ss) (asserts_of fields ss) t u (λ p q. AreStated q fields ss (drop next p) (drop behind q))
    → Adds ops (4000 * length all) (asserts_of fields all) a u (λ p q. AreStated q fields all (drop i p) (drop own q))
shows_added fields all s ss f a t u i own next behind e there en eb d g =
    let count : asserts_of_claim f s.claim + asserts_of fields ss ≡ asserts_of fields (s ∷ ss) = ap (λ o. asserts_of_field o s.claim + asserts_of fields ss) (sym there) in
    subst (λ (l : List Show). Adds ops (4000 * length l) (asserts_of fields l) a u (λ p q. AreStated q fields l (drop i p) (drop own q))) (sym e)
    (adds_then ops 4000 (4000 * length ss) (4000 * length (s ∷ ss)) (asserts_of_claim f s.claim) (asserts_of fields ss) (asserts_of fields (s ∷ ss)) a t u
    (λ p q. IsStated q f s.claim (drop i p) (drop own q)) (λ p q. AreStated q fields ss (drop next p) (drop behind q)) (λ p q. AreStated q fields (s ∷ ss) (drop i p) (drop own q))
    d g (omega (arith, mul-suc 4000 (length ss))) count (λ p q k. shows_claim fields s ss f p q i own next behind there en eb))

-- ---- inputs in a row

pub bits_more : (s : Stated) (p q : List Gold) (bits more : List ℕ) (node at k : ℕ) → more ≡ bits ++ node ∷ [] → values ops s p q bits ≡ take k (drop at q) → value ops s p q node ≡ entry ops q (at + k) → at + k < length q
    → values ops s p q more ≡ take (k + 1) (drop at q)
bits_more s p q bits more node at k e before here lt =
    ap (values ops s p q) e
    ∙ map-append (value ops s p q) bits (node ∷ [])
    ∙ (λ i. before i ++ (here ∙ sym (get_or-drop at q k ops.zero)) i ∷ [])
    ∙ sym (take_more (drop at q) k ops.zero (omega (arith, length-drop at q, lt)))

-- ---- what is shown of a field

pub texts_suit : (f : RecordField) (claim : Claim) (texts : List (List ℕ)) → claim ≡ claims.OneOf texts → IsTrue (suits f claim) → (length texts ≤ 16) × IsTrue (are_texts_of f.size texts)
texts_suit f claim texts e w =
    let t = both_true (is_text f.kind && nat_le (length texts) most_texts) (are_texts_of f.size texts) (subst (λ (k : Claim). IsTrue (suits f k)) e w) in
    (leb-true (length texts) 16 (both_true (is_text f.kind) (nat_le (length texts) most_texts) t.0).1, t.1)

module _ (f : RecordField) (claim : Claim) (s u : Stated) (i own : ℕ) (small : f.size ≤ 119) where
  abbrev pub IsClaimed : Type 0
  IsClaimed = Adds ops 4000 (asserts_of_claim f claim) s u (λ p q. IsStated q f claim (drop i p) (drop own q))

  claimed : (c : Claim) → claim ≡ c → Adds ops 4000 (asserts_of_claim f c) s u (λ p q. IsStated q f c (drop i p) (drop own q)) → IsClaimed
  claimed c e d = subst (λ (k : Claim). Adds ops 4000 (asserts_of_claim f k) s u (λ p q. IsStated q f k (drop i p) (drop own q))) (sym e) d

  pub claim_most : (v : List ℕ) → claim ≡ claims.AtMost v
      → Adds ops (198 + 10 * f.size) 66 s u (λ p q. IsOrdered (difference (entry ops p i) (number_worth q (8 * f.place) f.size)) (entry ops p i) (drop own q)) → IsClaimed
  claim_most v e d =
      let D = λ (p q : List Gold). IsOrdered (difference (entry ops p i) (number_worth q (8 * f.place) f.size)) (entry ops p i) (drop own q) in
      claimed (claims.AtMost v) e (adds_as 4000 66 s u D (λ p q. IsStated q f (claims.AtMost v) (drop i p) (drop own q)) (adds_most (198 + 10 * f.size) 4000 66 66 s u D d (omega (arith, small)) refl)
      (λ p q k. by_entry (λ g. IsOrdered (difference g (number_worth q (8 * f.place) f.size)) g (drop own q)) (entry ops p i) (entry ops (drop i p) 0) (first_entry p i)))

  pub claim_least : (v : List ℕ) → claim ≡ claims.AtLeast v
      → Adds ops (198 + 10 * f.size) 66 s u (λ p q. IsOrdered (difference (number_worth q (8 * f.place) f.size) (entry ops p i)) (entry ops p i) (drop own q)) → IsClaimed
  claim_least v e d =
      let D = λ (p q : List Gold). IsOrdered (difference (number_worth q (8 * f.place) f.size) (entry ops p i)) (entry ops p i) (drop own q) in
      claimed (claims.AtLeast v) e (adds_as 4000 66 s u D (λ p q. IsStated q f (claims.AtLeast v) (drop i p) (drop own q)) (adds_most (198 + 10 * f.size) 4000 66 66 s u D d (omega (arith, small)) refl)
      (λ p q k. by_entry (λ g. IsOrdered (difference (number_worth q (8 * f.place) f.size) g) g (drop own q)) (entry ops p i) (entry ops (drop i p) 0) (first_entry p i)))

  pub claim_equal : (v : List ℕ) → claim ≡ claims.Equal v → Adds ops (2 + 10 * f.size) 1 s u (λ p q. number_worth q (8 * f.place) f.size ≡ entry ops p i) → IsClaimed
  claim_equal v e d =
      let D = λ (p q : List Gold). number_worth q (8 * f.place) f.size ≡ entry ops p i in
      claimed (claims.Equal v) e (adds_as 4000 1 s u D (λ p q. IsStated q f (claims.Equal v) (drop i p) (drop own q)) (adds_most (2 + 10 * f.size) 4000 1 1 s u D d (omega (arith, small)) refl)
      (λ p q k. by_entry (λ g. number_worth q (8 * f.place) f.size ≡ g) (entry ops p i) (entry ops (drop i p) 0) (first_entry p i)))

  pub claim_spelled : (v : List ℕ) → claim ≡ claims.Spelled v → Adds ops 360 5 s u (λ p q. IsSpelledBy q f (drop i p)) → IsClaimed
  claim_spelled v e d = claimed (claims.Spelled v) e (adds_most 360 4000 5 5 s u (λ p q. IsSpelledBy q f (drop i p)) d (omega arith) refl)

  pub claim_text : (texts : List (List ℕ)) → claim ≡ claims.OneOf texts → Adds ops 4000 1 s u (λ p q. IsOneOf q (8 * f.place) f.size texts) → IsClaimed
  claim_text texts e d = claimed (claims.OneOf texts) e d

  pub claim_sealed : (v : List ℕ) → claim ≡ claims.Sealed v → Adds ops 4000 36 s u (λ p q. IsSealComposed q f (drop i p) (drop own q)) → IsClaimed
  claim_sealed v e d = claimed (claims.Sealed v) e d

  pub claim_pseudonym : (v : List ℕ) → claim ≡ claims.Pseudonym v → Adds ops 4000 (8 + f.size) s u (λ p q. IsComposed q f (drop i p) (drop own q)) → IsClaimed
  claim_pseudonym v e d = claimed (claims.Pseudonym v) e d
