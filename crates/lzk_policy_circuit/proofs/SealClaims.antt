-- How what a statement claims of a sealed secret is put together.
use Rattle.std.proofs.Common.{◌≡◌, ℕ, ◌+◌, ◌-◌, ◌*◌, ◌<◌, List, drop, zero, suc, sym, ap, subst, ◌∙◌, arith, mul-suc}
use Rattle.std.specs.Prelude.{◌↔◌}
use Rattle.std.proofs.lemmas.List.{get_or-drop}
use Rattle.lzk_field.specs.Sums.{entry}
use Rattle.lzk_goldilocks.specs.Elements.{ops, of_number}
use Rattle.lzk_goldilocks.specs.declared.element.Gold.{Gold}
use Rattle.lzk_gadgets.specs.Claims.{Adds}
use Rattle.lzk_gadgets.proofs.ClaimLaws.{adds_nothing}
use Rattle.lzk_policy.specs.declared.policy.RecordField.{RecordField}
use Rattle.lzk_policy_circuit.specs.Met.{byte_worth, number_worth, AreSameBytes, IsLabelled, IsSealLabelled, AreWordsOf, IsTagged, IsSealComposed}
use Rattle.lzk_policy_circuit.proofs.Adding.{Stated, adds_as, adds_both, byte_behind, same_behind, same_by, tag_behind}
use Rattle.lzk_policy_circuit.proofs.Lists.{drop_twice}

-- ---- the label

pub seal_labelled : (q : List Gold) (own : ℕ)
    → ((((byte_worth q own ≡ of_number 76) × (byte_worth q (own + 8) ≡ of_number 90)) × (byte_worth q (own + 16) ≡ of_number 83)) × (byte_worth q (own + 24) ≡ of_number 49))
    ↔ IsSealLabelled (drop own q)
seal_labelled q own =
    let first : byte_worth q own ≡ byte_worth (drop own q) 0 = (let e : own ≡ own + 0 = omega arith in ap (byte_worth q) e ∙ byte_behind q own 0) in
    let second = byte_behind q own 8 in
    let third = byte_behind q own 16 in
    let fourth = byte_behind q own 24 in (
      λ h. (sym first ∙ h.0.0.0, sym second ∙ h.0.0.1, sym third ∙ h.0.1, sym fourth ∙ h.1),
      λ h. (((first ∙ h.0, second ∙ h.1), third ∙ h.2), fourth ∙ h.3),
    )

-- ---- the words of the digest

-- none and one more
pub words_none : (n : ℕ) (s : Stated) (at from : ℕ) → n ≡ 0 → Adds ops (42 * n) n s s (λ p q. AreWordsOf q at q from n)
words_none n s at from e =
    subst (λ (k : ℕ). Adds ops (42 * k) k s s (λ p q. AreWordsOf q at q from k)) (sym e) (adds_nothing ops (42 * 0) s (λ p q. AreWordsOf q at q from 0) (λ p q i. tt))

pub words_more : (n : ℕ) (s t u : Stated) (at from a b : ℕ) → 0 < n → a ≡ at + 32 * (n - 1) → b ≡ from + (n - 1)
    → Adds ops (42 * (n - 1)) (n - 1) s t (λ p q. AreWordsOf q at q from (n - 1)) → Adds ops 42 1 t u (λ p q. number_worth q a 4 ≡ entry ops q b) → Adds ops (42 * n) n s u (λ p q. AreWordsOf q at q from n)
words_more n s t u at from a b some ea eb d e =
    let k = n - 1 in
    let is : suc (n - 1) ≡ n = omega (arith, some) in
    let last = adds_as 42 1 t u (λ p q. number_worth q a 4 ≡ entry ops q b) (λ p q. number_worth q (at + 32 * k) 4 ≡ entry ops q (from + k)) e
    (λ p q i. same_by (number_worth q a 4) (entry ops q b) (number_worth q (at + 32 * k) 4) (entry ops q (from + k)) (ap (λ x. number_worth q x 4) ea) (ap (entry ops q) eb)) in
    subst (λ (j : ℕ). Adds ops (42 * j) j s u (λ p q. AreWordsOf q at q from j)) is
    (adds_both (42 * k) 42 (42 * suc k) k 1 (suc k) s t u (λ p q. AreWordsOf q at q from k) (λ p q. number_worth q (at + 32 * k) 4 ≡ entry ops q (from + k)) d last (omega (arith, mul-suc 42 k)) (omega arith))

words_behind : (q : List Gold) (at own from n : ℕ) → AreWordsOf q at q (own + from) n ↔ AreWordsOf q at (drop own q) from n
words_behind q at own from zero = (λ h. tt, λ h. tt)
words_behind q at own from (suc n) =
    let e : own + from + n ≡ own + (from + n) = omega arith in
    let is : entry ops q (own + from + n) ≡ entry ops (drop own q) (from + n) = ap (entry ops q) e ∙ sym (get_or-drop own q (from + n) ops.zero) in
    let r = words_behind q at own from n in
    (λ h. (r.0 h.0, h.1 ∙ is), λ h. (r.1 h.0, h.1 ∙ sym is))

-- ---- the whole

front_behind : (q ys : List Gold) (own at from n : ℕ) → AreSameBytes q (own + at) ys from n ↔ AreSameBytes (drop own q) at ys from n
front_behind q ys own at from zero = (λ h. tt, λ h. tt)
front_behind q ys own at from (suc n) =
    let e : own + at + 8 * n ≡ own + (at + 8 * n) = omega arith in
    let is = ap (byte_worth q) e ∙ byte_behind q own (at + 8 * n) in
    let r = front_behind q ys own at from n in
    (λ h. (r.0 h.0, sym is ∙ h.1), λ h. (r.1 h.0, is ∙ h.1))

pub seal_composed : (q values : List Gold) (f : RecordField) (own : ℕ)
    → ((((IsSealLabelled (drop own q) × AreWordsOf q (8 * f.place) q (own + 160) 8) × IsLabelled (drop (own + 168) q)) × AreSameBytes q (own + 32) q (own + 200) 16) × IsTagged q (own + 328) values)
    ↔ IsSealComposed q f values (drop own q)
seal_composed q values f own =
    let far = own + 168 in
    let words = words_behind q (8 * f.place) own 160 8 in
    let there : drop (own + 168) q ≡ drop 168 (drop own q) = sym (drop_twice own 168 q) in
    let at : own + 200 ≡ far + 32 = omega arith in
    let last : own + 328 ≡ far + 160 = omega arith in
    let one = same_behind q (own + 32) far 32 16 in
    let two = front_behind q (drop far q) own 32 32 16 in
    let tag = tag_behind q values far 160 in
    let L = λ (xs : List Gold). IsLabelled xs in
    let S = λ (xs : List Gold). AreSameBytes (drop own q) 32 xs 32 16 in
    let T = λ (xs : List Gold). IsTagged xs 160 values in (
      λ h. record {
        label_is = h.0.0.0.0;
        words_are = words.0 h.0.0.0.1;
        message_is = record {
          label_is = subst L there h.0.0.1;
          secret_is = subst S there (two.0 (one.0 (subst (λ (k : ℕ). AreSameBytes q (own + 32) q k 16) at h.0.1)));
          tag_is = subst T there (tag.0 (subst (λ (k : ℕ). IsTagged q k values) last h.1));
        };
      },
      λ h. (
        (
          ((h.label_is, words.1 h.words_are), subst L (sym there) h.message_is.label_is),
          subst (λ (k : ℕ). AreSameBytes q (own + 32) q k 16) (sym at) (one.1 (two.1 (subst S (sym there) h.message_is.secret_is))),
        ),
        subst (λ (k : ℕ). IsTagged q k values) (sym last) (tag.1 (subst T (sym there) h.message_is.tag_is)),
      ),
    )
