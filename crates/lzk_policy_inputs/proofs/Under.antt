-- A record under a root: from private inputs to a record, and back.
use Rattle.std.proofs.Common.{◌≡◌, ℕ, ◌+◌, ◌*◌, List, [], ◌∷◌, ◌++◌, length, take, drop, map, refl, sym, ap, subst, ◌∙◌, arith, length-append, length-drop}
use Rattle.std.specs.Prelude.{◌↔◌, Result, Ok, Err, IfErr}
use Rattle.std.specs.Result.{IsErrAnd}
use Rattle.std.proofs.lemmas.List.{length-map, length-take-le}
use Rattle.std.proofs.lemmas.List.FromFn.{length-map-range_with_len}
use Rattle.std.proofs.Math.Seq.{drop-append-add, take-append_seam}
use Rattle.sha2.specs.Sha256.{sha256, word_at}
use Rattle.lzk_goldilocks.specs.Elements.{of_number}
use Rattle.lzk_goldilocks.specs.declared.element.Gold.{Gold}
use Rattle.lzk_sha_circuit.specs.Digest.{digest_words}
use Rattle.lzk_sha_path.specs.Climbs.{IsClimb}
use Rattle.lzk_policy.specs.Policies.{Contents}
use Rattle.lzk_policy_circuit.specs.Meaning.{AreTrueOf, IsShown}
use Rattle.lzk_policy_inputs.specs.Rooted.{IsShownUnder}

-- an error of which something is known
pub if_err : {A E : Type 0} (r : Result A E) (Q P : E → Type 0) → IsErrAnd r Q → ((e : E) → Q e → P e) → IfErr r P
if_err (Ok x) Q P h f = tt
if_err (Err e) Q P h f = f e h

pub length-digest : (m : List ℕ) → length (map of_number (digest_words m)) ≡ 8
unfolding digest_words
length-digest m = length-map (digest_words m) of_number ∙ length-map-range_with_len (λ i. word_at (sha256 m) (4 * i)) 0 8

nothing_dropped : {A : Type 0} (xs : List A) → drop 0 xs ≡ xs
nothing_dropped [] = refl
nothing_dropped (x ∷ xs) = refl

-- eight words, and what stands behind them
pub words_first : (xs ys : List Gold) → length xs ≡ 8 → take 8 (xs ++ ys) ≡ xs
words_first xs ys e = ap (λ k. take k (xs ++ ys)) (sym e) ∙ take-append_seam xs ys

pub words_behind : (xs ys : List Gold) → length xs ≡ 8 → drop 8 (xs ++ ys) ≡ ys
words_behind xs ys e =
    let k : 8 ≡ length xs + 0 = omega (arith, e) in
    ap (λ n. drop n (xs ++ ys)) k ∙ drop-append-add xs ys 0 ∙ nothing_dropped ys

-- private inputs of a part, eight words, and those of another part
module _ (n : ℕ) (a d b : List Gold) (ea : length a ≡ n) (ed : length d ≡ 8) where
  pub first_part : take n (a ++ (d ++ b)) ≡ a
  first_part = ap (λ j. take j (a ++ (d ++ b))) (sym ea) ∙ take-append_seam a (d ++ b)

  behind_first : drop n (a ++ (d ++ b)) ≡ d ++ b
  behind_first =
      let start : n ≡ length a + 0 = omega (arith, ea) in
      ap (λ j. drop j (a ++ (d ++ b))) start ∙ drop-append-add a (d ++ b) 0 ∙ nothing_dropped (d ++ b)

  pub words_part : take 8 (drop n (a ++ (d ++ b))) ≡ d
  words_part = ap (take 8) behind_first ∙ words_first d b ed

  pub last_part : drop (n + 8) (a ++ (d ++ b)) ≡ b
  last_part =
      let far : n + 8 ≡ length a + (length d + 0) = omega (arith, ea, ed) in
      ap (λ j. drop j (a ++ (d ++ b))) far ∙ drop-append-add a (d ++ b) (length d + 0) ∙ drop-append-add d b 0 ∙ nothing_dropped b

module _ (p : Contents) (depth : ℕ) (root values : List Gold) where
  -- a record whose digest these words are, and a path from it to the root
  pub shown_under : (digest : List Gold) → length digest ≡ 8 → (m : List ℕ) → IsShown p m (digest ++ values) → IsClimb depth digest root → IsShownUnder p depth m root values
  shown_under digest e m h c =
      let is : digest ≡ map of_number (digest_words m) = sym (words_first digest values e) ∙ h.digest in
      record {
        bytes = h.bytes;
        leaf = subst (λ (l : List Gold). IsClimb depth l root) is c;
        lines = subst (AreTrueOf m p.fields p.shows) (words_behind digest values e) h.lines;
      }

  shown_of : (m : List ℕ) → IsShownUnder p depth m root values → IsShown p m (map of_number (digest_words m) ++ values)
  shown_of m h =
      let digest = map of_number (digest_words m) in
      let e = length-digest m in
      record {
        bytes = h.bytes;
        digest = words_first digest values e;
        lines = subst (AreTrueOf m p.fields p.shows) (sym (words_behind digest values e)) h.lines;
      }

  -- where some private inputs satisfy each part exactly where its claim is true, some satisfy the whole exactly where
  -- both are true of one digest
  pub under_exactly : (S R : List Gold → List Gold → Type 0) (W : List Gold → Type 0) (n k count : ℕ) → count ≡ n + 8 + k
      → ((digest : List Gold) → length digest ≡ 8 → ((q : List Gold) × (length q ≡ n) × S digest q) ↔ ((m : List ℕ) × IsShown p m (digest ++ values)))
      → ((digest : List Gold) → length digest ≡ 8 → ((q : List Gold) × (length q ≡ k) × R digest q) ↔ IsClimb depth digest root)
      → ((q : List Gold) → length q ≡ n + 8 + k → W q ↔ (S (take 8 (drop n q)) (take n q) × R (take 8 (drop n q)) (drop (n + 8) q)))
      → ((q : List Gold) × (length q ≡ count) × W q) ↔ ((m : List ℕ) × IsShownUnder p depth m root values)
  under_exactly S R W n k count e s r w = (
    λ h.
        let q = h.0 in
        let long = h.1 ∙ e in
        let digest = take 8 (drop n q) in
        let eight : length digest ≡ 8 = length-take-le 8 (drop n q) (omega (arith, length-drop n q, long)) in
        let both = (w q long).0 h.2 in
        let m = (s digest eight).0 (take n q, length-take-le n q (omega (arith, long)), both.0) in
        let c = (r digest eight).0 (drop (n + 8) q, omega (arith, length-drop (n + 8) q, long), both.1) in
        (m.0, shown_under digest eight m.0 m.1 c),
    λ h.
        let digest = map of_number (digest_words h.0) in
        let eight = length-digest h.0 in
        let a = (s digest eight).1 (h.0, shown_of h.0 h.1) in
        let c = h.1 in
        let b = (r digest eight).1 c.leaf in
        let q = a.0 ++ (digest ++ b.0) in
        let long : length q ≡ n + 8 + k = omega (arith, length-append a.0 (digest ++ b.0), length-append digest b.0, a.1, eight, b.1) in
        let first : take n q ≡ a.0 = first_part n a.0 digest b.0 a.1 eight in
        let mid : take 8 (drop n q) ≡ digest = words_part n a.0 digest b.0 a.1 eight in
        let last : drop (n + 8) q ≡ b.0 = last_part n a.0 digest b.0 a.1 eight in
        (q, long ∙ sym e, (w q long).1 (subst (λ (T : Type 0). T) (λ i. S (sym mid i) (sym first i)) a.2, subst (λ (T : Type 0). T) (λ i. R (sym mid i) (sym last i)) b.2)),
  )
