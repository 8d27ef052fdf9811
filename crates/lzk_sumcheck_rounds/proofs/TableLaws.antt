-- Tables of which the front is in use.
use Rattle.std.specs.Prelude.{◌≡◌, ℕ, ◌+◌, ◌*◌, ◌/◌, ◌%◌, ◌^◌, ◌≤◌, Bool, true, false, not, List, length, take, ◌++◌, Vec}
use Rattle.std.specs.Vec.{with_items}
use Rattle.std.proofs.Common.{refl, sym, ap, ◌∙◌, arith, subst, inl, inr}
use Rattle.std.proofs.lemmas.Bool.{cases_lt}
use Rattle.std.proofs.lemmas.List.{length-append, take-append-le, with_items_is}
use Rattle.std.proofs.lemmas.Nat.{pow_below}
use Rattle.std.proofs.Math.Seq.{take-append_seam}
use Rattle.lzk_field.specs.Ring.{Ops, RingLaws}
use Rattle.lzk_sumcheck_rounds.specs.declared.curve.RoundSums.{RoundSums}
use Rattle.lzk_sumcheck_rounds.specs.declared.pairs.Pair.{Pair}
use Rattle.lzk_sumcheck_rounds.specs.Pairs.{ArePairs}
use Rattle.lzk_sumcheck_rounds.specs.Parts.{AreMatching, AreSums}
use Rattle.lzk_sumcheck_rounds.specs.Rows.{round_at, row_at, IsKept}
use Rattle.lzk_sumcheck.specs.States.{State, bind_state, total}
use Rattle.lzk_sumcheck_rounds.specs.Tables.{TableRoom}
use Rattle.lzk_sumcheck_rounds.proofs.RowLaws.{two-more, round-rows}

-- the sums of what is kept give the round's values
pub round-kept : {A : Type 0} (o : Ops A) (r : RingLaws o) (j k : ℕ) (st : State A) (of_a : Bool) (ps : List (Pair A)) (scale : A) (linear first second : List A) (s : RoundSums A)
    → AreMatching of_a ps linear first second → AreSums o (row_at o of_a ps scale linear second) first s → IsKept o (j + 1) k st of_a ps scale linear first second
    → length first ≤ 2 ^ (j + 1) → length second ≤ 2 ^ k → (t : A) → round_at o s t ≡ total o (bind_state o t st)
round-kept o r j k st of_a ps scale linear first second s match sums h fits room t =
    let twice : 2 ^ (j + 1) ≡ 2 * 2 ^ j = two-more j in
    sums.value (2 ^ j) (omega arith) t
    ∙ round-rows o r j k st of_a ps scale linear first second (length first) t h match.pairs match.second room match.for_a

-- a list of which the front is written over
pub front-was : {X : Type 0} (xs whole front back : List X) (n : ℕ) → whole ≡ xs → whole ≡ front ++ back → length front ≡ n → front ≡ take n xs
front-was xs whole front back n is cut size = sym (take-append_seam front back) ∙ ap (λ k. take k (front ++ back)) size ∙ ap (take n) (sym cut ∙ is)

pub front-written : {X Z : Type 0} (v : Vec X Z) (whole front back new : List X) → whole ≡ v.items → whole ≡ front ++ back → length new ≡ length front → (with_items v (new ++ back)).items ≡ new ++ back
front-written v whole front back new is cut same = with_items_is v (new ++ back) (omega (arith, length-append new back, ap length cut, length-append front back, ap length is, v.ok.0))

pub front-taken : {X Z : Type 0} (v : Vec X Z) (whole front back new : List X) (n : ℕ) → whole ≡ v.items → whole ≡ front ++ back → length new ≡ length front → n ≤ length front
    → take n (with_items v (new ++ back)).items ≡ take n new
front-taken v whole front back new n is cut same few = ap (take n) (front-written v whole front back new is cut same) ∙ take-append-le n new back (omega (arith, same, few))

pub front-size : {X Z : Type 0} (v : Vec X Z) (whole front back new : List X) → whole ≡ v.items → whole ≡ front ++ back → length new ≡ length front → length (with_items v (new ++ back)).items ≡ length v.items
front-size v whole front back new is cut same =
    omega (arith, ap length (front-written v whole front back new is cut same), length-append new back, ap length cut, length-append front back, ap length is)

-- a list that is written over whole
pub whole-written : {X Z : Type 0} (v : Vec X Z) (whole new : List X) → whole ≡ v.items → length new ≡ length whole → (with_items v new).items ≡ new
whole-written v whole new is same = with_items_is v new (omega (arith, same, ap length is, v.ok.0))

pub whole-size : {X Z : Type 0} (v : Vec X Z) (whole new : List X) → whole ≡ v.items → length new ≡ length whole → length (with_items v new).items ≡ length v.items
whole-size v whole new is same = ap length (whole-written v whole new is same) ∙ same ∙ ap length is

-- numbers of so many bits that a table has room for
pub few-bits : (n k : ℕ) → 2 ^ n ≤ 2 ^ k → n ≤ k
few-bits n k fits =
    elim (cases_lt k n) [
      | inl more ↦ absurd (omega (arith, pow_below k n more, fits))
      | inr few ↦ few
    ]

-- how many are left, in either case
pub few-left : (b : Bool) (n m : ℕ) → (b ≡ true → n ≡ m) → (b ≡ false → n ≡ m / 2 + m % 2) → n ≤ m
few-left true n m whole half = omega (arith, whole refl)
few-left false n m whole half = omega (arith, half refl)

abbrev pub room_of : ℕ → ℕ → TableRoom
room_of p n = record { pairs = p; places = n }

module _ {A : Type 0} where
  -- tables that are equal to others
  pub matching-same : (of_a : Bool) (ps ps' : List (Pair A)) (ls ls' fs fs' hs hs' : List A) → ps' ≡ ps → ls' ≡ ls → fs' ≡ fs → hs' ≡ hs → AreMatching of_a ps ls fs hs → AreMatching of_a ps' ls' fs' hs'
  matching-same of_a ps ps' ls ls' fs fs' hs hs' ep el ef eh h =
      subst (λ x. AreMatching of_a x ls' fs' hs') (sym ep) (subst (λ x. AreMatching of_a ps x fs' hs') (sym el)
      (subst (λ x. AreMatching of_a ps ls x hs') (sym ef) (subst (λ x. AreMatching of_a ps ls fs x) (sym eh) h)))

  pub kept-same : (o : Ops A) (j k : ℕ) (st : State A) (of_a : Bool) (scale : A) (ps ps' : List (Pair A)) (ls ls' fs fs' hs hs' : List A) → ps' ≡ ps → ls' ≡ ls → fs' ≡ fs → hs' ≡ hs
      → IsKept o j k st of_a ps scale ls fs hs → IsKept o j k st of_a ps' scale ls' fs' hs'
  kept-same o j k st of_a scale ps ps' ls ls' fs fs' hs hs' ep el ef eh h =
      subst (λ x. IsKept o j k st of_a x scale ls' fs' hs') (sym ep) (subst (λ x. IsKept o j k st of_a ps scale x fs' hs') (sym el)
      (subst (λ x. IsKept o j k st of_a ps scale ls x hs') (sym ef) (subst (λ x. IsKept o j k st of_a ps scale ls fs x) (sym eh) h)))

  -- the tables with one variable bound go together
  pub matching-bound : (of_a : Bool) (ps ps' : List (Pair A)) (linear linear' first first' second : List A) → AreMatching of_a ps linear first second
      → length first' ≡ length first / 2 + length first % 2 → (of_a ≡ true → length linear' ≡ length linear) → (of_a ≡ false → length linear' ≡ length linear / 2 + length linear % 2)
      → ArePairs (length second) (length first') ps' → AreMatching (not of_a) ps' linear' second first'
  matching-bound true ps ps' linear linear' first first' second h half whole less within =
      record { first = h.second; second = omega (arith, half, h.first); for_a = λ q. absurd (cc); for_b = λ q. whole refl ∙ h.for_a refl; pairs = within }
  matching-bound false ps ps' linear linear' first first' second h half whole less within =
      record { first = h.second; second = omega (arith, half, h.first); for_a = λ q. omega (arith, less refl, h.for_b refl, half); for_b = λ q. absurd (cc); pairs = within }
