-- Tables that are bound in place.
use Rattle.std.specs.Prelude.{◌≡◌, ℕ, ◌<◌, ◌≤◌, ◌+◌, ◌*◌, ◌/◌, ◌^◌, ◌-◌, List, [], ◌∷◌, ◌++◌, length, take}
use Rattle.std.proofs.Common.{suc, refl, sym, ap, ◌∙◌, arith, inl, inr, lit<}
use Rattle.std.proofs.lemmas.Bool.{cases_lt}
use Rattle.std.proofs.lemmas.List.{length-take-le, length-append, get_or_append_left, get_or-append-add, get_or-take}
use Rattle.lzk_profile.specs.Profile.{most_bits}
use Rattle.lzk_field.proofs.Solve.{var, unit, ◌⊟◌, ◌⊠◌, solve}
use Rattle.std.proofs.Math.Nat.{pow-succ', pow-le-pow_right}
use Rattle.lzk_field.specs.Ring.{Ops, RingLaws}
use Rattle.lzk_field.specs.Sums.{minus, entry}
use Rattle.lzk_mle.specs.Multilinear.{eq, tilde}
use Rattle.lzk_mle.proofs.TableLaws.{bound, extension, extension-bound, extension-same, extension-one, tilde-is, eq-low, eq-high}

module _ {A : Type 0} (o : Ops A) where
  -- the first i places are bound, the others as they were
  pub record IsBoundUpTo (x : A) (old : List A) (i : ℕ) (table : List A) : Type 0 where
    pub low : (k : ℕ) → k < i → entry o table k ≡ bound o x (entry o old) k
    pub high : (k : ℕ) → i ≤ k → entry o table k ≡ entry o old k

  -- the first entries of the table have the values' extension, with the variables of rest left
  pub record IsLeft (values r rest : List A) (size : ℕ) (table : List A) : Type 0 where
    pub size_is : size ≡ 2 ^ length rest
    pub fits : size ≤ length table
    pub value_is : extension o size (entry o table) rest ≡ tilde o values r

  -- the first i places have x times the other half's
  pub record IsFilledTo (x : A) (low : List A) (i : ℕ) (high : List A) : Type 0 where
    pub products : (k : ℕ) → k < i → entry o high k ≡ o.times x (entry o low k)

  -- the other half's are taken from the first i places, the others are as they were
  pub record IsTakenTo (old high : List A) (i : ℕ) (low : List A) : Type 0 where
    pub differences : (k : ℕ) → k < i → entry o low k ≡ minus o (entry o old k) (entry o high k)
    pub rest : (k : ℕ) → i ≤ k → entry o low k ≡ entry o old k

  pub record IsEqTable (rest : List A) (size : ℕ) (table : List A) : Type 0 where
    pub size_is : size ≡ 2 ^ length rest
    pub entries : (k : ℕ) → k < size → entry o table k ≡ eq o k rest

  pub room_for : (xs : List A) (j : ℕ) → j < length xs → 2 * 2 ^ length (take j xs) ≤ 2 ^ length xs
  room_for xs j l =
      let e : suc (length (take j xs)) ≤ length xs = omega (arith, length-take-le j xs (omega arith)) in
      omega (arith, pow-le-pow_right {n = 2} (lit< tt) e, pow-succ' 2 (length (take j xs)))

  pub not_large : (n : ℕ) → n ≤ most_bits → 2 ^ n ≤ 2 ^ most_bits
  not_large n l = pow-le-pow_right {n = 2} (lit< tt) l

-- A table in two halves of which the second is x times what the first was, and the first is less the second.
module _ {A : Type 0} (o : Ops A) (r : RingLaws o) (x : A) (table low high rest : List A) (was : List A) (size : ℕ) where
  pub doubled_zeros : was ≡ take size table → size ≤ length low → ((i : ℕ) → i < size → entry o low i ≡ minus o (entry o was i) (entry o high i)) → ((i : ℕ) → i < size → entry o high i ≡ o.times x (entry o was i))
      → (i : ℕ) → i < size → entry o (low ++ (high ++ rest)) i ≡ o.times (minus o o.one x) (entry o table i)
  doubled_zeros front fits less product i l =
      get_or_append_left low (high ++ rest) o.zero i (omega arith) ∙ less i l ∙ ap (minus o (entry o was i)) (product i l)
      ∙ solve o r (entry o was i ∷ x ∷ []) (var 0 ⊟ var 1 ⊠ var 0) ((unit ⊟ var 1) ⊠ var 0) refl
      ∙ ap (λ xs. o.times (minus o o.one x) (entry o xs i)) front ∙ ap (o.times (minus o o.one x)) (get_or-take size table i o.zero l)

  pub doubled_ones : was ≡ take size table → length low ≡ size → size ≤ length high → ((i : ℕ) → i < size → entry o high i ≡ o.times x (entry o was i))
      → (i : ℕ) → i < size → entry o (low ++ (high ++ rest)) (size + i) ≡ o.times x (entry o table i)
  doubled_ones front is fits product i l =
      ap (λ n. entry o (low ++ (high ++ rest)) (n + i)) (sym is) ∙ get_or-append-add low (high ++ rest) i o.zero ∙ get_or_append_left high rest o.zero i (omega arith) ∙ product i l
      ∙ ap (λ xs. o.times x (entry o xs i)) front ∙ ap (o.times x) (get_or-take size table i o.zero l)

module _ {A : Type 0} (o : Ops A) (r : RingLaws o) where
  pub left_first : (values xs : List A) (room : List A) (size : ℕ) → length values ≤ 2 ^ length xs → length room ≡ 2 ^ length xs → size ≡ length room → ((i : ℕ) → entry o room i ≡ entry o values i) → IsLeft o values xs xs size room
  left_first values xs room size l s z e = record {
    size_is = omega arith;
    fits = omega arith;
    value_is = extension-same o r size (entry o room) (entry o values) xs (λ i p. e i) ∙ sym (tilde-is o r size values xs (omega arith));
  }

  pub left_more : (values xs rest : List A) (x : A) (size : ℕ) (old new : List A) → IsLeft o values xs (x ∷ rest) size old → length new ≡ length old
      → ((i : ℕ) → i < size / 2 → entry o new i ≡ bound o x (entry o old) i) → IsLeft o values xs rest (size / 2) new
  left_more values xs rest x size old new l len e =
      let q : size ≡ 2 ^ suc (length rest) = l.size_is in
      let two : size ≡ 2 * (size / 2) = omega (arith, q, pow-succ' 2 (length rest)) in
      record {
        size_is = omega (arith, q, pow-succ' 2 (length rest));
        fits = omega (arith, l.fits);
        value_is = extension-same o r (size / 2) (entry o new) (bound o x (entry o old)) rest e ∙ sym (extension-bound o r (size / 2) (entry o old) x rest) ∙ ap (λ k. extension o k (entry o old) (x ∷ rest)) (sym two) ∙ l.value_is;
      }

  pub left_last : (values xs room : List A) (size : ℕ) → IsLeft o values xs [] size room → entry o room 0 ≡ tilde o values xs
  left_last values xs room size l = sym (ap (λ k. extension o k (entry o room) []) l.size_is ∙ extension-one o r (entry o room)) ∙ l.value_is

  pub eq_table_more : (front : List A) (x : A) (size : ℕ) (old new : List A) → IsEqTable o front size old
      → ((i : ℕ) → i < size → entry o new i ≡ o.times (minus o o.one x) (entry o old i))
      → ((i : ℕ) → i < size → entry o new (size + i) ≡ o.times x (entry o old i)) → IsEqTable o (front ++ x ∷ []) (size * 2) new
  eq_table_more front x size old new h zeros ones =
      let many : length (front ++ x ∷ []) ≡ suc (length front) = length-append front (x ∷ []) ∙ omega arith in
      record {
        size_is = omega (arith, h.size_is, pow-succ' 2 (length front)) ∙ ap (λ n. 2 ^ n) (sym many);
        entries = λ k l.
            elim (cases_lt k size) [
              | inl low ↦ zeros k low ∙ ap (o.times (minus o o.one x)) (h.entries k low) ∙ sym (eq-low o r front k x (omega (arith, h.size_is)))
              | inr high ↦
                  let i = k - size in
                  let inside : i < size = omega arith in
                  let place : k ≡ size + i = omega arith in
                  ap (entry o new) place ∙ ones i inside ∙ ap (o.times x) (h.entries i inside) ∙ sym (eq-high o r front i x (omega (arith, h.size_is)))
                  ∙ ap (λ n. eq o (n + i) (front ++ x ∷ [])) (sym h.size_is) ∙ ap (λ j. eq o j (front ++ x ∷ [])) (sym place)
            ];
      }

  pub eq_table_first : (xs table : List A) → entry o table 0 ≡ o.one → IsEqTable o (take 0 xs) 1 table
  eq_table_first xs table e = record { size_is = refl; entries = λ k l. let z : k ≡ 0 = omega arith in ap (entry o table) z ∙ e }
