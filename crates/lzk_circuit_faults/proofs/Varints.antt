-- What a varint's reader answers.
use Rattle.std.proofs.Common.{◌≡◌, ℕ, zero, suc, ◌^◌, ◌<◌, ◌≤◌, false, ltb, List, [], ◌∷◌, ◌++◌, length, take, Result, Ok, refl, sym, ap, ◌∙◌, arith, inl, inr, ◌⊎◌}
use Rattle.std.proofs.lemmas.Bool.{le-ltb, lt-ltb, cases_lt, ne_eqb}
use Rattle.lzk_circbytes.specs.declared.fault.ByteKind.{ByteKind}
use Rattle.lzk_circbytes.specs.declared.fault.ByteKind.TheVariants as kinds
use Rattle.lzk_circbytes.specs.Reading.{Stop, stops, septets_at, varint_at}
use Rattle.lzk_circuit_faults.specs.Fields.{AreHigh, septets_number, BeginsWith, IsShortest, IsNotShortest, FailsVarint}

-- a number that was read, and what is left
abbrev pub got : ℕ → List ℕ → Result (ℕ × List ℕ) Stop
got n rest = Ok (n, rest)

abbrev pub fails : ByteKind → List ℕ → Result (ℕ × List ℕ) Stop
fails kind bytes = stops kind bytes

high_bit : (b : ℕ) → 128 ≤ b → ltb b 128 ≡ false
high_bit b h = le-ltb b 128 h

few_high : (k : ℕ) (field bytes : List ℕ) → length bytes < k → AreHigh bytes → septets_at k field bytes ≡ fails kinds.Truncated field
unfolding septets_at
few_high zero field bytes lt h = absurd (omega arith)
few_high (suc k) field [] lt h = refl
few_high (suc k) field (b ∷ bytes) lt h = rw (high_bit b h.0, few_high k field bytes (omega arith) h.1) refl

all_high : (k : ℕ) (field bytes : List ℕ) → k ≤ length bytes → AreHigh (take k bytes) → septets_at k field bytes ≡ fails kinds.Varint field
unfolding septets_at
all_high zero field bytes le h = refl
all_high (suc k) field [] le h = absurd (omega arith)
all_high (suc k) field (b ∷ bytes) le h = rw (high_bit b h.0, all_high k field bytes (omega arith) h.1) refl

some_number : (high : List ℕ) (last : ℕ) → 1 ≤ last → 1 ≤ septets_number high last
some_number [] last h = h
some_number (b ∷ high) last h = omega (arith, some_number high last h)

shortest_read : (k : ℕ) (field high : List ℕ) (last : ℕ) (rest : List ℕ) → AreHigh high → last < 128 → length high < k → (high ≡ []) ⊎ (1 ≤ last)
    → septets_at k field (high ++ last ∷ rest) ≡ got (septets_number high last) rest
unfolding septets_at
shortest_read zero field high last rest h low lt some = absurd (omega arith)
shortest_read (suc k) field [] last rest h low lt some = rw (lt-ltb last 128 low) refl
shortest_read (suc k) field (b ∷ high) last rest h low lt (inl none) = absurd cc
shortest_read (suc k) field (b ∷ high) last rest h low lt (inr some) =
    rw (high_bit b h.0, shortest_read k field high last rest h.1 low (omega arith) (inr some), ne_eqb (septets_number high last) 0 (λ e. omega (arith, e, some_number high last some))) refl

zero_read : (k : ℕ) (field high : List ℕ) (rest : List ℕ) → AreHigh high → length high < k → 1 ≤ length high → septets_at k field (high ++ 0 ∷ rest) ≡ fails kinds.Varint field
unfolding septets_at
zero_read zero field high rest h lt some = absurd (omega arith)
zero_read (suc k) field [] rest h lt some = absurd (omega arith)
zero_read (suc zero) field (b ∷ []) rest h lt some = absurd (omega arith)
zero_read (suc (suc k)) field (b ∷ []) rest h lt some = rw (high_bit b h.0) refl
zero_read (suc k) field (b ∷ (c ∷ high)) rest h lt some = rw (high_bit b h.0, zero_read k field (c ∷ high) rest h.1 (omega arith) (omega arith)) refl

-- ---- what begins these bytes

abbrev Begins : ℕ → List ℕ → Type 0
Begins k bytes =
    ((length bytes < k) × AreHigh bytes) ⊎ (((k ≤ length bytes) × AreHigh (take k bytes))
    ⊎ ((high : List ℕ) × (last : ℕ) × (rest : List ℕ) × (bytes ≡ high ++ last ∷ rest) × AreHigh high × (last < 128) × (length high < k)))

begins : (k : ℕ) (bytes : List ℕ) → Begins k bytes
begins zero bytes = inr (inl (omega arith, tt))
begins (suc k) [] = inl (omega arith, tt)
begins (suc k) (b ∷ bytes) =
    elim (cases_lt b 128) [
      | inl low ↦ inr (inr ([], b, bytes, refl, tt, low, omega arith))
      | inr high ↦ elim (begins k bytes) [
        | inl few ↦ inl (omega (arith, few.0), (high, few.1))
        | inr others ↦ elim others [
          | inl all ↦ inr (inl (omega (arith, all.0), (high, all.1)))
          | inr found ↦ inr (inr (b ∷ found.0, found.1, found.2, ap (λ (t : List ℕ). b ∷ t) found.3, (high, found.4), found.5, omega (arith, found.6)))
        ]
      ]
    ]

-- ---- a whole varint

pub varint_read : (bytes high : List ℕ) (last : ℕ) (rest : List ℕ) → BeginsWith bytes high last rest → IsShortest high last → varint_at bytes ≡ got (septets_number high last) rest
unfolding varint_at
varint_read bytes high last rest h short =
    let e : septets_at 5 bytes bytes ≡ got (septets_number high last) rest =
    ap (septets_at 5 bytes) h.are ∙ shortest_read 5 bytes high last rest h.high h.last (omega (arith, h.few)) short.0 in
    rw (e, lt-ltb (septets_number high last) (2 ^ 32) short.1) refl

zero_fails : (bytes high rest : List ℕ) (last : ℕ) → BeginsWith bytes high last rest → 1 ≤ length high → last ≡ 0 → varint_at bytes ≡ fails kinds.Varint bytes
unfolding varint_at
zero_fails bytes high rest last h some is =
    let e : septets_at 5 bytes bytes ≡ fails kinds.Varint bytes =
    ap (septets_at 5 bytes) (h.are ∙ ap (λ (n : ℕ). high ++ n ∷ rest) is) ∙ zero_read 5 bytes high rest h.high (omega (arith, h.few)) some in
    rw e refl

large_fails : (bytes high rest : List ℕ) (last : ℕ) → BeginsWith bytes high last rest → (high ≡ []) ⊎ (1 ≤ last) → 2 ^ 32 ≤ septets_number high last → varint_at bytes ≡ fails kinds.Varint bytes
unfolding varint_at
large_fails bytes high rest last h some large =
    let e : septets_at 5 bytes bytes ≡ got (septets_number high last) rest =
    ap (septets_at 5 bytes) h.are ∙ shortest_read 5 bytes high last rest h.high h.last (omega (arith, h.few)) some in
    rw (e, le-ltb (septets_number high last) (2 ^ 32) large) refl

-- the one form, or zero behind another byte
shortest_or : (high : List ℕ) (last : ℕ) → ((high ≡ []) ⊎ (1 ≤ last)) ⊎ ((1 ≤ length high) × (last ≡ 0))
shortest_or [] last = inl (inl refl)
shortest_or (b ∷ high) zero = inr (omega arith, refl)
shortest_or (b ∷ high) (suc last) = inl (inr (omega arith))

not_shortest_fails : (bytes high rest : List ℕ) (last : ℕ) → BeginsWith bytes high last rest → IsNotShortest high last → varint_at bytes ≡ fails kinds.Varint bytes
not_shortest_fails bytes high rest last h (inl long) = zero_fails bytes high rest last h long.0 long.1
not_shortest_fails bytes high rest last h (inr large) =
    elim (shortest_or high last) [
      | inl some ↦ large_fails bytes high rest last h some large
      | inr long ↦ zero_fails bytes high rest last h long.0 long.1
    ]

few_fails : (bytes : List ℕ) → length bytes < 5 → AreHigh bytes → varint_at bytes ≡ fails kinds.Truncated bytes
unfolding varint_at
few_fails bytes lt h = rw (few_high 5 bytes bytes lt h) refl

five_fail : (bytes : List ℕ) → 5 ≤ length bytes → AreHigh (take 5 bytes) → varint_at bytes ≡ fails kinds.Varint bytes
unfolding varint_at
five_fail bytes le h = rw (all_high 5 bytes bytes le h) refl

pub varint_fails : (bytes : List ℕ) (kind : ByteKind) → FailsVarint bytes kind → varint_at bytes ≡ fails kind bytes
varint_fails bytes kind (inl few) = few_fails bytes few.1 few.2 ∙ ap (λ (k : ByteKind). fails k bytes) (sym few.0)
varint_fails bytes kind (inr (is, inl five)) = five_fail bytes five.0 five.1 ∙ ap (λ (k : ByteKind). fails k bytes) (sym is)
varint_fails bytes kind (inr (is, inr found)) =
    not_shortest_fails bytes found.0 found.2 found.1 found.3 found.4 ∙ ap (λ (k : ByteKind). fails k bytes) (sym is)

-- each answer is of one of the two
abbrev pub VarintCases : List ℕ → Type 0
VarintCases bytes = ((kind : ByteKind) × FailsVarint bytes kind) ⊎ ((high : List ℕ) × (last : ℕ) × (rest : List ℕ) × BeginsWith bytes high last rest × IsShortest high last)

pub varint_cases : (bytes : List ℕ) → VarintCases bytes
varint_cases bytes =
    elim (begins 5 bytes) [
      | inl few ↦ inl (kinds.Truncated, inl (refl, few.0, few.1))
      | inr others ↦ elim others [
        | inl all ↦ inl (kinds.Varint, inr (refl, inl (all.0, all.1)))
        | inr found ↦
            let high : List ℕ = found.0 in
            let last : ℕ = found.1 in
            let b : BeginsWith bytes high last found.2 = record { are = found.3; high = found.4; last = found.5; few = omega (arith, found.6) } in
            elim (shortest_or high last) [
              | inr long ↦ inl (kinds.Varint, inr (refl, inr (high, last, found.2, b, inl long)))
              | inl some ↦ elim (cases_lt (septets_number high last) (2 ^ 32)) [
                | inl small ↦ inr (high, last, found.2, b, (some, small))
                | inr large ↦ inl (kinds.Varint, inr (refl, inr (high, last, found.2, b, inr large)))
              ]
            ]
      ]
    ]
