-- A text of what was shown says as many public numbers as the policy's circuit has.
use Rattle.std.proofs.Common.{◌≡◌, ℕ, ◌+◌, ◌*◌, ◌≤◌, Bool, true, false, List, [], ◌∷◌, ◌++◌, length, map, take, drop, Result, Ok, Err, refl, sym, ap, ◌∙◌, arith}
use Rattle.std.specs.Prelude.{nat_lt, if◌then◌else◌}
use Rattle.std.proofs.lemmas.List.{length-append, length-map, length-take-le}
use Rattle.std.proofs.lemmas.Bool.{ltb-false}
use Rattle.lzk_goldilocks.specs.Elements.{of_number}
use Rattle.lzk_goldilocks.specs.declared.element.Gold.{Gold}
use Rattle.lzk_policy.specs.declared.policy.Claim.{Claim}
use Rattle.lzk_policy.specs.declared.policy.Claim.TheVariants as claims
use Rattle.lzk_policy.specs.declared.policy.Show.{Show}
use Rattle.lzk_policy.specs.Policies.{Contents}
use Rattle.lzk_policy_circuit.specs.Meaning.{public_count, tag_words, value_count, values_of}
use Rattle.lzk_policy_inputs.specs.declared.value.Value.{Value}
use Rattle.lzk_policy_inputs.specs.declared.value.Value.TheVariants as values
use Rattle.lzk_policy_texts.specs.declared.entries.Entry.{Entry}
use Rattle.lzk_policy_texts.specs.declared.entries.ValuesFault.{ValuesFault}
use Rattle.lzk_policy_texts.specs.declared.entries.ValuesFault.TheVariants as faults
use Rattle.lzk_policy_texts.specs.Chosen.{values_for}
use Rattle.lzk_policy_texts.specs.Entries.{if_read}
use Rattle.lzk_policy_texts.specs.Told.{Partial, nothing, pseudonyms_of_claim, all_lines, with_number, with_pseudonym, with_claim, numbers_from, numbers_of, numbers_in, publics_of, five_of, with_spelled}

-- lines that said nothing so far
pub empty : (words : List ℕ) (entries : List Entry) → words ≡ [] → entries ≡ [] → ◌≡◌ {A = Partial} (record { words = words; entries = entries }) nothing
empty words entries a b = rw (a, b) refl

read_is : {A : Type 0} (x y : A) → ◌≡◌ {A = Result A ValuesFault} (Ok x) (Ok y) → x ≡ y
read_is x y e = cc

-- the value of a step that did not fail
read_parts : {A B : Type 0} (w : Result A ValuesFault) (f : A → Result B ValuesFault) (out : B) → if_read w f ≡ Ok out → (more : A) × (w ≡ Ok more) × (f more ≡ Ok out)
read_parts (Ok more) f out h = (more, refl, h)
read_parts (Err e) f out h = absurd cc

-- a test that did not fail
passed : {A : Type 0} (b : Bool) (fault : ValuesFault) (r : Result A ValuesFault) (y : A) → (if b then Err fault else r) ≡ Ok y → (b ≡ false) × (r ≡ Ok y)
passed true fault r y e = absurd cc
passed false fault r y e = (refl, e)

none_more : (a b : ℕ) → a ≡ b → a ≡ b + 0
none_more a b e = omega (arith, e)

some_more : (first next all one others : ℕ) → next ≡ first + one → all ≡ next + others → all ≡ first + (one + others)
some_more first next all one others e f = omega (arith, e, f)

number_count : (place : ℕ) (have more : List Gold) (v : Value) → with_number place have v ≡ Ok more → length more ≡ length have + 1
number_count place have more (values.Number n) e = ap length (sym (read_is (have ++ of_number n ∷ []) more e)) ∙ length-append have (of_number n ∷ [])
number_count place have more (values.Tag tag) e = absurd cc
number_count place have more (values.Sealed tag secret) e = absurd cc
number_count place have more (values.Spelled numbers) e = absurd cc
number_count place have more values.Own e = absurd cc

abbrev both : List ℕ → List ℕ → List Gold
both tag words = map of_number (tag_words tag) ++ map of_number (take 8 words)

eight_words : (words : List ℕ) → 8 ≤ length words → length (map of_number (take 8 words)) ≡ 8
eight_words words long = length-map (take 8 words) of_number ∙ length-take-le 8 words long

both_count : (tag words : List ℕ) → 8 ≤ length words → length (both tag words) ≡ 12
both_count tag words long = length-append (map of_number (tag_words tag)) (map of_number (take 8 words)) ∙ ap (λ (n : ℕ). 4 + n) (eight_words words long)

pseudonym_count : (place : ℕ) (have more : List Gold) (v : Value) (words : List ℕ) → with_pseudonym place have v words ≡ Ok more → length more ≡ length have + 12
pseudonym_count place have more (values.Number n) words e = absurd cc
pseudonym_count place have more values.Own words e = absurd cc
pseudonym_count place have more (values.Sealed tag secret) words e = absurd cc
pseudonym_count place have more (values.Spelled numbers) words e = absurd cc
pseudonym_count place have more (values.Tag tag) words e =
    let read = passed (nat_lt (length words) 8) (faults.Missing place) (Ok (have ++ both tag words)) more e in
    let long = ltb-false (length words) 8 read.0 in
    ap length (sym (read_is (have ++ both tag words) more read.1)) ∙ (length-append have (both tag words) ∙ ap (λ (n : ℕ). length have + n) (both_count tag words long))

spelled_count : (place : ℕ) (have more : List Gold) (v : Value) → with_spelled place have v ≡ Ok more → length more ≡ length have + 5
spelled_count place have more (values.Spelled numbers) e = ap length (sym (read_is (have ++ five_of numbers) more e)) ∙ length-append have (five_of numbers)
spelled_count place have more (values.Number n) e = absurd cc
spelled_count place have more (values.Tag tag) e = absurd cc
spelled_count place have more (values.Sealed tag secret) e = absurd cc
spelled_count place have more values.Own e = absurd cc

claim_count : (place : ℕ) (have more : List Gold) (c : Claim) (v : Value) (words : List ℕ) → with_claim place have c v words ≡ Ok more → length more ≡ length have + value_count c
claim_count place have more (claims.AtMost name) v words e = number_count place have more v e
claim_count place have more (claims.AtLeast name) v words e = number_count place have more v e
claim_count place have more (claims.Equal name) v words e = number_count place have more v e
claim_count place have more (claims.Spelled name) v words e = spelled_count place have more v e
claim_count place have more (claims.OneOf texts) v words e = none_more (length more) (length have) (ap length (sym (read_is have more e)))
claim_count place have more (claims.Pseudonym name) v words e = pseudonym_count place have more v words e
claim_count place have more (claims.Sealed name) v words e = pseudonym_count place have more v words e

numbers_count : (place : ℕ) (have more : List Gold) (shows : List Show) (vs : List Value) (words : List ℕ) → numbers_from place have shows vs words ≡ Ok more → length more ≡ length have + values_of shows
unfolding numbers_from
numbers_count place have more [] vs words e = none_more (length more) (length have) (ap length (sym (read_is have more e)))
numbers_count place have more (s ∷ ss) [] words e = absurd cc
numbers_count place have more (s ∷ ss) (v ∷ vs) words e =
    let rest = drop (8 * pseudonyms_of_claim s.claim) words in
    let parts = read_parts (with_claim place have s.claim v words) (λ next. numbers_from (place + 1) next ss vs rest) more e in
    let one = claim_count place have parts.0 s.claim v words parts.1 in
    let others = numbers_count (place + 1) parts.0 more ss vs rest parts.2 in
    some_more (length have) (length parts.0) (length more) (value_count s.claim) (values_of ss) one others

whole_count : (p : Contents) (t : Partial) (more : List Gold) → numbers_in p t ≡ Ok more → length more ≡ public_count p
unfolding numbers_in numbers_of
whole_count p t more e =
    let read = passed (nat_lt (length t.words) 8) (faults.Missing (length p.shows)) (if_read (values_for p [] t.entries) (numbers_of p t.words)) more e in
    let parts = read_parts (values_for p [] t.entries) (numbers_of p t.words) more read.1 in
    let long = ltb-false (length t.words) 8 read.0 in
    let all = numbers_count 0 (map of_number (take 8 t.words)) more p.shows parts.0 (drop 8 t.words) parts.2 in
    all ∙ ap (λ (n : ℕ). n + values_of p.shows) (eight_words t.words long)

pub publics_count : (p : Contents) (text : List ℕ) (more : List Gold) → publics_of p text ≡ Ok more → length more ≡ public_count p
unfolding publics_of
publics_count p text more e = let parts = read_parts (all_lines p text) (numbers_in p) more e in whole_count p parts.0 more parts.2
