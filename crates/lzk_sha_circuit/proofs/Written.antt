-- Lists that grow by one entry or one chunk.
use Rattle.std.specs.Prelude.{◌≡◌, ℕ, ◌+◌, ◌-◌, ◌*◌, ◌%◌, ◌^◌, ◌≤◌, List, [], ◌∷◌, ◌++◌, map, length, take, replicate, Result, Ok, Err, OnOk, is_ok, if◌then◌else◌}
use Rattle.std.specs.Int.{w64, to_be_bytes}
use Rattle.sha2.specs.Sha256.{padded_message}
use Rattle.std.specs.List.{range_with_len, flat_map}
use Rattle.std.proofs.Common.{sym, ap, ◌∙◌, arith, append_assoc, append-nil}
use Rattle.std.proofs.lemmas.List.{map-id, take_all, length-append}
use Rattle.std.proofs.lemmas.List.FromFn.{map-range_with_len_more}
use Rattle.std.proofs.lemmas.List.Concat.{flat_map-append}

-- one entry more behind what was written
pub entry_more : {X : Type 0} (f : ℕ → X) (before old new : List X) (x : X) (i : ℕ) → old ≡ before ++ map f (range_with_len 0 i) → new ≡ old ++ x ∷ [] → x ≡ f i
    → new ≡ before ++ map f (range_with_len 0 (i + 1))
entry_more f before old new x i eo en ex =
    en ∙ (λ j. eo j ++ ex j ∷ []) ∙ append_assoc before (map f (range_with_len 0 i)) (f i ∷ [])
    ∙ ap (λ l. before ++ l) (sym (map-range_with_len_more f 0 i i (omega arith)))

pub range_more : (a n j : ℕ) → a + n ≡ j → range_with_len a (n + 1) ≡ range_with_len a n ++ j ∷ []
range_more a n j e =
    sym (map-id (range_with_len a (n + 1))) ∙ map-range_with_len_more (λ (x : ℕ). x) a n j e ∙ ap (λ l. l ++ j ∷ []) (map-id (range_with_len a n))

-- one chunk more behind what was written
pub chunk_more : {X : Type 0} (f : ℕ → List X) (before old new chunk : List X) (a n j : ℕ) → old ≡ before ++ flat_map f (range_with_len a n) → new ≡ old ++ chunk → chunk ≡ f j → a + n ≡ j
    → new ≡ before ++ flat_map f (range_with_len a (n + 1))
chunk_more f before old new chunk a n j eo en ec e =
    en ∙ (λ i. eo i ++ ec i) ∙ append_assoc before (flat_map f (range_with_len a n)) (f j)
    ∙ ap (λ l. before ++ (flat_map f (range_with_len a n) ++ l)) (sym (append-nil (f j)))
    ∙ ap (λ l. before ++ l) (sym (flat_map-append f (range_with_len a n) (j ∷ [])) ∙ ap (flat_map f) (sym (range_more a n j e)))

-- two pieces behind what was written
pub two_more : {X : Type 0} (before old new a b x y : List X) → old ≡ before ++ a → new ≡ old ++ b → a ≡ x → b ≡ y → new ≡ before ++ (x ++ y)
two_more before old new a b x y eo en ea eb = en ∙ (λ i. eo i ++ eb i) ∙ ap (λ l. before ++ l ++ y) ea ∙ append_assoc before x y

-- zeros behind the one bit
pub filled : (m old new : List ℕ) (end n : ℕ) → old ≡ m ++ 0x80 ∷ [] → n ≡ length old → length m ≤ end → new ≡ take (end + 1) old ++ replicate (end + 1 - n) 0 → new ≡ m ++ 0x80 ∷ replicate (end - length m) 0
filled m old new end n eo en le e =
    let long : length old ≡ length m + 1 = ap length eo ∙ length-append m (0x80 ∷ []) in
    let count : end + 1 - n ≡ end - length m = omega (arith, long, en) in
    e ∙ (λ i. (take_all (end + 1) old (omega (arith, long, le)) ∙ eo) i ++ replicate (count i) 0) ∙ append_assoc m (0x80 ∷ []) (replicate (end - length m) 0)

pub padded_is : (m block new bytes : List ℕ) (i count : ℕ) → length m ≤ 503 → i ≡ length m + (119 - length m % 64) % 64 → block ≡ m ++ 0x80 ∷ replicate (i - length m) 0 → new ≡ block ++ bytes
    → bytes ≡ to_be_bytes w64 count → count ≡ 8 * length m → new ≡ padded_message m
padded_is m block new bytes i count le ei eb en ey ec =
    let zeros : i - length m ≡ (119 - length m % 64) % 64 = omega (arith, ei) in
    let size : count ≡ length m * 8 % 2 ^ 64 = omega (arith, le, ec) in
    en ∙ (λ j. eb j ++ ey j) ∙ append_assoc m (0x80 ∷ replicate (i - length m) 0) (to_be_bytes w64 count)
    ∙ (λ j. m ++ (0x80 ∷ replicate (zeros j) 0 ++ to_be_bytes w64 (size j)))

-- one piece behind another
pub more_of : {X : Type 0} (p q r a b : List X) → q ≡ p ++ a → r ≡ q ++ b → r ≡ p ++ (a ++ b)
more_of p q r a b eq er = er ∙ ap (λ l. l ++ b) eq ∙ append_assoc p a b

pub from_none : {X : Type 0} (p q a : List X) → p ≡ [] → q ≡ p ++ a → q ≡ a
from_none p q a ep eq = eq ∙ ap (λ l. l ++ a) ep

-- more of a list, if there was memory for it
pub these_more : {X E : Type 0} (r : Result (Unit {0}) E) (old new a b c : List X) → old ≡ a → new ≡ (if is_ok r then old ++ b else old) → b ≡ c → OnOk r (new ≡ a ++ c)
these_more (Ok x) old new a b c eo en e = en ∙ (λ i. eo i ++ e i)
these_more (Err y) old new a b c eo en e = tt

pub only_these : {X E : Type 0} (r : Result (Unit {0}) E) (old new b c : List X) → old ≡ [] → new ≡ (if is_ok r then old ++ b else old) → b ≡ c → OnOk r (new ≡ c)
only_these r old new b c eo en e = these_more r old new [] b c eo en e
