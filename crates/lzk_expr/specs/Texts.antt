-- Lines, words and numbers of a text.
use Rattle.std.specs.Prelude.{◌≡◌, ℕ, ◌+◌, ◌*◌, ◌-◌, ◌<◌, List, [], ◌∷◌, length, drop, slice_index, Option, Some, None, nat_lt, nat_le, ◌==◌, ◌&&◌, ◌||◌, not, Bool, false, if◌then◌else◌}
use Rattle.std.specs.List.{slice_split, before_first, onto_first}

abbrev pub is_feed : ℕ → Bool
is_feed b = b == 10

abbrev pub is_hash : ℕ → Bool
is_hash b = b == 35

-- space, tab and carriage return
abbrev pub is_blank : ℕ → Bool
is_blank b = (b == 32) || ((b == 9) || (b == 13))

abbrev pub is_plain : ℕ → Bool
is_plain b = not (is_blank b)

abbrev pub begins : (ℕ → Bool) → List ℕ → Bool
begins p [] = false
begins p (b ∷ bs) = p b

-- the longest runs of bytes that pass
abbrev pub runs : (ℕ → Bool) → List ℕ → List (List ℕ)
runs p [] = []
runs p (b ∷ bs) = if p b then (if begins p bs then onto_first b (runs p bs) else (b ∷ []) ∷ runs p bs) else runs p bs

abbrev pub lines : List ℕ → List (List ℕ)
lines text = slice_split is_feed text

-- what stands on a line before its comment
abbrev pub content : List ℕ → List ℕ
content line = before_first is_hash line

-- the first line, and what stands on it before its comment
abbrev pub first_line : List ℕ → List ℕ
first_line text = before_first is_feed text

abbrev pub first_content : List ℕ → List ℕ
first_content text = content (first_line text)

-- the number that a digit stands for, and 16 for another byte
abbrev pub digit_of : ℕ → ℕ
digit_of c =
    if nat_le 48 c && nat_le c 57 then c - 48 else
    (if nat_le 97 c && nat_le c 102 then c - 87 else
    (if nat_le 65 c && nat_le c 70 then c - 55 else 16))

-- the number that the digits make behind those that made have
unfoldable pub value_in : ℕ → ℕ → List ℕ → Option ℕ
value_in base have [] = Some have
value_in base have (c ∷ cs) = if nat_lt (digit_of c) base then value_in base (have * base + digit_of c) cs else None

abbrev pub is_marked : List ℕ → Bool
is_marked word = nat_lt 2 (length word) && ((slice_index word 0 == 48) && (slice_index word 1 == 120))

-- decimal digits, or 0x and hexadecimal ones
unfoldable pub number_of : List ℕ → Option ℕ
number_of word =
    if is_marked word then value_in 16 0 (drop 2 word) else (if length word == 0 then None else value_in 10 0 word)

-- the first run of bytes that pass, and what is behind it
pub record IsRun (p : ℕ → Bool) (bytes word rest : List ℕ) : Type 0 where
  pub runs_are : runs p bytes ≡ word ∷ runs p rest
  pub shorter : length rest < length bytes

-- the first line, and what is behind its line feed
pub record IsLine (text line rest : List ℕ) : Type 0 where
  pub lines_are : lines text ≡ line ∷ lines rest
  pub shorter : length rest < length text
