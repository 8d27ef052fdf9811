-- The keys behind the names.
use Rattle.std.specs.Prelude.{ℕ, ◌-◌, ◌%◌, Bool, ◌&&◌, ◌||◌, ◌==◌, nat_le, List, [], ◌∷◌, length, take, drop, map, Option, Some, None, is_none, cond, codes}
use Rattle.std.specs.Int.Digits.{number_from_digits}
use Rattle.std.specs.List.{list_all}
use Rattle.std.specs.Char.{is_ascii_digit, is_ascii_hexdigit}
use Rattle.std.specs.Str.{bytes_eq}

-- what stands behind a front, if the word has it
abbrev pub behind : List ℕ → List ℕ → Option (List ℕ)
behind front word =
    cond (nat_le (length front) (length word) && bytes_eq (take (length front) word) front)
    (Some (drop (length front) word)) None

abbrev pub are_hex : List ℕ → Bool
are_hex text = list_all is_ascii_hexdigit text

abbrev pub are_digits : List ℕ → Bool
are_digits text = list_all is_ascii_digit text

abbrev pub is_seed : List ℕ → Bool
is_seed text = (length text == 64) && are_hex text

abbrev pub is_session : List ℕ → Bool
is_session text = (length text % 2 == 0) && (nat_le (length text) 128 && are_hex text)

-- at most 55 bytes
abbrev pub is_message : List ℕ → Bool
is_message text = (length text % 2 == 0) && (nat_le (length text) 110 && are_hex text)

-- a circuit's version, 1 or 2
abbrev pub is_version : List ℕ → Bool
is_version text = bytes_eq text (codes "1") || bytes_eq text (codes "2")

-- the number of these digits
abbrev pub number_of : List ℕ → ℕ
number_of text = number_from_digits 10 (map (λ b. b - 48) text)

abbrev pub number_up_to : ℕ → List ℕ → Option ℕ
number_up_to most text = cond (nat_le (number_of text) most) (Some (number_of text)) None

-- 1 to 9 digits of a number from 1 to most
abbrev pub is_number : ℕ → List ℕ → Bool
is_number most text =
    (nat_le 1 (length text) && nat_le (length text) 9) &&
    (are_digits text && (nat_le 1 (number_of text) && nat_le (number_of text) most))

-- 1 to 9 digits of a number up to most
abbrev pub is_count : ℕ → List ℕ → Bool
is_count most text =
    (nat_le 1 (length text) && nat_le (length text) 9) && (are_digits text && nat_le (number_of text) most)

-- the keys that stand, each with what is behind its `=`
pub record Keys : Type 0 where
  pub seed : Option (List ℕ)
  pub session : Option (List ℕ)
  pub workers : Option (List ℕ)
  pub message : Option (List ℕ)
  pub version : Option (List ℕ)

abbrev pub no_keys : Keys
no_keys = record { seed = None; session = None; workers = None; message = None; version = None }

-- a key may stand once
abbrev pub with_seed : Keys → List ℕ → Option Keys
with_seed keys text = cond (is_none keys.seed && is_seed text) (Some (record keys { seed = Some text })) None

abbrev pub with_session : Keys → List ℕ → Option Keys
with_session keys text =
    cond (is_none keys.session && is_session text) (Some (record keys { session = Some text })) None

abbrev pub with_workers : Keys → List ℕ → Option Keys
with_workers keys text =
    cond (is_none keys.workers && is_number 64 text) (Some (record keys { workers = Some text })) None

abbrev pub with_message : Keys → List ℕ → Option Keys
with_message keys text =
    cond (is_none keys.message && is_message text) (Some (record keys { message = Some text })) None

abbrev pub with_version : Keys → List ℕ → Option Keys
with_version keys text =
    cond (is_none keys.version && is_version text) (Some (record keys { version = Some text })) None

-- what follows from a value, or else
abbrev pub or_else : {A B : Type 0} → Option A → (A → B) → B → B
or_else None f other = other
or_else (Some x) f other = f x

-- the keys with that of one more word
abbrev pub with_key : Keys → List ℕ → Option Keys
with_key keys word =
    or_else (behind (codes "seed=") word) (with_seed keys)
    (or_else (behind (codes "session=") word) (with_session keys)
    (or_else (behind (codes "workers=") word) (with_workers keys)
    (or_else (behind (codes "message=") word) (with_message keys)
    (or_else (behind (codes "version=") word) (with_version keys) None))))

abbrev pub keys_after : Keys → List (List ℕ) → Option Keys
keys_after keys [] = Some keys
keys_after keys (word ∷ words) = or_else (with_key keys word) (λ next. keys_after next words) None

-- the keys of these words, each of which is one key, and stands once
abbrev pub keys_of : List (List ℕ) → Option Keys
keys_of words = keys_after no_keys words
