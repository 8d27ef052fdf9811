-- The keys behind the names of `prove` and `verify`.
use Rattle.std.specs.Prelude.{ℕ, ◌||◌, Bool, true, false, List, [], ◌∷◌, Option, Some, None, cond, codes}
use Rattle.lzk_cmd_words.specs.Keys.{behind, is_number, is_session}
use Rattle.lzk_policy.specs.Lines.{and_then}

abbrev pub is_there : Option (List ℕ) → Bool
is_there None = false
is_there (Some text) = true

-- a word that begins as a key does
abbrev pub is_key : List ℕ → Bool
is_key word = is_there (behind (codes "session=") word) || is_there (behind (codes "workers=") word)

-- the digits of a session, if the word is one
abbrev pub session_in : List ℕ → Option (List ℕ)
session_in word = and_then (behind (codes "session=") word) (λ text. cond (is_session text) (Some text) None)

-- the digits of a number of workers, if the word is one
abbrev pub workers_in : List ℕ → Option (List ℕ)
workers_in word = and_then (behind (codes "workers=") word) (λ text. cond (is_number 64 text) (Some text) None)

-- the session of a word, where another is a number of workers
abbrev pub session_with : List ℕ → List ℕ → Option (List ℕ)
session_with one other = and_then (session_in one) (λ session. and_then (workers_in other) (λ workers. Some session))

abbrev pub or_other : Option (List ℕ) → Option (List ℕ) → Option (List ℕ)
or_other None other = other
or_other (Some session) other = Some session

-- the session of words that are one, or one and a number of workers, in any order
abbrev pub asked_in : List (List ℕ) → Option (List ℕ)
asked_in (one ∷ []) = session_in one
asked_in (one ∷ other ∷ []) = or_other (session_with one other) (session_with other one)
asked_in words = None
