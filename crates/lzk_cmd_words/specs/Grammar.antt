-- A list of words as a command, its names and its keys.
use Rattle.std.specs.Prelude.{ℕ, Bool, true, false, ◌&&◌, nat_le, List, [], ◌∷◌, length, take, drop, Option, Some, None, is_some, cond}
use Rattle.std.specs.List.{list_all}
use Rattle.lzk_cmd_words.specs.declared.table.Verb.{Verb}
use Rattle.lzk_cmd_words.specs.declared.table.First.{First}
use Rattle.lzk_cmd_words.specs.declared.table.First.TheVariants.{File, Inputs, Bytes}
use Rattle.lzk_cmd_words.specs.declared.table.Row.{Row}
use Rattle.lzk_cmd_words.specs.Keys.{Keys, keys_of, is_count, is_number, or_else}
use Rattle.lzk_cmd_words.specs.Table.{verb_of, row_of, may_stand}

-- a command's word, the names behind it, and the keys behind them
pub record Request : Type 0 where
  pub verb : Verb
  pub names : List (List ℕ)
  pub keys : Keys

-- a name of a file has some byte, and is taken as it stands
abbrev pub is_name : List ℕ → Bool
is_name [] = false
is_name (b ∷ bs) = true

-- the first name is what the row says, and the others are names of files
abbrev pub is_first : First → List ℕ → Bool
is_first File name = is_name name
is_first Inputs name = is_number 16384 name
is_first Bytes name = is_count 55 name

abbrev pub are_names : Row → List (List ℕ) → Bool
are_names row [] = true
are_names row (name ∷ names) = is_first row.first name && list_all is_name names

-- the number of workers, the message and the version stand, or do not, as the row says
abbrev pub are_values : Row → Keys → Bool
are_values row keys =
    may_stand row.workers (is_some keys.workers) &&
    (may_stand row.message (is_some keys.message) && may_stand row.version (is_some keys.version))

-- those keys stand that must, and no others than may
abbrev pub are_keys : Row → Keys → Bool
are_keys row keys =
    may_stand row.seed (is_some keys.seed) && (may_stand row.session (is_some keys.session) && are_values row keys)

abbrev pub behind_verb : Verb → List (List ℕ) → Option Request
behind_verb verb words =
    let row = row_of verb in
    cond (nat_le row.names (length words)) (or_else (keys_of (drop row.names words)) (λ keys.
    cond (are_names row (take row.names words) && are_keys row keys)
    (Some (record { verb = verb; names = take row.names words; keys = keys })) None) None) None

-- the command comes first, then its names, then keys in any order
abbrev pub request_of : List (List ℕ) → Option Request
request_of [] = None
request_of (word ∷ words) = or_else (verb_of word) (λ verb. behind_verb verb words) None
