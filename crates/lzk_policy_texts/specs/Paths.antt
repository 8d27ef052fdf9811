-- The path of a leaf to a root as a text: the leaf's number in its row, and the nodes beside the path.
use Rattle.std.specs.Prelude.{ℕ, ◌^◌, nat_lt, List, [], ◌∷◌, ◌++◌, Option, Some, None, Result, Ok, Err, if◌then◌else◌}
use Rattle.hex.specs.Hex.{decode_sized}
use Rattle.sha2.specs.Sha256.{word_at}
use Rattle.lzk_profile.specs.Profile.{most_levels}
use Rattle.lzk_expr.specs.Texts.{lines, content, runs, is_plain}
use Rattle.lzk_policy.specs.Lines.{and_then, only, is_skipped}
use Rattle.lzk_policy_texts.specs.declared.entries.ValuesFault.{ValuesFault}
use Rattle.lzk_policy_texts.specs.declared.entries.ValuesFault.TheVariants as faults
use Rattle.lzk_policy_texts.specs.declared.entries.ValuesKind.TheVariants as kinds
use Rattle.lzk_policy_texts.specs.declared.paths.Draft as draft
use Rattle.lzk_policy_texts.specs.declared.paths.Path as path
use Rattle.lzk_policy_texts.specs.Chosen.{number_from}
use Rattle.lzk_policy_texts.specs.Entries.{breaks, if_read, lines_from}

-- the leaf's number in its row, from 0, the nodes beside the path, the lowest first, and the secret beside the record,
-- if there is one
pub record Placed : Type 0 where
  pub leaf : ℕ
  pub nodes : List (List ℕ)
  pub secret : List ℕ

-- a leaf under no root, with a secret
abbrev pub alone : List ℕ → Placed
alone secret = record { leaf = 0; nodes = []; secret = secret }

-- a leaf with a secret
abbrev pub with_secret : List ℕ → Placed → Placed
with_secret secret x = record { leaf = x.leaf; nodes = x.nodes; secret = secret }

-- what lines of a path said so far
pub record Partial : Type 0 where
  pub leaf : Option ℕ
  pub nodes : List (List ℕ)

abbrev pub nothing : Partial
nothing = record { leaf = None; nodes = [] }

abbrev pub partial_of : draft.Draft → Partial
partial_of d = record { leaf = d.leaf; nodes = d.nodes.items }

abbrev pub placed_of : path.Path → Placed
placed_of p = record { leaf = p.leaf; nodes = p.nodes.items; secret = p.secret.items }

-- a row has at most 2 ^ most_levels leaves, in LZK1 64
abbrev pub in_row : ℕ → Option ℕ
in_row n = if nat_lt n (2 ^ most_levels) then Some n else None

unfoldable pub leaf_of : List ℕ → Option ℕ
leaf_of word = and_then (number_from 0 word) in_row

-- the eight words of 32 bytes, big-endian
abbrev pub words_of : List ℕ → List ℕ
words_of bytes =
    word_at bytes 0 ∷ word_at bytes 4 ∷ word_at bytes 8 ∷ word_at bytes 12 ∷ word_at bytes 16 ∷ word_at bytes 20
    ∷ word_at bytes 24 ∷ word_at bytes 28 ∷ []

abbrev pub node_in : {E : Type 0} → Result (List ℕ) E → Option (List ℕ)
node_in (Ok bytes) = Some (words_of bytes)
node_in (Err e) = None

-- a node as 64 hexadecimal digits
unfoldable pub node_of : List ℕ → Option (List ℕ)
node_of word = node_in (decode_sized word 32)

abbrev pub with_leaf : ℕ → Partial → Option ℕ → Result Partial ValuesFault
with_leaf line have None = breaks line kinds.Value
with_leaf line have (Some n) = Ok (record { leaf = Some n; nodes = have.nodes })

abbrev pub with_node : ℕ → Partial → Option (List ℕ) → Result Partial ValuesFault
with_node line have None = breaks line kinds.Value
with_node line have (Some node) = Ok (record { leaf = have.leaf; nodes = have.nodes ++ node ∷ [] })

-- the first word is the leaf's number, and each later one a node
abbrev pub by_leaf : ℕ → Partial → List ℕ → Option ℕ → Result Partial ValuesFault
by_leaf line have word None = with_leaf line have (leaf_of word)
by_leaf line have word (Some n) = with_node line have (node_of word)

abbrev pub with_word : ℕ → Partial → Option (List ℕ) → Result Partial ValuesFault
with_word line have None = breaks line kinds.Syntax
with_word line have (Some word) = by_leaf line have word have.leaf

-- what the lines so far say together with one more; one of blanks and a comment says nothing
unfoldable pub with_line : ℕ → Partial → List ℕ → Result Partial ValuesFault
with_line line have bytes =
    if is_skipped bytes then Ok have else with_word line have (only (runs is_plain (content bytes)))

abbrev pub all_lines : List ℕ → Result Partial ValuesFault
all_lines text = lines_from with_line 1 nothing (lines text)

-- there must be a leaf
abbrev pub whole : List (List ℕ) → Option ℕ → Result Placed ValuesFault
whole nodes None = Err (faults.Missing 0)
whole nodes (Some n) = Ok (record { leaf = n; nodes = nodes; secret = [] })

-- the path that a text is, or its first fault
unfoldable pub path_of : List ℕ → Result Placed ValuesFault
path_of text = if_read (all_lines text) (λ p. whole p.nodes p.leaf)
