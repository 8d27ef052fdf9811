-- The places of a hash's inputs in the whole's input layer.
use Rattle.std.specs.Prelude.{ℕ, List, ◌++◌}
use Rattle.std.specs.List.{range_with_len}

-- those of the digest's words, of so many bits of the message, and of so many others
abbrev pub hash_places : ℕ → ℕ → ℕ → ℕ → ℕ → List ℕ
hash_places words bits count rest others =
    range_with_len words 8 ++ range_with_len bits count ++ range_with_len rest others
