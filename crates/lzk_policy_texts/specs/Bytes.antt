-- Bytes of a policy as a person reads them.
use Rattle.std.specs.Prelude.{ℕ, nat_le, ◌==◌, ◌&&◌, Bool, not, List, [], ◌∷◌, ◌++◌, codes, if◌then◌else◌}
use Rattle.std.specs.List.{flat_map}
use Rattle.hex.specs.Hex.{encode_lower}

-- a byte of ASCII that is seen, but for the mark of the others
abbrev pub is_seen : ℕ → Bool
is_seen b = nat_le 33 b && nat_le b 126 && not (b == 92)

-- hexadecimal digits behind a mark
abbrev pub marked : List ℕ → List ℕ
marked digits = codes "\\x" ++ digits

-- a byte as it is, or its two hexadecimal digits behind the mark
abbrev pub shown_byte : ℕ → List ℕ
shown_byte b = if is_seen b then b ∷ [] else marked (encode_lower (b ∷ []))

abbrev pub shown_bytes : List ℕ → List ℕ
shown_bytes bytes = flat_map shown_byte bytes
