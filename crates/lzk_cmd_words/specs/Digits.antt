-- What the digits of the keys stand for.
use Rattle.std.specs.Prelude.{ℕ, List, [], Option, Some, None, replicate, Result, Ok, Err}
use Rattle.hex.specs.declared.error.FromHexError.{FromHexError}
use Rattle.hex.specs.Hex.{decode_of, decode_sized}

abbrev pub decoded_or_none : Result (List ℕ) FromHexError → List ℕ
decoded_or_none (Ok bytes) = bytes
decoded_or_none (Err fault) = []

-- the bytes of a session: those of its hexadecimal digits, of either case; and none where there is no session
abbrev pub session_of : Option (List ℕ) → List ℕ
session_of None = []
session_of (Some digits) = decoded_or_none (decode_of digits)

-- the bytes of a message: those of its hexadecimal digits, of either case
abbrev pub message_of : List ℕ → List ℕ
message_of digits = decoded_or_none (decode_of digits)

abbrev pub decoded_or_zeros : Result (List ℕ) FromHexError → List ℕ
decoded_or_zeros (Ok bytes) = bytes
decoded_or_zeros (Err fault) = replicate 32 0

-- the 32 bytes of a seed: those of its hexadecimal digits, of either case
abbrev pub seed_of : List ℕ → List ℕ
seed_of digits = decoded_or_zeros (decode_sized digits 32)
