-- What is written to a tape before anything is drawn.
use Rattle.lzk_profile.specs.Profile.{tape_letter}
use Rattle.std.specs.Prelude.{ℕ, List, [], ◌∷◌}
use Rattle.lzk_field.specs.Coding.{Coding}
use Rattle.lzk_transcript.specs.Tape.{TapeState, new_tape}
use Rattle.lzk_sumcheck.specs.Draws.{with_array, with_bytes}

-- the new tape with its label (`lzk1` in LZK1), a session, a circuit's id and the public inputs written
unfoldable pub public_tape : {A : Type 0} → Coding A → List ℕ → List ℕ → List A → TapeState
public_tape e session id public =
    with_array e public (with_bytes id (with_bytes session (with_bytes (108 ∷ 122 ∷ tape_letter ∷ 49 ∷ []) new_tape)))

-- that tape with a root written
abbrev pub opening : {A : Type 0} → Coding A → List ℕ → List ℕ → List A → List ℕ → TapeState
opening e session id public root = with_bytes root (public_tape e session id public)
