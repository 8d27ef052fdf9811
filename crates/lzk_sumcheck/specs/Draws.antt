-- What a tape has and gives of elements, by how the field's elements are numbered and written.
use Rattle.std.specs.Prelude.{ℕ, List, map}
use Rattle.std.specs.List.{range_with_len}
use Rattle.lzk_field.specs.Coding.{Coding}
use Rattle.lzk_transcript.specs.Tape.{TapeState, appended, bytes_entry, element_entry, array_entry}
use Rattle.lzk_transcript.specs.Columns.{draw_at}

-- the elements that n draws give, the first of which is draw number k, counting from 0
abbrev pub draws : {A : Type 0} → Coding A → ℕ → ℕ → TapeState → List A
draws e k n t = map (λ i. e.element (draw_at i t)) (range_with_len k n)

-- the tape with an element written
abbrev pub with_element : {A : Type 0} → Coding A → A → TapeState → TapeState
with_element e x t = appended (element_entry e.bytes (e.number x)) t

-- the tape with a list of elements written
abbrev pub with_array : {A : Type 0} → Coding A → List A → TapeState → TapeState
with_array e xs t = appended (array_entry e.bytes (map e.number xs)) t

-- the tape with a list of bytes written
abbrev pub with_bytes : List ℕ → TapeState → TapeState
with_bytes b t = appended (bytes_entry b) t
