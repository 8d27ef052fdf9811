-- How a run ends.
use Rattle.std.specs.Prelude.{◌≡◌, ℕ, ◌==◌, nat_lt, Bool, true, false, List, length, Option, Some, None, MatchOption, MatchBool}
use Rattle.lzk_outside.specs.Outside.{Files, with_file, Torn}
use Rattle.lzk_cmd_files.specs.Seen.{Seen, ReadFailed, PutFailed}
use Rattle.lzk_cmd_files.specs.Lines.{words_line, missing_line, larger_line, reading_line, writing_line}

-- the status, what is printed, the file that is put, and whether a file was missing
pub record End : Type 0 where
  pub status : ℕ
  pub text : List ℕ
  pub put : Option (List ℕ × List ℕ)
  pub missing : Bool

-- an end with no file
abbrev pub says : ℕ → List ℕ → End
says status text = record { status = status; text = text; put = None; missing = false }

abbrev pub refused_words : End
refused_words = says 2 words_line

abbrev pub missing_file : List ℕ → End
missing_file name = record { status = 3; text = missing_line name; put = None; missing = true }

-- where the outside fails: nowhere, at the k-th file, or at the put
pub data Stop : Type 0 where
  Nowhere : Stop
  AtRead : ℕ → Stop
  AtPut : Stop

abbrev pub stops_at : Stop → ℕ → Bool
stops_at Nowhere k = false
stops_at (AtRead j) k = j == k
stops_at AtPut k = false

-- a stop comes only where a read or a put failed
abbrev pub MayStop : Stop → Seen → Seen → Type 0
MayStop Nowhere old new = Unit {0}
MayStop (AtRead k) old new = ReadFailed old new
MayStop AtPut old new = PutFailed old new

-- The walk at its k-th file: it ends here, or goes on with the file's bytes.
abbrev pub AtFile : Files → Stop → ℕ → List ℕ → ℕ → End → (List ℕ → Type 0) → Type 0
AtFile files stop k name limit end next =
    MatchBool (stops_at stop k) (end ≡ says 4 (reading_line name))
    (MatchOption (files name) (end ≡ missing_file name)
    (λ bytes. MatchBool (nat_lt limit (length bytes)) (end ≡ says 3 (larger_line name limit)) (next bytes)))

-- The walk at its put: it puts the file and says this text, or ends with the fault of writing.
abbrev pub puts : Stop → List ℕ → List ℕ → List ℕ → End
puts Nowhere name bytes text = record { status = 0; text = text; put = Some (name, bytes); missing = false }
puts (AtRead k) name bytes text = record { status = 0; text = text; put = Some (name, bytes); missing = false }
puts AtPut name bytes text = record { status = 5; text = writing_line name; put = Some (name, bytes); missing = false }

-- what the put of an end leaves
abbrev pub Leaves : Files → Stop → Option (List ℕ × List ℕ) → Option Files → Type 0
Leaves files stop None held = held ≡ Some files
Leaves files Nowhere (Some put) held = held ≡ Some (with_file files put.0 put.1)
Leaves files (AtRead k) (Some put) held = held ≡ Some (with_file files put.0 put.1)
Leaves files AtPut (Some put) held = Torn (Some files) put.0 put.1 held
