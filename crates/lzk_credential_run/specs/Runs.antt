-- What a run does.
use Rattle.std.specs.Prelude.{ℕ, List, Option, Some, None, String, map, Result, string_bytes}
use Rattle.std.specs.declared.alloc.Global.{Global}
use Rattle.lzk_cmd_files.specs.declared.ending.Ending.{Ending}
use Rattle.lzk_cmd_files.specs.declared.ending.Halt.{Halt}
use Rattle.lzk_cmd_files.specs.Ends.{refused_words}
use Rattle.lzk_cmd_files.specs.Seen.{Seen, SeenSink}
use Rattle.lzk_cmd_files.specs.Walks.{Concludes}
use Rattle.lzk_cmd_words.specs.Digits.{session_of}
use Rattle.lzk_credential_run.specs.Circuits.{CircuitRun}
use Rattle.lzk_credential_run.specs.Digests.{DigestRun}
use Rattle.lzk_credential_run.specs.Ends.{Says, NothingPut, Settles}
use Rattle.lzk_credential_run.specs.Given.{PutsOne}
use Rattle.lzk_credential_run.specs.Holding.{HoldingRun, Put, Prove}
use Rattle.lzk_credential_run.specs.Orders.{Order}
use Rattle.lzk_credential_run.specs.Shown.{ShowRun}
use Rattle.lzk_credential_run.specs.Verified.{VerifyRun}
use Rattle.lzk_credential_run.specs.Words as words
use Rattle.lzk_credential_run.specs.Words.{Command, Circuit, Digest, Inputs, Show, Verify, command_of}

-- words in memory as lists of bytes
abbrev pub texts : List (String Global) → List (List ℕ)
texts words = map (λ w. string_bytes w) words

-- what a proof is made with by these words, the last of which are a session's digits
abbrev pub order_for : List ℕ → List ℕ → List ℕ → Order
order_for policy proof session =
    record { policy = policy; proof = proof; session = session_of (Some session) }

-- how the words end, before anything is printed
abbrev pub Works : Option Command → Seen → Seen → Result Ending Halt → Type 0
Works None = Settles (Says refused_words) NothingPut
Works (Some (Circuit policy circuit)) = Settles (CircuitRun policy circuit) NothingPut
Works (Some (Digest policy name)) = Settles (DigestRun policy name) NothingPut
Works (Some (Inputs policy holding public private)) =
    Settles (HoldingRun policy holding (Put public private)) (PutsOne public)
Works (Some (words.Prove policy holding proof session)) =
    Settles (HoldingRun policy holding (Prove (order_for policy proof session))) NothingPut
Works (Some (Show policy)) = Settles (ShowRun policy) NothingPut
Works (Some (Verify policy shown proof session)) =
    Settles (VerifyRun shown (order_for policy proof session)) NothingPut

-- The words end so, and their end is printed: its status is answered, 5 after a failed write, and 6 for want of memory.
pub record RunOf (words : List (List ℕ)) (old new : Seen) (before after : SeenSink) (status : ℕ) : Type 0 where
  pub done : Result Ending Halt
  pub works : Works (command_of words) old new done
  pub prints : Concludes before after done status
