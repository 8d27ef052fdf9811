-- Each words, files and stop have one end.
use Rattle.std.specs.Prelude.{◌≡◌, ◌⊎◌, ℕ, List, length, Option, Some}
use Rattle.lzk_outside.specs.Outside.{Files}
use Rattle.lzk_cmd_files.specs.Ends.{End, Stop, says, puts}
use Rattle.lzk_cmd_words.specs.Keys.{number_of}
use Rattle.lzk_cmd_files.specs.Lines.{compiled_line, demo_line}
use Rattle.lzk_cmd.specs.Run.{RunOf}
use Rattle.lzk_cmd_words.specs.Words.{Command, Compile, Demo, ShaCircuit, command_of}

-- the file of a circuit, and the numbers that are told of it
pub record Told (layers : ℕ) : Type 0 where
  pub bytes : List ℕ
  pub terms : ℕ

-- the end of a walk that puts this file under a name
abbrev pub tells : {layers : ℕ} → Stop → List ℕ → Told layers → End
tells {layers} stop name told = puts stop name told.bytes (compiled_line name layers told.terms (length told.bytes))

-- two ends that put a circuit of equally many layers under one name, and differ in nothing but its file and its numbers
pub record PutAlike (stop : Stop) (name : List ℕ) (a b : End) : Type 0 where
  pub layers : ℕ
  pub first : Told layers
  pub second : Told layers
  pub first_is : a ≡ tells stop name first
  pub second_is : b ≡ tells stop name second

-- two ends that tell of the demo with n private inputs, and differ in nothing but the length of the proof
pub record DemoAlike (n : ℕ) (a b : End) : Type 0 where
  pub layers : ℕ
  pub first : ℕ
  pub second : ℕ
  pub first_is : a ≡ says 0 (demo_line n layers first)
  pub second_is : b ≡ says 0 (demo_line n layers second)

-- two ends of a run are one, but for which circuit `compile` and `shacircuit` put, and `demo` proves
abbrev pub AreOne : Option Command → Stop → End → End → Type 0
AreOne (Some (Compile source circuit version)) stop a b = (a ≡ b) ⊎ PutAlike stop circuit a b
AreOne (Some (Demo count seed)) stop a b = DemoAlike (number_of count) a b
AreOne (Some (ShaCircuit count circuit)) stop a b = PutAlike stop circuit a b
AreOne command stop a b = a ≡ b

abbrev pub OneEnd : Type 0
OneEnd =
    (words : List (List ℕ)) (files : Files) (stop : Stop) (a b : End) → RunOf words files stop a
    → RunOf words files stop b
    → AreOne (command_of words) stop a b
