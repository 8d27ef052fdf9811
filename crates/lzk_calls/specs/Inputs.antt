-- A circuit and its inputs, as they are read.
use Rattle.std.specs.Prelude.{◌<◌, ◌≤◌, ◌^◌, ◌⊎◌, ℕ, List, length, map}
use Rattle.lzk_circbytes.specs.Files.{CircuitFaultAt}
use Rattle.lzk_circuit.specs.Valid.{Wiring}
use Rattle.lzk_expr.specs.Numbers.{NumberText, IsNumberFault}
use Rattle.lzk_field.specs.Coding.{Coding, coding}
use Rattle.lzk_goldilocks.specs.declared.element.Gold.{Gold as GoldElement}
use Rattle.lzk_gf128.specs.declared.element.Gf128.{Gf128}
use Rattle.lzk_goldilocks.specs.Prime.{p, element_bytes, field_byte}
use Rattle.lzk_goldilocks.specs.Elements as gold
use Rattle.lzk_gf128.specs.Elements as gf
use Rattle.lzk_calls.specs.declared.refusal.Refusal.{Refusal}
use Rattle.lzk_calls.specs.declared.refusal.Refusal.TheVariants.{TooLong, NoCircuit, NoPublics, NoPrivates, OutOfMemory}
use Rattle.lzk_calls.specs.Compiled.{most_text}

-- the longest session
abbrev pub most_session : ℕ
most_session = 64

abbrev pub gold_coding : Coding GoldElement
gold_coding = coding gold.of_number gold.number element_bytes p field_byte

abbrev pub gf_coding : Coding Gf128
gf_coding = coding gf.of_number gf.number 16 (2 ^ 128) 2

-- why a file gives no circuit
abbrev pub IsUnread : List ℕ → Refusal → Type 0
IsUnread circuit (NoCircuit fault) = CircuitFaultAt circuit fault.offset fault.kind
IsUnread circuit OutOfMemory = Unit {0}
IsUnread circuit other = ⊥

-- neither the session nor a text is too long
abbrev pub AreShort : List ℕ → List ℕ → List ℕ → Type 0
AreShort session public private =
    (length session ≤ most_session) × ((length public ≤ most_text) × (length private ≤ most_text))

-- neither the session nor the text of public numbers is too long
abbrev pub AreBothShort : List ℕ → List ℕ → Type 0
AreBothShort session public = (length session ≤ most_session) × (length public ≤ most_text)

-- these are the inputs of two texts, beside a session; nothing is too long
pub record AreInputs {A : Type 0} (e : Coding A) (c : Wiring A) (session public private : List ℕ)
    (publics privates : List A) : Type 0 where
  pub short : AreShort session public private
  pub of_public : NumberText e.size c.publics public (map e.number publics)
  pub of_private : NumberText e.size c.privates private (map e.number privates)

-- why two texts beside a session give no inputs: the first cause in this order; want of memory may come at any time
abbrev pub LacksInputs : {A : Type 0} → Coding A → Wiring A → List ℕ → List ℕ → List ℕ → Refusal → Type 0
LacksInputs e c session public private TooLong =
    (most_session < length session) ⊎ ((most_text < length public) ⊎ (most_text < length private))
LacksInputs e c session public private (NoPublics fault) =
    AreShort session public private × IsNumberFault e.size c.publics public fault
LacksInputs e c session public private (NoPrivates fault) =
    AreShort session public private
    × ((publics : List ℕ) × NumberText e.size c.publics public publics × IsNumberFault e.size c.privates private fault)
LacksInputs e c session public private OutOfMemory = Unit {0}
LacksInputs e c session public private other = ⊥

-- why a text beside a session gives no public numbers: the first cause; want of memory may come at any time
abbrev pub LacksPublics : {A : Type 0} → Coding A → Wiring A → List ℕ → List ℕ → Refusal → Type 0
LacksPublics e c session public TooLong = (most_session < length session) ⊎ (most_text < length public)
LacksPublics e c session public (NoPublics fault) =
    AreBothShort session public × IsNumberFault e.size c.publics public fault
LacksPublics e c session public OutOfMemory = Unit {0}
LacksPublics e c session public other = ⊥
