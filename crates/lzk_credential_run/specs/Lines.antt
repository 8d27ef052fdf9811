-- The lines that a run prints beside those that `zk` prints.
use Rattle.std.specs.Prelude.{ℕ, zero, suc, ◌-◌, nat_le, ◌==◌, ◌&&◌, Bool, true, false, not, List, [], ◌∷◌, ◌++◌, codes, drop, if◌then◌else◌}
use Rattle.std.specs.Fmt.{decimal}
use Rattle.std.specs.List.{flat_map}
use Rattle.std.specs.Int.{w64, to_be_bytes}
use Rattle.hex.specs.Hex.{encode_lower}
use Rattle.lzk_cmd_files.specs.Lines.{line, text_line}
use Rattle.lzk_policy_texts.specs.declared.entries.ValuesKind.{ValuesKind}
use Rattle.lzk_policy_texts.specs.declared.entries.ValuesKind.TheVariants as rules
use Rattle.lzk_policy_texts.specs.declared.entries.ValuesFault.{ValuesFault}
use Rattle.lzk_policy_texts.specs.declared.entries.ValuesFault.TheVariants as faults
use Rattle.lzk_policy.specs.declared.fault.PolicyKind.{PolicyKind}
use Rattle.lzk_policy.specs.declared.fault.PolicyKind.TheVariants as kinds
use Rattle.lzk_policy.specs.declared.fault.PolicyFault.{PolicyFault}

-- ---- refusals

abbrev pub policy_kind_name : PolicyKind → List ℕ
policy_kind_name kinds.Syntax = codes "Syntax"
policy_kind_name kinds.Order = codes "Order"
policy_kind_name kinds.Repeated = codes "Repeated"
policy_kind_name kinds.Size = codes "Size"
policy_kind_name kinds.Place = codes "Place"
policy_kind_name kinds.Unknown = codes "Unknown"
policy_kind_name kinds.Claim = codes "Claim"
policy_kind_name kinds.Limit = codes "Limit"
policy_kind_name kinds.Missing = codes "Missing"

-- a line of a text that breaks a rule
abbrev pub kind_line : List ℕ → ℕ → List ℕ → List ℕ
kind_line = text_line

-- a text that is no policy
abbrev pub policy_line : List ℕ → PolicyFault → List ℕ
policy_line name fault = kind_line name fault.line (policy_kind_name fault.kind)

-- a policy that shows a root and has no path, or shows a digest and has one
abbrev pub path_unfit_line : Bool → List ℕ → List ℕ
path_unfit_line true name = codes "refused: " ++ (name ++ line (codes " shows a digest, and there is a path"))
path_unfit_line false name = codes "refused: " ++ (name ++ line (codes " shows a root, and there is no path"))

-- a policy that has a sealed pseudonym and no secret, or a secret and none
abbrev pub secret_unfit_line : Bool → List ℕ → List ℕ
secret_unfit_line true name =
    codes "refused: " ++ (name ++ line (codes " has no sealed pseudonym, and there is a secret"))
secret_unfit_line false name =
    codes "refused: " ++ (name ++ line (codes " has a sealed pseudonym, and there is no secret"))

-- A policy that is sealed or is not, where so many files stand beside the values and one more or fewer should. The one
-- of a sealed policy is its secret.
abbrev pub kind_unfit_line : ℕ → Bool → List ℕ → List ℕ
kind_unfit_line zero true name = secret_unfit_line false name
kind_unfit_line zero false name = path_unfit_line false name
kind_unfit_line (suc zero) true name = path_unfit_line false name
kind_unfit_line (suc zero) false name = path_unfit_line true name
kind_unfit_line (suc (suc n)) true name = path_unfit_line true name
kind_unfit_line (suc (suc n)) false name = secret_unfit_line true name

abbrev pub values_kind_name : ValuesKind → List ℕ
values_kind_name rules.Syntax = codes "Syntax"
values_kind_name rules.Unknown = codes "Unknown"
values_kind_name rules.Repeated = codes "Repeated"
values_kind_name rules.Value = codes "Value"

-- a path that names no leaf
abbrev pub leafless_line : List ℕ → List ℕ
leafless_line name = codes "refused: " ++ (name ++ line (codes " has no leaf"))

-- a text that is no path
abbrev pub path_line : List ℕ → ValuesFault → List ℕ
path_line name (faults.Line line kind) = kind_line name line (values_kind_name kind)
path_line name (faults.Missing place) = leafless_line name

-- a file that has so many of these things and not as many as the policy says
abbrev pub count_line : List ℕ → ℕ → List ℕ → ℕ → List ℕ
count_line name count things wanted =
    codes "refused: " ++ (name ++ (codes " has " ++ (decimal count
    ++ (codes " " ++ (things ++ (codes " and not " ++ line (decimal wanted)))))))

abbrev pub nodes_line : List ℕ → ℕ → ℕ → List ℕ
nodes_line name nodes depth = count_line name nodes (codes "nodes") depth

-- a path whose leaf is none of its row
abbrev pub leaf_line : List ℕ → List ℕ
leaf_line name = codes "refused: " ++ (name ++ line (codes ": its leaf is none of its row"))

-- a policy whose circuit would pass a limit
abbrev pub limit_line : List ℕ → List ℕ
limit_line name = codes "refused: " ++ (name ++ line (codes ": its circuit would pass a limit"))

-- a record that has too few bytes
abbrev pub short_line : List ℕ → ℕ → ℕ → List ℕ
short_line name bytes size = count_line name bytes (codes "bytes") size

-- ---- what is done

-- the circuit or the inputs are put
abbrev pub put_line : List ℕ
put_line = line (codes "put")

abbrev pub plain_line : List ℕ → List ℕ
plain_line text = line text

-- a digest
abbrev pub digest_line : List ℕ → List ℕ
digest_line digest = plain_line (encode_lower digest)

-- ---- bytes that a person reads

-- a byte of ASCII that is seen, but for the mark of the others
abbrev pub is_seen : ℕ → Bool
is_seen b = nat_le 33 b && nat_le b 126 && not (b == 92)

-- hexadecimal digits behind a mark
abbrev pub marked : List ℕ → List ℕ
marked digits = codes "\\x" ++ digits

-- a byte as it is, or its two hexadecimal digits behind the mark
abbrev pub shown_byte : ℕ → List ℕ
shown_byte b = if is_seen b then b ∷ [] else marked (encode_lower (b ∷ []))

abbrev pub shown_bytes : List ℕ → List ℕ
shown_bytes bytes = flat_map shown_byte bytes

-- the text of so many bytes that a number is, the first worth most
abbrev pub text_bytes : ℕ → ℕ → List ℕ
text_bytes size number = drop (8 - size) (to_be_bytes w64 number)
