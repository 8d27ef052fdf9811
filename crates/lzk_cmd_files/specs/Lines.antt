-- The lines that a run prints.
use Rattle.std.specs.Prelude.{ℕ, ◌==◌, List, [], ◌∷◌, ◌++◌, Option, Some, None, cond, codes}
use Rattle.std.specs.Fmt.{decimal}
use Rattle.hex.specs.Hex.{encode_lower}
use Rattle.lzk_profile.specs.Profile.{most_wires, most_total}
use Rattle.lzk_circbytes.specs.declared.fault.ByteKind.{ByteKind}
use Rattle.lzk_circbytes.specs.declared.fault.ByteKind.TheVariants as bytes
use Rattle.lzk_expr.specs.declared.fault.NumberKind.{NumberKind}
use Rattle.lzk_expr.specs.declared.fault.NumberKind.TheVariants as numbers
use Rattle.lzk_expr.specs.declared.source_fault.SourceKind.{SourceKind}
use Rattle.lzk_expr.specs.declared.source_fault.SourceKind.TheVariants as sources
use Rattle.lzk_layout.specs.declared.fault.ProofKind.{ProofKind}
use Rattle.lzk_layout.specs.declared.fault.ProofKind.TheVariants as proofs
use Rattle.lzk_level.specs.declared.fault.LevelFault.{LevelFault}
use Rattle.lzk_level.specs.declared.fault.LevelFault.TheVariants.{Layers, LayerWires, Terms}

-- a line, with its end
abbrev pub line : List ℕ → List ℕ
line text = text ++ 10 ∷ []

abbrev pub words_line : List ℕ
words_line = line (codes "refused: words")

abbrev pub missing_line : List ℕ → List ℕ
missing_line name = codes "refused: " ++ (name ++ line (codes " is missing"))

abbrev pub larger_line : List ℕ → ℕ → List ℕ
larger_line name limit =
    codes "refused: " ++ (name ++ (codes " is larger than " ++ (decimal limit ++ line (codes " bytes"))))

abbrev pub byte_line : List ℕ → ℕ → List ℕ → List ℕ
byte_line name offset kind =
    codes "refused: " ++ (name ++ (codes " at byte " ++ (decimal offset ++ (codes ": " ++ line kind))))

abbrev pub text_line : List ℕ → ℕ → List ℕ → List ℕ
text_line name number kind =
    codes "refused: " ++ (name ++ (codes " at line " ++ (decimal number ++ (codes ": " ++ line kind))))

abbrev pub byte_kind_name : ByteKind → List ℕ
byte_kind_name bytes.Truncated = codes "Truncated"
byte_kind_name bytes.Magic = codes "Magic"
byte_kind_name bytes.FieldId = codes "FieldId"
byte_kind_name bytes.Limit = codes "Limit"
byte_kind_name bytes.Varint = codes "Varint"
byte_kind_name bytes.Order = codes "Order"
byte_kind_name bytes.Range = codes "Range"
byte_kind_name bytes.Constant = codes "Constant"
byte_kind_name bytes.Trailing = codes "Trailing"
byte_kind_name bytes.Assertion = codes "Assertion"

abbrev pub number_kind_name : NumberKind → List ℕ
number_kind_name numbers.Syntax = codes "Syntax"
number_kind_name numbers.TooLarge = codes "TooLarge"
number_kind_name numbers.TooFew = codes "TooFew"
number_kind_name numbers.TooMany = codes "TooMany"

abbrev pub source_kind_name : SourceKind → List ℕ
source_kind_name sources.Character = codes "Character"
source_kind_name sources.Syntax = codes "Syntax"
source_kind_name sources.Keyword = codes "Keyword"
source_kind_name sources.Unknown = codes "Unknown"
source_kind_name sources.Twice = codes "Twice"
source_kind_name sources.TooLarge = codes "TooLarge"
source_kind_name sources.NoField = codes "NoField"
source_kind_name sources.NoAssert = codes "NoAssert"
source_kind_name sources.Limit = codes "Limit"

-- a number of a circuit that its source gives is over a limit
abbrev pub limit_line : List ℕ → List ℕ → ℕ → ℕ → List ℕ
limit_line name kind count limit =
    codes "refused: "
    ++ (name ++ (codes ": " ++ (kind ++ (codes " " ++ (decimal count ++ (codes " over " ++ line (decimal limit)))))))

abbrev pub level_line : List ℕ → LevelFault → List ℕ
level_line name (Layers count) = limit_line name (codes "Layers") count 512
level_line name (LayerWires count) = limit_line name (codes "LayerWires") count most_wires
level_line name (Terms count) = limit_line name (codes "Terms") count most_total

abbrev pub writing_line : List ℕ → List ℕ
writing_line name = line (codes "fault: writing " ++ name)

abbrev pub compiled_line : List ℕ → ℕ → ℕ → ℕ → List ℕ
compiled_line name layers terms bytes =
    codes "compiled " ++ (name ++ (codes ": layers " ++ (decimal layers
    ++ (codes ", terms " ++ (decimal terms ++ (codes ", " ++ (decimal bytes ++ line (codes " bytes"))))))))

-- a circuit was put in version 2
abbrev pub upgraded_line : List ℕ → ℕ → List ℕ
upgraded_line name bytes = codes "upgraded " ++ (name ++ (codes ": " ++ (decimal bytes ++ line (codes " bytes"))))

abbrev pub reading_line : List ℕ → List ℕ
reading_line name = line (codes "fault: reading " ++ name)

abbrev pub output_line : ℕ → ℕ → List ℕ
output_line k value = line (codes "output " ++ decimal k ++ codes " = " ++ decimal value)

abbrev pub satisfied_line : List ℕ
satisfied_line = line (codes "satisfied")

abbrev pub unsatisfied_line : ℕ → List ℕ
unsatisfied_line k = line (codes "unsatisfied at output " ++ decimal k)

abbrev pub pair_line : List ℕ → List ℕ → List ℕ
pair_line key value = key ++ (codes " " ++ line value)

abbrev pub count_line : List ℕ → ℕ → List ℕ
count_line key count = key ++ (codes " " ++ line (decimal count))

-- a circuit's version, where it is 2
abbrev pub version_lines : ℕ → List ℕ
version_lines version = cond (version == 2) (pair_line (codes "version") (codes "2")) []

-- a circuit's field, its version where it is 2, its id and its counts
abbrev pub counts_lines : List ℕ → ℕ → List ℕ → ℕ → ℕ → ℕ → List ℕ
counts_lines field version digest publics privates layers =
    pair_line (codes "field") field ++ version_lines version ++ pair_line (codes "id") (encode_lower digest)
    ++ count_line (codes "public") publics ++ count_line (codes "private") privates
    ++ count_line (codes "layers") layers

abbrev pub layer_line : ℕ → ℕ → ℕ → List ℕ
layer_line l wires terms =
    codes "layer " ++ (decimal l ++ (codes ": wires " ++ (decimal wires ++ (codes " terms " ++ line (decimal terms)))))

abbrev pub proof_kind_name : ProofKind → List ℕ
proof_kind_name proofs.Truncated = codes "Truncated"
proof_kind_name proofs.Magic = codes "Magic"
proof_kind_name proofs.Element = codes "Element"
proof_kind_name proofs.PathLimit = codes "PathLimit"
proof_kind_name proofs.Trailing = codes "Trailing"

abbrev pub accepted_line : List ℕ
accepted_line = line (codes "accepted")

abbrev pub format_line : ℕ → List ℕ → List ℕ
format_line offset kind = codes "rejected: format at byte " ++ (decimal offset ++ (codes ": " ++ line kind))

-- a digest of this name is not the one that is wanted
abbrev pub digest_line : List ℕ → List ℕ → List ℕ
digest_line name digest = codes "rejected: " ++ (name ++ (codes " " ++ line (encode_lower digest)))

abbrev pub path_count_line : ℕ → ℕ → List ℕ
path_count_line found needed =
    codes "rejected: path count " ++ (decimal found ++ (codes ", needed " ++ line (decimal needed)))

abbrev pub linear_sum_line : ℕ → ℕ → List ℕ
linear_sum_line found wanted =
    codes "rejected: linear sum " ++ (decimal found ++ (codes ", wanted " ++ line (decimal wanted)))

-- a check of this name fails at a column
abbrev pub column_line : List ℕ → ℕ → List ℕ
column_line name column = codes "rejected: " ++ (name ++ (codes " at column " ++ line (decimal column)))

-- a proof was put
abbrev pub proved_line : List ℕ → ℕ → List ℕ
proved_line name bytes = codes "proved " ++ (name ++ (codes ": " ++ (decimal bytes ++ line (codes " bytes"))))

-- and it is of a message with a digest of these digits
abbrev pub digits_line : List ℕ → List ℕ → ℕ → List ℕ
digits_line name digits bytes =
    codes "proved " ++ (name ++ (codes ": " ++ (decimal bytes ++ (codes " bytes, digest " ++ line digits))))

abbrev pub hashed_line : List ℕ → List ℕ → ℕ → List ℕ
hashed_line name digest bytes = digits_line name (encode_lower digest) bytes

-- what is told of a proof, with the digest that it is of, if it is of one
abbrev pub told_line : List ℕ → Option (List ℕ) → ℕ → List ℕ
told_line name None bytes = proved_line name bytes
told_line name (Some digest) bytes = hashed_line name digest bytes

-- a circuit of which no message of so many bytes is proved
abbrev pub unfit_line : List ℕ → ℕ → List ℕ
unfit_line name len = codes "refused: " ++ (name ++ (codes " is not for " ++ (decimal len ++ line (codes " bytes"))))

-- the first check that is not 0, with its value
abbrev pub nonzero_line : ℕ → ℕ → List ℕ
nonzero_line k value = codes "unsatisfied at output " ++ (decimal k ++ (codes " = " ++ line (decimal value)))

-- a demo's circuit and proof
abbrev pub demo_line : ℕ → ℕ → ℕ → List ℕ
demo_line n layers bytes =
    codes "demo " ++ (decimal n ++ (codes ": layers "
    ++ (decimal layers ++ (codes ", proof " ++ (decimal bytes ++ line (codes " bytes, accepted"))))))
