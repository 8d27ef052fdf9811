-- The parts of a proof's file, in order.
use Rattle.lzk_profile.specs.Profile.{opened_count}
use Rattle.std.specs.Prelude.{ℕ, ◌+◌, ◌-◌, ◌*◌, ◌<◌, List, ◌∷◌, ◌++◌, map, take}
use Rattle.std.specs.List.{range_with_len, flat_map, sum_by}
use Rattle.lzk_layout.specs.declared.params.Params.{Params}
use Rattle.lzk_layout.specs.declared.part.ProofPart.{ProofPart}
use Rattle.lzk_layout.specs.declared.part.ProofPart.TheVariants.{Magic, Id, Root, Message, Ldt, Dot, QuadHead, QuadTail, Nonce, Column, Count, Digest}
use Rattle.lzk_layout.specs.Fields.{Sort, magic, plain, element, count, Shape, width}

-- what the field of a part is
abbrev pub sort_of : ProofPart → Sort
sort_of Magic = magic
sort_of Id = plain
sort_of Root = plain
sort_of (Message i) = element
sort_of (Ldt i) = element
sort_of (Dot i) = element
sort_of (QuadHead i) = element
sort_of (QuadTail i) = element
sort_of (Nonce k) = plain
sort_of (Column k i) = element
sort_of Count = count
sort_of (Digest i) = plain

-- how many bytes it has
abbrev pub part_width : Shape → ProofPart → ℕ
part_width s part = width s (sort_of part)

-- one part for each number below n
unfoldable pub each : (ℕ → ProofPart) → ℕ → List ProofPart
each part n = map part (range_with_len 0 n)

-- an opened column: its nonce and its elements
abbrev pub column_parts : ℕ → ℕ → List ProofPart
column_parts rows k = Nonce k ∷ each (Column k) rows

-- so many opened columns
unfoldable pub opened_parts : ℕ → ℕ → List ProofPart
opened_parts rows n = flat_map (column_parts rows) (range_with_len 0 n)

-- the path behind its count
abbrev pub path_parts : ℕ → List ProofPart
path_parts digests = Count ∷ each Digest digests

-- the parts of the elements sent and of the three answers, the third as its first values and its last, in front of
-- others
unfoldable pub element_parts : Params → List ProofPart → List ProofPart
element_parts p others =
    each Message p.nsum ++ (each Ldt p.block
    ++ (each Dot p.dblock ++ (each QuadHead opened_count ++ (each QuadTail (p.dblock - p.block) ++ others))))

-- the parts of a file of so many digests
unfoldable pub parts : Params → ℕ → List ProofPart
parts p digests = Magic ∷ Id ∷ Root ∷ element_parts p (opened_parts p.nrow opened_count ++ path_parts digests)

-- where the field of number k begins
abbrev pub field_place : Shape → Params → ℕ → ℕ → ℕ
field_place s p digests k = sum_by (part_width s) (take k (parts p digests))

-- how many fields stand before the low degree answer, the linear answer, the quadratic answer's first and last values,
-- and the opened columns
abbrev pub before_ldt : Params → ℕ
before_ldt p = 3 + p.nsum

abbrev pub before_dot : Params → ℕ
before_dot p = before_ldt p + p.block

abbrev pub before_head : Params → ℕ
before_head p = before_dot p + p.dblock

abbrev pub before_tail : Params → ℕ
before_tail p = before_head p + opened_count

abbrev pub before_opened : Params → ℕ
before_opened p = before_tail p + (p.dblock - p.block)

-- how many fields stand before the number of digests: to each opened column a nonce and its elements come last
abbrev pub before_count : Params → ℕ
before_count p = before_opened p + opened_count * (1 + p.nrow)

-- the number of a part's field, from 0
abbrev pub number_of : Params → ProofPart → ℕ
number_of p Magic = 0
number_of p Id = 1
number_of p Root = 2
number_of p (Message i) = 3 + i
number_of p (Ldt i) = before_ldt p + i
number_of p (Dot i) = before_dot p + i
number_of p (QuadHead i) = before_head p + i
number_of p (QuadTail i) = before_tail p + i
number_of p (Nonce k) = before_opened p + k * (1 + p.nrow)
number_of p (Column k i) = before_opened p + k * (1 + p.nrow) + 1 + i
number_of p Count = before_count p
number_of p (Digest i) = before_count p + 1 + i

-- a part that a file of so many digests has
abbrev pub HasPart : Params → ℕ → ProofPart → Type 0
HasPart p digests (Message i) = i < p.nsum
HasPart p digests (Ldt i) = i < p.block
HasPart p digests (Dot i) = i < p.dblock
HasPart p digests (QuadHead i) = i < opened_count
HasPart p digests (QuadTail i) = i < p.dblock - p.block
HasPart p digests (Nonce k) = k < opened_count
HasPart p digests (Column k i) = (k < opened_count) × (i < p.nrow)
HasPart p digests (Digest i) = i < digests
HasPart p digests _ = Unit {0}
