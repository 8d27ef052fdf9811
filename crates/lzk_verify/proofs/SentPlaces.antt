-- Where the elements stand that are sent before the columns, and what a field's block says of them.
use Rattle.lzk_profile.specs.Profile.{opened_count, most_digests}
use Rattle.std.specs.Prelude.{◌≡◌, refl, ℕ, ◌+◌, ◌<◌, Some, None, List, length, take}
use Rattle.std.proofs.Common.{sym, ap, subst, ◌∙◌, arith}
use Rattle.std.proofs.lemmas.List.{length-take, take_min, take_all}
use Rattle.lzk_field.specs.Bytes.{number_from}
use Rattle.lzk_layout.specs.declared.params.Params.{Params}
use Rattle.lzk_layout.specs.declared.part.ProofPart.{ProofPart}
use Rattle.lzk_layout.specs.declared.part.ProofPart.TheVariants.{Magic, Id, Root, Message, Ldt, Dot, QuadHead, QuadTail, Nonce, Column, Count, Digest}
use Rattle.lzk_layout.specs.Fields.{element, plain, shape, IsField}
use Rattle.lzk_layout.specs.Parts.{HasPart, number_of, sort_of}
use Rattle.lzk_layout.specs.Sizes.{AreBounded}
use Rattle.lzk_verify.specs.Kept.{place_of, sent_count}
use Rattle.lzk_verify.proofs.TakingSent.{small}

-- the first entries that are so many
pub take_fits : {X : Type 0} (n m : ℕ) (xs : List X) → length (take n xs) ≡ m → take n xs ≡ take m xs
take_fits n m xs long = sym (take_min n xs) ∙ ap (λ j. take j xs) (sym (length-take n xs) ∙ long)

-- a field of 32 bytes is all of its block
pub field_all : (bytes size n : ℕ) (block : List ℕ) → length block ≡ 32 → IsField (shape bytes size) plain (take n block)
    → take n block ≡ block
field_all bytes size n block long passes =
    take_fits n 32 block passes.long ∙ take_all 32 block (omega (arith, long))

-- a field that is an element is the first bytes of its block, and they are a number below the field's size
pub field_element : (bytes size n : ℕ) (block : List ℕ) → IsField (shape bytes size) element (take n block)
    → take n block ≡ take bytes block
field_element bytes size n block passes = take_fits n bytes block passes.long

pub element_small : (bytes size n : ℕ) (block : List ℕ) → IsField (shape bytes size) element (take n block)
    → number_from (take bytes block) < size
element_small bytes size n block passes =
    subst (λ xs. number_from xs < size) (field_element bytes size n block passes) (small size bytes (take n block) passes)

-- the number of the field of an element that is sent
pub sent_number : (p : Params) (part : ProofPart) (k : ℕ) → place_of p part ≡ Some k → number_of p part ≡ 3 + k
sent_number p (Message i) k is = let e : i ≡ k = cc in omega (arith, e)
sent_number p (Ldt i) k is = let e : p.nsum + i ≡ k = cc in omega (arith, e)
sent_number p (Dot i) k is = let e : p.nsum + p.block + i ≡ k = cc in omega (arith, e)
sent_number p (QuadHead i) k is = let e : p.nsum + p.block + p.dblock + i ≡ k = cc in omega (arith, e)
sent_number p (QuadTail i) k is = let e : p.nsum + p.block + p.dblock + opened_count + i ≡ k = cc in omega (arith, e)
sent_number p Magic k is = absurd (let t : None ≡ Some k = is in cc)
sent_number p Id k is = absurd (let t : None ≡ Some k = is in cc)
sent_number p Root k is = absurd (let t : None ≡ Some k = is in cc)
sent_number p (Nonce i) k is = absurd (let t : None ≡ Some k = is in cc)
sent_number p (Column j i) k is = absurd (let t : None ≡ Some k = is in cc)
sent_number p Count k is = absurd (let t : None ≡ Some k = is in cc)
sent_number p (Digest i) k is = absurd (let t : None ≡ Some k = is in cc)

-- it is an element
pub sent_sort : (p : Params) (part : ProofPart) (k : ℕ) → place_of p part ≡ Some k → sort_of part ≡ element
sent_sort p (Message i) k is = refl
sent_sort p (Ldt i) k is = refl
sent_sort p (Dot i) k is = refl
sent_sort p (QuadHead i) k is = refl
sent_sort p (QuadTail i) k is = refl
sent_sort p Magic k is = absurd (let t : None ≡ Some k = is in cc)
sent_sort p Id k is = absurd (let t : None ≡ Some k = is in cc)
sent_sort p Root k is = absurd (let t : None ≡ Some k = is in cc)
sent_sort p (Nonce i) k is = absurd (let t : None ≡ Some k = is in cc)
sent_sort p (Column j i) k is = absurd (let t : None ≡ Some k = is in cc)
sent_sort p Count k is = absurd (let t : None ≡ Some k = is in cc)
sent_sort p (Digest i) k is = absurd (let t : None ≡ Some k = is in cc)

-- and stands among them
pub sent_inside : (p : Params) (part : ProofPart) (k : ℕ) → AreBounded p → HasPart p most_digests part
    → place_of p part ≡ Some k → k < sent_count p
sent_inside p (Message i) k b has is = let e : i ≡ k = cc in omega (arith, e, has)
sent_inside p (Ldt i) k b has is = let e : p.nsum + i ≡ k = cc in omega (arith, e, has)
sent_inside p (Dot i) k b has is = let e : p.nsum + p.block + i ≡ k = cc in omega (arith, e, has)
sent_inside p (QuadHead i) k b has is = let e : p.nsum + p.block + p.dblock + i ≡ k = cc in omega (arith, e, has)
sent_inside p (QuadTail i) k b has is = let e : p.nsum + p.block + p.dblock + opened_count + i ≡ k = cc in omega (arith, e, has)
sent_inside p Magic k b has is = absurd (let t : None ≡ Some k = is in cc)
sent_inside p Id k b has is = absurd (let t : None ≡ Some k = is in cc)
sent_inside p Root k b has is = absurd (let t : None ≡ Some k = is in cc)
sent_inside p (Nonce i) k b has is = absurd (let t : None ≡ Some k = is in cc)
sent_inside p (Column j i) k b has is = absurd (let t : None ≡ Some k = is in cc)
sent_inside p Count k b has is = absurd (let t : None ≡ Some k = is in cc)
sent_inside p (Digest i) k b has is = absurd (let t : None ≡ Some k = is in cc)
