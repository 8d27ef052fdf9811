use Rattle.std.proofs.Common.{◌≤◌, Some, None, arith, subst, sym}
use Rattle.lzk_layout.specs.declared.fault.ProofFault.{ProofFault}
use Rattle.lzk_layout.specs.Fields.{shape, ProofFaultAt}
use Rattle.lzk_layout.proofs.FrontFiles.{file_is_front, front_is_file}
use Rattle.lzk_layout.proofs.PartFields.{fields_are_parts}
use Rattle.lzk_layout.proofs.CursorStates.{opened, no_some, result_is_fault, result_is_no_file, whole_is_no_fault, whole_is_file, ends_within, ends_whole}
use Rattle.lzk_layout.proofs.cursor.Cursor.finish.Goals as goal

pub returns-in-Some-clause-fault : goal.returns-in-Some-clause-fault
returns-in-Some-clause-fault g c = λ p b h fault.
    let s = shape g.F.Field.coding.bytes g.F.Field.coding.size in
    result_is_fault s p b c.in-Some.fault (opened s p b (Some c.in-Some.fault) c.self.inside.fault c.self.inside.reading c.args.self.now c.self.view_is c.in-Some.is h).stands.0 fault

pub returns-in-Some-clause-whole : goal.returns-in-Some-clause-whole
returns-in-Some-clause-whole g c = λ p b h.
    let s = shape g.F.Field.coding.bytes g.F.Field.coding.size in
    result_is_no_file s p b c.in-Some.fault (opened s p b (Some c.in-Some.fault) c.self.inside.fault c.self.inside.reading c.args.self.now c.self.view_is c.in-Some.is h).stands.0

pub returns-in-Some-part-clause-fault : goal.returns-in-Some-part-clause-fault
returns-in-Some-part-clause-fault g c =
    let s = shape g.F.Field.coding.bytes g.F.Field.coding.size in
    let few : g.F.Field.coding.bytes ≤ 32 = omega (arith, g.F.Field.laws.numbers.few_bytes) in
    let some : 1 ≤ g.F.Field.coding.bytes = g.F.Field.laws.numbers.some_bytes in
    let none = no_some c.self.inside.fault c.in_default.not-Some in
    λ p b h fault. result_is_fault s p b c.fault.result (subst (λ (f : ProofFault). ProofFaultAt s p b f.offset f.kind) (sym c.fault.ensures) (ends_within s p b few some c.self.inside.reading (c.self.invariant none) (opened s p b None c.self.inside.fault c.self.inside.reading c.args.self.now c.self.view_is none h) c.in-Some-part.field-0 c.in-Some-part.is)) fault

pub returns-in-Some-part-clause-whole : goal.returns-in-Some-part-clause-whole
returns-in-Some-part-clause-whole g c =
    let s = shape g.F.Field.coding.bytes g.F.Field.coding.size in
    let few : g.F.Field.coding.bytes ≤ 32 = omega (arith, g.F.Field.laws.numbers.few_bytes) in
    let some : 1 ≤ g.F.Field.coding.bytes = g.F.Field.laws.numbers.some_bytes in
    let none = no_some c.self.inside.fault c.in_default.not-Some in
    λ p b h. result_is_no_file s p b c.fault.result (subst (λ (f : ProofFault). ProofFaultAt s p b f.offset f.kind) (sym c.fault.ensures) (ends_within s p b few some c.self.inside.reading (c.self.invariant none) (opened s p b None c.self.inside.fault c.self.inside.reading c.args.self.now c.self.view_is none h) c.in-Some-part.field-0 c.in-Some-part.is))

pub returns-in-None-clause-fault : goal.returns-in-None-clause-fault
returns-in-None-clause-fault g c =
    let s = shape g.F.Field.coding.bytes g.F.Field.coding.size in
    let few : g.F.Field.coding.bytes ≤ 32 = omega (arith, g.F.Field.laws.numbers.few_bytes) in
    let some : 1 ≤ g.F.Field.coding.bytes = g.F.Field.laws.numbers.some_bytes in
    let none = no_some c.self.inside.fault c.in_default.not-Some in
    λ p b h fault. whole_is_no_fault s p b _ (ends_whole s p b few some c.self.inside.reading (c.self.invariant none) (opened s p b None c.self.inside.fault c.self.inside.reading c.args.self.now c.self.view_is none h) c.in-None.is) fault

pub returns-in-None-clause-whole : goal.returns-in-None-clause-whole
returns-in-None-clause-whole g c =
    let s = shape g.F.Field.coding.bytes g.F.Field.coding.size in
    let few : g.F.Field.coding.bytes ≤ 32 = omega (arith, g.F.Field.laws.numbers.few_bytes) in
    let some : 1 ≤ g.F.Field.coding.bytes = g.F.Field.laws.numbers.some_bytes in
    let none = no_some c.self.inside.fault c.in_default.not-Some in
    λ p b h. whole_is_file s p b _ (ends_whole s p b few some c.self.inside.reading (c.self.invariant none) (opened s p b None c.self.inside.fault c.self.inside.reading c.args.self.now c.self.view_is none h) c.in-None.is)

pub returns-in-Some-clause-file : goal.returns-in-Some-clause-file
returns-in-Some-clause-file g c = λ p. file_is_front g.F.Field.ops g.F.Field.coding.size g.F.Field.coding.number g.F.Field.coding.element g.F.Field.coding.bytes g.F.Field.laws p

pub returns-in-Some-clause-front : goal.returns-in-Some-clause-front
returns-in-Some-clause-front g c = λ p. front_is_file g.F.Field.ops g.F.Field.coding.size g.F.Field.coding.number g.F.Field.coding.element g.F.Field.coding.bytes g.F.Field.laws p

pub returns-in-Some-part-clause-file : goal.returns-in-Some-part-clause-file
returns-in-Some-part-clause-file g c = λ p. file_is_front g.F.Field.ops g.F.Field.coding.size g.F.Field.coding.number g.F.Field.coding.element g.F.Field.coding.bytes g.F.Field.laws p

pub returns-in-Some-part-clause-front : goal.returns-in-Some-part-clause-front
returns-in-Some-part-clause-front g c = λ p. front_is_file g.F.Field.ops g.F.Field.coding.size g.F.Field.coding.number g.F.Field.coding.element g.F.Field.coding.bytes g.F.Field.laws p

pub returns-in-None-clause-file : goal.returns-in-None-clause-file
returns-in-None-clause-file g c = λ p. file_is_front g.F.Field.ops g.F.Field.coding.size g.F.Field.coding.number g.F.Field.coding.element g.F.Field.coding.bytes g.F.Field.laws p

pub returns-in-None-clause-front : goal.returns-in-None-clause-front
returns-in-None-clause-front g c = λ p. front_is_file g.F.Field.ops g.F.Field.coding.size g.F.Field.coding.number g.F.Field.coding.element g.F.Field.coding.bytes g.F.Field.laws p

pub returns-in-Some-clause-parts : goal.returns-in-Some-clause-parts
returns-in-Some-clause-parts g c = λ p. fields_are_parts g.F.Field.coding.bytes g.F.Field.coding.number p

pub returns-in-Some-part-clause-parts : goal.returns-in-Some-part-clause-parts
returns-in-Some-part-clause-parts g c = λ p. fields_are_parts g.F.Field.coding.bytes g.F.Field.coding.number p

pub returns-in-None-clause-parts : goal.returns-in-None-clause-parts
returns-in-None-clause-parts g c = λ p. fields_are_parts g.F.Field.coding.bytes g.F.Field.coding.number p
