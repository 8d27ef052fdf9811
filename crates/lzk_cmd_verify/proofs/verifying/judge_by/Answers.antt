use Rattle.std.proofs.Common.{◌∙◌}
use Rattle.lzk_cmd_files.specs.declared.ending.Halt.TheVariants as halts
use Rattle.lzk_cmd_verify.specs.Feeding.{JudgesFile}
use Rattle.lzk_cmd_files.specs.Seen.{seen}
use Rattle.lzk_cmd_files.specs.Walks.{Walks}
use Rattle.lzk_cmd_files.proofs.Sights.{where_told}
use Rattle.lzk_cmd_files.proofs.Steps.{handed_on}
use Rattle.lzk_cmd_verify.proofs.Verifies.{no_proof, judges}
use Rattle.lzk_cmd_verify.proofs.verifying.judge_by.Goals as goal

pub returns-in_err-feed_proof-clause-walks : goal.returns-in_err-feed_proof-clause-walks
returns-in_err-feed_proof-clause-walks g c =
    let f = g.F.Field in
    let e = f.coding in
    no_proof f.ops e c.args.desk.now.circuit c.args.session.now c.args.publics.now c.args.proof.now (seen g.S.Shelf c.args.shelf.now) (seen g.S.Shelf c.feed_proof.new.shelf)
    c.in_err-feed_proof.field-0.0 _ c.in_err-feed_proof.ensures.reads c.in_err-feed_proof.ensures.gives c.from_residual.ensures.1

pub returns-clause-walks : goal.returns-clause-walks
returns-clause-walks g c =
    let f = g.F.Field in
    let e = f.coding in
    let fed = c.in_ok-feed_proof.ensures.gives in
    judges f.ops e c.args.desk.now.circuit c.args.session.now c.args.publics.now c.args.proof.now (seen g.S.Shelf c.args.shelf.now) (seen g.S.Shelf c.feed_proof.new.shelf)
    _ fed.0 c.end-verdict.result c.in_ok-ending_of.field-0 (c.in_ok-feed_proof.ensures.circuit ∙ c.open.ensures.circuit) c.in_ok-feed_proof.ensures.reads fed.1
    (c.end-verdict.ensures.verdict c.args.session.now c.args.publics.now fed.0 (fed.2 c.args.session.now c.args.publics.now c.open.ensures.stands)) c.in_ok-ending_of.ensures

pub returns-in_err-ending_of-clause-walks : goal.returns-in_err-ending_of-clause-walks
returns-in_err-ending_of-clause-walks g c =
    let f = g.F.Field in
    let e = f.coding in
    let old = seen g.S.Shelf c.args.shelf.now in
    let new = seen g.S.Shelf c.feed_proof.new.shelf in
    handed_on (Walks (JudgesFile f.ops e c.args.desk.now.circuit c.args.session.now c.args.publics.now c.args.proof.now) 2 old new) _ halts.Memory c.from_residual-in_err-ending_of.ensures.1
    (where_told old.files _ (λ files at. c.in_ok-feed_proof.ensures.reads.files ∙ at))

pub returns-in_err-feed_proof-clause-reads : goal.returns-in_err-feed_proof-clause-reads
returns-in_err-feed_proof-clause-reads g c = c.feed_proof.ensures.reads

pub returns-in_err-ending_of-clause-reads : goal.returns-in_err-ending_of-clause-reads
returns-in_err-ending_of-clause-reads g c = c.feed_proof.ensures.reads

pub returns-clause-reads : goal.returns-clause-reads
returns-clause-reads g c = c.feed_proof.ensures.reads

pub open-requires-clause-session : goal.open-requires-clause-session
open-requires-clause-session g c κs within = c.requires.session

pub open-requires-clause-public : goal.open-requires-clause-public
open-requires-clause-public g c κs within = c.requires.publics

pub end-verdict-requires-clause-fed : goal.end-verdict-requires-clause-fed
end-verdict-requires-clause-fed g c κs within = c.in_ok-feed_proof.ensures.fed
