use Rattle.lzk_profile.specs.Profile.{most_rows}
use Rattle.std.proofs.Common.{◌+◌, ◌*◌, ◌≤◌, arith, ◌∙◌, length-set, refl, ap}
use Rattle.std.proofs.Math.Nat.{mul-le-mul_right}
use Rattle.lzk_ligero_tableau.specs.Digests.{digest_at}
use Rattle.lzk_ligero_tableau.specs.Tableau.{low_words}
use Rattle.lzk_ligero_tableau.proofs.Fours.{four_more, leaf_more, are_four}
use Rattle.lzk_ligero_tableau.proofs.columns.hash_chunk.Goals as goal

pub split_at_mut-room-requires : goal.split_at_mut-room-requires
split_at_mut-room-requires g c =
    let w = g.F.Field.coding.bytes in
    let n = c.args.given.now.plan.now.params.nrow in
    let few : w ≤ 16 = g.F.Field.laws.numbers.few_bytes in
    let rows : n ≤ most_rows = c.args.given.now.plan.now.bounded.nrow in
    let many : n * w ≤ most_rows * w = mul-le-mul_right w rows in
    rw (c.BYTES.ensures ∙ g.F.Field.coded_bytes) (omega (arith, many, few))

pub fours-preserved : goal.fours-preserved
fours-preserved g c =
    let f = g.F.Field in
    let digest = digest_at f.ops f.coding.bytes f.coding.number (low_words (g.W.Words.at c.args.given.now.words.now)) c.args.given.now.plan.now.params c.args.rows.now in (
      c.set_four.ensures.length ∙ c.fours.invariant.0,
      c.four_digests-digests.auto.elements ∙ c.fours.invariant.1,
      c.four_digests-digests.auto.room ∙ c.fours.invariant.2,
      four_more digest c.args.first c.fours.q c.fours.leaves c.set_four.new.leaves c.four_digests-digests.result c.fours.invariant.3
          c.set_four.ensures.set c.set_four.ensures.others (are_four digest (c.args.first + 4 * c.fours.q) c.four_digests-digests.result c.four_digests-digests.ensures),
    )

pub rest-preserved : goal.rest-preserved
rest-preserved g c =
    let f = g.F.Field in
    let digest = digest_at f.ops f.coding.bytes f.coding.number (low_words (g.W.Words.at c.args.given.now.words.now)) c.args.given.now.plan.now.params c.args.rows.now in (
      length-set c.rest.leaves c.rest.k c.column_digest.result ∙ c.rest.invariant.0,
      leaf_more digest c.args.first c.rest.k c.rest.leaves c.column_digest.result (omega (arith, c.rest.invariant.0)) c.rest.invariant.1 c.column_digest.ensures,
    )

pub four_digests-digests-requires-clause-rows : goal.four_digests-digests-requires-clause-rows
four_digests-digests-requires-clause-rows g c κs within = c.requires.rows

pub four_digests-digests-requires-clause-elements : goal.four_digests-digests-requires-clause-elements
four_digests-digests-requires-clause-elements g c κs within = c.fours.invariant.1

pub four_digests-digests-requires-clause-room : goal.four_digests-digests-requires-clause-room
four_digests-digests-requires-clause-room g c κs within = c.fours.invariant.2

pub column_digest-requires-clause-rows : goal.column_digest-requires-clause-rows
column_digest-requires-clause-rows g c κs within = c.requires.rows

pub rest-init : goal.rest-init
rest-init g c = (c.fours.invariant.0, λ k h. c.fours.invariant.3 k (omega (arith, h, c.fours-test.false)))

pub returns-clause-length : goal.returns-clause-length
returns-clause-length g c = c.rest.invariant.0

pub returns-clause-leaves : goal.returns-clause-leaves
returns-clause-leaves g c = λ k h. c.rest.invariant.1 k (omega (arith, h, c.rest-test.false, c.rest.invariant.0))

pub four_digests-digests-requires-clause-inside : goal.four_digests-digests-requires-clause-inside
four_digests-digests-requires-clause-inside g c κs within = omega (arith, c.requires.inside, c.fours-test.true)

pub set_four-requires : goal.set_four-requires
set_four-requires g c = omega (arith, c.fours.invariant.0, c.fours-test.true)

pub bounds-leaves-k : goal.bounds-leaves-k
bounds-leaves-k g c = omega (arith, c.rest.invariant.0, c.rest-test.true)

pub column_digest-requires-clause-column : goal.column_digest-requires-clause-column
column_digest-requires-clause-column g c κs within = omega (arith, c.requires.inside, c.rest-test.true)

pub fours-init : goal.fours-init
fours-init g c =
    let n = c.args.given.now.plan.now.params.nrow in (
      refl,
      c.split_at_mut-elements.ensures.front_len,
      c.split_at_mut-room.ensures.front_len ∙ ap (λ w. 4 * (32 + n * w)) (c.BYTES.ensures ∙ g.F.Field.coded_bytes),
      λ k h. absurd (omega (arith, h)),
    )

pub split_at_mut-elements-requires : goal.split_at_mut-elements-requires
split_at_mut-elements-requires g c = omega (arith, c.args.given.now.plan.now.bounded.nrow)

pub overflow_cast-first : goal.overflow_cast-first
overflow_cast-first g c =
    let b = c.args.given.now.plan.now.bounded in
    omega (arith, c.requires.inside, c.fours-test.true, b.mcol, b.block, b.wr)

pub overflow_cast-first-in-rest : goal.overflow_cast-first-in-rest
overflow_cast-first-in-rest g c =
    let b = c.args.given.now.plan.now.bounded in
    omega (arith, c.requires.inside, c.rest-test.true, b.mcol, b.block, b.wr)
