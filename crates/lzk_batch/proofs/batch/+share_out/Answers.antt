use Rattle.std.proofs.Common.{◌++◌, IfOk, map, rules, subst, sym}
use Rattle.std.specs.List.{AllZip}
use Rattle.lzk_batch.specs.Batch.{DrawsOn}
use Rattle.lzk_batch.specs.Working.{HaveWorked}
use Rattle.lzk_batch.proofs.Sharing.{AllZip-append, both_worked, Lists}
use Rattle.lzk_batch.proofs.batch.+share_out.Goals as goal

pub returns-clause-worked : goal.returns-clause-worked
returns-clause-worked g t c =
    let b = c.args.team.now.batch.circuits.now in
    let jobs = c.args.team.now.batch.jobs.now in
    let front = c.split_at_mut-front.result.0.now in
    let back = c.split_at_mut-front.result.1.now in
    let left : IfOk c.join_mut-lists.result.0 (λ (l : Lists). HaveWorked b jobs front c.front-1.given.0 (map (λ v. v.items) l.items)) = search rules in
    let right : IfOk c.join_mut-lists.result.1 (λ (l : Lists). HaveWorked b jobs back c.back-1.given.0 (map (λ v. v.items) l.items)) = search rules in
    both_worked b jobs front back c.front-1.given.0 c.back-1.given.0 c.args.passes.now c.joined.result c.join_mut-lists.result.0 c.join_mut-lists.result.1 c.split_at_mut-front.ensures.value left right c.joined.ensures

pub returns-clause-draws : goal.returns-clause-draws
returns-clause-draws g t c =
    let front = c.split_at_mut-front.result.0.now in
    let back = c.split_at_mut-front.result.1.now in
    let left : AllZip DrawsOn front c.front-1.given.0 = search rules in
    let right : AllZip DrawsOn back c.back-1.given.0 = search rules in
    subst (λ xs. AllZip DrawsOn xs (c.front-1.given.0 ++ c.back-1.given.0)) (sym c.split_at_mut-front.ensures.value) (AllZip-append DrawsOn front back c.front-1.given.0 c.back-1.given.0 left right)

pub front_lists-share_out-requires-clause-some : goal.front_lists-share_out-requires-clause-some
front_lists-share_out-requires-clause-some g t c κs within = c.requires.2

pub front_lists-share_out-requires-clause-few : goal.front_lists-share_out-requires-clause-few
front_lists-share_out-requires-clause-few g t c κs within = c.requires.3

pub front_lists-share_out-requires-clause-ready : goal.front_lists-share_out-requires-clause-ready
front_lists-share_out-requires-clause-ready g t c κs within = c.requires.4

pub front_lists-share_out-requires-sync-R : goal.front_lists-share_out-requires-sync-R
front_lists-share_out-requires-sync-R g t c κs within = c.requires.0

pub front_lists-share_out-requires-sync-G : goal.front_lists-share_out-requires-sync-G
front_lists-share_out-requires-sync-G g t c κs within = c.requires.1

pub back_lists-share_out-requires-clause-some : goal.back_lists-share_out-requires-clause-some
back_lists-share_out-requires-clause-some g t c κs within = c.requires.2

pub back_lists-share_out-requires-clause-few : goal.back_lists-share_out-requires-clause-few
back_lists-share_out-requires-clause-few g t c κs within = c.requires.3

pub back_lists-share_out-requires-clause-ready : goal.back_lists-share_out-requires-clause-ready
back_lists-share_out-requires-clause-ready g t c κs within = c.requires.4

pub back_lists-share_out-requires-sync-R : goal.back_lists-share_out-requires-sync-R
back_lists-share_out-requires-sync-R g t c κs within = c.requires.0

pub back_lists-share_out-requires-sync-G : goal.back_lists-share_out-requires-sync-G
back_lists-share_out-requires-sync-G g t c κs within = c.requires.1
