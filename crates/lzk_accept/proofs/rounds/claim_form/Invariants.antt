use Rattle.std.proofs.Common.{◌≡◌, ℕ, ◌+◌, ◌*◌, ◌<◌, ◌≤◌, ◌-◌, length}
use Rattle.lzk_field.specs.Sums.{entry}
use Rattle.lzk_accept.specs.Walks.{challenge_of}
use Rattle.lzk_accept.proofs.RoundForms.{IsBack}
use Rattle.lzk_accept.proofs.rounds.claim_form.Given as goal

abbrev pub invariant-loop-m : goal.invariant-loop-m
invariant-loop-m g l =
    let o = g.F.Field.ops in
    record {
      length : length l.own ≡ length l.fn.own;
      before : (k : ℕ) → k < l.at → entry o l.own k ≡ entry o l.fn.own k;
      after : (k : ℕ) → l.at + 4 * l.rounds.bits ≤ k → entry o l.own k ≡ entry o l.fn.own k;
      back : IsBack o g.F.Field.laws.ring g.F.Field.coding.element (challenge_of o l.rounds.layer.now) (λ k. entry o l.rounds.messages.now (l.rounds.sent + k)) l.own l.at (2 * l.rounds.bits) l.m (4 * l.rounds.bits - 2 * l.m) l.claim.constant l.claim.weight;
    }
