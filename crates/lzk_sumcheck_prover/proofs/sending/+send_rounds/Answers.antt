use Rattle.std.proofs.Common.{◌≡◌, ◌≤◌, ◌+◌, ◌-◌, ◌*◌, ◌^◌, ℕ, suc, List, [], refl, length, drop, ap, sym, ◌∙◌, ◌∷◌, arith, subst}
use Rattle.std.proofs.lemmas.List.{length-take, length-drop}
use Rattle.std.specs.Prelude.{true, false}
use Rattle.lzk_field.specs.Sums.{minus, entry}
use Rattle.lzk_mle.specs.Multilinear.{tilde}
use Rattle.lzk_sumcheck.specs.Rounds.{every_other}
use Rattle.lzk_sumcheck_rounds.specs.Rows.{round_at}
use Rattle.lzk_sumcheck.specs.Sending.{after_sent, drawn_sent, AreSent}
use Rattle.lzk_sumcheck.specs.States.{bind_state, after, total}
use Rattle.lzk_sumcheck_rounds.specs.Tables.{KeptTables, AreKept}
use Rattle.lzk_sumcheck_rounds.proofs.RowLaws.{two-more}
use Rattle.lzk_sumcheck_prover.proofs.SendLaws.{drawn-step, after-step, sent-step, rest-whole}
use Rattle.lzk_sumcheck_prover.proofs.sending.+send_rounds.Goals as goal

none-left : {X : Type 0} (xs : List X) → length xs ≡ 0 → xs ≡ []
none-left [] e = refl
none-left (x ∷ xs) e = absurd (omega (arith, e))

pub returns-clause-ra : goal.returns-clause-ra
returns-clause-ra g t c =
    let m = g.F.Field in
    let two : length c.send_round-x.new.sent ≡ 2 = omega (arith, c.send_round-x.auto.sent, c.split_at_mut-now.ensures.front_len) in
    let e = m.coding in
    let x = c.send_round-x.result in
    let left = length c.args.rb.now + length c.in-Some.ra.now in
    let more : length c.args.ra.now + length c.args.rb.now ≡ suc left = omega (arith, ap length c.in-Some.ensures.cases.0) in
    let drawn = drawn-step m.ops e c.send_round-x.new.sent c.send_rounds-last.new.sent (length c.args.ra.now + length c.args.rb.now) left c.args.tape.now c.send_round-x.new.tape x
    two more c.send_round-x.ensures.challenge c.send_round-x.ensures.after in
    ap (λ ys. x ∷ ys) c.send_rounds-last.ensures.rb ∙ sym (ap (every_other true) drawn)

pub returns-clause-rb : goal.returns-clause-rb
returns-clause-rb g t c =
    let m = g.F.Field in
    let two : length c.send_round-x.new.sent ≡ 2 = omega (arith, c.send_round-x.auto.sent, c.split_at_mut-now.ensures.front_len) in
    let e = m.coding in
    let x = c.send_round-x.result in
    let left = length c.args.rb.now + length c.in-Some.ra.now in
    let more : length c.args.ra.now + length c.args.rb.now ≡ suc left = omega (arith, ap length c.in-Some.ensures.cases.0) in
    let drawn = drawn-step m.ops e c.send_round-x.new.sent c.send_rounds-last.new.sent (length c.args.ra.now + length c.args.rb.now) left c.args.tape.now c.send_round-x.new.tape x
    two more c.send_round-x.ensures.challenge c.send_round-x.ensures.after in
    c.send_rounds-last.ensures.ra ∙ sym (ap (every_other false) drawn)

pub returns-clause-after : goal.returns-clause-after
returns-clause-after g t c =
    let m = g.F.Field in
    let two : length c.send_round-x.new.sent ≡ 2 = omega (arith, c.send_round-x.auto.sent, c.split_at_mut-now.ensures.front_len) in
    let e = m.coding in
    let left = length c.args.rb.now + length c.in-Some.ra.now in
    let more : length c.args.ra.now + length c.args.rb.now ≡ suc left = omega (arith, ap length c.in-Some.ensures.cases.0) in
    c.send_rounds-last.ensures.after
    ∙ sym (after-step m.ops e c.send_round-x.new.sent c.send_rounds-last.new.sent (length c.args.ra.now + length c.args.rb.now) left c.args.tape.now c.send_round-x.new.tape
    two more c.send_round-x.ensures.after)

pub returns-clause-sent : goal.returns-clause-sent
returns-clause-sent g t c = λ st k.
    let m = g.F.Field in
    let two : length c.send_round-x.new.sent ≡ 2 = omega (arith, c.send_round-x.auto.sent, c.split_at_mut-now.ensures.front_len) in
    let o = m.ops in
    let e = m.coding in
    let a = c.args in
    let x = c.send_round-x.result in
    let now = c.send_round-x.new.sent in
    let later = c.send_rounds-last.new.sent in
    let all = length a.ra.now + length a.rb.now in
    let rest = length c.in-Some.ra.now in
    let left = length a.rb.now + rest in
    let one : length a.ra.now ≡ rest + 1 = omega (arith, ap length c.in-Some.ensures.cases.0) in
    let more : all ≡ suc left = omega (arith, one) in
    let drawn = drawn-step o e now later all left a.tape.now c.send_round-x.new.tape x two more c.send_round-x.ensures.challenge c.send_round-x.ensures.after in
    let kept = subst (λ n. AreKept o n (length a.rb.now) st a.tables.now) one k in
    let summed = subst (AreKept o (rest + 1) (length a.rb.now) st) (sym c.sums-sums.ensures.same) kept in
    let fits : length a.tables.now.first ≤ 2 ^ (rest + 1) = omega (arith, c.requires.first_fits, ap (λ n. 2 ^ n) one) in
    let value : (p : ℕ) → round_at o c.sums-sums.result (m.coding.element p) ≡ total o (bind_state o (m.coding.element p) st) =
    λ p. c.sums-sums.ensures.value rest (length a.rb.now) st kept fits c.requires.second_fits (m.coding.element p) in
    sent-step o m.coding.element st x (drawn_sent o e later left c.send_round-x.new.tape) _ a.pads.now now later all left two more drawn
    (c.send_round-x.ensures.first ∙ ap (λ v. minus o v (entry o a.pads.now 0)) (value 0)) (c.send_round-x.ensures.second ∙ ap (λ v. minus o v (entry o a.pads.now 1)) (value 2))
    (subst (λ ps. AreSent o m.coding.element (bind_state o x st) (drawn_sent o e later left c.send_round-x.new.tape) ps later left) (rest-whole a.pads.now)
    (c.send_rounds-last.ensures.sent (bind_state o x st) (c.bind.ensures.kept rest (length a.rb.now) st summed)))

pub returns-in_default-clause-factor_a : goal.returns-in_default-clause-factor_a
returns-in_default-clause-factor_a g t c = c.last.ensures.first ∙ ap (tilde g.F.Field.ops c.args.tables.now.first) (sym (none-left c.args.ra.now c.in_default.ensures.cases))

pub returns-in_default-clause-factor_b : goal.returns-in_default-clause-factor_b
returns-in_default-clause-factor_b g t c =
    let none : length c.args.rb.now ≡ 0 = omega (arith, c.in_default.ensures.cases, c.requires.turn) in
    c.last.ensures.second ∙ ap (tilde g.F.Field.ops c.args.tables.now.second) (sym (none-left c.args.rb.now none))

pub returns-clause-factor_a : goal.returns-clause-factor_a
returns-clause-factor_a g t c =
    let o = g.F.Field.ops in
    let rest = c.send_rounds-last.new.rb in
    c.send_rounds-last.ensures.factor_b ∙ c.bind.ensures.extension rest ∙ ap (λ (ts : KeptTables _). tilde o ts.first (c.send_round-x.result ∷ rest)) c.sums-sums.ensures.same

pub returns-clause-factor_b : goal.returns-clause-factor_b
returns-clause-factor_b g t c =
    let o = g.F.Field.ops in
    let rest = c.send_rounds-last.new.ra in
    c.send_rounds-last.ensures.factor_a ∙ ap (λ xs. tilde o xs rest) c.bind.ensures.first ∙ ap (λ (ts : KeptTables _). tilde o ts.second rest) c.sums-sums.ensures.same

pub returns-clause-room : goal.returns-clause-room
returns-clause-room g t c = c.send_rounds-last.ensures.room ∙ c.bind.ensures.room ∙ ap (λ (ts : KeptTables _). ts.room) c.sums-sums.ensures.same

pub returns-in_default-clause-bound : goal.returns-in_default-clause-bound
returns-in_default-clause-bound g t c = λ st k.
    let m = g.F.Field in
    let o = m.ops in
    let e = m.coding in
    let a = c.args in
    let none : length a.ra.now + length a.rb.now ≡ 0 = omega (arith, c.in_default.ensures.cases, c.requires.turn) in
    c.last.ensures.coefficient ∙ sym (k.q_is 0 0) ∙ sym (ap (λ n. (after o (drawn_sent o e a.sent.now n a.tape.now) st).q 0 0) none)

pub returns-clause-bound : goal.returns-clause-bound
returns-clause-bound g t c = λ st k.
    let m = g.F.Field in
    let two : length c.send_round-x.new.sent ≡ 2 = omega (arith, c.send_round-x.auto.sent, c.split_at_mut-now.ensures.front_len) in
    let o = m.ops in
    let e = m.coding in
    let a = c.args in
    let x = c.send_round-x.result in
    let all = length a.ra.now + length a.rb.now in
    let rest = length c.in-Some.ra.now in
    let left = length a.rb.now + rest in
    let one : length a.ra.now ≡ rest + 1 = omega (arith, ap length c.in-Some.ensures.cases.0) in
    let more : all ≡ suc left = omega (arith, one) in
    let drawn = drawn-step o e c.send_round-x.new.sent c.send_rounds-last.new.sent all left a.tape.now c.send_round-x.new.tape x two more c.send_round-x.ensures.challenge c.send_round-x.ensures.after in
    let kept = subst (λ n. AreKept o n (length a.rb.now) st a.tables.now) one k in
    let summed = subst (AreKept o (rest + 1) (length a.rb.now) st) (sym c.sums-sums.ensures.same) kept in
    c.send_rounds-last.ensures.bound (bind_state o x st) (c.bind.ensures.kept rest (length a.rb.now) st summed)
    ∙ sym (ap (λ ds. (after o ds st).q 0 0) drawn)

-- with no variable left
pub last-requires-clause-first : goal.last-requires-clause-first
last-requires-clause-first g t c = let one : 2 ^ length c.args.ra.now ≡ 1 = ap (λ n. 2 ^ n) c.in_default.ensures.cases in omega (arith, c.requires.first_fits, one)

pub last-requires-clause-second : goal.last-requires-clause-second
last-requires-clause-second g t c =
    let none : length c.args.rb.now ≡ 0 = omega (arith, c.in_default.ensures.cases, c.requires.turn) in
    let one : 2 ^ length c.args.rb.now ≡ 1 = ap (λ n. 2 ^ n) none in
    omega (arith, c.requires.second_fits, one)

pub returns-in_default-clause-room : goal.returns-in_default-clause-room
returns-in_default-clause-room g t c = refl

pub returns-in_default-clause-ra : goal.returns-in_default-clause-ra
returns-in_default-clause-ra g t c =
    let m = g.F.Field in
    let a = c.args in
    let none : length a.ra.now + length a.rb.now ≡ 0 = omega (arith, c.in_default.ensures.cases, c.requires.turn) in
    none-left a.ra.now c.in_default.ensures.cases ∙ sym (ap (λ n. every_other true (drawn_sent m.ops m.coding a.sent.now n a.tape.now)) none)

pub returns-in_default-clause-rb : goal.returns-in_default-clause-rb
returns-in_default-clause-rb g t c =
    let m = g.F.Field in
    let a = c.args in
    let none : length a.rb.now ≡ 0 = omega (arith, c.in_default.ensures.cases, c.requires.turn) in
    let all : length a.ra.now + length a.rb.now ≡ 0 = omega (arith, c.in_default.ensures.cases, none) in
    none-left a.rb.now none ∙ sym (ap (λ n. every_other false (drawn_sent m.ops m.coding a.sent.now n a.tape.now)) all)

pub returns-in_default-clause-after : goal.returns-in_default-clause-after
returns-in_default-clause-after g t c =
    let m = g.F.Field in
    let a = c.args in
    let none : length a.ra.now + length a.rb.now ≡ 0 = omega (arith, c.in_default.ensures.cases, c.requires.turn) in
    sym (ap (λ n. after_sent m.ops m.coding a.sent.now n a.tape.now) none)

pub returns-in_default-clause-sent : goal.returns-in_default-clause-sent
returns-in_default-clause-sent g t c = λ st k.
    let none : length c.args.ra.now + length c.args.rb.now ≡ 0 = omega (arith, c.in_default.ensures.cases, c.requires.turn) in
    record { first = λ i h. absurd (omega (arith, h, none)); second = λ i h. absurd (omega (arith, h, none)) }

-- with one variable more
pub split_at_mut-now-requires : goal.split_at_mut-now-requires
split_at_mut-now-requires g t c = omega (arith, c.requires.sent, ap length c.in-Some.ensures.cases.0)

pub send_round-x-requires-clause-pads : goal.send_round-x-requires-clause-pads
send_round-x-requires-clause-pads g t c = omega (arith, c.requires.pads, ap length c.in-Some.ensures.cases.0)

pub send_round-x-requires-clause-room : goal.send_round-x-requires-clause-room
send_round-x-requires-clause-room g t c = omega (arith, c.split_at_mut-now.ensures.front_len)

pub send_rounds-last-requires-clause-turn : goal.send_rounds-last-requires-clause-turn
send_rounds-last-requires-clause-turn g t c = omega (arith, c.requires.next, ap length c.in-Some.ensures.cases.0)

pub send_rounds-last-requires-clause-next : goal.send_rounds-last-requires-clause-next
send_rounds-last-requires-clause-next g t c = omega (arith, c.requires.turn, ap length c.in-Some.ensures.cases.0)

pub send_rounds-last-requires-clause-first_fits : goal.send_rounds-last-requires-clause-first_fits
send_rounds-last-requires-clause-first_fits g t c =
    omega (arith, ap length c.bind.ensures.first, ap (λ (ts : KeptTables _). length ts.second) c.sums-sums.ensures.same, c.requires.second_fits)

pub send_rounds-last-requires-clause-second_fits : goal.send_rounds-last-requires-clause-second_fits
send_rounds-last-requires-clause-second_fits g t c =
    let rest = length c.in-Some.ra.now in
    let one : length c.args.ra.now ≡ rest + 1 = omega (arith, ap length c.in-Some.ensures.cases.0) in
    let twice : 2 ^ length c.args.ra.now ≡ 2 * 2 ^ rest = ap (λ n. 2 ^ n) one ∙ two-more rest in
    omega (arith, c.bind.ensures.half, ap (λ (ts : KeptTables _). length ts.first) c.sums-sums.ensures.same, c.requires.first_fits, twice)

pub send_rounds-last-requires-clause-pads : goal.send_rounds-last-requires-clause-pads
send_rounds-last-requires-clause-pads g t c =
    let pads = c.args.pads.now in
    omega (arith, length-take (length pads - 2) (drop 2 pads), length-drop 2 pads, c.requires.pads, ap length c.in-Some.ensures.cases.0)

pub send_rounds-last-requires-clause-sent : goal.send_rounds-last-requires-clause-sent
send_rounds-last-requires-clause-sent g t c = omega (arith, c.split_at_mut-now.ensures.back_len, c.requires.sent, ap length c.in-Some.ensures.cases.0)
