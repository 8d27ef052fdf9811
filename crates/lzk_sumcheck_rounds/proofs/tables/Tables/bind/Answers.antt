use Rattle.std.proofs.Common.{ℕ, ◌≡◌, ◌+◌, ◌/◌, ◌%◌, ◌<◌, ◌≤◌, length, take, ◌∷◌, refl, sym, ap, ◌∙◌, arith, subst}
use Rattle.std.specs.Prelude.{not}
use Rattle.std.proofs.lemmas.List.{length-take-le}
use Rattle.lzk_field.specs.Sums.{entry}
use Rattle.lzk_mle.specs.Multilinear.{tilde}
use Rattle.lzk_sumcheck_rounds.specs.Pairs.{ArePairs, bound_entry}
use Rattle.lzk_sumcheck.specs.States.{bind_state}
use Rattle.lzk_sumcheck_rounds.specs.Tables.{KeptTables, AreKept}
use Rattle.lzk_sumcheck_rounds.proofs.KeptLaws.{bind-kept, bound-taken, tilde-bound}
use Rattle.lzk_sumcheck_rounds.proofs.SpreadLaws.{pairs-bound}
use Rattle.lzk_sumcheck_rounds.proofs.TableLaws.{front-was, front-taken, front-size, few-left, room_of, matching-same, matching-bound, kept-same}
use Rattle.lzk_sumcheck_rounds.proofs.tables.Tables.bind.Goals as goal

pub invariant_of-self : goal.invariant_of-self
invariant_of-self g c =
    let m = g.F.Field in
    let o = m.ops in
    let i = c.self.inside in
    let room = c.self.invariant.0 in
    let t = c.split_at_mut-table in
    let l = c.split_at_mut-list in
    let p = c.split_at_mut-list-2 in
    let bt = c.bind_table-half in
    let bl = c.bind_linear-scale in
    let bp = c.bind_pairs-pairs in
    let f0 = t.result.0.now in
    let l0 = l.result.0.now in
    let p0 = p.result.0.now in
    let fewt : bt.result ≤ length f0 = omega (arith, bt.ensures.half) in
    let fewl : bl.result.1 ≤ length l0 = few-left i.of_a bl.result.1 (length l0) bl.ensures.for_a bl.ensures.for_b in
    let st = front-size i.first c.deref_mut.result.now f0 t.result.1.now bt.new.table c.deref_mut.ensures.value t.ensures.value bt.auto.table in
    let sl = front-size i.linear c.deref_mut-2.result.now l0 l.result.1.now bl.new.linear c.deref_mut-2.ensures.value l.ensures.value bl.auto.linear in
    let sp = front-size i.pairs c.deref_mut-3.result.now p0 p.result.1.now bp.new.pairs c.deref_mut-3.ensures.value p.ensures.value bp.auto.pairs in
    let x = ap (λ v. v.items) c.swap.ensures.x_after in
    let y = ap (λ v. v.items) c.swap.ensures.y_after in
    let tt1 = ap (take bt.result) y ∙ front-taken i.first c.deref_mut.result.now f0 t.result.1.now bt.new.table bt.result c.deref_mut.ensures.value t.ensures.value bt.auto.table fewt in
    let tl = front-taken i.linear c.deref_mut-2.result.now l0 l.result.1.now bl.new.linear bl.result.1 c.deref_mut-2.ensures.value l.ensures.value bl.auto.linear fewl in
    let tp = front-taken i.pairs c.deref_mut-3.result.now p0 p.result.1.now bp.new.pairs bp.result c.deref_mut-3.ensures.value p.ensures.value bp.auto.pairs bp.ensures.count in
    let ef = front-was i.first.items c.deref_mut.result.now f0 t.result.1.now i.first_count c.deref_mut.ensures.value t.ensures.value t.ensures.front_len in
    let el = front-was i.linear.items c.deref_mut-2.result.now l0 l.result.1.now i.linear_count c.deref_mut-2.ensures.value l.ensures.value l.ensures.front_len in
    let ep = front-was i.pairs.items c.deref_mut-3.result.now p0 p.result.1.now i.pair_count c.deref_mut-3.ensures.value p.ensures.value p.ensures.front_len in
    let s0 = take i.second_count i.second.items in
    let old = matching-same i.of_a (take i.pair_count i.pairs.items) p0 (take i.linear_count i.linear.items) l0 (take i.first_count i.first.items) f0 s0 s0 ep el ef refl c.self.invariant.1 in
    let f1 = take bt.result bt.new.table in
    let nf : length f1 ≡ bt.result = length-take-le bt.result bt.new.table (omega (arith, fewt, bt.auto.table)) in
    let nl : length (take bl.result.1 bl.new.linear) ≡ bl.result.1 = length-take-le bl.result.1 bl.new.linear (omega (arith, fewl, bl.auto.linear)) in
    let within = subst (λ n. ArePairs (length s0) n (take bp.result bp.new.pairs)) (sym nf)
    (bp.ensures.within (length s0) bt.result (pairs-bound o m.laws.ring (length f0) bt.result (length s0) c.args.x p0 (omega (arith, bt.ensures.half)) old.pairs)) in
    let new = matching-bound i.of_a p0 (take bp.result bp.new.pairs) l0 (take bl.result.1 bl.new.linear) f0 f1 s0 old (nf ∙ bt.ensures.half) (λ q. nl ∙ bl.ensures.for_a q) (λ q. nl ∙ bl.ensures.for_b q) within in (
      record {
        pairs = omega (arith, sp, bp.ensures.count, p.ensures.front_len, room.pairs);
        linear = omega (arith, sl, fewl, l.ensures.front_len, room.linear);
        first = omega (arith, ap length x, room.second);
        second = omega (arith, ap length y, st, fewt, t.ensures.front_len, room.first);
        linear_places = omega (arith, sl, ap length x, room.linear_places, room.second_places);
        second_places = omega (arith, ap length y, st, ap length x, room.second_places);
        rows_places = omega (arith, ap length x, room.rows_places, room.second_places);
        few = omega (arith, ap length x, room.second_places, room.few);
      },
      matching-same (not i.of_a) (take bp.result bp.new.pairs) _ (take bl.result.1 bl.new.linear) _ s0 _ f1 _ tp tl (ap (take i.second_count) x) tt1 new,
    )

pub returns-clause-room : goal.returns-clause-room
returns-clause-room g c =
    let i = c.self.inside in
    let p = c.split_at_mut-list-2 in
    let bp = c.bind_pairs-pairs in
    let sp = front-size i.pairs c.deref_mut-3.result.now p.result.0.now p.result.1.now bp.new.pairs c.deref_mut-3.ensures.value p.ensures.value bp.auto.pairs in
    ap (λ n. room_of n (length c.swap.new.x.items)) sp ∙ ap (room_of (length i.pairs.items)) (ap (λ v. length v.items) c.swap.ensures.x_after ∙ c.self.invariant.0.second_places)
    ∙ ap (λ (v : KeptTables g.row.F.Denot). v.room) c.self.view_is

pub returns-clause-half : goal.returns-clause-half
returns-clause-half g c =
    let i = c.self.inside in
    let t = c.split_at_mut-table in
    let bt = c.bind_table-half in
    let f0 = t.result.0.now in
    let fewt : bt.result ≤ length f0 = omega (arith, bt.ensures.half) in
    let tt1 = ap (λ v. take bt.result v.items) c.swap.ensures.y_after
    ∙ front-taken i.first c.deref_mut.result.now f0 t.result.1.now bt.new.table bt.result c.deref_mut.ensures.value t.ensures.value bt.auto.table fewt in
    let ef = front-was i.first.items c.deref_mut.result.now f0 t.result.1.now i.first_count c.deref_mut.ensures.value t.ensures.value t.ensures.front_len in
    ap length tt1 ∙ length-take-le bt.result bt.new.table (omega (arith, fewt, bt.auto.table)) ∙ bt.ensures.half ∙ ap (λ xs. length xs / 2 + length xs % 2) ef
    ∙ ap (λ (v : KeptTables g.row.F.Denot). length v.first / 2 + length v.first % 2) c.self.view_is

pub returns-clause-extension : goal.returns-clause-extension
returns-clause-extension g c = λ s.
    let m = g.F.Field in
    let o = m.ops in
    let r = m.laws.ring in
    let i = c.self.inside in
    let t = c.split_at_mut-table in
    let bt = c.bind_table-half in
    let f0 = t.result.0.now in
    let new = bt.new.table in
    let e = bt.ensures in
    let x = c.args.x in
    let fewt : bt.result ≤ length f0 = omega (arith, e.half) in
    let tt1 = ap (λ v. take bt.result v.items) c.swap.ensures.y_after
    ∙ front-taken i.first c.deref_mut.result.now f0 t.result.1.now new bt.result c.deref_mut.ensures.value t.ensures.value bt.auto.table fewt in
    let ef = front-was i.first.items c.deref_mut.result.now f0 t.result.1.now i.first_count c.deref_mut.ensures.value t.ensures.value t.ensures.front_len in
    let low : (k : ℕ) → k < bt.result → entry o new k ≡ bound_entry o x f0 k = λ k h. e.entries k (omega (arith, h, e.half)) in
    ap (λ xs. tilde o xs s) tt1
    ∙ tilde-bound o r bt.result f0 (take bt.result new) x s (omega (arith, e.half)) (omega (arith, e.half, length-take-le bt.result new (omega (arith, fewt, bt.auto.table))))
    (λ k h. bound-taken o r f0 new bt.result x k (omega (arith, e.half)) (omega (arith, fewt, bt.auto.table)) low)
    ∙ ap (λ xs. tilde o xs (x ∷ s)) ef ∙ ap (λ (v : KeptTables g.row.F.Denot). tilde o v.first (x ∷ s)) c.self.view_is

pub returns-clause-kept : goal.returns-clause-kept
returns-clause-kept g c = λ j k st h.
    let m = g.F.Field in
    let o = m.ops in
    let r = m.laws.ring in
    let i = c.self.inside in
    let t = c.split_at_mut-table in
    let l = c.split_at_mut-list in
    let p = c.split_at_mut-list-2 in
    let bt = c.bind_table-half in
    let bl = c.bind_linear-scale in
    let bp = c.bind_pairs-pairs in
    let f0 = t.result.0.now in
    let l0 = l.result.0.now in
    let p0 = p.result.0.now in
    let x = c.args.x in
    let fewt : bt.result ≤ length f0 = omega (arith, bt.ensures.half) in
    let fewl : bl.result.1 ≤ length l0 = few-left i.of_a bl.result.1 (length l0) bl.ensures.for_a bl.ensures.for_b in
    let tt1 = ap (λ v. take bt.result v.items) c.swap.ensures.y_after
    ∙ front-taken i.first c.deref_mut.result.now f0 t.result.1.now bt.new.table bt.result c.deref_mut.ensures.value t.ensures.value bt.auto.table fewt in
    let tl = front-taken i.linear c.deref_mut-2.result.now l0 l.result.1.now bl.new.linear bl.result.1 c.deref_mut-2.ensures.value l.ensures.value bl.auto.linear fewl in
    let tp = front-taken i.pairs c.deref_mut-3.result.now p0 p.result.1.now bp.new.pairs bp.result c.deref_mut-3.ensures.value p.ensures.value bp.auto.pairs bp.ensures.count in
    let ef = front-was i.first.items c.deref_mut.result.now f0 t.result.1.now i.first_count c.deref_mut.ensures.value t.ensures.value t.ensures.front_len in
    let el = front-was i.linear.items c.deref_mut-2.result.now l0 l.result.1.now i.linear_count c.deref_mut-2.ensures.value l.ensures.value l.ensures.front_len in
    let ep = front-was i.pairs.items c.deref_mut-3.result.now p0 p.result.1.now i.pair_count c.deref_mut-3.ensures.value p.ensures.value p.ensures.front_len in
    let s0 = take i.second_count i.second.items in
    let opened : AreKept o (j + 1) k st (record { of_a = i.of_a; pairs = take i.pair_count i.pairs.items; scale = i.scale; linear = take i.linear_count i.linear.items; first = take i.first_count i.first.items; second = s0; room = room_of (length i.pairs.items) (length i.first.items) })
    = subst (AreKept o (j + 1) k st) (sym c.self.view_is) h in
    let old = kept-same o (j + 1) k st i.of_a i.scale (take i.pair_count i.pairs.items) p0 (take i.linear_count i.linear.items) l0 (take i.first_count i.first.items) f0 s0 s0 ep el ef refl opened in
    let low : (n : ℕ) → n < bt.result → entry o bt.new.table n ≡ bound_entry o x f0 n = λ n q. bt.ensures.entries n (omega (arith, q, bt.ensures.half)) in
    let new = bind-kept o r j k st i.of_a p0 (take bp.result bp.new.pairs) i.scale bl.result.0 l0 (take bl.result.1 bl.new.linear) f0 s0 (take bt.result bt.new.table) x old
    bp.ensures.sums (λ a b. bl.ensures.entries a b) (λ n. bound-taken o r f0 bt.new.table bt.result x n (omega (arith, bt.ensures.half)) (omega (arith, fewt, bt.auto.table)) low) in
    kept-same o k j (bind_state o x st) (not i.of_a) bl.result.0 (take bp.result bp.new.pairs) _ (take bl.result.1 bl.new.linear) _ s0 _ (take bt.result bt.new.table) _ tp tl (ap (λ v. take i.second_count v.items) c.swap.ensures.x_after) tt1 new

pub split_at_mut-table-requires : goal.split_at_mut-table-requires
split_at_mut-table-requires g c = omega (arith, c.self.invariant.0.first, ap length c.deref_mut.ensures.value)

pub split_at_mut-list-requires : goal.split_at_mut-list-requires
split_at_mut-list-requires g c = omega (arith, c.self.invariant.0.linear, ap length c.deref_mut-2.ensures.value)

pub split_at_mut-list-requires-2 : goal.split_at_mut-list-requires-2
split_at_mut-list-requires-2 g c = omega (arith, c.self.invariant.0.pairs, ap length c.deref_mut-3.ensures.value)

pub returns-clause-first : goal.returns-clause-first
returns-clause-first g c =
    ap (λ v. take c.self.inside.second_count v.items) c.swap.ensures.x_after ∙ ap (λ (v : KeptTables g.row.F.Denot). v.second) c.self.view_is
