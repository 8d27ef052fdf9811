use Rattle.std.proofs.Common.{◌≡◌, ℕ, List, length, ap, sym, subst, ◌∙◌, arith}
use Rattle.std.proofs.lemmas.List.{with_items_is}
use Rattle.lzk_merkle.specs.Nodes as tree
use Rattle.lzk_verify.specs.Desk.{IsChecked}
use Rattle.lzk_verify.specs.Leaves.{LeafList, AreThree, with_leaves}
use Rattle.lzk_verify.proofs.LeafLaws.{length_with}
use Rattle.lzk_verify.proofs.leaves.Leaves.check_root.Goals as goal

pub make_waiting-requires-after_bounds : goal.make_waiting-requires-after_bounds
make_waiting-requires-after_bounds g c κs within =
    let d = c.self.inside in
    subst (λ n. AreThree n (length d.columns.first.elements.items) d.columns) (sym (ap length c.deref_mut.ensures.value)) c.self.invariant.columns

pub check_root-requires-clause-path : goal.check_root-requires-clause-path
check_root-requires-clause-path g c κs within = c.requires.path

pub check_root-requires-clause-leaves : goal.check_root-requires-clause-leaves
check_root-requires-clause-leaves g c κs within =
    let f = g.F.Field.coding in
    let d = c.self.inside in
    let made = c.make_waiting.new.made in
    let are : made ≡ with_leaves f.bytes f.number d.waiting d.columns d.made.items = c.make_waiting.ensures ∙ ap (with_leaves f.bytes f.number d.waiting d.columns) c.deref_mut.ensures.value in
    let long : length made ≡ d.made.len = omega (arith, ap length are, length_with f.bytes f.number d.waiting d.columns d.made.items, d.made.ok.0) in
    ap length (c.deref.ensures.value ∙ with_items_is d.made made long ∙ are ∙ ap (λ (l : LeafList). l.items) c.self.view_is) ∙ c.requires.leaves

pub check_root-requires-clause-nodes : goal.check_root-requires-clause-nodes
check_root-requires-clause-nodes g c κs within = c.requires.nodes

pub invariant_of-self : goal.invariant_of-self
invariant_of-self g c =
    let f = g.F.Field.coding in
    let d = c.self.inside in
    let i = c.self.invariant in
    let made = c.make_waiting.new.made in
    let are : made ≡ with_leaves f.bytes f.number d.waiting d.columns d.made.items = c.make_waiting.ensures ∙ ap (with_leaves f.bytes f.number d.waiting d.columns) c.deref_mut.ensures.value in
    let size : length made ≡ length d.made.items = ap length are ∙ length_with f.bytes f.number d.waiting d.columns d.made.items in
    let long : length made ≡ d.made.len = omega (arith, size, d.made.ok.0) in
    record {
      few = omega arith;
      columns = subst (λ n. AreThree n (length d.columns.first.elements.items) d.columns) (sym (ap length (with_items_is d.made made long) ∙ size)) i.columns;
      bytes_are = i.bytes_are;
    }

pub returns-clause-root : goal.returns-clause-root
returns-clause-root g c =
    let f = g.F.Field.coding in
    let d = c.self.inside in
    let made = c.make_waiting.new.made in
    let are : made ≡ with_leaves f.bytes f.number d.waiting d.columns d.made.items = c.make_waiting.ensures ∙ ap (with_leaves f.bytes f.number d.waiting d.columns) c.deref_mut.ensures.value in
    let long : length made ≡ d.made.len = omega (arith, ap length are, length_with f.bytes f.number d.waiting d.columns d.made.items, d.made.ok.0) in
    subst (λ (xs : List (List ℕ)). let found = tree.root_of c.args.opened.now.plan.now.params.mcol c.args.opened.now.columns.now xs c.args.path.now in IsChecked (found ≡ c.args.root.now) found c.check_root.result)
    (c.deref.ensures.value ∙ with_items_is d.made made long ∙ are ∙ ap (λ (l : LeafList). l.items) c.self.view_is) c.check_root.ensures.root

pub returns-clause-nodes : goal.returns-clause-nodes
returns-clause-nodes g c = c.check_root.ensures.nodes

pub returns-clause-same : goal.returns-clause-same
returns-clause-same g c =
    let f = g.F.Field.coding in
    let d = c.self.inside in
    let made = c.make_waiting.new.made in
    let are : made ≡ with_leaves f.bytes f.number d.waiting d.columns d.made.items = c.make_waiting.ensures ∙ ap (with_leaves f.bytes f.number d.waiting d.columns) c.deref_mut.ensures.value in
    let long : length made ≡ d.made.len = omega (arith, ap length are, length_with f.bytes f.number d.waiting d.columns d.made.items, d.made.ok.0) in
    λ i. record {
      items = (with_items_is d.made made long ∙ are ∙ ap (λ (l : LeafList). l.items) c.self.view_is) i;
      rows = (c.self.view_is i).rows;
    }
