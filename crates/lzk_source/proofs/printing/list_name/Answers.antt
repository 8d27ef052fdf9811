use Rattle.std.proofs.Common.{refl}
use Rattle.lzk_expr.specs.Printing.{public_names, private_names, let_names}
use Rattle.lzk_expr.proofs.Outcomes.{on_ok}
use Rattle.lzk_source.proofs.PrintLaws.{name_listed}
use Rattle.lzk_source.proofs.printing.list_name.Goals as goal

pub returns-in-Public : goal.returns-in-Public
returns-in-Public c =
    let r = c.push_name.result in
    rw c.in-Public.is (record {
      publics = on_ok r (λ e behind. name_listed c.args.names.now.publics.items c.push_name.new.names.items c.in-Public.name (public_names behind) e) c.push_name.ensures;
      privates = on_ok r (λ e behind. refl) c.push_name.ensures;
      lets = on_ok r (λ e behind. refl) c.push_name.ensures;
    })

pub returns-in-Private : goal.returns-in-Private
returns-in-Private c =
    let r = c.push_name-in-Private.result in
    rw c.in-Private.is (record {
      publics = on_ok r (λ e behind. refl) c.push_name-in-Private.ensures;
      privates = on_ok r (λ e behind. name_listed c.args.names.now.privates.items c.push_name-in-Private.new.names.items c.in-Private.name (private_names behind) e) c.push_name-in-Private.ensures;
      lets = on_ok r (λ e behind. refl) c.push_name-in-Private.ensures;
    })

pub returns-in-Let : goal.returns-in-Let
returns-in-Let c =
    let r = c.push_name-in-Let.result in
    rw c.in-Let.is (record {
      publics = on_ok r (λ e behind. refl) c.push_name-in-Let.ensures;
      privates = on_ok r (λ e behind. refl) c.push_name-in-Let.ensures;
      lets = on_ok r (λ e behind. name_listed c.args.names.now.lets.items c.push_name-in-Let.new.names.items c.in-Let.name (let_names behind) e) c.push_name-in-Let.ensures;
    })

pub returns-in-Assert : goal.returns-in-Assert
returns-in-Assert c = rw c.in-Assert.is (record { publics = λ behind. refl; privates = λ behind. refl; lets = λ behind. refl })
