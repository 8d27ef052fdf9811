use Rattle.std.proofs.Common.{◌≡◌, ℕ, map, List, Result, Ok, Err, MatchResult, IfOk, Vec, refl}
use Rattle.std.specs.declared.alloc.Global.{Global}
use Rattle.lzk_expr.specs.Numbers.{Fails, numbers_of, NumberText}
use Rattle.lzk_expr.specs.declared.fault.NumberError.{NumberError}
use Rattle.lzk_expr.specs.declared.fault.NumberError.TheVariants as errors
use Rattle.lzk_expr.proofs.NumberLaws.{text_take, text_again}
use Rattle.lzk_expr.proofs.numbers.read_numbers.Goals as goal

is_found : {F : Type 0} (num : F → ℕ) (size count : ℕ) (text : List ℕ) (r : Result (Vec F Global) NumberError)
    → MatchResult r (λ v. numbers_of size count text ≡ Ok (map num v.items)) (λ e. Fails e (numbers_of size count text)) → IfOk r (λ v. NumberText size count text (map num v.items))
is_found num size count text (Ok v) h = text_take size count text (map num v.items) h
is_found num size count text (Err e) h = tt

is_only : {F : Type 0} (num : F → ℕ) (size count : ℕ) (text list : List ℕ) (r : Result (Vec F Global) NumberError)
    → MatchResult r (λ v. numbers_of size count text ≡ Ok (map num v.items)) (λ e. Fails e (numbers_of size count text)) → NumberText size count text list
    → MatchResult r (λ v. map num v.items ≡ list) (λ e. e ≡ errors.OutOfMemory)
is_only num size count text list (Ok v) h t = let again = text_again size count text list t in cc
is_only num size count text list (Err errors.OutOfMemory) h t = refl
is_only num size count text list (Err (errors.Fault f)) h t = let again = text_again size count text list t in absurd cc

pub returns-clause-found : goal.returns-clause-found
returns-clause-found g c = is_found g.F.Field.coding.number g.F.Field.coding.size c.args.count c.args.text.now c.numbers.result c.numbers.ensures

pub returns-clause-only : goal.returns-clause-only
returns-clause-only g c = λ list t. is_only g.F.Field.coding.number g.F.Field.coding.size c.args.count c.args.text.now list c.numbers.result c.numbers.ensures t
