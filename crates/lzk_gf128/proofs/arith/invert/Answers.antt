use Rattle.std.proofs.Common.{rules, ◌≡◌, ◌<◌, ◌^◌, ap, ◌∙◌}
use Rattle.lzk_gf128.specs.Product.{product}
use Rattle.lzk_gf128.specs.Inverse.{power_most, inverse_is}
use Rattle.lzk_gf128.proofs.Squares.{power_sum, power_one}
use Rattle.lzk_gf128.proofs.arith.invert.Goals as goal

pub returns : goal.returns
returns c =
    let a = c.args.a in
    let small : a < 2 ^ 128 = search rules in
    let most_1 : a ≡ power_most a 1 = power_one a small in
    let most_2 : c.meet-most_2.result ≡ power_most a 2 = power_sum a 1 1 _ _ _ small c.meet-most_2.ensures most_1 most_1 in
    let most_3 : c.meet-most_3.result ≡ power_most a 3 = power_sum a 2 1 _ _ _ small c.meet-most_3.ensures most_2 most_1 in
    let most_6 : c.meet-most_6.result ≡ power_most a 6 = power_sum a 3 3 _ _ _ small c.meet-most_6.ensures most_3 most_3 in
    let most_12 : c.meet-most_12.result ≡ power_most a 12 = power_sum a 6 6 _ _ _ small c.meet-most_12.ensures most_6 most_6 in
    let most_24 : c.meet-most_24.result ≡ power_most a 24 = power_sum a 12 12 _ _ _ small c.meet-most_24.ensures most_12 most_12 in
    let most_48 : c.meet-most_48.result ≡ power_most a 48 = power_sum a 24 24 _ _ _ small c.meet-most_48.ensures most_24 most_24 in
    let most_96 : c.meet-most_96.result ≡ power_most a 96 = power_sum a 48 48 _ _ _ small c.meet-most_96.ensures most_48 most_48 in
    let most_120 : c.meet-most_120.result ≡ power_most a 120 = power_sum a 96 24 _ _ _ small c.meet-most_120.ensures most_96 most_24 in
    let most_126 : c.meet-most_126.result ≡ power_most a 126 = power_sum a 120 6 _ _ _ small c.meet-most_126.ensures most_120 most_6 in
    let most_127 : c.meet-most_127.result ≡ power_most a 127 = power_sum a 126 1 _ _ _ small c.meet-most_127.ensures most_126 most_1 in
    c.square.ensures ∙ ap (λ w. product 128 w w) most_127 ∙ inverse_is a
