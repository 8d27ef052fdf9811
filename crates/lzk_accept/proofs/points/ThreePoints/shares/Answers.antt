use Rattle.lzk_accept.proofs.PointLaws.{share_is, others_first, others_second, others_third}
use Rattle.lzk_accept.proofs.points.ThreePoints.shares.Goals as goal

pub returns : goal.returns
returns g c =
    let f = g.F.Field in
    let o = f.ops in
    let r = f.laws.ring in
    let p = f.coding.element in
    let t = c.args.t in
    let e0 = c.point.ensures in
    let e1 = c.point-2.ensures in
    let e2 = c.point-3.ensures in
    let d0 = c.sub-d0 in
    let d1 = c.sub-d1 in
    let d2 = c.sub-d2 in
    record {
      first = share_is o r p 0 t c.mul-2.result c.mul.result c.args.self.now.first d1.result d2.result c.point-2.result c.point-3.result (p 1) (p 2)
          c.mul-2.ensures c.mul.ensures d1.ensures d2.ensures e1 e2 (others_first o r p t) c.args.self.now.are.first;
      second = share_is o r p 1 t c.mul-4.result c.mul-3.result c.args.self.now.second d0.result d2.result c.point.result c.point-3.result (p 0) (p 2)
          c.mul-4.ensures c.mul-3.ensures d0.ensures d2.ensures e0 e2 (others_second o r p t) c.args.self.now.are.second;
      third = share_is o r p 2 t c.mul-6.result c.mul-5.result c.args.self.now.third d0.result d1.result c.point.result c.point-2.result (p 0) (p 1)
          c.mul-6.ensures c.mul-5.ensures d0.ensures d1.ensures e0 e1 (others_third o r p t) c.args.self.now.are.third;
    }
