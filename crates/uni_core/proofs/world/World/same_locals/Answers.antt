use Rattle.std.proofs.Common.{arith, below_more, ◌<◌, length, refl}
use Rattle.uni_core.proofs.Likeness.{stand_same, stand_all}
use Rattle.uni_core.proofs.world.World.same_locals.Goals as goal

pub loop-p-preserved : goal.loop-p-preserved
loop-p-preserved g c =
    let ok = c.self.inside.locals.ok.0 in
    let ok' = c.other.inside.locals.ok.0 in
    let here : c.loop-p.p < length c.self.inside.locals.items = omega (arith, ok, ok', c.len-p-end.ensures) in
    let there : c.loop-p.p < length c.other.inside.locals.items = omega (arith, ok, ok', c.len.ensures, c.len-2.ensures, c.if-len.false, c.len-p-end.ensures) in
    let stands = c.if-not-stands_as.ensures refl in (
      c.loop-p.invariant.0,
      below_more _ _ c.loop-p.invariant.1
          (stand_same _ c.args.self.now _ c.args.other.now c.self.view_is c.other.view_is c.loop-p.p c.index.result.now c.index-in-loop-p.result.now here there c.index.ensures c.index-in-loop-p.ensures stands.0 stands.1),
    )

pub returns : goal.returns
returns g c = λ same. stand_all c.args.self.now.locals c.args.other.now.locals c.loop-p.p c.loop-p.invariant.0
    (let ok = c.self.inside.locals.ok.0 in rw (← c.self.view_is) (omega (arith, ok, c.len-p-end.ensures))) c.loop-p.invariant.1
