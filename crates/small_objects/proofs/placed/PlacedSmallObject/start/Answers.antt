use Rattle.std.proofs.Common.{◌∙◌, ◌∷◌, ap, length-set, arith}
use Rattle.small_objects.proofs.Behind.{put_behind}
use Rattle.small_objects.proofs.placed.PlacedSmallObject.start.Goals as goal

pub returns : goal.returns
returns g c =
    put_behind c.args.state.now c.start.new.state 0 _ (let long = c.requires in omega arith) (omega (arith, length-set c.args.state.now 0 0))
    ∙ ap (λ l. 0 ∷ l) c.start.ensures
