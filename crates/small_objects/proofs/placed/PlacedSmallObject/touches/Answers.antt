use Rattle.small_objects.proofs.Vocabulary.{IsReached, arith, drop, length, subst, sym, take_all, ◌-◌}
use Rattle.std.proofs.lemmas.List.{length-drop}
use Rattle.small_objects.proofs.Behind.{reached_behind}
use Rattle.small_objects.proofs.placed.PlacedSmallObject.touches.Goals as goal

pub touches-head-requires-clause-reached : goal.touches-head-requires-clause-reached
touches-head-requires-clause-reached g c =
    let meaning = g.O.SmallObject.meaning c.args.self.now.object in
    let state = c.args.state.now in
    subst (IsReached meaning.object) (sym (take_all (length state - 1) (drop 1 state) (let l = length-drop 1 state in omega arith)))
    (reached_behind meaning state c.requires.reached)
