use Rattle.small_objects.proofs.Pairs.{is_map}
use Rattle.small_objects.proofs.map.SmallMapSmallObject.apply.Goals as goal

pub get-told-requires : goal.get-told-requires
get-told-requires c = is_map c.args.self.now.capacity c.args.state.now c.requires.reached

pub insert-told-requires : goal.insert-told-requires
insert-told-requires c = is_map c.args.self.now.capacity c.args.state.now c.requires.reached

pub remove-told-requires : goal.remove-told-requires
remove-told-requires c = is_map c.args.self.now.capacity c.args.state.now c.requires.reached
