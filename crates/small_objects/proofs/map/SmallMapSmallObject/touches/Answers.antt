use Rattle.small_objects.specs.declared.map.MapCall.{MapCall}
use Rattle.small_objects.proofs.Vocabulary.{ap, arith, slice_index, sym, ◌∙◌}
use Rattle.small_objects.specs.Map.{call_in, map_next, map_words, pairs_in}
use Rattle.small_objects.proofs.Pairs.{is_map, map_alike}
use Rattle.small_objects.proofs.map.SmallMapSmallObject.touches.Goals as goal

pub overflow_mul-head : goal.overflow_mul-head
overflow_mul-head c = (let h = is_map c.args.self.now.capacity c.args.state.now c.requires.reached in omega arith)

pub overflow_add-head : goal.overflow_add-head
overflow_add-head c = (let h = is_map c.args.self.now.capacity c.args.state.now c.requires.reached in omega arith)

pub returns-in-Get : goal.returns-in-Get
returns-in-Get c =
    let room = c.args.self.now.capacity in
    let h = is_map room c.args.state.now c.requires.reached in
    let next = λ (call : MapCall). map_words room (map_next room (pairs_in c.args.state.now) call) in
    λ i inside apart.
    ap (λ call. slice_index (next call) i) (sym c.load.ensures ∙ c.in-Get.is)
    ∙ ap (λ ws. slice_index ws i) (sym h.words_are)

pub returns-in_default : goal.returns-in_default
returns-in_default c =
    let h = is_map c.args.self.now.capacity c.args.state.now c.requires.reached in
    λ i inside apart. map_alike h (call_in c.args.invocation.now) i apart.0
