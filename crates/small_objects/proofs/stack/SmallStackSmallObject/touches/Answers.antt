use Rattle.small_objects.proofs.Vocabulary.{arith, slice_index}
use Rattle.small_objects.proofs.Rows.{is_stack, off_alike, on_alike}
use Rattle.small_objects.proofs.stack.SmallStackSmallObject.touches.Goals.{else-invocation-eq0, then-invocation-eq0}
use Rattle.small_objects.proofs.stack.SmallStackSmallObject.touches.Goals as goal

pub overflow_add-place : goal.overflow_add-place
overflow_add-place c = (let h = is_stack c.args.self.now.capacity c.args.state.now c.requires.reached in omega arith)

pub touching-requires : goal.touching-requires
touching-requires c =
    (let h = is_stack c.args.self.now.capacity c.args.state.now c.requires.reached in elim c.if-invocation-eq0.branch [
      | then-invocation-eq0 b ↦ (let p = b.place-is in omega arith)
      | else-invocation-eq0 b ↦ (let p = b.place-is in omega arith)
    ])

pub returns : goal.returns
returns c =
    let h = is_stack c.args.self.now.capacity c.args.state.now c.requires.reached in
    let inv = slice_index c.args.invocation.now 0 in
    λ i inside apart. let other = c.touching.ensures i apart in elim c.if-invocation-eq0.branch [
      | then-invocation-eq0 b ↦
          let p = b.place-is in
          off_alike h inv i b.if-invocation-eq0.true other.0 (λ e. other.1 (omega (arith, e)))
      | else-invocation-eq0 b ↦
          let p = b.place-is in
          on_alike h inv i b.if-invocation-eq0.false other.0 (λ e. other.1 (omega (arith, e)))
    ]
