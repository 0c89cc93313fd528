use Rattle.std.proofs.Common.{◌≡◌, ◌∙◌, ◌*◌, length, ap, arith}
use Rattle.unibench_run.proofs.threads.replies_in.Goals as goal

pub returns : goal.returns
returns c = λ each all.
    let end : c.loop-told.told-index ≡ length c.args.lists.now = (let over = c.loop-told-test.false in let last = c.loop-told.auto.told-index-end in omega arith) in
    c.loop-told.invariant.1 each all ∙ ap (λ k. k * each) end
