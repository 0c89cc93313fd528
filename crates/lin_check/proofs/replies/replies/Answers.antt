use Rattle.std.proofs.Common.{length-set}
use Rattle.lin_check.proofs.Vocabulary.{None, ap, arith, drop, get_or, length, next_return, replies_of, slice_set, subst, ℕ, ◌+◌, ◌-◌, ◌<◌, ◌∙◌, ◌≡◌, ◌≤◌}
use Rattle.lin_check.proofs.GoingBack.{each_back, many_back, tail_back}
use Rattle.lin_check.proofs.replies.replies.Goals as goal

pub loop-i-preserved : goal.loop-i-preserved
loop-i-preserved g c =
    let t : 0 < c.loop-i.i = c.loop-i-test.true in
    let next : c.loop-i.i ≡ c.loop-i.i - 1 + 1 = omega arith in
    let b : c.loop-i.i ≤ length c.args.history.now = c.loop-i.invariant.bound in
    let bound : c.loop-i.i - 1 < length c.args.history.now = omega arith in
    let tail = subst (λ j. drop j c.loop-i.replies.items ≡ replies_of (drop j c.args.history.now)) next c.loop-i.invariant.tail in
    let each = λ (p : ℕ) (less : p < c.args.n). subst (λ j. get_or c.loop-i.latest.items p None ≡ next_return p (drop j c.args.history.now)) next (c.loop-i.invariant.each p less) in
    record {
      bound = omega arith;
      long = length-set c.loop-i.replies.items (c.loop-i.i - 1) c.go_back.result ∙ c.loop-i.invariant.long;
      many = ap length c.go_back.ensures.latest ∙ many_back c.args.n c.args.history.now (c.loop-i.i - 1) c.index-history-i.result c.loop-i.replies.items c.loop-i.latest.items c.index-history-i.is bound c.requires c.loop-i.invariant.long c.loop-i.invariant.many tail each;
      tail = ap (λ r. drop (c.loop-i.i - 1) (slice_set c.loop-i.replies.items (c.loop-i.i - 1) r)) c.go_back.ensures.reply
          ∙ tail_back c.args.n c.args.history.now (c.loop-i.i - 1) c.index-history-i.result c.loop-i.replies.items c.loop-i.latest.items c.index-history-i.is bound c.requires c.loop-i.invariant.long c.loop-i.invariant.many tail each;
      each = λ q inside. ap (λ xs. get_or xs q None) c.go_back.ensures.latest
          ∙ each_back c.args.n c.args.history.now (c.loop-i.i - 1) c.index-history-i.result c.loop-i.replies.items c.loop-i.latest.items c.index-history-i.is bound c.requires c.loop-i.invariant.long c.loop-i.invariant.many tail each q inside;
    }
