use Rattle.small_objects.proofs.Vocabulary.{IsReached, ap, arith, length-set, slice_index, slice_index_or, subst, sym, ◌%◌, ◌+◌, ◌∙◌, ◌∷◌}
use Rattle.small_objects.proofs.Behind.{kept_behind, put_behind, reached_behind}
use Rattle.small_objects.proofs.placed.PlacedSmallObject.apply.Goals as goal

pub apply-requires-clause-reached : goal.apply-requires-clause-reached
apply-requires-clause-reached g c =
    let meaning = g.O.SmallObject.meaning c.args.self.now.object in
    subst (IsReached meaning.object) (sym (kept_behind c.args.state.now _ _ (omega (arith, length-set c.args.state.now 0 ((slice_index_or c.args.state.now 0 0 + 1) % 18446744073709551616)))))
    (reached_behind meaning c.args.state.now c.requires.reached)

pub returns-clause-reply : goal.returns-clause-reply
returns-clause-reply g c =
    let meaning = g.O.SmallObject.meaning c.args.self.now.object in
    put_behind c.args.reply.now c.apply.new.reply (slice_index c.args.state.now 0) _ (let long = c.requires.reply in omega arith)
    (omega (arith, length-set c.args.reply.now 0 (slice_index_or c.args.state.now 0 0)))
    ∙ ap (λ l. slice_index c.args.state.now 0 ∷ l) (c.apply.ensures.reply
    ∙ ap (λ state. meaning.object.answer state c.args.invocation.now)
    (kept_behind c.args.state.now _ _ (omega (arith, length-set c.args.state.now 0 ((slice_index_or c.args.state.now 0 0 + 1) % 18446744073709551616)))))
