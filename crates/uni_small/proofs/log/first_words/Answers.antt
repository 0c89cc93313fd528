use Rattle.uni_small.proofs.Vocabulary.{replicate, sym, with_items_is, ◌*◌, ◌++◌, ◌+◌, ◌∙◌, ◌≡◌}
use Rattle.uni_small.proofs.Opening.{spell_first}
use Rattle.uni_small.proofs.log.first_words.Goals as goal

pub returns : goal.returns
returns g c =
    let sizes = c.args.sizes.now in
    let object = (g.O.SmallObject.meaning c.args.object.now).object in
    let zeros : c.in_ok-words.words.items ≡ replicate (sizes.processes + sizes.processes * sizes.reply) 0 = c.in_ok-words.ensures.items_if_clones_equal (λ y same. same) in
    let state : c.deref.result.now ≡ object.initial = c.deref.ensures.value ∙ with_items_is c.in_ok-state.state c.start.new.state (c.start.auto.state ∙ c.deref_mut.ensures.len) ∙ c.start.ensures in
    c.in_ok-extend_from_slice.ensures.items ∙ (λ k. zeros k ++ state k) ∙ sym (spell_first object sizes)
