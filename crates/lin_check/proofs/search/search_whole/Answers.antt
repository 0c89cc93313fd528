use Rattle.lin_check.proofs.Vocabulary.{None, acts_of, [], ap, arith, inl, inr, map, refl, slice_get, sym, ◌∙◌}
use Rattle.lin_check.proofs.Searching.{linearized}
use Rattle.lin_check.proofs.search.search_whole.Goals as goal

pub advance-requires-clause-within : goal.advance-requires-clause-within
advance-requires-clause-within g c = λ k d less.
    let w = c.in-Some.ensures.some k d less in
    let s = c.in_ok-root.ensures.slots in
    omega arith

pub returns-then-not-advance : goal.returns-then-not-advance
returns-then-not-advance g c = c.in_ok-root.ensures.sound c.args.history.now (c.if-not-advance.ensures.dead refl None)

pub returns-then-root-history : goal.returns-then-root-history
returns-then-root-history g c =
    let l = linearized (g.O.SeqObject.sequential c.args.object.now) c.args.history.now c.advance.new.node.at c.advance.new.node.slots.items c.advance.new.node.state [] c.if-root-history.true
    ((c.if-not-advance.ensures.passes refl).reached [] (c.in_ok-root.ensures.reached c.args.history.now)) in
    (l.0, l.1, l.2 ∙ ap (map (slice_get (acts_of c.args.history.now))) (sym c.new.ensures.items))

pub search-requires-clause-within : goal.search-requires-clause-within
search-requires-clause-within g c = λ k d less.
    let w = c.in-Some.ensures.some k d less in
    let s = c.in_ok-root.ensures.slots in
    let a = c.if-not-advance.ensures.slots in
    omega arith

pub search-requires-clause-choice : goal.search-requires-clause-choice
search-requires-clause-choice g c = elim (c.if-not-advance.ensures.ready refl) [ inl end ↦ absurd (c.if-root-history.false end) | inr choice ↦ choice ]

pub search-requires-clause-reached : goal.search-requires-clause-reached
search-requires-clause-reached g c = (c.if-not-advance.ensures.passes refl).reached [] (c.in_ok-root.ensures.reached c.args.history.now)

pub search-requires-clause-sound : goal.search-requires-clause-sound
search-requires-clause-sound g c = λ fails. c.in_ok-root.ensures.sound c.args.history.now ((c.if-not-advance.ensures.passes refl).fails None fails)
