use Rattle.uni_words.proofs.Vocabulary.{arith, entry_shown, map, refl, slice_index_or, subst, sym, ◌+◌}
use Rattle.uni_words.proofs.Comparing.{AreRightTo, no_entry, right-start, right-all, right-further, wrong-here, shown_here, length-mapped}
use Rattle.uni_words.proofs.compare.first_wrong.Goals as goal

pub loop-place-init : goal.loop-place-init
loop-place-init g c = (c.start-state.ensures.fits, right-start (g.O.WordObject.sequential c.args.object.now) (map entry_shown c.args.entries.now) c.args.processes c.start-state.result c.start-state.ensures.value)

pub is_right-requires : goal.is_right-requires
is_right-requires g c = c.loop-place.invariant.0

pub returns-then-not-is_right-clause-some : goal.returns-then-not-is_right-clause-some
returns-then-not-is_right-clause-some g c =
    let object = g.O.WordObject.sequential c.args.object.now in
    let entry = slice_index_or c.args.entries.now c.loop-place.place no_entry in
    wrong-here object (map entry_shown c.args.entries.now) c.args.processes c.loop-place.place c.loop-place.state c.loop-place.invariant.1 (entry_shown entry)
    (shown_here c.args.entries.now c.loop-place.place no_entry c.loop-place-test.true)
    (λ right. let t = c.is_right.ensures.1 right in let f = c.if-not-is_right.true in cc)
    entry.call (refl, refl)

pub next-state-requires : goal.next-state-requires
next-state-requires g c = c.loop-place.invariant.0

pub loop-place-preserved : goal.loop-place-preserved
loop-place-preserved g c =
    let object = g.O.WordObject.sequential c.args.object.now in
    let entry = slice_index_or c.args.entries.now c.loop-place.place no_entry in (
      c.next-state.ensures.fits,
      subst (AreRightTo object (map entry_shown c.args.entries.now) c.args.processes (c.loop-place.place + 1)) (sym c.next-state.ensures.value)
          (right-further object (map entry_shown c.args.entries.now) c.args.processes c.loop-place.place c.loop-place.state c.loop-place.invariant.1 (entry_shown entry)
          (shown_here c.args.entries.now c.loop-place.place no_entry c.loop-place-test.true) (c.is_right.ensures.0 c.if-not-is_right.false)),
    )

pub returns-clause-none : goal.returns-clause-none
returns-clause-none g c none =
    right-all (g.O.WordObject.sequential c.args.object.now) (map entry_shown c.args.entries.now) c.args.processes c.loop-place.place c.loop-place.state c.loop-place.invariant.1
    (let l = length-mapped entry_shown c.args.entries.now in let t = c.loop-place-test.false in omega arith)
