use Rattle.uni_words.proofs.Vocabulary.{arith, entry_shown, map, slice_index_or, subst, sym, ◌+◌}
use Rattle.uni_words.proofs.Comparing.{AreTold, no_entry, told-start, told-more, told-all, told-other, told-next, told-otherwise, shown_here, length-mapped}
use Rattle.uni_words.proofs.compare.first_other.Goals.{then-entry-process+else-not-is_told, else-entry-process}
use Rattle.uni_words.proofs.compare.first_other.Goals as goal

pub loop-place-init : goal.loop-place-init
loop-place-init c = told-start c.args.process (map entry_shown c.args.entries.now) c.args.own.now

pub returns-then-not-is_told-clause-some : goal.returns-then-not-is_told-clause-some
returns-then-not-is_told-clause-some c =
    told-otherwise c.args.process (map entry_shown c.args.entries.now) c.args.own.now c.loop-place.place c.loop-place.at c.loop-place.invariant
    (entry_shown (slice_index_or c.args.entries.now c.loop-place.place no_entry)) (shown_here c.args.entries.now c.loop-place.place no_entry c.loop-place-test.true)
    c.if-entry-process.true (λ same. let t = c.is_told.ensures.1 same in let f = c.if-not-is_told.true in cc)

pub loop-place-preserved : goal.loop-place-preserved
loop-place-preserved c =
    let log = map entry_shown c.args.entries.now in
    let entry = entry_shown (slice_index_or c.args.entries.now c.loop-place.place no_entry) in
    let here = shown_here c.args.entries.now c.loop-place.place no_entry c.loop-place-test.true in
    elim c.if-entry-process.branch [
      | then-entry-process+else-not-is_told w ↦ subst (AreTold c.args.process log c.args.own.now (c.loop-place.place + 1)) (sym w.at-is)
          (told-next c.args.process log c.args.own.now c.loop-place.place c.loop-place.at c.loop-place.invariant entry here w.if-entry-process.true (w.is_told.ensures.0 w.if-not-is_told.false))
      | else-entry-process w ↦ subst (AreTold c.args.process log c.args.own.now (c.loop-place.place + 1)) (sym w.at-is)
          (told-other c.args.process log c.args.own.now c.loop-place.place c.loop-place.at c.loop-place.invariant entry here w.if-entry-process.false)
    ]

pub returns-then-at-own-clause-some : goal.returns-then-at-own-clause-some
returns-then-at-own-clause-some c =
    told-more c.args.process (map entry_shown c.args.entries.now) c.args.own.now c.loop-place.place c.loop-place.at c.loop-place.invariant
    (let l = length-mapped entry_shown c.args.entries.now in let t = c.loop-place-test.false in omega arith) c.if-at-own.true

pub returns-else-at-own-clause-none : goal.returns-else-at-own-clause-none
returns-else-at-own-clause-none c none =
    told-all c.args.process (map entry_shown c.args.entries.now) c.args.own.now c.loop-place.place c.loop-place.at c.loop-place.invariant
    (let l = length-mapped entry_shown c.args.entries.now in let t = c.loop-place-test.false in omega arith) (let t = c.if-at-own.false in omega arith)
