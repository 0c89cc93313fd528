use Rattle.uni_words.proofs.Vocabulary.{[], ap, arith, count_in, entry_shown, map, map-append, row_in, subst, sym, words_in, ◌+◌, ◌-◌, ◌∙◌, ◌∷◌}
use Rattle.uni_words.proofs.Reading.{IsAlong, along-anchor, along-full, along-last, along-cell, along-next}
use Rattle.uni_words.proofs.read.read_log.Goals as goal

pub loop-place-init : goal.loop-place-init
loop-place-init c =
    let ws = c.args.words.now in
    subst (λ l. IsAlong (count_in ws) (row_in ws) (words_in ws) ws.few.0 0 0 (map entry_shown l)) (sym c.new-entries.ensures.items)
    (along-anchor (count_in ws) (row_in ws) (words_in ws) ws.few.0 ws.cells ws.first)

pub word_of_cell-link-requires : goal.word_of_cell-link-requires
word_of_cell-link-requires c = (omega arith, c.loop-place.invariant.inside)

pub returns-then-link-eq0 : goal.returns-then-link-eq0
returns-then-link-eq0 c =
    let ws = c.args.words.now in
    record { log = along-last (count_in ws) (row_in ws) (words_in ws) ws.few.0 c.loop-place.place c.loop-place.at _ c.loop-place.invariant c.word_of_cell-link.result c.word_of_cell-link.ensures c.loop-place-test.true c.if-link-eq0.true }

pub entry-requires : goal.entry-requires
entry-requires c =
    let ws = c.args.words.now in
    along-cell (count_in ws) (row_in ws) (words_in ws) ws.few.0 c.loop-place.place c.loop-place.at _ c.loop-place.invariant c.word_of_cell-link.result c.word_of_cell-link.ensures c.loop-place-test.true c.if-link-eq0.false

pub loop-place-preserved : goal.loop-place-preserved
loop-place-preserved c =
    let ws = c.args.words.now in
    subst (λ l. IsAlong (count_in ws) (row_in ws) (words_in ws) ws.few.0 (c.loop-place.place + 1) (c.word_of_cell-link.result - 1) l)
    (sym (ap (map entry_shown) c.in_ok-push.ensures.items ∙ map-append entry_shown c.loop-place.entries.items (c.entry.result ∷ [])))
    (along-next (count_in ws) (row_in ws) (words_in ws) ws.few.0 c.loop-place.place c.loop-place.at _ c.loop-place.invariant c.word_of_cell-link.result c.word_of_cell-link.ensures c.loop-place-test.true c.if-link-eq0.false
    (entry_shown c.entry.result) c.entry.ensures.seq c.entry.ensures.call c.entry.ensures.reply)

pub returns : goal.returns
returns c =
    let ws = c.args.words.now in
    record { log = along-full (count_in ws) (row_in ws) (words_in ws) ws.few.0 c.loop-place.place c.loop-place.at _ c.loop-place.invariant (let t = c.loop-place-test.false in omega arith) }
