use Rattle.uni_small.proofs.Vocabulary.{List, Seen, ShowsBoard, [], ap, append-nil, append_assoc, arith, first_image, first_view, joined, length, opening, replicate, spell, subst, suc, sym, words_before, ℕ, ◌*◌, ◌++◌, ◌+◌, ◌∙◌, ◌≡◌}
use Rattle.uni_small.proofs.Opening.{copies_more, made_length, made_words, opening_shows}
use Rattle.uni_small.proofs.log.SmallShared.with_one_seat.Goals as goal

pub loop-init : goal.loop-init
loop-init g c = c.in_ok-words.ensures.items_if_clones_equal (λ y same. same) ∙ sym (append-nil (replicate (words_before c.args.sizes) 0))

pub loop-preserved : goal.loop-preserved
loop-preserved g c =
    let first = c.in_ok-first.first.items in
    c.in_ok-extend_from_slice.ensures.items ∙ (λ k. c.loop.invariant k ++ c.deref.ensures.value k)
    ∙ append_assoc (replicate (words_before c.args.sizes) 0) (joined (replicate c.loop.counter first)) first
    ∙ ap (λ l. replicate (words_before c.args.sizes) 0 ++ l) (copies_more first c.loop.counter)
    ∙ ap (λ k. replicate (words_before c.args.sizes) 0 ++ joined (replicate k first)) (let e : suc c.loop.counter ≡ c.loop.counter + 1 = omega arith in e)

pub of_words-requires : goal.of_words-requires
of_words-requires g c =
    let sizes = c.args.sizes in
    let meaning = g.O.SmallObject.meaning in
    let all : c.loop.counter ≡ 2 * sizes.processes = (let t = c.loop-test.false in let e = c.loop.auto.counter-end in omega arith) in
    let words : c.deref-2.result.now ≡ made_words sizes (spell (first_image (meaning c.args.object).object sizes))
    = c.deref-2.ensures.value ∙ c.loop.invariant ∙ (λ k. replicate (words_before sizes) 0 ++ joined (replicate (all k) (c.in_ok-first.ensures k))) in
    subst (λ (ws : List ℕ). ShowsBoard meaning c.args.object sizes (opening {S = Seen} ws [] (first_view meaning c.args.object sizes))) (sym words)
    (opening_shows meaning c.args.object sizes c.requires.widths c.requires.few.0 c.requires.wide)

pub invariant_of-result-clause-sized : goal.invariant_of-result-clause-sized
invariant_of-result-clause-sized g c =
    let sizes = c.args.sizes in
    let all : c.loop.counter ≡ 2 * sizes.processes = (let t = c.loop-test.false in let e = c.loop.auto.counter-end in omega arith) in
    c.in_ok-table.ensures.0 ∙ ap (λ (ws : List ℕ). length ws) (c.deref-2.ensures.value ∙ c.loop.invariant ∙ (λ k. replicate (words_before sizes) 0 ++ joined (replicate (all k) (c.in_ok-first.ensures k))))
    ∙ made_length (g.O.SmallObject.meaning c.args.object).object sizes c.requires.few.0 c.requires.wide
