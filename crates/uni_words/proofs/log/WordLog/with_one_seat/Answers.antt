use Rattle.uni_words.proofs.Vocabulary.{List, ShowsRun, [], arith, first_view, first_words, opening, subst, sym, ℕ, ◌∙◌, ◌≡◌}
use Rattle.uni_words.proofs.Opening.{opening_shows, words_made}
use Rattle.uni_words.proofs.log.WordLog.with_one_seat.Goals as goal

pub of_words-requires : goal.of_words-requires
of_words-requires g c =
    let n = c.args.n in
    let k = c.args.k in
    let object = g.O.WordObject.sequential c.args.object in
    let start = object.initial in
    let words : c.deref.result.now ≡ first_words n k start
    = c.deref.ensures.value ∙ words_made c.in_ok-words.words.items n k c.start-start.result start (c.in_ok-words.ensures.items_if_clones_equal (λ y same. same)) c.start-start.ensures.value in
    subst (λ (ws : List ℕ). ShowsRun object n k (opening {S = ℕ} ws [] (first_view n k))) (sym words)
    (opening_shows object n k (let a = c.start-start.ensures.value in let b = c.start-start.ensures.fits in omega arith))
