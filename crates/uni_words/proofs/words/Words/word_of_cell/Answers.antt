use Rattle.uni_words.proofs.Vocabulary.{ap, slice_index, sym, words_in, ◌*◌, ◌+◌, ◌∙◌}
use Rattle.uni_words.proofs.Reading.{slice_index-get, start_of-cells}
use Rattle.uni_words.proofs.words.Words.word_of_cell.Goals as goal

pub returns : goal.returns
returns c =
    let ws = c.args.self.now in
    slice_index-get (words_in ws) (2 * ws.n + c.args.column * (ws.n * ws.k + 1) + c.args.cell) c.word.result c.word.ensures
    ∙ ap (λ i. slice_index (words_in ws) (i + c.args.cell)) (sym (start_of-cells ws.n ws.k c.args.column))
