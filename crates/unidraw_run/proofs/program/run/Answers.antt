use Rattle.unidraw_run.proofs.Vocabulary.{DisplayHelp, DisplayVersion, HasKind, IsDrawn, faults_of_words, inl, inr, map, not_of_kind, rules, subst, sym}
use Rattle.unidraw_run.proofs.CommandLine.{drawn_of_memory, memory_of_form, memory_of_request, told_of_fault}
use Rattle.unidraw_run.proofs.program.run.Goals as goal

pub returns-in-Err-clause-asked : goal.returns-in-Err-clause-asked
returns-in-Err-clause-asked g c = λ form asks.
    let has : HasKind (faults_of_words (map g.S.AsStr.text c.args.words.now)) c.in-Err.error = search rules in
    let four = c.answer_words.ensures.memory.0 (memory_of_form _ c.in-Err.error _ form has asks) in
    subst (λ end. IsDrawn form (g.I.TextIn.remaining c.args.input.now) (g.O.TextOut.contents c.args.output.now) (g.O.TextOut.contents end) c.answer_words.result) (sym (c.answer_words.ensures.kept four)) (drawn_of_memory form _ _ _ four)

pub returns-in-Err-clause-told : goal.returns-in-Err-clause-told
returns-in-Err-clause-told g c = λ request asks some.
    let has : HasKind (faults_of_words (map g.S.AsStr.text c.args.words.now)) c.in-Err.error = search rules in
    let four = c.answer_words.ensures.memory.0 (memory_of_request _ c.in-Err.error _ request has asks) in
    told_of_fault _ _ _ _ _ _ (c.answer_words.ensures.told four)

pub returns-in-Err-clause-refused : goal.returns-in-Err-clause-refused
returns-in-Err-clause-refused g c = λ none.
    let has : HasKind (faults_of_words (map g.S.AsStr.text c.args.words.now)) c.in-Err.error = search rules in
    c.answer_words.ensures.refused
    (not_of_kind _ c.in-Err.error DisplayHelp has (λ e. cc) (λ among. none.1 (inl among)))
    (not_of_kind _ c.in-Err.error DisplayVersion has (λ e. cc) (λ among. none.1 (inr among)))
