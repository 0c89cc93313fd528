use Rattle.unibench_run.proofs.Vocabulary.{Ok, [], ap, append_assoc, into_iter_items, map, map-append, sym, ◌++◌, ◌∙◌, ◌∷◌}
use Rattle.unibench_run.proofs.threads.all_done.Goals as goal

pub loop-one-preserved : goal.loop-one-preserved
loop-one-preserved g c =
    let all = c.loop-one.all.items in
    let rest = into_iter_items c.next.new.self in
    let taken = c.in-Some.ensures.steps.0 ∙ ap (λ one. one ∷ rest) c.in_ok-one.was in
    let pushed = ap (λ l. map Ok l) c.in_ok-push.ensures.items ∙ map-append Ok all (c.in_ok-one.one ∷ []) in
    c.loop-one.invariant ∙ ap (λ l. map Ok all ++ l) taken
    ∙ sym (append_assoc (map Ok all) (Ok c.in_ok-one.one ∷ []) rest)
    ∙ ap (λ l. l ++ rest) (sym pushed)
