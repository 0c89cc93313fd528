use Rattle.uni_small.proofs.Vocabulary.{GoesBy, List, Reading, Stage, [], ap, append-nil, append_assoc, arith, length, length-append, length-take-le, refl, set, subst, suc, sym, take, take-length, take-suc-set, ℕ, ◌++◌, ◌+◌, ◌∙◌, ◌∷◌, ◌≡◌}
use Rattle.uni_small.proofs.Going.{goes_zero, stage_after, of_after, goes_on}
use Rattle.uni_small.proofs.log.SmallShared.copy_row.Goals as goal

abbrev reading : (tries s : ℕ) → List ℕ → Stage
reading tries s copy = Reading tries s copy []

pub loop-i-init : goal.loop-i-init
loop-i-init g c = (refl, refl, (λ copy stage. goes_zero c.args.seat.now.me (Reading c.args.tries c.args.s (copy ++ []) []) (stage ∙ ap (reading c.args.tries c.args.s) (sym (append-nil copy)))))

pub copy_word-requires-clause-table : goal.copy_word-requires-clause-table
copy_word-requires-clause-table g c = c.loop-i.invariant.0 ∙ c.requires.table

pub copy_word-requires-clause-of : goal.copy_word-requires-clause-of
copy_word-requires-clause-of g c =
    of_after c.args.seat.now.me c.loop-i.seat.me c.loop-i.i (reading c.args.tries c.args.s (c.requires.stage.0 ++ take c.loop-i.i c.loop-i.row)) (c.loop-i.invariant.2 c.requires.stage.0 c.requires.stage.1) c.requires.of

pub copy_word-requires-clause-stage : goal.copy_word-requires-clause-stage
copy_word-requires-clause-stage g c = (
  c.requires.stage.0 ++ take c.loop-i.i c.loop-i.row,
  stage_after c.args.seat.now.me c.loop-i.seat.me c.loop-i.i (reading c.args.tries c.args.s (c.requires.stage.0 ++ take c.loop-i.i c.loop-i.row)) (c.loop-i.invariant.2 c.requires.stage.0 c.requires.stage.1),
  (let a = length-append c.requires.stage.0 (take c.loop-i.i c.loop-i.row) in let b = length-take-le c.loop-i.i c.loop-i.row (omega arith) in let d = c.requires.stage.2 in omega arith),
)

pub loop-i-preserved : goal.loop-i-preserved
loop-i-preserved g c = (
  c.copy_word.ensures.same.0 ∙ c.loop-i.invariant.0,
  c.copy_word.ensures.same.1 ∙ c.loop-i.invariant.1,
  (λ copy stage.
      let row = c.loop-i.row in
      let i = c.loop-i.i in
      let was = c.loop-i.invariant.2 copy stage in
      let at = stage_after c.args.seat.now.me c.loop-i.seat.me i (reading c.args.tries c.args.s (copy ++ take i row)) was in
      let more : take (i + 1) (set row i c.copy_word.result) ≡ take i row ++ c.copy_word.result ∷ [] = ap (λ k. take k (set row i c.copy_word.result)) (let e : i + 1 ≡ suc i = omega arith in e) ∙ take-suc-set row i c.copy_word.result (omega arith) in
      let same : (copy ++ take i row) ++ c.copy_word.result ∷ [] ≡ copy ++ take (i + 1) (set row i c.copy_word.result) = append_assoc copy (take i row) (c.copy_word.result ∷ []) ∙ ap (λ xs. copy ++ xs) (sym more) in
      subst (λ xs. GoesBy c.args.seat.now.me (i + 1) (reading c.args.tries c.args.s xs) c.copy_word.new.seat.me) same
      (goes_on c.args.seat.now.me c.loop-i.seat.me i (reading c.args.tries c.args.s (copy ++ take i row)) was c.copy_word.new.seat.me (reading c.args.tries c.args.s ((copy ++ take i row) ++ c.copy_word.result ∷ [])) (c.copy_word.ensures.left (copy ++ take i row) at))),
)

pub returns-clause-goes : goal.returns-clause-goes
returns-clause-goes g c copy stage =
    let row = c.loop-i.row in
    let end : c.loop-i.i ≡ length row = (let t = c.loop-i-test.false in let e = c.loop-i.auto.i-end in omega arith) in
    let whole : take c.loop-i.i row ≡ row = ap (λ k. take k row) end ∙ take-length row in
    subst (λ k. GoesBy c.args.seat.now.me k (reading c.args.tries c.args.s (copy ++ row)) c.loop-i.seat.me) end
    (subst (λ xs. GoesBy c.args.seat.now.me c.loop-i.i (reading c.args.tries c.args.s (copy ++ xs)) c.loop-i.seat.me) whole (c.loop-i.invariant.2 copy stage))
