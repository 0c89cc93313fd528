use Rattle.uni_small.proofs.Vocabulary.{GoesBy, List, Reading, [], ap, append_assoc, arith, buffer_words, joined, length, length-append, rows, subst, sym, with_items_is, ℕ, ◌*◌, ◌++◌, ◌+◌, ◌∙◌, ◌≡◌}
use Rattle.uni_small.proofs.Rows.{joined-rows}
use Rattle.uni_small.proofs.Going.{stage_after, of_after, goes_zero, copied_more}
use Rattle.uni_small.proofs.log.SmallShared.load_copy.Goals as goal

pub copy_row-requires-2-clause-of : goal.copy_row-requires-2-clause-of
copy_row-requires-2-clause-of g c =
    let me = c.args.seat.now.me in
    let t = c.args.tries in
    let s = c.args.s in
    let g0 = goes_zero me (Reading t s [] []) c.requires.stage in
    let a = c.copy_row.new.row in
    let g1 = copied_more me me c.copy_row.new.seat.me 0 t s [] a g0 c.copy_row.ensures.goes in
    of_after me c.copy_row.new.seat.me (0 + length a) (Reading t s a []) g1 c.requires.of

pub copy_row-requires-2-clause-stage : goal.copy_row-requires-2-clause-stage
copy_row-requires-2-clause-stage g c =
    let me = c.args.seat.now.me in
    let t = c.args.tries in
    let s = c.args.s in
    let g0 = goes_zero me (Reading t s [] []) c.requires.stage in
    let a = c.copy_row.new.row in
    let g1 = copied_more me me c.copy_row.new.seat.me 0 t s [] a g0 c.copy_row.ensures.goes in
    let la = c.copy_row.auto.row ∙ ap (λ (xs : List ℕ). length xs) c.deref_mut.ensures.value ∙ c.requires.room.applied in
    (a, stage_after me c.copy_row.new.seat.me (0 + length a) (Reading t s a []) g1, la)

pub copy_row-requires-3-clause-of : goal.copy_row-requires-3-clause-of
copy_row-requires-3-clause-of g c =
    let me = c.args.seat.now.me in
    let t = c.args.tries in
    let s = c.args.s in
    let g0 = goes_zero me (Reading t s [] []) c.requires.stage in
    let a = c.copy_row.new.row in
    let g1 = copied_more me me c.copy_row.new.seat.me 0 t s [] a g0 c.copy_row.ensures.goes in
    let b = c.copy_row-2.new.row in
    let g2 = copied_more me c.copy_row.new.seat.me c.copy_row-2.new.seat.me (0 + length a) t s a b g1 c.copy_row-2.ensures.goes in
    of_after me c.copy_row-2.new.seat.me (0 + length a + length b) (Reading t s (a ++ b) []) g2 c.requires.of

pub copy_row-requires-3-clause-stage : goal.copy_row-requires-3-clause-stage
copy_row-requires-3-clause-stage g c =
    let me = c.args.seat.now.me in
    let t = c.args.tries in
    let s = c.args.s in
    let g0 = goes_zero me (Reading t s [] []) c.requires.stage in
    let a = c.copy_row.new.row in
    let g1 = copied_more me me c.copy_row.new.seat.me 0 t s [] a g0 c.copy_row.ensures.goes in
    let b = c.copy_row-2.new.row in
    let g2 = copied_more me c.copy_row.new.seat.me c.copy_row-2.new.seat.me (0 + length a) t s a b g1 c.copy_row-2.ensures.goes in
    let la = c.copy_row.auto.row ∙ ap (λ (xs : List ℕ). length xs) c.deref_mut.ensures.value ∙ c.requires.room.applied in
    let lb = c.copy_row-2.auto.row ∙ ap (λ (xs : List ℕ). length xs) c.deref_mut-2.ensures.value ∙ c.requires.room.reply in
    let lab = length-append a b in
    (a ++ b, stage_after me c.copy_row-2.new.seat.me (0 + length a + length b) (Reading t s (a ++ b) []) g2, omega arith)

pub returns-clause-goes : goal.returns-clause-goes
returns-clause-goes g c =
    let me = c.args.seat.now.me in
    let t = c.args.tries in
    let s = c.args.s in
    let g0 = goes_zero me (Reading t s [] []) c.requires.stage in
    let a = c.copy_row.new.row in
    let g1 = copied_more me me c.copy_row.new.seat.me 0 t s [] a g0 c.copy_row.ensures.goes in
    let b = c.copy_row-2.new.row in
    let g2 = copied_more me c.copy_row.new.seat.me c.copy_row-2.new.seat.me (0 + length a) t s a b g1 c.copy_row-2.ensures.goes in
    let d = c.copy_row-3.new.row in
    let g3 = copied_more me c.copy_row-2.new.seat.me c.copy_row-3.new.seat.me (0 + length a + length b) t s (a ++ b) d g2 c.copy_row-3.ensures.goes in
    let la = c.copy_row.auto.row ∙ ap (λ (xs : List ℕ). length xs) c.deref_mut.ensures.value ∙ c.requires.room.applied in
    let lb = c.copy_row-2.auto.row ∙ ap (λ (xs : List ℕ). length xs) c.deref_mut-2.ensures.value ∙ c.requires.room.reply in
    let ld = c.copy_row-3.auto.row ∙ ap (λ (xs : List ℕ). length xs) c.deref_mut-3.ensures.value ∙ c.requires.room.state in
    let wa = with_items_is c.args.room.now.applied a (c.copy_row.auto.row ∙ c.deref_mut.ensures.len) in
    let wb = with_items_is c.args.room.now.reply b (c.copy_row-2.auto.row ∙ c.deref_mut-2.ensures.len) in
    let wd = with_items_is c.args.room.now.state d (c.copy_row-3.auto.row ∙ c.deref_mut-3.ensures.len) in
    let sizes = c.args.self.now.setup.sizes in
    let wj = ap (λ ws. joined (rows sizes.processes sizes.reply ws)) wb ∙ joined-rows sizes.processes sizes.reply b lb in
    let here = ap (λ xs. Reading t s xs []) (append_assoc a b d) ∙ (λ i. Reading t s (sym wa i ++ (sym wj i ++ sym wd i)) []) in
    let count : 0 + length a + length b + length d ≡ sizes.processes + sizes.processes * sizes.reply + sizes.state = omega arith in
    subst (λ st. GoesBy me (buffer_words sizes) st c.copy_row-3.new.seat.me) here
    (subst (λ k. GoesBy me k (Reading t s ((a ++ b) ++ d) []) c.copy_row-3.new.seat.me) count g3)
