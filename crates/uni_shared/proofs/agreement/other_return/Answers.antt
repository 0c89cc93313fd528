use Rattle.uni_shared.proofs.Vocabulary.{Completed, Counts, [], ap, arith, completed_of, completed_of_process, drop, get_or, length, length-map, map, subst, sym, take-map, take_all, ◌++◌, ◌+◌, ◌<◌, ◌==◌, ◌∙◌, ◌∷◌, ◌≡◌, ◌≤◌}
use Rattle.uni_shared.proofs.Counting.{filter-take_more, get_or-completed, get_or-within}
use Rattle.uni_shared.proofs.Differing.{DiffersFirstAt-other, DiffersFirstAt-longer, filter-split, nat_eq-same}
use Rattle.uni_shared.proofs.agreement.other_return.Goals as goal

pub loop-i-preserved : goal.loop-i-preserved
loop-i-preserved g c =
    let i = c.loop-i.i in
    let returned = c.index-returns-i.result in
    let none : Counts = record { steps = 0; turns = 0 } in
    let count = get_or c.args.counts.now i none in
    let count_is = get_or-within c.args.counts.now i none count (let same = c.requires in omega arith) in (
      c.in-Some.ensures.within,
      λ calls by_return by_count. c.in-Some.ensures.next
          ∙ ap (λ l. l ++ completed_of_process c.args.p (record { returned = returned; counts = count } ∷ [])) (c.loop-i.invariant.1 calls by_return by_count)
          ∙ sym
          (filter-take_more (λ call. call.returned.call.process == c.args.p) calls i returned count (subst (λ l. i < length l) by_return c.loop-i-test.true) (subst (λ l. returned ≡ get_or l i returned) by_return c.index-returns-i.is)
          (subst (λ l. count ≡ get_or l i count) by_count count_is)),
    )

pub returns-in_default-clause-first : goal.returns-in_default-clause-first
returns-in_default-clause-first g c = λ calls by_return by_count.
    let i = c.loop-i.i in
    let returned = c.index-returns-i.result in
    let none : Counts = record { steps = 0; turns = 0 } in
    let count = get_or c.args.counts.now i none in
    let count_is = get_or-within c.args.counts.now i none count (let same = c.requires in omega arith) in
    let call : Completed g.row.O-Resp.Denot = record { returned = returned; counts = count } in
    let other = c.place_after_return.ensures.other c.in_default.is in
    let told = map completed_of c.args.receipts.now in
    let long = length-map c.args.receipts.now completed_of in
    let counted = length-map calls (λ (k : Completed g.row.O-Resp.Denot). k.returned) in
    let there = subst (λ l. i < length l) by_return c.loop-i-test.true in
    let rest = completed_of_process c.args.p (drop (i + 1) calls) in
    DiffersFirstAt-other told (completed_of_process c.args.p calls) c.loop-i.place call rest (let w = c.loop-i.invariant.0 in omega arith)
    (ap (λ l. l ++ call ∷ rest) (take-map completed_of c.loop-i.place c.args.receipts.now ∙ c.loop-i.invariant.1 calls by_return by_count)
    ∙ filter-split (λ k. k.returned.call.process == c.args.p) calls i call (omega arith)
    (get_or-completed calls i returned count (subst (λ l. returned ≡ get_or l i returned) by_return c.index-returns-i.is) (subst (λ l. count ≡ get_or l i count) by_count count_is))
    (nat_eq-same returned.call.process c.args.p other.0))
    other.1

pub returns-then-place-receipts-clause-first : goal.returns-then-place-receipts-clause-first
returns-then-place-receipts-clause-first g c = λ calls by_return by_count.
    let told = map completed_of c.args.receipts.now in
    let long = length-map c.args.receipts.now completed_of in
    let counted = length-map calls (λ (k : Completed g.row.O-Resp.Denot). k.returned) in
    let past = subst (λ l. length l ≤ c.loop-i.i) by_return (let t = c.loop-i-test.false in omega arith) in
    DiffersFirstAt-longer told (completed_of_process c.args.p calls) c.loop-i.place (let t = c.if-place-receipts.true in omega arith)
    (take-map completed_of c.loop-i.place c.args.receipts.now ∙ c.loop-i.invariant.1 calls by_return by_count
    ∙ ap (completed_of_process c.args.p) (take_all c.loop-i.i calls (omega arith)))
