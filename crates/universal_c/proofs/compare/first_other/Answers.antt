use Rattle.universal_c.proofs.Vocabulary.{AreTold, List, ap, arith, calls_by, entry_shown, length-mapped, map, no_entry, shown_here, slice_index_or, subst, sym, told-all, told-more, told-next, told-other, told-otherwise, told-start, ℕ, ◌+◌, ◌∙◌}
use Rattle.std.proofs.Common.{Option, slice_get}
use Rattle.uni_words.specs.Compare.{DiffersFirstAt}
use Rattle.universal_c.proofs.Called.{pair, as_told}
use Rattle.universal_c.proofs.compare.first_other.Goals.{then-entry-process+else-not-is_told, else-entry-process}
use Rattle.universal_c.proofs.compare.first_other.Goals as goal

pub loop-place-init : goal.loop-place-init
loop-place-init c = told-start c.args.process (map entry_shown c.args.entries.now) (map pair c.args.calls.now)

pub returns-then-not-is_told-clause-some : goal.returns-then-not-is_told-clause-some
returns-then-not-is_told-clause-some c =
    let log = map entry_shown c.args.entries.now in
    subst (λ (l : List (ℕ × Option ℕ)). DiffersFirstAt (calls_by c.args.process log) l c.loop-place.at) (as_told c.args.calls.now)
    (told-otherwise c.args.process log (map pair c.args.calls.now) c.loop-place.place c.loop-place.at c.loop-place.invariant
    (entry_shown (slice_index_or c.args.entries.now c.loop-place.place no_entry)) (shown_here c.args.entries.now c.loop-place.place no_entry c.loop-place-test.true)
    c.if-entry-process.true
    (λ same. let t = c.is_told.ensures.1 (ap (λ (l : List (ℕ × Option ℕ)). slice_get l c.loop-place.at) (sym (as_told c.args.calls.now)) ∙ same) in let f = c.if-not-is_told.true in cc))

pub loop-place-preserved : goal.loop-place-preserved
loop-place-preserved c =
    let log = map entry_shown c.args.entries.now in
    let calls = map pair c.args.calls.now in
    let entry = entry_shown (slice_index_or c.args.entries.now c.loop-place.place no_entry) in
    let here = shown_here c.args.entries.now c.loop-place.place no_entry c.loop-place-test.true in
    elim c.if-entry-process.branch [
      | then-entry-process+else-not-is_told w ↦ subst (AreTold c.args.process log calls (c.loop-place.place + 1)) (sym w.at-is)
          (told-next c.args.process log calls c.loop-place.place c.loop-place.at c.loop-place.invariant entry here w.if-entry-process.true
          (ap (λ (l : List (ℕ × Option ℕ)). slice_get l c.loop-place.at) (as_told c.args.calls.now) ∙ w.is_told.ensures.0 w.if-not-is_told.false))
      | else-entry-process w ↦ subst (AreTold c.args.process log calls (c.loop-place.place + 1)) (sym w.at-is)
          (told-other c.args.process log calls c.loop-place.place c.loop-place.at c.loop-place.invariant entry here w.if-entry-process.false)
    ]

pub returns-then-at-calls-clause-some : goal.returns-then-at-calls-clause-some
returns-then-at-calls-clause-some c =
    subst (λ (l : List (ℕ × Option ℕ)). DiffersFirstAt (calls_by c.args.process (map entry_shown c.args.entries.now)) l c.loop-place.at) (as_told c.args.calls.now)
    (told-more c.args.process (map entry_shown c.args.entries.now) (map pair c.args.calls.now) c.loop-place.place c.loop-place.at c.loop-place.invariant
    (let l = length-mapped entry_shown c.args.entries.now in let t = c.loop-place-test.false in omega arith)
    (let l = length-mapped pair c.args.calls.now in let t = c.if-at-calls.true in omega arith))

pub returns-else-at-calls-clause-none : goal.returns-else-at-calls-clause-none
returns-else-at-calls-clause-none c none =
    told-all c.args.process (map entry_shown c.args.entries.now) (map pair c.args.calls.now) c.loop-place.place c.loop-place.at c.loop-place.invariant
    (let l = length-mapped entry_shown c.args.entries.now in let t = c.loop-place-test.false in omega arith)
    (let l = length-mapped pair c.args.calls.now in let t = c.if-at-calls.false in omega arith)
    ∙ as_told c.args.calls.now
