use Rattle.std.proofs.Common.{None, slice_index_or}
use Rattle.std.specs.Mem.Slots.{slots_items}
use Rattle.triple_buffers.proofs.Vocabulary.{ap, get_elem?, some, subst, ◌∙◌, ◌≡◌}
use Rattle.triple_buffers.proofs.Closing.{none_there, parts_inside, some_there}
use Rattle.triple_buffers.proofs.closed.ClosedBuffers.take.Goals as goal

pub slot-requires-clause-inside : goal.slot-requires-clause-inside
slot-requires-clause-inside g c =
    let parts = c.apart-party.result in
    let word = c.word-word.result in
    parts_inside parts c.args.self c.apart-party.ensures c.args.from c.requires.from word (subst (λ k. get_elem? (slots_items parts.2.words) k ≡ some word) c.word.ensures c.word-word.ensures)

pub returns-then-word-lt-FRESH : goal.returns-then-word-lt-FRESH
returns-then-word-lt-FRESH g c =
    let parts = c.apart-party.result in
    let word = c.word-word.result in
    none_there parts c.args.self c.apart-party.ensures c.args.from c.requires.from word (subst (λ k. get_elem? (slots_items parts.2.words) k ≡ some word) c.word.ensures c.word-word.ensures) c.if-word-lt-FRESH.true

pub returns : goal.returns
returns g c =
    let parts = c.apart-party.result in
    let word = c.word-word.result in
    c.free_but-value.ensures ∙ ap (λ k. slice_index_or (slots_items parts.2.slots) k None) c.slot.ensures
    ∙ some_there parts c.args.self c.apart-party.ensures c.args.from c.requires.from word (subst (λ k. get_elem? (slots_items parts.2.words) k ≡ some word) c.word.ensures c.word-word.ensures) c.if-word-lt-FRESH.false
