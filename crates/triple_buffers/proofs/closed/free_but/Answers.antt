use Rattle.std.proofs.Common.{slice_index_or}
use Rattle.std.specs.Mem.Slots.{slots_counts, slots_filled, slots_items, slots_len}
use Rattle.triple_buffers.proofs.Vocabulary.{None, ap, arith, false, get_or-set_other, get_or-set_same, inl, inr, number_cases, slice_set, sym, ◌<◌, ◌∙◌, ◌≡◌}
use Rattle.triple_buffers.proofs.Closing.{there}
use Rattle.triple_buffers.proofs.closed.free_but.Goals.{else-place-slot+in-None-1, else-place-slot+in-Some-1, then-place-slot}
use Rattle.triple_buffers.proofs.closed.free_but.Goals as goal

pub loop-place-preserved : goal.loop-place-preserved
loop-place-preserved g c =
    let was = c.loop-place.closed.slots in
    let i = c.loop-place.place in
    let kept = c.loop-place.invariant in
    let others = c.take-value.ensures.others in
    let long = (slots_counts was).1 in
    let inside : i < slots_len was = (let t = c.loop-place-test.true in let n = kept.count in let e = c.slot_count-place-end.ensures in omega arith) in
    let value : slice_index_or (slots_items c.args.closed.slots) i None ≡ c.take-value.result = ap (λ xs. slice_index_or xs i None) (sym kept.items) ∙ there (slots_items was) i c.take-value.result None c.take-value.ensures.value in
    record {
      full = λ k from below. ap (λ f. slice_index_or f k false) others.1 ∙ get_or-set_other (slots_filled was) i k false false (λ same. absurd (omega (arith, same, from))) ∙ kept.full k (omega (arith, from)) (let n = others.2 in omega (arith, below));
      empty = λ k below. ap (λ f. slice_index_or f k false) others.1 ∙ elim (number_cases k i) [
        | inl same ↦ ap (λ j. slice_index_or (slice_set (slots_filled was) i false) j false) same.0 ∙ get_or-set_same (slots_filled was) i false false (omega (arith, inside, long))
        | inr other ↦ get_or-set_other (slots_filled was) i k false false other.0 ∙ kept.empty k (let o = other.0 in omega (arith, below))
      ];
      count = others.2 ∙ kept.count;
      items = others.0 ∙ kept.items;
      before = λ early. elim c.if-place-slot.branch [
        | then-place-slot w ↦ absurd (let e = w.if-place-slot.true in omega (arith, early))
        | else-place-slot+in-Some-1 w ↦ w.kept-is ∙ kept.before (omega (arith, early))
        | else-place-slot+in-None-1 w ↦ w.kept-is ∙ kept.before (omega (arith, early))
      ];
      after = λ late. elim c.if-place-slot.branch [
        | then-place-slot w ↦ w.kept-is ∙ sym value ∙ ap (λ k. slice_index_or (slots_items c.args.closed.slots) k None) w.if-place-slot.true
        | else-place-slot+in-Some-1 w ↦ w.kept-is ∙ kept.after (let e = w.if-place-slot.false in omega (arith, late))
        | else-place-slot+in-None-1 w ↦ w.kept-is ∙ kept.after (let e = w.if-place-slot.false in omega (arith, late))
      ];
    }
