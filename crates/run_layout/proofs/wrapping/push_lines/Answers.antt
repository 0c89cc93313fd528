use Rattle.run_layout.proofs.Vocabulary.{[], after_space, ap, arith, drop, fitting_len, length, lines_of, map, refl, rules, sym, take, ◌++◌, ◌+◌, ◌-◌, ◌<◌, ◌∙◌, ◌∷◌, ◌≡◌}
use Rattle.run_layout.proofs.Adding.{lines_of-empty, lines_of-none, lines_of-more, sliced_front, sliced_rest, added_first, added_all, map_pushed}
use Rattle.run_layout.proofs.wrapping.push_lines.Goals as goal

pub returns-then-is_empty-clause-lines : goal.returns-then-is_empty-clause-lines
returns-then-is_empty-clause-lines c =
    let empty : length c.loop-place.rest.now ≡ 0 = grind arith in
    added_all _ _ _ c.loop-place.invariant.rest (lines_of-empty _ _ _ empty)

pub loop-place-preserved : goal.loop-place-preserved
loop-place-preserved c =
    let full : 0 < length c.loop-place.rest.now = grind arith in
    let rest = c.loop-place.rest.now in
    let prefix : c.extend_from_slice.new.self.items ≡ take (fitting_len rest c.args.most) rest =
    sliced_front (c.fitting_len-prefix.result) (fitting_len rest c.args.most) rest c.extend_from_slice.new.self.items c.fitting_len-prefix.ensures.prefix (grind (arith, c.in_ok-extend_from_slice.ensures.items, c.new-line.ensures.items)) in
    let left : c.after_space-rest.result.now ≡ after_space (drop (fitting_len rest c.args.most) rest) =
    c.after_space-rest.ensures ∙ sliced_rest c.fitting_len-prefix.result (fitting_len rest c.args.most) rest c.fitting_len-prefix.ensures.prefix in
    let next : lines_of (200 - c.loop-place.place) c.args.most rest
    ≡ c.extend_from_slice.new.self.items ∷ lines_of (200 - (c.loop-place.place + 1)) c.args.most c.after_space-rest.result.now =
    lines_of-more (200 - c.loop-place.place) (200 - (c.loop-place.place + 1)) c.args.most rest full (omega arith)
    ∙ ap (λ l. l ∷ lines_of (200 - (c.loop-place.place + 1)) c.args.most (after_space (drop (fitting_len rest c.args.most) rest))) (sym prefix)
    ∙ ap (λ l. c.extend_from_slice.new.self.items ∷ lines_of (200 - (c.loop-place.place + 1)) c.args.most l) (sym left) in
    record {
      few = search rules;
      rest = added_first (map (λ line. line.items) c.loop-place.lines.items) _ (c.extend_from_slice.new.self.items ∷ []) _ _
          (ap (λ l. map (λ line. line.items) c.loop-place.lines.items ++ l) (sym next) ∙ c.loop-place.invariant.rest)
          (map_pushed (λ line. line.items) c.loop-place.lines.items c.push.new.self.items c.extend_from_slice.new.self _ c.in_ok-push.ensures.items refl);
    }

pub returns-clause-lines : goal.returns-clause-lines
returns-clause-lines c = added_all _ _ _ c.loop-place.invariant.rest (lines_of-none _ _ _ (omega arith))
