use Rattle.uni_script.proofs.Vocabulary.{Err, Failed, IfErr, Some, StopsWith, TooLong, TooMany, [], ap, append-nil, arith, drop, inl, inr, length, length-take-le, line_of, position, refl, rest_of, rules, subst, sym, take, ◌++◌, ◌+◌, ◌-◌, ◌<◌, ◌==◌, ◌∙◌, ◌∷◌, ◌≡◌, ◌≤◌}
use Rattle.uni_script.specs.declared.fault.BenchFault.TheVariants as fault
use Rattle.uni_script.proofs.Cutting.{end_of, end_is, none_is}
use Rattle.uni_script.proofs.Taking.{IsTaking-part, IsTaking-read, IsTaking-kept, IsOneLine-take, IsOneLine-all, split_at_end, line_of-none, line_of-apart, rest_of-none, rest_of-moved, line_of-length, rest_of-length, rest_of-all, HasTaken-line, HasTaken-last, HasStopped-end, HasStopped-failed, HasStopped-long, HasStopped-many, TakesOn-cases}
use Rattle.uni_script.proofs.lines.Lines.take.Goals as goal
use Rattle.uni_script.proofs.lines.Lines.take.Goals.{else-self-ge-MOST_LINES-via-then-self-ge-MOST_LINES+else-self, else-self-ge-MOST_LINES-via-else-self-ge-MOST_LINES}

pub returns-then-self-clause-fault : goal.returns-then-self-clause-fault
returns-then-self-clause-fault g c = (
  TooMany,
  refl,
  λ left lines has.
      let i = c.loop-self.invariant in
      let full = c.if-self-ge-MOST_LINES.true in
      let some = c.if-self.true in
      let same = i.3 in
      let most = i.0.count in
      let n = rest_of-length c.loop-self.self i.0 in
      let none : line_of c.loop-self.self ≡ [] = elim i.4 [ inl e ↦ line_of-none c.loop-self.self e | inr few ↦ absurd (omega arith) ] in
      HasStopped-many left _ _ c.args.self.now lines has i.2 (line_of c.loop-self.self) (rest_of c.loop-self.self) i.6 none (omega arith) (omega arith),
)

pub returns-in_err-add_end-clause-fault : goal.returns-in_err-add_end-clause-fault
returns-in_err-add_end-clause-fault g c =
    let i = c.loop-self.invariant in
    let self = c.loop-self.self in
    let long = c.in_err-add_end.ensures.long in
    let found = end_is (rest_of self) c.in-Some.at (sym c.in-Some.is ∙ i.7) in
    let inside = found.0 in
    let at = found.1 in
    let n = rest_of-length self i.0 in
    let w = line_of-length self i.0 in
    let over = long.1 in
    let width = i.0.width in
    let same = i.3 in
    let e : c.from_residual.result ≡ Err c.in_err-add_end.field-0.0 = search rules in
    subst (λ r. IfErr r (StopsWith (g.I.TextIn.remaining c.args.reader.now) (g.I.TextIn.remaining c.loop-self.reader) c.args.self.now)) (sym e) (
      TooLong,
      ap Some (sym (long.0 ∙ ap (λ n. fault.TooLong (n + 1)) same)),
      λ left lines has.
          (let few : c.args.self.now.count < 100000 = elim c.else-self-ge-MOST_LINES.branch [
            | else-self-ge-MOST_LINES-via-then-self-ge-MOST_LINES+else-self v ↦ (let none = v.if-self.false in absurd (omega arith))
            | else-self-ge-MOST_LINES-via-else-self-ge-MOST_LINES v ↦ (let f = v.if-self-ge-MOST_LINES.false in let h : c.args.self.now.count < 100000 = omega arith in h)
          ] in
          let k = 200 - self.width in
          let p = length-take-le k (rest_of self) (let f : k ≤ length (rest_of self) = omega arith in f) in
          HasStopped-long left _ _ c.args.self.now lines has i.2 (line_of self) (rest_of self) i.6 k (omega arith) (omega arith) few),
    )

pub returns-in-Some-clause-line : goal.returns-in-Some-clause-line
returns-in-Some-clause-line g c =
    let i = c.loop-self.invariant in
    let self = c.loop-self.self in
    let found = end_is (rest_of self) c.in-Some.at (sym c.in-Some.is ∙ i.7) in
    let inside = found.0 in
    let at = found.1 in
    let n = rest_of-length self i.0 in
    let kept = c.in_ok-add_end.ensures.kept in
    let moved = c.in_ok-add_end.ensures.moved in
    let after = c.add_end.new.self in
    let new = record after { start = after.start + 1; count = after.count + 1; next = c.end_of_line-self.result } in
    let part = take (end_of (rest_of self)) (rest_of self) in
    let left_over = drop (end_of (rest_of self) + 1) (rest_of self) in
    let grown : line_of after ≡ line_of self ++ part = c.in_ok-add_end.ensures.line ∙ ap (λ k. line_of self ++ take k (rest_of self)) at in
    let taking = IsTaking-part _ _ _ _ _ i.6 part (10 ∷ left_over) (line_of after) (IsOneLine-take (end_of (rest_of self)) (rest_of self) (omega arith)) (split_at_end (rest_of self) inside) grown in
    let start = moved.1 in
    let step : new.start ≡ self.start + (end_of (rest_of self) + 1) = omega arith in
    let ends = ap (λ l. 10 ∷ l) (sym (rest_of-moved self new (end_of (rest_of self) + 1) (omega arith) kept.0 kept.1 step)) in
    let counted = ap (λ k. k + 1) (kept.2 ∙ i.3) in
    (counted, λ left lines has. HasTaken-line left _ _ c.args.self.now lines has i.2 (line_of after) (10 ∷ left_over) taking new ends refl counted (kept.3 ∙ i.1))

pub returns-in_err-copy_part-clause-fault : goal.returns-in_err-copy_part-clause-fault
returns-in_err-copy_part-clause-fault g c =
    let i = c.loop-self.invariant in
    let self = c.loop-self.self in
    let long = c.in_err-copy_part.ensures.long in
    let none = none_is (rest_of self) (sym c.in_default.is ∙ i.7) in
    let n = rest_of-length self i.0 in
    let w = line_of-length self i.0 in
    let over = long.1 in
    let width = i.0.width in
    let same = i.3 in
    let e : c.from_residual-in_err-copy_part.result ≡ Err c.in_err-copy_part.field-0.0 = search rules in
    subst (λ r. IfErr r (StopsWith (g.I.TextIn.remaining c.args.reader.now) (g.I.TextIn.remaining c.loop-self.reader) c.args.self.now)) (sym e) (
      TooLong,
      ap Some (sym (long.0 ∙ ap (λ n. fault.TooLong (n + 1)) same)),
      λ left lines has.
          (let few : c.args.self.now.count < 100000 = elim c.else-self-ge-MOST_LINES.branch [
            | else-self-ge-MOST_LINES-via-then-self-ge-MOST_LINES+else-self v ↦ (let none = v.if-self.false in absurd (omega arith))
            | else-self-ge-MOST_LINES-via-else-self-ge-MOST_LINES v ↦ (let f = v.if-self-ge-MOST_LINES.false in let h : c.args.self.now.count < 100000 = omega arith in h)
          ] in
          let k = 200 - self.width in
          let p = length-take-le k (rest_of self) (let f : k ≤ length (rest_of self) = omega arith in f) in
          HasStopped-long left _ _ c.args.self.now lines has i.2 (line_of self) (rest_of self) i.6 k (omega arith) (omega arith) few),
    )

pub returns-in-Err-clause-fault : goal.returns-in-Err-clause-fault
returns-in-Err-clause-fault g c = (
  Failed,
  refl,
  λ left lines has.
      let i = c.loop-self.invariant in
      let self = c.loop-self.self in
      let none = none_is (rest_of self) (sym c.in_default.is ∙ i.7) in
      let after = c.copy_part.new.self in
      let grown : line_of after ≡ line_of self ++ rest_of self = c.in_ok-copy_part.ensures.line ∙ ap (λ l. line_of self ++ l) (rest_of-all self i.0) in
      let taking = IsTaking-part _ _ _ _ _ i.6 (rest_of self) [] (line_of after) (IsOneLine-all (rest_of self) none) (sym (append-nil (rest_of self))) grown in
      HasStopped-failed left _ _ c.args.self.now lines has i.2 (line_of after) [] (IsTaking-kept _ _ _ _ _ _ taking c.in-Err.ensures.bytes) refl,
)

pub returns-in-Ok-eq0-clause-line : goal.returns-in-Ok-eq0-clause-line
returns-in-Ok-eq0-clause-line g c =
    let i = c.loop-self.invariant in
    let self = c.loop-self.self in
    let none = none_is (rest_of self) (sym c.in_default.is ∙ i.7) in
    let after = c.copy_part.new.self in
    let kept = c.in_ok-copy_part.ensures.kept in
    let moved = c.in_ok-copy_part.ensures.moved in
    let start = moved.1 in
    let end = kept.1 in
    let held = i.0.start in
    let grown : line_of after ≡ line_of self ++ rest_of self = c.in_ok-copy_part.ensures.line ∙ ap (λ l. line_of self ++ l) (rest_of-all self i.0) in
    let taking = IsTaking-part _ _ _ _ _ i.6 (rest_of self) [] (line_of after) (IsOneLine-all (rest_of self) none) (sym (append-nil (rest_of self))) grown in
    let zero : c.in-Ok-eq0.field-0 ≡ 0 = search rules in
    let bytes = c.in-Ok-eq0.ensures.bytes in
    let read = IsTaking-read _ _ _ _ _ taking _ _ [] refl bytes.0 (ap (λ k. take k c.read.new.buffer) (sym zero)) in
    let at_end = bytes.1 zero (search rules) in
    let ended = c.take_last.ensures.ended in
    let w = line_of-length after c.in_ok-copy_part.ensures.held in
    let apart = c.in_ok-copy_part.ensures.apart in
    let same : line_of (record after { piece = c.read.new.buffer }) ≡ line_of after = line_of-apart (record after { piece = c.read.new.buffer }) apart ∙ sym (line_of-apart after apart) in
    TakesOn-cases _ _ c.args.self.now c.take_last.new.self c.take_last.result
    (λ e.
    let last = c.take_last.ensures.line e in
    let some = last.0 in
    let counted = last.1 ∙ ap (λ k. k + 1) (kept.3 ∙ i.3) in (
      counted,
      λ left lines has.
          HasTaken-last left _ _ c.args.self.now lines has i.2 (line_of after) [] read c.take_last.new.self refl (ap line_of ended ∙ same) (omega arith) counted (ap (λ l. l.source) ended)
          (ap rest_of ended ∙ rest_of-none (record after { piece = c.read.new.buffer }) (omega arith)) at_end,
    ))
    (λ e.
    let last = c.take_last.ensures.none e in (
      last.1 ∙ kept.3 ∙ i.3,
      λ left lines has. HasStopped-end left _ _ c.args.self.now lines has i.2 (line_of after) [] read (line_of-none after last.0) refl at_end,
    ))

pub loop-self-preserved : goal.loop-self-preserved
loop-self-preserved g c =
    let i = c.loop-self.invariant in
    let self = c.loop-self.self in
    let none = none_is (rest_of self) (sym c.in_default.is ∙ i.7) in
    let after = c.copy_part.new.self in
    let kept = c.in_ok-copy_part.ensures.kept in
    let moved = c.in_ok-copy_part.ensures.moved in
    let held = c.in_ok-copy_part.ensures.held in
    let wide = moved.0 in
    let counted = kept.3 in
    let grown : line_of after ≡ line_of self ++ rest_of self = c.in_ok-copy_part.ensures.line ∙ ap (λ l. line_of self ++ l) (rest_of-all self i.0) in
    let apart = c.in_ok-copy_part.ensures.apart in
    let new = record after { piece = c.read.new.buffer; start = 0; end = c.in-Ok.count; next = c.end_of_line-self-in-Ok.result } in
    let same : line_of new ≡ line_of after = line_of-apart new apart ∙ sym (line_of-apart after apart) in
    let taking = IsTaking-part _ _ _ _ _ i.6 (rest_of self) [] (line_of new) (IsOneLine-all (rest_of self) none) (sym (append-nil (rest_of self))) (same ∙ grown) in (
      search rules,
      kept.4 ∙ i.1,
      i.2,
      kept.3 ∙ i.3,
      elim c.else-self-ge-MOST_LINES.branch [
        | else-self-ge-MOST_LINES-via-then-self-ge-MOST_LINES+else-self v ↦ (let f = v.if-self.false in elim i.4 [ inl e ↦ inl (omega arith) | inr few ↦ inr (omega arith) ])
        | else-self-ge-MOST_LINES-via-else-self-ge-MOST_LINES v ↦ (let f = v.if-self-ge-MOST_LINES.false in inr (omega arith))
      ],
      c.in-Ok.ensures.ok ∙ i.5,
      IsTaking-read _ _ _ _ _ taking _ (take c.in-Ok.count c.read.new.buffer) _ refl c.in-Ok.ensures.bytes.0 (ap (λ k. take k c.read.new.buffer) (let e : c.in-Ok.count - 0 ≡ c.in-Ok.count = omega arith in e)),
      c.end_of_line-self-in-Ok.ensures,
      apart,
    )

pub returns-in-Err-clause-held : goal.returns-in-Err-clause-held
returns-in-Err-clause-held g c =
    let kept = c.in_ok-copy_part.ensures.kept in
    let moved = c.in_ok-copy_part.ensures.moved in
    let bounds = c.in_ok-copy_part.ensures.held in
    let start = moved.1 in
    let end = kept.1 in
    let held = c.loop-self.invariant.0.start in
    let apart = c.in_ok-copy_part.ensures.apart in
    let new = record c.copy_part.new.self { piece = c.read.new.buffer } in
    record { bounds = search rules; next = kept.2 ∙ c.in_default.is ∙ ap (position (λ b. b == 10)) (sym (rest_of-none new (omega arith))) }

pub returns-in-Ok-eq0-clause-held : goal.returns-in-Ok-eq0-clause-held
returns-in-Ok-eq0-clause-held g c =
    let kept = c.in_ok-copy_part.ensures.kept in
    let moved = c.in_ok-copy_part.ensures.moved in
    let bounds = c.in_ok-copy_part.ensures.held in
    let start = moved.1 in
    let end = kept.1 in
    let held = c.loop-self.invariant.0.start in
    let apart = c.in_ok-copy_part.ensures.apart in
    let ended = c.take_last.ensures.ended in
    let read = record c.copy_part.new.self { piece = c.read.new.buffer } in
    record { bounds = search rules; next = ap (λ l. l.next) ended ∙ kept.2 ∙ c.in_default.is ∙ sym (ap (λ l. position (λ b. b == 10) (rest_of l)) ended ∙ ap (position (λ b. b == 10)) (rest_of-none read (omega arith))) }
