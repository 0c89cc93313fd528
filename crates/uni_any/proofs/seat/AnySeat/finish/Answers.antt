use Rattle.uni_any.proofs.Vocabulary.{IsPending, Reading, Ready, Some, ap, arith, inl, length, made_by, most_calls, subst, sym, ◌<◌, ◌∙◌, ◌≡◌}
use Rattle.std.specs.Arc.{arc_value}
use Rattle.uni_any.specs.Seats.{GoesOnTo, local_in, processes_of, view_in}
use Rattle.uni_any.proofs.Attempts.{ended_as, ended_later, few, finished_err, goes_later, inside_then, refused_first, tried_none, tried_some, went_twice, whole_then, word_then}
use Rattle.uni_any.proofs.seat.AnySeat.finish.Given as given
use Rattle.uni_any.proofs.seat.AnySeat.finish.Goals as goal

-- after an attempt that has failed, and after two
went_1 : (g : given.Over) (c : goal.After-attempt-arg-2-1 g) (asked : _) → c.args.self.now.asked ≡ Some asked → IsPending (arc_value asked) 0 (view_in c.args.self.now) → GoesOnTo (view_in c.args.self.now) (Ready (arc_value asked) 1) (view_in c.attempt.new.self)
went_1 g c asked asked_is pending =
    tried_none (view_in c.args.self.now) (view_in c.attempt.new.self) (arc_value asked) 0 (processes_of c.args.shared.now) c.attempt.result c.in_ok-first.first c.in_ok-first.was c.in_default.is (c.attempt.ensures.tried asked 0 asked_is pending)

pub returns-in_err-first-clause-finished : goal.returns-in_err-first-clause-finished
returns-in_err-first-clause-finished g c asked asked_is pending =
    let v = view_in c.args.self.now in
    let w = view_in c.attempt.new.self in
    let n = processes_of c.args.shared.now in
    finished_err v w (arc_value asked) n c.from_residual.result c.from_residual.ensures.0 (refused_first v w (arc_value asked) 0 n c.attempt.result c.in_err-first.field-0.0 c.in_err-first.was (c.attempt.ensures.tried asked 0 asked_is pending))

pub returns-in-Some-clause-finished : goal.returns-in-Some-clause-finished
returns-in-Some-clause-finished g c asked asked_is pending =
    tried_some (view_in c.args.self.now) (view_in c.attempt.new.self) (arc_value asked) 0 (processes_of c.args.shared.now) c.attempt.result c.in_ok-first.first c.in-Some.answer c.in_ok-first.was c.in-Some.is (c.attempt.ensures.tried asked 0 asked_is pending)

pub attempt-requires-2-clause-made : goal.attempt-requires-2-clause-made
attempt-requires-2-clause-made g c =
    let p = c.requires.pending in
    let on = went_1 g c p.0 p.1 p.2 in
    let same = c.attempt.ensures.same in
    (ap (λ xs. length xs) on.own ∙ c.requires.made.0 ∙ sym same.1, subst (λ k. k < most_calls) (sym same.1) c.requires.made.1)

pub attempt-requires-2-clause-pending : goal.attempt-requires-2-clause-pending
attempt-requires-2-clause-pending g c =
    let p = c.requires.pending in
    let on = went_1 g c p.0 p.1 p.2 in
    (p.0, c.attempt.ensures.same.2 ∙ p.1, (1, inl on.stage_is))

pub returns-in_err-second-clause-finished : goal.returns-in_err-second-clause-finished
returns-in_err-second-clause-finished g c asked asked_is pending =
    let v = view_in c.args.self.now in
    let w = view_in c.attempt.new.self in
    let u = view_in c.attempt-2.new.self in
    let n = processes_of c.args.shared.now in
    let inv = arc_value asked in
    let on : GoesOnTo v (Ready inv 1) w = tried_none v w inv 0 n c.attempt.result c.in_ok-first.first c.in_ok-first.was c.in_default.is (c.attempt.ensures.tried asked 0 asked_is pending) in
    let r = refused_first w u inv 1 n c.attempt-2.result c.in_err-second.field-0.0 c.in_err-second.was (c.attempt-2.ensures.tried asked 1 (c.attempt.ensures.same.2 ∙ asked_is) (inl on.stage_is)) in
    finished_err v u inv n c.from_residual-in_err-second.result c.from_residual-in_err-second.ensures.0 (r.0, goes_later v w u (Ready inv 1) on (Reading inv r.0 n) r.1)

pub returns-in-Some-second-clause-finished : goal.returns-in-Some-second-clause-finished
returns-in-Some-second-clause-finished g c asked asked_is pending =
    let v = view_in c.args.self.now in
    let w = view_in c.attempt.new.self in
    let u = view_in c.attempt-2.new.self in
    let n = processes_of c.args.shared.now in
    let inv = arc_value asked in
    let on : GoesOnTo v (Ready inv 1) w = tried_none v w inv 0 n c.attempt.result c.in_ok-first.first c.in_ok-first.was c.in_default.is (c.attempt.ensures.tried asked 0 asked_is pending) in
    ended_later v w u (Ready inv 1) on inv c.in-Some-second.answer.reply c.in-Some-second.answer.version
    (tried_some w u inv 1 n c.attempt-2.result c.in_ok-second.second c.in-Some-second.answer c.in_ok-second.was c.in-Some-second.is (c.attempt-2.ensures.tried asked 1 (c.attempt.ensures.same.2 ∙ asked_is) (inl on.stage_is)))

pub look-word-requires-clause-pending : goal.look-word-requires-clause-pending
look-word-requires-clause-pending g c =
    let p = c.requires.pending in
    let inv = arc_value p.0 in
    let on : GoesOnTo (view_in c.args.self.now) (Ready inv 2) (view_in c.attempt-2.new.self) = went_twice (view_in c.args.self.now) (view_in c.attempt.new.self) (view_in c.attempt-2.new.self) inv (processes_of c.args.shared.now) c.attempt.result c.attempt-2.result c.in_ok-first.first c.in_ok-second.second c.in_ok-first.was c.in_default.is (c.attempt.ensures.tried p.0 0 p.1 p.2) c.in_ok-second.was c.in_default-second.is (c.attempt-2.ensures.tried p.0 1 (c.attempt.ensures.same.2 ∙ p.1)) in
    (inv, (2, inl on.stage_is))

pub answer-requires-clause-word : goal.answer-requires-clause-word
answer-requires-clause-word g c =
    let p = c.requires.pending in
    let inv = arc_value p.0 in
    let on : GoesOnTo (view_in c.args.self.now) (Ready inv 2) (view_in c.attempt-2.new.self) = went_twice (view_in c.args.self.now) (view_in c.attempt.new.self) (view_in c.attempt-2.new.self) inv (processes_of c.args.shared.now) c.attempt.result c.attempt-2.result c.in_ok-first.first c.in_ok-second.second c.in_ok-first.was c.in_default.is (c.attempt.ensures.tried p.0 0 p.1 p.2) c.in_ok-second.was c.in_default-second.is (c.attempt-2.ensures.tried p.0 1 (c.attempt.ensures.same.2 ∙ p.1)) in
    let e = c.look-word.ensures in
    let h = e.looked inv 2 (inl on.stage_is) in
    let made_2 : made_by (local_in c.attempt-2.new.self) ≡ c.attempt-2.new.self.made = ap (λ xs. length xs) on.own ∙ c.requires.made.0 ∙ sym (c.attempt-2.ensures.same.1 ∙ c.attempt.ensures.same.1) in
    (word_then g.O.SeqObject.sequential c.args.shared.now c.attempt-2.new.self c.look-word.new.self c.attempt-2.ensures.kept made_2 (e.same.0, e.same.1) inv 2 c.look-word.result h, inside_then g.O.SeqObject.sequential c.args.shared.now c.attempt-2.new.self c.look-word.new.self c.attempt-2.ensures.kept made_2 (e.same.0, e.same.1) inv 2 c.look-word.result h)

pub answer-requires-clause-whole : goal.answer-requires-clause-whole
answer-requires-clause-whole g c =
    let p = c.requires.pending in
    let inv = arc_value p.0 in
    let on : GoesOnTo (view_in c.args.self.now) (Ready inv 2) (view_in c.attempt-2.new.self) = went_twice (view_in c.args.self.now) (view_in c.attempt.new.self) (view_in c.attempt-2.new.self) inv (processes_of c.args.shared.now) c.attempt.result c.attempt-2.result c.in_ok-first.first c.in_ok-second.second c.in_ok-first.was c.in_default.is (c.attempt.ensures.tried p.0 0 p.1 p.2) c.in_ok-second.was c.in_default-second.is (c.attempt-2.ensures.tried p.0 1 (c.attempt.ensures.same.2 ∙ p.1)) in
    let e = c.look-word.ensures in
    let h = e.looked inv 2 (inl on.stage_is) in
    let made_2 : made_by (local_in c.attempt-2.new.self) ≡ c.attempt-2.new.self.made = ap (λ xs. length xs) on.own ∙ c.requires.made.0 ∙ sym (c.attempt-2.ensures.same.1 ∙ c.attempt.ensures.same.1) in
    whole_then g.O.SeqObject.sequential c.args.shared.now c.attempt-2.new.self c.look-word.new.self c.attempt-2.ensures.kept made_2 (e.same.0, e.same.1) inv 2 c.look-word.result h

pub unreachable-requires : goal.unreachable-requires
unreachable-requires g c =
    let p = c.requires.pending in
    let inv = arc_value p.0 in
    let on : GoesOnTo (view_in c.args.self.now) (Ready inv 2) (view_in c.attempt-2.new.self) = went_twice (view_in c.args.self.now) (view_in c.attempt.new.self) (view_in c.attempt-2.new.self) inv (processes_of c.args.shared.now) c.attempt.result c.attempt-2.result c.in_ok-first.first c.in_ok-second.second c.in_ok-first.was c.in_default.is (c.attempt.ensures.tried p.0 0 p.1 p.2) c.in_ok-second.was c.in_default-second.is (c.attempt-2.ensures.tried p.0 1 (c.attempt.ensures.same.2 ∙ p.1)) in
    let e = c.look-word.ensures in
    let h = e.looked inv 2 (inl on.stage_is) in
    let made_2 : made_by (local_in c.attempt-2.new.self) ≡ c.attempt-2.new.self.made = ap (λ xs. length xs) on.own ∙ c.requires.made.0 ∙ sym (c.attempt-2.ensures.same.1 ∙ c.attempt.ensures.same.1) in
    absurd (let f = few g.O.SeqObject.sequential c.args.shared.now c.attempt-2.new.self c.look-word.new.self c.attempt-2.ensures.kept made_2 (e.same.0, e.same.1) inv 2 c.look-word.result h c.in_default-answer.ensures.none in omega (arith, f))

pub returns-clause-finished : goal.returns-clause-finished
returns-clause-finished g c asked asked_is pending =
    let inv = arc_value asked in
    let on : GoesOnTo (view_in c.args.self.now) (Ready inv 2) (view_in c.attempt-2.new.self) = went_twice (view_in c.args.self.now) (view_in c.attempt.new.self) (view_in c.attempt-2.new.self) inv (processes_of c.args.shared.now) c.attempt.result c.attempt-2.result c.in_ok-first.first c.in_ok-second.second c.in_ok-first.was c.in_default.is (c.attempt.ensures.tried asked 0 asked_is pending) c.in_ok-second.was c.in_default-second.is (c.attempt-2.ensures.tried asked 1 (c.attempt.ensures.same.2 ∙ asked_is)) in
    let e = c.look-word.ensures in
    let h = e.looked inv 2 (inl on.stage_is) in
    let made_2 : made_by (local_in c.attempt-2.new.self) ≡ c.attempt-2.new.self.made = ap (λ xs. length xs) on.own ∙ c.requires.made.0 ∙ sym (c.attempt-2.ensures.same.1 ∙ c.attempt.ensures.same.1) in
    let some = c.in-Some-answer.ensures.some in
    let a = c.in-Some-answer.answer in
    ended_later (view_in c.args.self.now) (view_in c.attempt-2.new.self) (view_in c.look-word.new.self) (Ready inv 2) on inv a.reply a.version (ended_as g.O.SeqObject.sequential c.args.shared.now c.attempt-2.new.self c.look-word.new.self c.attempt-2.ensures.kept made_2 (e.same.0, e.same.1) inv 2 c.look-word.result h a.reply a.version some.0 some.1 some.2)
