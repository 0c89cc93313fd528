use Rattle.uni_any.proofs.Vocabulary.{ap, arith, refl, slice_index_or, subst, sym, told_by, ◌∙◌, ◌≡◌}
use Rattle.std.proofs.Common.{Some}
use Rattle.std.specs.Arc.{arc_value}
use Rattle.std.specs.Prelude.{IsSome}
use Rattle.uni_any.specs.News.{version_as}
use Rattle.uni_any.specs.Seats.{processes_of, view_in}
use Rattle.uni_any.proofs.Attempts.{due_then, ended_as, inside_then, laying, told_then, tried_err, tried_then, wide, went, whole_then, word_then}
use Rattle.uni_any.proofs.seat.AnySeat.attempt.Goals as goal

pub answer-requires-clause-word : goal.answer-requires-clause-word
answer-requires-clause-word g c =
    let p = c.requires.pending in
    let k = c.requires.kept in
    let e = c.look-word.ensures in
    let h = e.looked (arc_value p.0) p.2.0 p.2.1 in
    (word_then g.O.SeqObject.sequential c.args.shared.now c.args.self.now c.look-word.new.self k c.requires.made.0 (e.same.0, e.same.1) (arc_value p.0) p.2.0 c.look-word.result h, inside_then g.O.SeqObject.sequential c.args.shared.now c.args.self.now c.look-word.new.self k c.requires.made.0 (e.same.0, e.same.1) (arc_value p.0) p.2.0 c.look-word.result h)

pub answer-requires-clause-whole : goal.answer-requires-clause-whole
answer-requires-clause-whole g c =
    let p = c.requires.pending in
    let e = c.look-word.ensures in
    whole_then g.O.SeqObject.sequential c.args.shared.now c.args.self.now c.look-word.new.self c.requires.kept c.requires.made.0 (e.same.0, e.same.1) (arc_value p.0) p.2.0 c.look-word.result (e.looked (arc_value p.0) p.2.0 p.2.1)

pub returns-in-Some-clause-tried : goal.returns-in-Some-clause-tried
returns-in-Some-clause-tried g c asked tries asked_is pending =
    let e = c.look-word.ensures in
    let some = c.in-Some.ensures.some in
    ended_as g.O.SeqObject.sequential c.args.shared.now c.args.self.now c.look-word.new.self c.requires.kept c.requires.made.0 (e.same.0, e.same.1) (arc_value asked) tries c.look-word.result (e.looked (arc_value asked) tries pending) c.in-Some.answer.reply c.in-Some.answer.version some.0 some.1 some.2

pub draft-requires-clause-word : goal.draft-requires-clause-word
draft-requires-clause-word g c =
    let p = c.requires.pending in
    let k = c.requires.kept in
    let e = c.look-word.ensures in
    let h = e.looked (arc_value p.0) p.2.0 p.2.1 in
    (word_then g.O.SeqObject.sequential c.args.shared.now c.args.self.now c.look-word.new.self k c.requires.made.0 (e.same.0, e.same.1) (arc_value p.0) p.2.0 c.look-word.result h, inside_then g.O.SeqObject.sequential c.args.shared.now c.args.self.now c.look-word.new.self k c.requires.made.0 (e.same.0, e.same.1) (arc_value p.0) p.2.0 c.look-word.result h, (let f = h.few in omega arith))

pub draft-requires-clause-whole : goal.draft-requires-clause-whole
draft-requires-clause-whole g c =
    let p = c.requires.pending in
    let e = c.look-word.ensures in
    whole_then g.O.SeqObject.sequential c.args.shared.now c.args.self.now c.look-word.new.self c.requires.kept c.requires.made.0 (e.same.0, e.same.1) (arc_value p.0) p.2.0 c.look-word.result (e.looked (arc_value p.0) p.2.0 p.2.1)

pub draft-requires-clause-own : goal.draft-requires-clause-own
draft-requires-clause-own g c =
    let p = c.requires.pending in
    let e = c.look-word.ensures in
    subst IsSome (sym (due_then g.O.SeqObject.sequential c.args.shared.now c.args.self.now c.look-word.new.self c.requires.kept c.requires.made.0 (e.same.0, e.same.1) (arc_value p.0) p.2.0 c.look-word.result (e.looked (arc_value p.0) p.2.0 p.2.1) c.in_default.ensures.none)) refl

pub returns-in_err-block-clause-tried : goal.returns-in_err-block-clause-tried
returns-in_err-block-clause-tried g c asked tries asked_is pending =
    let e = c.look-word.ensures in
    tried_err (view_in c.args.self.now) (view_in c.look-word.new.self) (arc_value asked) tries _ c.from_residual.result c.from_residual.ensures.0 tries (went g.O.SeqObject.sequential c.args.shared.now c.args.self.now c.look-word.new.self c.requires.kept c.requires.made.0 (e.same.0, e.same.1) (arc_value asked) tries c.look-word.result (e.looked (arc_value asked) tries pending) c.in_default.ensures.none)

pub returns-in_default-new-clause-tried : goal.returns-in_default-new-clause-tried
returns-in_default-new-clause-tried g c asked tries asked_is pending =
    let e = c.look-word.ensures in
    (tries, went g.O.SeqObject.sequential c.args.shared.now c.args.self.now c.look-word.new.self c.requires.kept c.requires.made.0 (e.same.0, e.same.1) (arc_value asked) tries c.look-word.result (e.looked (arc_value asked) tries pending) c.in_default.ensures.none)

pub returns-in_err-owners-clause-tried : goal.returns-in_err-owners-clause-tried
returns-in_err-owners-clause-tried g c asked tries asked_is pending =
    let e = c.look-word.ensures in
    tried_err (view_in c.args.self.now) (view_in c.look-word.new.self) (arc_value asked) tries _ c.from_residual-in_err-owners.result c.from_residual-in_err-owners.ensures.0 tries (went g.O.SeqObject.sequential c.args.shared.now c.args.self.now c.look-word.new.self c.requires.kept c.requires.made.0 (e.same.0, e.same.1) (arc_value asked) tries c.look-word.result (e.looked (arc_value asked) tries pending) c.in_default.ensures.none)

pub bring_in-requires-clause-word : goal.bring_in-requires-clause-word
bring_in-requires-clause-word g c =
    let p = c.requires.pending in
    let e = c.look-word.ensures in
    let h = e.looked (arc_value p.0) p.2.0 p.2.1 in
    (word_then g.O.SeqObject.sequential c.args.shared.now c.args.self.now c.look-word.new.self c.requires.kept c.requires.made.0 (e.same.0, e.same.1) (arc_value p.0) p.2.0 c.look-word.result h, (let f = h.few in omega arith))

pub bring_in-requires-clause-wide : goal.bring_in-requires-clause-wide
bring_in-requires-clause-wide g c =
    let p = c.requires.pending in
    let e = c.look-word.ensures in
    let block_is : version_as (arc_value c.in-Ok.block) ≡ _ = ap version_as c.in-Ok.ensures.ok ∙ c.in_ok-block.ensures in
    wide g.O.SeqObject.sequential c.args.shared.now c.args.self.now c.look-word.new.self c.requires.kept c.requires.made.0 (e.same.0, e.same.1) (arc_value p.0) p.2.0 c.look-word.result (e.looked (arc_value p.0) p.2.0 p.2.1) c.in_default.ensures.none e.kept (arc_value c.in-Ok.block) block_is

pub bring_in-requires-clause-owners : goal.bring_in-requires-clause-owners
bring_in-requires-clause-owners g c =
    let p = c.requires.pending in
    let e = c.look-word.ensures in
    let inv = arc_value p.0 in
    let tries = p.2.0 in
    let h = e.looked inv tries p.2.1 in
    let block_is : version_as (arc_value c.in-Ok.block) ≡ _ = ap version_as c.in-Ok.ensures.ok ∙ c.in_ok-block.ensures in
    let some : Some c.in-Some-asked.asked ≡ Some p.0 = sym c.in-Some-asked.is ∙ e.same.2 ∙ p.1 in
    let asked_is : c.in-Some-asked.asked ≡ p.0 = cc in
    let object = g.O.SeqObject.sequential in (
      c.in_ok-owners.ensures.long ∙ ap (λ k. k.processes) c.key.ensures,
      (
        inv,
        (
          tries,
          laying object c.args.shared.now c.args.self.now c.look-word.new.self c.requires.kept c.requires.made.0 (e.same.0, e.same.1) inv tries c.look-word.result h c.in_default.ensures.none e.kept (arc_value c.in-Ok.block) block_is,
          (λ k d inside. told_then object c.args.shared.now c.args.self.now c.look-word.new.self c.requires.kept c.requires.made.0 (e.same.0, e.same.1) inv tries c.look-word.result h c.in_default.ensures.none e.kept (arc_value c.in-Ok.block) block_is (arc_value c.in-Some-asked.asked) (ap arc_value asked_is) (told_by (slice_index_or c.in_ok-owners.owners.items k d)) (c.in_ok-owners.ensures.each k d inside)),
        ),
      ),
    )

pub returns-clause-tried : goal.returns-clause-tried
returns-clause-tried g c asked tries asked_is pending =
    let e = c.look-word.ensures in
    let inv = arc_value asked in
    let h = e.looked inv tries pending in
    let block_is : version_as (arc_value c.in-Ok.block) ≡ _ = ap version_as c.in-Ok.ensures.ok ∙ c.in_ok-block.ensures in
    let some : Some c.in-Some-asked.asked ≡ Some asked = sym c.in-Some-asked.is ∙ e.same.2 ∙ asked_is in
    let same_asked : c.in-Some-asked.asked ≡ asked = cc in
    let object = g.O.SeqObject.sequential in
    let on = went object c.args.shared.now c.args.self.now c.look-word.new.self c.requires.kept c.requires.made.0 (e.same.0, e.same.1) inv tries c.look-word.result h c.in_default.ensures.none in
    tried_then (view_in c.args.self.now) (view_in c.look-word.new.self) (view_in c.bring_in.new.self) _ on inv tries (processes_of c.args.shared.now) c.bring_in.result (c.bring_in.ensures.brought inv tries
    (laying object c.args.shared.now c.args.self.now c.look-word.new.self c.requires.kept c.requires.made.0 (e.same.0, e.same.1) inv tries c.look-word.result h c.in_default.ensures.none e.kept (arc_value c.in-Ok.block) block_is)
    (λ k d inside. told_then object c.args.shared.now c.args.self.now c.look-word.new.self c.requires.kept c.requires.made.0 (e.same.0, e.same.1) inv tries c.look-word.result h c.in_default.ensures.none e.kept (arc_value c.in-Ok.block) block_is (arc_value c.in-Some-asked.asked) (ap arc_value same_asked) (told_by (slice_index_or c.in_ok-owners.owners.items k d)) (c.in_ok-owners.ensures.each k d inside)))
