use Rattle.uni_small.proofs.Vocabulary.{Goes, GoesBy, List, None, Option, Reading, Seen, Some, [], ap, arith, length, looked, refl, seen_in, slice_index, subst, sym, true, with_items_is, ℕ, ◌++◌, ◌+◌, ◌<◌, ◌∙◌, ◌∷◌, ◌≡◌, ◌≤◌}
use Rattle.std.specs.Vec.{with_items}
use Rattle.uni_small.proofs.Rooms.{seen_due, seen_none}
use Rattle.uni_small.proofs.Going.{looked_same, looked_other, stage_after, of_after, goes_more}
use Rattle.uni_small.proofs.log.SmallShared.see.Goals as goal

pub ask_all-requires-clause-of : goal.ask_all-requires-clause-of
ask_all-requires-clause-of g c =
    let copy = c.requires.stage.0 in
    let seen = c.requires.stage.1.0 in
    of_after c.args.seat.now.me c.look-announced.new.seat.me 1 (Reading c.args.tries c.args.s copy (seen ++ looked copy (length seen) c.look-announced.result ∷ [])) (c.look-announced.ensures.left copy seen c.requires.stage.1.1) c.requires.of

pub ask_all-requires-clause-stage : goal.ask_all-requires-clause-stage
ask_all-requires-clause-stage g c =
    let copy = c.requires.stage.0 in
    let seen = c.requires.stage.1.0 in
    let here : slice_index copy (length seen) ≡ c.args.known = ap (slice_index copy) c.requires.stage.1.3 ∙ c.requires.known copy seen c.requires.stage.1.1 in
    let apart : slice_index copy (length seen) < c.look-announced.result = (let m = c.if-announced-known.false in omega arith) in (
      copy,
      (
        seen,
        (
          [],
          stage_after c.args.seat.now.me c.look-announced.new.seat.me 1 (Reading c.args.tries c.args.s copy (seen ++ looked copy (length seen) c.look-announced.result ∷ [])) (c.look-announced.ensures.left copy seen c.requires.stage.1.1)
              ∙ ap (λ o. Reading c.args.tries c.args.s copy (seen ++ o ∷ [])) (looked_other copy (length seen) c.look-announced.result apart),
          c.requires.stage.1.3,
          refl,
        ),
      ),
    )

pub returns-clause-goes : goal.returns-clause-goes
returns-clause-goes g c copy before stage =
    let t = c.args.tries in
    let s = c.args.s in
    let me = c.args.seat.now.me in
    let me1 = c.look-announced.new.seat.me in
    let found = c.look-announced.result in
    let words = c.ask_all.new.invocation in
    let e : Reading t s c.requires.stage.0 c.requires.stage.1.0 ≡ Reading t s copy before = sym c.requires.stage.1.1 ∙ stage in
    let before_is : c.requires.stage.1.0 ≡ before = cc in
    let here : slice_index copy (length before) ≡ c.args.known = ap (slice_index copy) (ap (λ (xs : List (Option (List ℕ))). length xs) (sym before_is) ∙ c.requires.stage.1.3) ∙ c.requires.known copy before stage in
    let apart : slice_index copy (length before) < found = (let m = c.if-announced-known.false in omega arith) in
    let first : Goes me (Reading t s copy (before ++ Some [] ∷ [])) me1 = subst (λ o. Goes me (Reading t s copy (before ++ o ∷ [])) me1) (looked_other copy (length before) found apart) (c.look-announced.ensures.left copy before stage) in
    let asked = c.ask_all.ensures.goes copy before (stage_after me me1 1 (Reading t s copy (before ++ Some [] ∷ [])) first) in
    let long : length words ≡ c.args.self.now.setup.sizes.invocation = c.ask_all.auto.invocation ∙ ap (λ (xs : List ℕ). length xs) c.deref_mut.ensures.value ∙ c.requires.room in
    let items : (with_items c.args.seen.now.invocation words).items ≡ words = with_items_is c.args.seen.now.invocation words (c.ask_all.auto.invocation ∙ c.deref_mut.ensures.len) in
    let now : Seen = record { due = true; invocation = with_items c.args.seen.now.invocation words } in
    let seen : seen_in now ≡ Some words = seen_due now refl ∙ ap Some items in (
      1 + length words,
      (omega arith),
      subst (λ o. GoesBy me (1 + length words) (Reading t s copy (before ++ o ∷ [])) c.ask_all.new.seat.me) (sym seen)
          (goes_more me me1 1 (Reading t s copy (before ++ Some [] ∷ [])) first c.ask_all.new.seat.me (length words) (Reading t s copy (before ++ Some words ∷ [])) asked),
    )

pub returns-then-announced-known-clause-goes : goal.returns-then-announced-known-clause-goes
returns-then-announced-known-clause-goes g c copy before stage =
    let t = c.args.tries in
    let s = c.args.s in
    let me = c.args.seat.now.me in
    let me1 = c.look-announced.new.seat.me in
    let found = c.look-announced.result in
    let e : Reading t s c.requires.stage.0 c.requires.stage.1.0 ≡ Reading t s copy before = sym c.requires.stage.1.1 ∙ stage in
    let before_is : c.requires.stage.1.0 ≡ before = cc in
    let here : slice_index copy (length before) ≡ c.args.known = ap (slice_index copy) (ap (λ (xs : List (Option (List ℕ))). length xs) (sym before_is) ∙ c.requires.stage.1.3) ∙ c.requires.known copy before stage in
    let same : found ≤ slice_index copy (length before) = (let m = c.if-announced-known.true in omega arith) in
    let seen : seen_in c.args.seen.now ≡ None = seen_none c.args.seen.now c.requires.none in (
      1,
      (omega arith),
      subst (λ o. GoesBy me 1 (Reading t s copy (before ++ o ∷ [])) me1) (looked_same copy (length before) found same ∙ sym seen) (c.look-announced.ensures.left copy before stage),
    )
