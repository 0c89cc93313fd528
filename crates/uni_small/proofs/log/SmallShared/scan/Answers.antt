use Rattle.uni_small.proofs.Vocabulary.{All-set, GoesBy, HasInvocation, IsQuietOutside, List, None, Reading, Seen, [], ap, arith, due_at, get_or-set_other, get_or_append_left, length, length-map, length-set, length-take-le, map, map_push, refl, seen_in, set, slice_index, subst, suc, suc-mul, sym, take, take-length, take_more_set, ℕ, ◌*◌, ◌++◌, ◌+◌, ◌<◌, ◌∙◌, ◌∷◌, ◌≡◌, ◌≢◌}
use Rattle.uni_small.proofs.Lists.{due-elsewhere, due-none}
use Rattle.uni_small.proofs.Rooms.{none_due, seen_none, whole_seen}
use Rattle.uni_small.specs.declared.span.Span.{Span}
use Rattle.uni_small.proofs.Going.{goes_zero, stage_after, of_after, goes_more}
use Rattle.uni_small.proofs.log.SmallShared.scan.Goals.{else-due, then-due}
use Rattle.uni_small.proofs.log.SmallShared.scan.Goals as goal

-- what was seen of the first processes with one more
module _ (seen : List Seen) (r : ℕ) (below : r < length seen) (new : Seen) where
  one_more : map seen_in (take (r + 1) (set seen r new)) ≡ map seen_in (take r seen) ++ seen_in new ∷ []
  one_more = ap (map seen_in) (take_more_set seen r new below) ∙ map_push seen_in (take r seen) new

  -- of the others it is as it was
  due_of_others : (q : ℕ) → q ≢ r → due_at (map seen_in (take (r + 1) (set seen r new))) q ≡ due_at (map seen_in (take r seen)) q
  due_of_others q apart =
      let long : length (map seen_in (take r seen)) ≡ r = length-map (take r seen) seen_in ∙ length-take-le r seen (omega arith) in
      ap (λ xs. due_at xs q) one_more ∙ due-elsewhere (map seen_in (take r seen)) (seen_in new) q (λ same. apart (same ∙ long))

  -- and of all, where that one has no call to apply
  due_of_nobody : seen_in new ≡ None → (q : ℕ) → due_at (map seen_in (take (r + 1) (set seen r new))) q ≡ due_at (map seen_in (take r seen)) q
  due_of_nobody none q = ap (λ xs. due_at xs q) one_more ∙ ap (λ o. due_at (map seen_in (take r seen) ++ o ∷ []) q) none ∙ due-none (map seen_in (take r seen)) q

pub loop-r-init : goal.loop-r-init
loop-r-init g c = (
  refl,
  refl,
  (λ copy stage. (0, (omega arith), goes_zero c.args.seat.now.me (Reading c.args.tries c.args.s copy []) stage)),
  c.requires.room,
  (omega arith),
  (omega arith),
  (λ q beside. refl),
  (λ q x from below. none_due c.args.seen.now q x below (c.requires.none q)),
)

pub see-due-requires-clause-table : goal.see-due-requires-clause-table
see-due-requires-clause-table g c = c.loop-r.invariant.0 ∙ c.requires.table

pub see-due-requires-clause-of : goal.see-due-requires-clause-of
see-due-requires-clause-of g c =
    let copy : List ℕ = c.args.applied.now ++ c.requires.stage.0 in
    let was = c.loop-r.invariant.2 copy c.requires.stage.1 in
    of_after c.args.seat.now.me c.loop-r.seat.me was.0 (Reading c.args.tries c.args.s copy (map seen_in (take c.loop-r.r c.loop-r.seen))) was.2 c.requires.of

pub see-due-requires-clause-stage : goal.see-due-requires-clause-stage
see-due-requires-clause-stage g c =
    let copy : List ℕ = c.args.applied.now ++ c.requires.stage.0 in
    let was = c.loop-r.invariant.2 copy c.requires.stage.1 in (
      copy,
      (
        map seen_in (take c.loop-r.r c.loop-r.seen),
        stage_after c.args.seat.now.me c.loop-r.seat.me was.0 (Reading c.args.tries c.args.s copy (map seen_in (take c.loop-r.r c.loop-r.seen))) was.2,
        c.requires.stage.2,
        length-map (take c.loop-r.r c.loop-r.seen) seen_in ∙ length-take-le c.loop-r.r c.loop-r.seen (omega arith),
        whole_seen c.args.self.now.setup.sizes c.loop-r.seen c.loop-r.invariant.3 c.loop-r.r,
      ),
    )

pub see-due-requires-clause-known : goal.see-due-requires-clause-known
see-due-requires-clause-known g c copy' seen' stage' =
    let copy : List ℕ = c.args.applied.now ++ c.requires.stage.0 in
    let was = c.loop-r.invariant.2 copy c.requires.stage.1 in
    let at = stage_after c.args.seat.now.me c.loop-r.seat.me was.0 (Reading c.args.tries c.args.s copy (map seen_in (take c.loop-r.r c.loop-r.seen))) was.2 in
    let e : Reading c.args.tries c.args.s copy (map seen_in (take c.loop-r.r c.loop-r.seen)) ≡ Reading c.args.tries c.args.s copy' seen' = sym at ∙ stage' in
    let same : copy ≡ copy' = cc in
    ap (λ xs. slice_index xs c.loop-r.r) (sym same) ∙ get_or_append_left c.args.applied.now c.requires.stage.0 0 c.loop-r.r (omega arith)

pub loop-r-preserved : goal.loop-r-preserved
loop-r-preserved g c = (
  c.see-due.ensures.same.0 ∙ c.loop-r.invariant.0,
  c.see-due.ensures.same.1 ∙ c.loop-r.invariant.1,
  (λ copy stage.
      let sizes = c.args.self.now.setup.sizes in
      let seen = c.loop-r.seen in
      let r = c.loop-r.r in
      let was = c.loop-r.invariant.2 copy stage in
      let at = stage_after c.args.seat.now.me c.loop-r.seat.me was.0 (Reading c.args.tries c.args.s copy (map seen_in (take r seen))) was.2 in
      let now = c.see-due.ensures.goes copy (map seen_in (take r seen)) at in
      let more = one_more seen r (omega arith) c.see-due.new.seen in
      let wide : (r + 1) * sizes.invocation ≡ r * sizes.invocation + sizes.invocation = ap (λ k. k * sizes.invocation) (let e : r + 1 ≡ suc r = omega arith in e) ∙ suc-mul r sizes.invocation in (
        was.0 + now.0,
        (let a = was.1 in let b = now.1 in omega arith),
        subst (λ xs. GoesBy c.args.seat.now.me (was.0 + now.0) (Reading c.args.tries c.args.s copy xs) c.see-due.new.seat.me) (sym more)
            (goes_more c.args.seat.now.me c.loop-r.seat.me was.0 (Reading c.args.tries c.args.s copy (map seen_in (take r seen))) was.2 c.see-due.new.seat.me now.0 (Reading c.args.tries c.args.s copy (map seen_in (take r seen) ++ seen_in c.see-due.new.seen ∷ [])) now.2),
      )),
  All-set (HasInvocation c.args.self.now.setup.sizes) c.loop-r.seen c.loop-r.r c.see-due.new.seen c.see-due.ensures.room c.loop-r.invariant.3,
  (elim c.if-due.branch [
    | then-due w ↦ (let o = w.with-busy.ensures.ordered in let e = ap (λ (s : Span). s.from) w.busy-is in let f = ap (λ (s : Span). s.to) w.busy-is in omega (arith, o, e, f))
    | else-due w ↦ (let o = c.loop-r.invariant.4 in let e = ap (λ (s : Span). s.from) w.busy-is in let f = ap (λ (s : Span). s.to) w.busy-is in omega (arith, o, e, f))
  ]),
  (elim c.if-due.branch [
    | then-due w ↦ (let l = w.with-busy.ensures.last (c.loop-r.r + 1) (let b = c.loop-r.invariant.5 in omega (arith, b)) (omega arith) in let f = ap (λ (s : Span). s.to) w.busy-is in omega (arith, l, f))
    | else-due w ↦ (let b = c.loop-r.invariant.5 in let f = ap (λ (s : Span). s.to) w.busy-is in omega (arith, b, f))
  ]),
  (elim c.if-due.branch [
    | then-due w ↦
        subst (λ span. IsQuietOutside span (map seen_in (take (c.loop-r.r + 1) (set c.loop-r.seen c.loop-r.r c.see-due.new.seen)))) (sym w.busy-is)
        (λ q beside. let both = w.with-busy.ensures.beside q beside in
        due_of_others c.loop-r.seen c.loop-r.r (omega arith) c.see-due.new.seen q both.1 ∙ c.loop-r.invariant.6 q both.0)
    | else-due w ↦
        subst (λ span. IsQuietOutside span (map seen_in (take (c.loop-r.r + 1) (set c.loop-r.seen c.loop-r.r c.see-due.new.seen)))) (sym w.busy-is)
        (λ q beside. due_of_nobody c.loop-r.seen c.loop-r.r (omega arith) c.see-due.new.seen (seen_none c.see-due.new.seen (c.see-due.ensures.due ∙ w.if-due.false)) q ∙ c.loop-r.invariant.6 q beside)
  ]),
  (λ q x from below.
      ap (λ (y : Seen). y.due) (get_or-set_other c.loop-r.seen c.loop-r.r q c.see-due.new.seen x (λ (e : q ≡ c.loop-r.r). omega (arith, e, from)))
      ∙ c.loop-r.invariant.7 q x (omega (arith, from)) (let l = length-set c.loop-r.seen c.loop-r.r c.see-due.new.seen in omega (arith, below, l))),
)

pub returns-clause-goes : goal.returns-clause-goes
returns-clause-goes g c copy stage =
    let sizes = c.args.self.now.setup.sizes in
    let end : c.loop-r.r ≡ sizes.processes = (let t = c.loop-r-test.false in let e = c.loop-r.auto.r-end in omega arith) in
    let long : c.loop-r.r ≡ length c.loop-r.seen = (let s = c.loop-r.auto.seen in omega arith) in
    let whole : take c.loop-r.r c.loop-r.seen ≡ c.loop-r.seen = ap (λ k. take k c.loop-r.seen) long ∙ take-length c.loop-r.seen in
    let was = c.loop-r.invariant.2 copy stage in
    let most : c.loop-r.r * sizes.invocation ≡ sizes.processes * sizes.invocation = ap (λ k. k * sizes.invocation) end in
    (was.0, (let a = was.1 in omega arith), subst (λ xs. GoesBy c.args.seat.now.me was.0 (Reading c.args.tries c.args.s copy (map seen_in xs)) c.loop-r.seat.me) whole was.2)

pub returns-clause-busy : goal.returns-clause-busy
returns-clause-busy g c = (c.loop-r.invariant.4, (let b = c.loop-r.invariant.5 in let t = c.loop-r-test.false in let e = c.loop-r.auto.r-end in omega arith))

pub returns-clause-quiet : goal.returns-clause-quiet
returns-clause-quiet g c =
    let long : c.loop-r.r ≡ length c.loop-r.seen = (let s = c.loop-r.auto.seen in let t = c.loop-r-test.false in let e = c.loop-r.auto.r-end in omega arith) in
    let whole : take c.loop-r.r c.loop-r.seen ≡ c.loop-r.seen = ap (λ k. take k c.loop-r.seen) long ∙ take-length c.loop-r.seen in
    subst (λ xs. IsQuietOutside c.loop-r.busy (map seen_in xs)) whole c.loop-r.invariant.6
