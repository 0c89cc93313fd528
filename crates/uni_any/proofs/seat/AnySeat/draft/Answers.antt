use Rattle.uni_any.proofs.Vocabulary.{None, Option, Some, Version, ap, arith, base_of, drafted, due, first_told, inl, inr, length, length-map, map, number_cases, seen_of, slice_index_or, subst, sym, told_by, ◌++◌, ◌+◌, ◌/◌, ◌<◌, ◌∙◌, ◌≡◌}
use Rattle.std.specs.Prelude.{IsSome, unwrap_or}
use Rattle.std.proofs.lemmas.Bool.{false≢true}
use Rattle.uni_any.specs.Drafts.{image_so_far, one_applied}
use Rattle.uni_any.specs.News.{version_as}
use Rattle.uni_any.proofs.Drafted.{IsDrafting, drafting_first, drafting_next, drafting_whole, mapped_at}
use Rattle.uni_any.proofs.seat.AnySeat.draft.Goals as goal

none_some : {A : Type 0} (o : Option A) → IsSome o → o ≡ None → ⊥
none_some None some none = false≢true some
none_some (Some x) some none = absurd (let e : Some x ≡ None = none in cc)

pub loop-r-init : goal.loop-r-init
loop-r-init g c =
    let shared = c.args.shared.now in
    let object = g.O.SeqObject.sequential shared.buffers.setup.about.object in
    let n = shared.buffers.setup.about.processes in
    let kept = c.requires.kept in
    let base = c.found-base.result.now in
    let base_is : version_as base ≡ base_of object n c.args.self.now.party.seat.me.0.client.known.local =
    c.found-base.ensures object n ∙ ap (λ w. base_of object n (record c.args.self.now.party.seat.me.0.client.known.local { word = w })) (sym c.requires.word.0) in
    let rows : c.extend_from_slice.new.self.items ≡ base.rows.items = c.in_ok-extend_from_slice.ensures.items ∙ ap (λ xs. xs ++ c.as_slice-before.result.now) c.in_ok-rows.ensures.items ∙ c.as_slice-before.ensures.value in
    let long : length base.rows.items ≡ n = ap (λ (z : Version _ _). length z.image.rows) base_is ∙ c.requires.whole.long in
    record {
      end = ap (λ k. k.processes) c.key.ensures;
      far = omega arith;
      drafting = subst (λ rs. IsDrafting object (version_as base).image (map told_by c.args.self.now.seen.items) (first_told object n) n 0 (record { state = base.state; rows = rs })) (sym rows)
          (drafting_first object (version_as base).image (map told_by c.args.self.now.seen.items) (first_told object n) n long);
      own = λ below. absurd (omega (arith, below));
    }

pub apply_due-requires-clause-inside : goal.apply_due-requires-clause-inside
apply_due-requires-clause-inside g c =
    let shared = c.args.shared.now in
    let object = g.O.SeqObject.sequential shared.buffers.setup.about.object in
    let n = shared.buffers.setup.about.processes in
    let kept = c.requires.kept in
    let base = c.found-base.result.now in
    let base_is : version_as base ≡ base_of object n c.args.self.now.party.seat.me.0.client.known.local =
    c.found-base.ensures object n ∙ ap (λ w. base_of object n (record c.args.self.now.party.seat.me.0.client.known.local { word = w })) (sym c.requires.word.0) in
    let long : length base.rows.items ≡ n = ap (λ (z : Version _ _). length z.image.rows) base_is ∙ c.requires.whole.long in
    let i = c.loop-r.invariant in
    ((let a = i.drafting.long in let b = i.end in let t = c.loop-r-test.true in omega arith), (let b = i.end in let t = c.loop-r-test.true in omega (arith, long)))

pub apply_due-requires-clause-row : goal.apply_due-requires-clause-row
apply_due-requires-clause-row g c = c.loop-r.invariant.drafting.rows c.loop-r.r (omega arith)

pub loop-r-preserved : goal.loop-r-preserved
loop-r-preserved g c =
    let shared = c.args.shared.now in
    let object = g.O.SeqObject.sequential shared.buffers.setup.about.object in
    let n = shared.buffers.setup.about.processes in
    let kept = c.requires.kept in
    let base = c.found-base.result.now in
    let local = c.args.self.now.party.seat.me.0.client.known.local in
    let items = c.args.self.now.seen.items in
    let d = first_told object n in
    let r = c.loop-r.r in
    let i = c.loop-r.invariant in
    let applied = c.in_ok-apply_due.ensures in
    let inside : r < length items = (let a = kept.long in let b = i.end in let t = c.loop-r-test.true in omega arith) in
    let news : told_by c.index.result.now ≡ slice_index_or (map told_by items) r d = ap told_by c.index.ensures ∙ sym (mapped_at told_by items r d c.index.result.now inside) in
    let key : c.key-in-loop-r.result.now ≡ shared.buffers.setup.about = c.key-in-loop-r.ensures in
    let later : image_so_far c.apply_due.new.draft base ≡ one_applied object (image_so_far c.loop-r.draft base) r (due (version_as base).image r (slice_index_or (map told_by items) r d)) =
    applied.applied ∙ (λ k. one_applied (g.O.SeqObject.sequential (key k).object) (image_so_far c.loop-r.draft base) r (due (version_as base).image r (news k))) in
    record {
      end = i.end;
      far = (let t = c.loop-r-test.true in omega arith);
      drafting = drafting_next object (version_as base).image (map told_by items) d n r (image_so_far c.loop-r.draft base) i.drafting (let a = length-map items told_by in omega (arith, inside)) (image_so_far c.apply_due.new.draft base) later
          (applied.long ∙ i.drafting.long);
      own = λ below. elim (number_cases c.args.self.now.p r) [
        | inl same ↦
            let base_is : version_as base ≡ base_of object n local = c.found-base.ensures object n ∙ ap (λ w. base_of object n (record local { word = w })) (sym c.requires.word.0) in
            let seen_is : seen_of object n local c.args.self.now.p ≡ told_by c.index.result.now = ap (λ xs. slice_index_or xs c.args.self.now.p d) kept.seen ∙ ap (λ k. slice_index_or (map told_by items) k d) same.0 ∙ sym news in
            applied.own (subst IsSome (λ k. due (sym base_is k).image (same.0 k) (seen_is k)) c.requires.own)
        | inr other ↦ applied.some (i.own (omega (arith, below, other.0)))
      ];
    }

pub unreachable-requires : goal.unreachable-requires
unreachable-requires g c =
    let i = c.loop-r.invariant in
    none_some c.loop-r.draft.state (i.own (let a = c.requires.kept.inside in let b = i.end in let t = c.loop-r-test.false in omega arith)) c.in_default.is

pub returns : goal.returns
returns g c =
    let shared = c.args.shared.now in
    let object = g.O.SeqObject.sequential shared.buffers.setup.about.object in
    let n = shared.buffers.setup.about.processes in
    let kept = c.requires.kept in
    let base = c.found-base.result.now in
    let local = c.args.self.now.party.seat.me.0.client.known.local in
    let items = c.args.self.now.seen.items in
    let i = c.loop-r.invariant in
    let base_is : version_as base ≡ base_of object n local = c.found-base.ensures object n ∙ ap (λ w. base_of object n (record local { word = w })) (sym c.requires.word.0) in
    let whole = drafting_whole object (version_as base).image (map told_by items) (first_told object n) n c.loop-r.r (image_so_far c.loop-r.draft base) i.drafting
    (let a = length-map items told_by in let b = kept.long in let e = i.end in let t = c.loop-r-test.false in omega arith) in
    let state : image_so_far c.loop-r.draft base ≡ record { state = c.in-Some.state; rows = c.loop-r.draft.rows.items } = (λ k. record { state = unwrap_or (c.in-Some.is k) base.state; rows = c.loop-r.draft.rows.items }) in
    (λ k. record { number = c.args.word / 64 + 1; image = (sym state ∙ whole ∙ (λ j. drafted object (base_is j).image (sym kept.seen j))) k })
