use Rattle.uni_small.proofs.Vocabulary.{Image, List, None, Option, [], ap, arith, drop, drop_more, get_or-map, image_of_rows, inl, inr, length-map, map, most_calls, mul-le-mul_right, refl, seen_in, slice_index, slice_index_or, subst, suc, suc-mul, sym, with_seen, ℕ, ◌*◌, ◌+◌, ◌∙◌, ◌∷◌, ◌≡◌, ◌≤◌}
use Rattle.uni_small.proofs.Going.{with_seen-cons}
use Rattle.uni_small.proofs.Images.{applied-later, seen-later, seen-quiet}
use Rattle.uni_small.proofs.Lists.{due-drop}
use Rattle.uni_small.proofs.log.SmallShared.apply_seen.Goals as goal

pub loop-r-init : goal.loop-r-init
loop-r-init g c =
    let object = (g.O.SmallObject.meaning c.args.self.now.setup.object).object in
    let image : Image = image_of_rows c.args.self.now.setup.sizes c.args.applied.now c.args.reply.now c.args.state.now in (
      ap (λ r. with_seen object image r (drop c.args.busy.from (map seen_in c.args.seen.now))) (let e : c.args.busy.from ≡ 0 + c.args.busy.from = omega arith in e)
          ∙ seen-later object c.args.busy.from image 0 (map seen_in c.args.seen.now) (λ j below. c.requires.quiet j (inl below)),
      c.requires.good.1,
      (λ q from inside. c.requires.good.2 q inside),
      refl,
      (λ i inside apart. refl),
      (λ q beside. refl),
      (λ i beside. refl),
    )

pub apply_one-requires-clause-few : goal.apply_one-requires-clause-few
apply_one-requires-clause-few g c = c.loop-r.invariant.2 c.loop-r.r (omega arith) (let t = c.loop-r-test.true in let b = c.requires.busy.1 in omega arith)

pub apply_one-requires-clause-widths : goal.apply_one-requires-clause-widths
apply_one-requires-clause-widths g c = c.requires.good.0

pub loop-r-preserved : goal.loop-r-preserved
loop-r-preserved g c =
    let object = (g.O.SmallObject.meaning c.args.self.now.setup.object).object in
    let sizes = c.args.self.now.setup.sizes in
    let r = c.loop-r.r in
    let due : Option (List ℕ) = seen_in c.index-seen-r.result in
    let image : Image = image_of_rows sizes c.loop-r.applied c.loop-r.reply c.loop-r.state in
    let image' : Image = image_of_rows sizes c.apply_one.new.applied c.apply_one.new.reply c.apply_one.new.state in
    let one : image' ≡ with_seen object image r (due ∷ []) = c.apply_one.ensures.image in
    let here : slice_index_or (map seen_in c.args.seen.now) r None ≡ due = get_or-map seen_in c.args.seen.now r c.index-seen-r.result None (omega arith) ∙ ap seen_in (sym c.index-seen-r.is) in
    let rest : drop r (map seen_in c.args.seen.now) ≡ due ∷ drop (r + 1) (map seen_in c.args.seen.now)
    = drop_more (map seen_in c.args.seen.now) r None (let l = length-map c.args.seen.now seen_in in omega arith) ∙ ap (λ o. o ∷ drop (r + 1) (map seen_in c.args.seen.now)) here in (
      ap (λ i. with_seen object i (r + 1) (drop (r + 1) (map seen_in c.args.seen.now))) one ∙ sym (with_seen-cons object image r due (drop (r + 1) (map seen_in c.args.seen.now))) ∙ ap (with_seen object image r) (sym rest) ∙ c.loop-r.invariant.0,
      c.apply_one.ensures.reached,
      (λ q from inside. subst (λ k. k ≤ most_calls) (sym (ap (λ (i : Image). slice_index i.applied q) one ∙ applied-later object image r due q (omega (arith, from)))) (c.loop-r.invariant.2 q (omega (arith, from)) inside)),
      c.apply_one.auto.state ∙ c.loop-r.invariant.3,
      c.apply_one.ensures.touched c.args.state.now (sym c.loop-r.invariant.3) c.loop-r.invariant.4,
      (λ q beside. c.apply_one.ensures.applied q (elim beside [ inl sooner ↦ (λ e. let b = c.loop-r.auto.r in omega (arith, sooner, e, b)) | inr after ↦ (λ e. omega (arith, after, e)) ])
          ∙ c.loop-r.invariant.5 q (elim beside [ inl sooner ↦ inl sooner | inr after ↦ inr (omega (arith, after)) ])),
      (λ i beside.
          let more : (r + 1) * sizes.reply ≡ r * sizes.reply + sizes.reply = ap (λ k. k * sizes.reply) (let e : r + 1 ≡ suc r = omega arith in e) ∙ suc-mul r sizes.reply in
          let first : c.args.busy.from * sizes.reply ≤ r * sizes.reply = mul-le-mul_right sizes.reply (let b = c.loop-r.auto.r in b) in
          c.apply_one.ensures.reply i (elim beside [ inl sooner ↦ inl (omega (arith, sooner, first)) | inr after ↦ inr (omega (arith, after, more)) ])
          ∙ c.loop-r.invariant.6 i (elim beside [ inl sooner ↦ inl sooner | inr after ↦ inr (omega (arith, after, more)) ])),
    )

pub returns : goal.returns
returns g c =
    let object = (g.O.SmallObject.meaning c.args.self.now.setup.object).object in
    let seen : List (Option (List ℕ)) = map seen_in c.args.seen.now in
    let r = c.loop-r.r in
    let end : c.args.busy.to ≤ r = (let t = c.loop-r-test.false in omega arith) in
    let image : Image = image_of_rows c.args.self.now.setup.sizes c.loop-r.applied c.loop-r.reply c.loop-r.state in
    let last : r ≤ c.args.busy.to = c.loop-r.auto.r-end c.requires.busy.0 in
    let most : r * c.args.self.now.setup.sizes.reply ≤ c.args.busy.to * c.args.self.now.setup.sizes.reply = mul-le-mul_right c.args.self.now.setup.sizes.reply last in
    let rest : with_seen object image r (drop r seen) ≡ image
    = seen-quiet object image r (drop r seen) (λ j. due-drop r seen j ∙ c.requires.quiet (r + j) (inr (omega (arith, end)))) in
    record {
      touched = c.loop-r.invariant.4;
      image = sym rest ∙ c.loop-r.invariant.0;
      applied = λ q beside. c.loop-r.invariant.5 q (elim beside [ inl sooner ↦ inl sooner | inr after ↦ inr (omega (arith, after, last)) ]);
      reply = λ i beside. c.loop-r.invariant.6 i (elim beside [ inl sooner ↦ inl sooner | inr after ↦ inr (omega (arith, after, most)) ]);
    }
