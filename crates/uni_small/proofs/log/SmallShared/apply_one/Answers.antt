use Rattle.uni_small.proofs.Vocabulary.{List, [], ap, arith, get_or-set_other, inl, inr, length, refl, slice_index, state_after-append, sym, ℕ, ◌*◌, ◌++◌, ◌+◌, ◌-◌, ◌∙◌, ◌∷◌, ◌≡◌}
use Rattle.uni_small.proofs.Images.{reached_length}
use Rattle.uni_small.proofs.Rooms.{applied_in_room}
use Rattle.uni_small.proofs.Rows.{later, put_mid-beside}
use Rattle.uni_small.proofs.log.SmallShared.apply_one.Goals as goal

pub returns-clause-reached : goal.returns-clause-reached
returns-clause-reached g c =
    let object = (g.O.SmallObject.meaning c.args.self.now.setup.object).object in
    let was = c.requires.reached in
    let inv = c.deref-2.result.now in
    (was.0 ++ inv ∷ [], state_after-append object object.initial was.0 (inv ∷ []) ∙ ap (λ s. object.next s inv) was.1 ∙ sym c.apply.ensures.state)

pub apply-requires-clause-wide : goal.apply-requires-clause-wide
apply-requires-clause-wide g c =
    let meaning = g.O.SmallObject.meaning c.args.self.now.setup.object in
    let was = c.requires.reached in
    ap (λ (s : List ℕ). length s) (sym was.1) ∙ reached_length meaning.object meaning.reply (g.met.O.SmallObject.steady c.args.self.now.setup.object) meaning.object.initial was.0 refl

pub returns-clause-image : goal.returns-clause-image
returns-clause-image g c =
    let sizes = c.args.self.now.setup.sizes in
    let meaning = g.O.SmallObject.meaning c.args.self.now.setup.object in
    let was = c.requires.reached in
    let steady = g.met.O.SmallObject.steady c.args.self.now.setup.object in
    let wide : c.args.r * sizes.reply + sizes.reply - c.args.r * sizes.reply ≡ sizes.reply = omega arith in
    let full : length c.apply.new.reply ≡ sizes.reply = ap (λ (ws : List ℕ). length ws) c.apply.ensures.reply
    ∙ (steady c.args.state.now c.deref-2.result.now (ap (λ (s : List ℕ). length s) (sym was.1) ∙ reached_length meaning.object meaning.reply steady meaning.object.initial was.0 refl)).1 ∙ c.requires.widths.1 in
    applied_in_room meaning.object sizes c.args.r (c.args.r * sizes.reply + sizes.reply - c.args.r * sizes.reply) c.args.applied.now c.args.reply.now c.args.state.now c.args.seen.now c.deref-2.result.now c.apply.new.reply c.apply.new.state
    c.requires.rows.0 c.requires.rows.2 wide full c.if-not-seen.false c.deref-2.ensures.value c.apply.ensures.reply c.apply.ensures.state

pub touches-more-requires-clause-wide : goal.touches-more-requires-clause-wide
touches-more-requires-clause-wide g c =
    let meaning = g.O.SmallObject.meaning c.args.self.now.setup.object in
    let was = c.requires.reached in
    ap (λ (s : List ℕ). length s) (sym was.1) ∙ reached_length meaning.object meaning.reply (g.met.O.SmallObject.steady c.args.self.now.setup.object) meaning.object.initial was.0 refl

pub returns-clause-touched : goal.returns-clause-touched
returns-clause-touched g c =
    let object = (g.O.SmallObject.meaning c.args.self.now.setup.object).object in
    let inv : c.deref-2.result.now ≡ c.deref.result.now = c.deref-2.ensures.value ∙ sym c.deref.ensures.value in
    λ first long was i inside apart.
    let both = c.with.ensures i apart in
    ap (λ ws. slice_index ws i) (c.apply.ensures.state ∙ ap (object.next c.args.state.now) inv) ∙ c.touches-more.ensures i (let l = long in omega arith) both.1 ∙ was i inside both.0

pub returns-clause-applied : goal.returns-clause-applied
returns-clause-applied g c q apart = get_or-set_other c.args.applied.now c.args.r q (slice_index c.args.applied.now c.args.r + 1) 0 apart

pub returns-clause-reply : goal.returns-clause-reply
returns-clause-reply g c i beside =
    let sizes = c.args.self.now.setup.sizes in
    let meaning = g.O.SmallObject.meaning c.args.self.now.setup.object in
    let was = c.requires.reached in
    let steady = g.met.O.SmallObject.steady c.args.self.now.setup.object in
    let wide : c.args.r * sizes.reply + sizes.reply - c.args.r * sizes.reply ≡ sizes.reply = omega arith in
    let full : length c.apply.new.reply ≡ sizes.reply = ap (λ (ws : List ℕ). length ws) c.apply.ensures.reply
    ∙ (steady c.args.state.now c.deref-2.result.now (ap (λ (s : List ℕ). length s) (sym was.1) ∙ reached_length meaning.object meaning.reply steady meaning.object.initial was.0 refl)).1 ∙ c.requires.widths.1 in
    let room = later c.args.r sizes.processes sizes.reply c.requires.rows.0 in
    let long = c.requires.rows.2 in
    put_mid-beside (c.args.r * sizes.reply) (c.args.r * sizes.reply + sizes.reply - c.args.r * sizes.reply) c.args.reply.now c.apply.new.reply (omega (arith, room, long, wide)) (full ∙ sym wide) i
    (elim beside [ inl sooner ↦ inl sooner | inr after ↦ inr (omega (arith, after, wide)) ])
