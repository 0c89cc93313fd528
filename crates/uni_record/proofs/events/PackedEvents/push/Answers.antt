use Rattle.uni_record.proofs.Vocabulary.{HasCode, [], ap, append-nil, arith, length, subst, sym, ◌++◌, ◌<◌, ◌∙◌, ◌∷◌}
use Rattle.uni_record.specs.declared.event.Event.TheVariants.{Call, Step, Trim, Reshape}
use Rattle.uni_record.proofs.Packed.{pushed, length-unpacked}
use Rattle.uni_record.proofs.events.PackedEvents.push.Goals as goal

pub push_reserved-requires : goal.push_reserved-requires
push_reserved-requires g c =
    let all = length-unpacked c.self.inside.codes.items c.self.inside.invocations.items c.self.invariant in
    let len = c.self.inside.codes.ok.0 in
    let fits = subst (λ k. length k.events < k.room) (sym c.self.view_is) c.requires.fits in
    omega (arith, all, len, fits)

pub invariant_of-self : goal.invariant_of-self
invariant_of-self g c = (pushed _ _ _ _ (Step c.in-Step.p) c.self.invariant (subst (λ e. HasCode e) c.in-Step.is c.requires.coded) c.push_reserved.ensures.items (sym (append-nil _))).0

pub returns-in-Step-clause-events : goal.returns-in-Step-clause-events
returns-in-Step-clause-events g c = rw c.in-Step.is ((pushed _ _ _ _ (Step c.in-Step.p) c.self.invariant (subst (λ e. HasCode e) c.in-Step.is c.requires.coded) c.push_reserved.ensures.items (sym (append-nil _))).1 ∙ ap (λ k. k.events ++ (Step c.in-Step.p) ∷ []) c.self.view_is)

pub push_reserved-requires-in-Call-2 : goal.push_reserved-requires-in-Call-2
push_reserved-requires-in-Call-2 g c =
    let all = length-unpacked c.self.inside.codes.items c.self.inside.invocations.items c.self.invariant in
    let len = c.self.inside.codes.ok.0 in
    let fits = subst (λ k. length k.events < k.room) (sym c.self.view_is) c.requires.fits in
    omega (arith, all, len, fits)

pub invariant_of-self-in-Call : goal.invariant_of-self-in-Call
invariant_of-self-in-Call g c = (pushed _ _ _ _ (Call c.in-Call.p c.in-Call.inv) c.self.invariant (subst (λ e. HasCode e) c.in-Call.is c.requires.coded) c.push_reserved-in-Call-2.ensures.items c.push_reserved-in-Call.ensures.items).0

pub returns-in-Call-clause-events : goal.returns-in-Call-clause-events
returns-in-Call-clause-events g c = rw c.in-Call.is ((pushed _ _ _ _ (Call c.in-Call.p c.in-Call.inv) c.self.invariant (subst (λ e. HasCode e) c.in-Call.is c.requires.coded) c.push_reserved-in-Call-2.ensures.items c.push_reserved-in-Call.ensures.items).1 ∙ ap (λ k. k.events ++ (Call c.in-Call.p c.in-Call.inv) ∷ []) c.self.view_is)

pub push_reserved-requires-in-Trim : goal.push_reserved-requires-in-Trim
push_reserved-requires-in-Trim g c =
    let all = length-unpacked c.self.inside.codes.items c.self.inside.invocations.items c.self.invariant in
    let len = c.self.inside.codes.ok.0 in
    let fits = subst (λ k. length k.events < k.room) (sym c.self.view_is) c.requires.fits in
    omega (arith, all, len, fits)

pub invariant_of-self-in-Trim : goal.invariant_of-self-in-Trim
invariant_of-self-in-Trim g c = (pushed _ _ _ _ Trim c.self.invariant (subst (λ e. HasCode e) c.in-Trim.is c.requires.coded) c.push_reserved-in-Trim.ensures.items (sym (append-nil _))).0

pub returns-in-Trim-clause-events : goal.returns-in-Trim-clause-events
returns-in-Trim-clause-events g c = rw c.in-Trim.is ((pushed _ _ _ _ Trim c.self.invariant (subst (λ e. HasCode e) c.in-Trim.is c.requires.coded) c.push_reserved-in-Trim.ensures.items (sym (append-nil _))).1 ∙ ap (λ k. k.events ++ Trim ∷ []) c.self.view_is)

pub push_reserved-requires-in-Reshape : goal.push_reserved-requires-in-Reshape
push_reserved-requires-in-Reshape g c =
    let all = length-unpacked c.self.inside.codes.items c.self.inside.invocations.items c.self.invariant in
    let len = c.self.inside.codes.ok.0 in
    let fits = subst (λ k. length k.events < k.room) (sym c.self.view_is) c.requires.fits in
    omega (arith, all, len, fits)

pub invariant_of-self-in-Reshape : goal.invariant_of-self-in-Reshape
invariant_of-self-in-Reshape g c = (pushed _ _ _ _ (Reshape c.in-Reshape.n) c.self.invariant (subst (λ e. HasCode e) c.in-Reshape.is c.requires.coded) c.push_reserved-in-Reshape.ensures.items (sym (append-nil _))).0

pub returns-in-Reshape-clause-events : goal.returns-in-Reshape-clause-events
returns-in-Reshape-clause-events g c = rw c.in-Reshape.is ((pushed _ _ _ _ (Reshape c.in-Reshape.n) c.self.invariant (subst (λ e. HasCode e) c.in-Reshape.is c.requires.coded) c.push_reserved-in-Reshape.ensures.items (sym (append-nil _))).1 ∙ ap (λ k. k.events ++ (Reshape c.in-Reshape.n) ∷ []) c.self.view_is)
