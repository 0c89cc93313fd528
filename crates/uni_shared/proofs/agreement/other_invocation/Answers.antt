use Rattle.uni_shared.proofs.Vocabulary.{[], ap, append-nil, append_assoc, arith, cons_option, event_lent, filter_map, filter_map-append, invocation_by, length-map, map, sym, take, take-map, ◌++◌, ◌∙◌, ◌∷◌}
use Rattle.uni_shared.proofs.Differing.{DiffersFirstAt-other, DiffersFirstAt-longer}
use Rattle.uni_shared.proofs.agreement.other_invocation.Goals as goal

pub loop-event-preserved : goal.loop-event-preserved
loop-event-preserved g c =
    let asked = filter_map (invocation_by c.args.p) in
    let event = event_lent c.in-Some.event in
    let later = c.next.new.self in
    let told = map (λ r. r.inv) (take c.loop-event.place c.args.receipts.now) in (
      c.in-Some-place_after_event.ensures.within,
      ap (λ l. l ++ asked later) c.in-Some-place_after_event.ensures.next ∙ append_assoc told (asked (event ∷ [])) (asked later)
          ∙ ap (λ l. told ++ l) (sym (filter_map-append (invocation_by c.args.p) (event ∷ []) later) ∙ ap asked (sym c.in-Some.ensures.steps)) ∙ c.loop-event.invariant.1,
    )

pub returns-in_default-clause-first : goal.returns-in_default-clause-first
returns-in_default-clause-first g c =
    let asked = filter_map (invocation_by c.args.p) in
    let later = c.next.new.self in
    let invs = map (λ r. r.inv) c.args.receipts.now in
    let told = map (λ r. r.inv) (take c.loop-event.place c.args.receipts.now) in
    let other = c.place_after_event.ensures.other c.in_default.is in
    let long = length-map c.args.receipts.now (λ r. r.inv) in
    DiffersFirstAt-other invs (asked c.args.events) c.loop-event.place other.0 (asked later)
    (let w = c.loop-event.invariant.0 in omega arith)
    (ap (λ l. l ++ other.0 ∷ asked later) (take-map (λ r. r.inv) c.loop-event.place c.args.receipts.now)
    ∙ ap (λ o. told ++ cons_option o (asked later)) (sym other.1) ∙ ap (λ l. told ++ asked l) (sym c.in-Some.ensures.steps) ∙ c.loop-event.invariant.1)
    other.2

pub returns-then-place-receipts-clause-first : goal.returns-then-place-receipts-clause-first
returns-then-place-receipts-clause-first g c =
    let asked = filter_map (invocation_by c.args.p) in
    let told = map (λ r. r.inv) (take c.loop-event.place c.args.receipts.now) in
    let long = length-map c.args.receipts.now (λ r. r.inv) in
    DiffersFirstAt-longer (map (λ r. r.inv) c.args.receipts.now) (asked c.args.events) c.loop-event.place (let t = c.if-place-receipts.true in omega arith)
    (take-map (λ r. r.inv) c.loop-event.place c.args.receipts.now ∙ sym (append-nil told) ∙ ap (λ l. told ++ asked l) (sym c.in-None.ensures.steps.0) ∙ c.loop-event.invariant.1)
