use Rattle.uni_small.proofs.Vocabulary.{Image, List, None, Reading, Returned, Some, [], ap, buffer_words, if◌then◌else◌, image_in, inl, inr, number_cases, read_image, refl, spell, subst, version_in, ◌/◌, ◌==◌, ◌∷◌, ◌∙◌, ◌≡◌, local_of, IsLeft, confirms, Room, Seen, Me, View}
use Rattle.uni_small.specs.Final.{IsVersion}
use Rattle.uni_small.proofs.Going.{own_after, read_ends, stage_after}
use Rattle.uni_small.proofs.Images.{read-spell, spell-length}
use Rattle.uni_small.proofs.Rooms.{room_rows}
use Rattle.uni_small.proofs.log.SmallShared.copy_present.Goals as goal

pub confirm-again-requires-clause-stage : goal.confirm-again-requires-clause-stage
confirm-again-requires-clause-stage g c =
    let sizes = c.args.self.now.setup.sizes in
    let room = c.copy.new.room in
    let copied = c.copy.ensures.goes in
    let copy = spell (image_in sizes room) in (
      copy,
      stage_after c.begin-s.new.seat.me c.copy.new.seat.me copied.0 (Reading 0 c.begin-s.result copy []) copied.2,
      spell-length sizes (image_in sizes room) (room_rows sizes room c.copy.ensures.room),
    )

pub returns-then-again-s-clause-ends : goal.returns-then-again-s-clause-ends
returns-then-again-s-clause-ends g c =
    let s = c.begin-s.result in
    let again = c.confirm-again.result in
    let state = c.copy.new.room.state.items in
    let copied = c.copy.ensures.goes in
    let image = image_in c.args.self.now.setup.sizes c.copy.new.room in
    let confirmed = subst (λ (i : Image). IsLeft c.copy.new.seat.me (confirms (local_of c.copy.new.seat.me) s i.state again) c.confirm-again.new.seat.me)
    (read-spell c.args.self.now.setup.sizes image (room_rows c.args.self.now.setup.sizes c.copy.new.room c.copy.ensures.room))
    (c.confirm-again.ensures.left (spell image) (stage_after c.begin-s.new.seat.me c.copy.new.seat.me copied.0 (Reading 0 s (spell image) []) copied.2)) in
    read_ends c.args.seat.now.me c.begin-s.new.seat.me c.copy.new.seat.me c.confirm-again.new.seat.me s again copied.0 (buffer_words c.args.self.now.setup.sizes) _ _ (Some (s / 128)) state
    c.begin-s.ensures.left copied.1 copied.2 confirmed
    (elim (number_cases again s) [ inl h ↦ rw h.1 refl | inr h ↦ absurd (h.0 c.if-again-s.true) ])
    (elim (number_cases again s) [ inl h ↦ rw h.1 refl | inr h ↦ absurd (h.0 c.if-again-s.true) ])

pub returns-else-again-s-clause-ends : goal.returns-else-again-s-clause-ends
returns-else-again-s-clause-ends g c =
    let s = c.begin-s.result in
    let again = c.confirm-again.result in
    let state = c.copy.new.room.state.items in
    let copied = c.copy.ensures.goes in
    let image = image_in c.args.self.now.setup.sizes c.copy.new.room in
    let confirmed = subst (λ (i : Image). IsLeft c.copy.new.seat.me (confirms (local_of c.copy.new.seat.me) s i.state again) c.confirm-again.new.seat.me)
    (read-spell c.args.self.now.setup.sizes image (room_rows c.args.self.now.setup.sizes c.copy.new.room c.copy.ensures.room))
    (c.confirm-again.ensures.left (spell image) (stage_after c.begin-s.new.seat.me c.copy.new.seat.me copied.0 (Reading 0 s (spell image) []) copied.2)) in
    read_ends c.args.seat.now.me c.begin-s.new.seat.me c.copy.new.seat.me c.confirm-again.new.seat.me s again copied.0 (buffer_words c.args.self.now.setup.sizes) _ _ None state
    c.begin-s.ensures.left copied.1 copied.2 confirmed
    (elim (number_cases again s) [ inl h ↦ absurd (c.if-again-s.false h.0) | inr h ↦ rw h.1 refl ])
    (elim (number_cases again s) [ inl h ↦ absurd (c.if-again-s.false h.0) | inr h ↦ rw h.1 refl ])

pub returns-then-again-s-clause-told : goal.returns-then-again-s-clause-told
returns-then-again-s-clause-told g c =
    let sizes = c.args.self.now.setup.sizes in
    let object = (g.O.SmallObject.meaning c.args.self.now.setup.object).object in
    let s = c.begin-s.result in
    let room = c.copy.new.room in
    let image = image_in sizes room in
    let copied = c.copy.ensures.goes in
    let stage = Reading 0 s (spell image) [] in
    let me1 = c.begin-s.new.seat.me in
    let me2 = c.copy.new.seat.me in
    let told = c.confirm-again.ensures.told (spell image) (stage_after me1 me2 copied.0 stage copied.2) c.if-again-s.true in
    let own = own_after me1 me2 copied.0 stage copied.2 ∙ ap (λ (m : _). m.0.known.local.own) c.begin-s.ensures.left in
    let same : read_image sizes (spell image) ≡ image = read-spell sizes image (room_rows sizes room c.copy.ensures.room) in
    subst (λ (i : Image). IsVersion object sizes.processes (record { process = c.args.p; calls = c.args.seat.now.me.0.known.local.own } ∷ []) (s / 128) i.state) same
    (subst (λ (calls : List Returned). IsVersion object sizes.processes (record { process = c.args.p; calls = calls } ∷ []) (s / 128) (read_image sizes (spell image)).state) own told)
