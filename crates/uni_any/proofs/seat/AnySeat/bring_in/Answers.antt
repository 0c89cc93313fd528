use Rattle.uni_any.proofs.Vocabulary.{Row, Some, View, ap, arith, blank, number_in, row_in, slice_index_or, stage_of, subst, sym, word_of, ◌+◌, ◌∙◌, ◌≡◌}
use Rattle.std.specs.Arc.{arc_value}
use Rattle.std.proofs.lemmas.List.{get_or_default}
use Rattle.uni_any.specs.Seats.{HasEnded}
use Rattle.uni_any.specs.News.{version_as}
use Rattle.uni_any.proofs.Ends.{hit, miss}
use Rattle.uni_any.proofs.seat.AnySeat.bring_in.Goals as goal

pub lay_all-requires-clause-owners : goal.lay_all-requires-clause-owners
lay_all-requires-clause-owners g c =
    let o = c.requires.owners in
    (o.0, (o.1.0, (o.1.1.0, ((version_as (arc_value c.args.block)).image, o.1.1.1, o.1.1.2))))

pub bring-found-requires-clause-laid : goal.bring-found-requires-clause-laid
bring-found-requires-clause-laid g c =
    let o = c.requires.owners.1 in
    let image = (version_as (arc_value c.args.block)).image in
    (o.0, (o.1.0, (image, ap (λ (z : View _ _ _ _). stage_of z) (c.lay_all.ensures.left o.0 o.1.0 image o.1.1 o.1.2))))

pub bring-found-requires-clause-words : goal.bring-found-requires-clause-words
bring-found-requires-clause-words g c =
    let o = c.requires.owners.1 in
    let image = (version_as (arc_value c.args.block)).image in (
      sym (ap (λ (z : View _ _ _ _). z.known.local.word) (c.lay_all.ensures.left o.0 o.1.0 image o.1.1 o.1.2) ∙ c.requires.word.0),
      ap (λ p. word_of (number_in c.args.word + 1) p) (sym (c.lay_all.ensures.place.1 ∙ c.requires.kept.number)),
    )

pub returns-then-found-word-clause-kept : goal.returns-then-found-word-clause-kept
returns-then-found-word-clause-kept g c =
    let o = c.requires.owners.1 in
    let was = c.requires.kept in
    let image = (version_as (arc_value c.args.block)).image in
    let v = c.args.self.now.party.seat.me.0.client in
    let m = miss v c.lay_all.new.party.seat.me.0.client c.bring-found.new.party.seat.me.0.client o.0 o.1.0 image _ (c.lay_all.ensures.left o.0 o.1.0 image o.1.1 o.1.2) was.place.processes c.bring-found.result c.bring-found.ensures.told (λ e. c.if-found-word.true (e ∙ c.requires.word.0)) in
    record {
      place = c.bring-found.ensures.place.0;
      number = c.bring-found.ensures.place.1 ∙ c.lay_all.ensures.place.1 ∙ was.number;
      inside = was.inside;
      last = m.1 ∙ was.last;
      seen = m.2 ∙ was.seen;
      long = was.long;
      named = was.named;
    }

pub returns-then-found-word-clause-brought : goal.returns-then-found-word-clause-brought
returns-then-found-word-clause-brought g c inv tries laying all =
    let was = c.requires.kept in
    let image = (version_as (arc_value c.args.block)).image in
    let v = c.args.self.now.party.seat.me.0.client in
    (tt, (miss v c.lay_all.new.party.seat.me.0.client c.bring-found.new.party.seat.me.0.client inv tries image _ (c.lay_all.ensures.left inv tries image laying all) was.place.processes c.bring-found.result c.bring-found.ensures.told (λ e. c.if-found-word.true (e ∙ c.requires.word.0))).0)

pub unreachable-requires : goal.unreachable-requires
unreachable-requires g c =
    let o = c.requires.owners.1 in
    let was = c.requires.kept in
    let image = (version_as (arc_value c.args.block)).image in
    let v = c.args.self.now.party.seat.me.0.client in
    let p = c.args.self.now.p in
    let h = hit v c.lay_all.new.party.seat.me.0.client c.bring-found.new.party.seat.me.0.client o.0 o.1.0 image _ (c.lay_all.ensures.left o.0 o.1.0 image o.1.1 o.1.2) was.place.processes c.bring-found.result c.bring-found.ensures.told (c.if-found-word.false ∙ sym c.requires.word.0) in
    let row : c.index.result.now ≡ row_in image p = c.index.ensures ∙ ap (λ b. slice_index_or b.rows.items p c.index.result.now) c.deref.ensures
    ∙ get_or_default image.rows p c.index.result.now blank (let a = was.inside in let b = c.requires.wide in omega arith) in
    let first : v.known.first ≡ p = was.place.first ∙ was.number in
    c.in_default.not-Some h.0 (ap (λ (z : Row _). z.reply) row ∙ ap (λ k. (row_in image k).reply) (sym first) ∙ h.1)

pub returns-clause-kept : goal.returns-clause-kept
returns-clause-kept g c =
    let o = c.requires.owners.1 in
    let was = c.requires.kept in
    let image = (version_as (arc_value c.args.block)).image in
    let v = c.args.self.now.party.seat.me.0.client in
    let h = hit v c.lay_all.new.party.seat.me.0.client c.bring-found.new.party.seat.me.0.client o.0 o.1.0 image _ (c.lay_all.ensures.left o.0 o.1.0 image o.1.1 o.1.2) was.place.processes c.bring-found.result c.bring-found.ensures.told (c.if-found-word.false ∙ sym c.requires.word.0) in
    record {
      place = c.bring-found.ensures.place.0;
      number = c.bring-found.ensures.place.1 ∙ c.lay_all.ensures.place.1 ∙ was.number;
      inside = was.inside;
      last = h.3 ∙ (λ k. record { number = (ap (λ w. number_in w + 1) c.requires.word.0 ∙ sym c.requires.number) k; image = image });
      seen = h.4 ∙ was.seen;
      long = was.long;
      named = was.named;
    }

pub returns-clause-brought : goal.returns-clause-brought
returns-clause-brought g c inv tries laying all =
    let was = c.requires.kept in
    let block = arc_value c.args.block in
    let image = (version_as block).image in
    let v = c.args.self.now.party.seat.me.0.client in
    let w = c.bring-found.new.party.seat.me.0.client in
    let p = c.args.self.now.p in
    let h = hit v c.lay_all.new.party.seat.me.0.client w inv tries image _ (c.lay_all.ensures.left inv tries image laying all) was.place.processes c.bring-found.result c.bring-found.ensures.told (c.if-found-word.false ∙ sym c.requires.word.0) in
    let row : c.index.result.now ≡ row_in image p = c.index.ensures ∙ ap (λ b. slice_index_or b.rows.items p c.index.result.now) c.deref.ensures
    ∙ get_or_default image.rows p c.index.result.now blank (let a = was.inside in let b = c.requires.wide in omega arith) in
    let first : v.known.first ≡ p = was.place.first ∙ was.number in
    let same : Some h.0 ≡ Some c.in-Some.reply = sym h.1 ∙ ap (λ k. (row_in image k).reply) first ∙ ap (λ (z : Row _). z.reply) (sym row) ∙ c.in-Some.is in
    let reply : h.0 ≡ c.in-Some.reply = cc in
    let number : number_in v.known.local.word + 1 ≡ c.deref-2.result.now.number = ap (λ k. number_in k + 1) c.requires.word.0 ∙ sym c.requires.number ∙ ap (λ b. b.number) (sym c.deref-2.ensures) in
    (subst (λ k. HasEnded v inv c.in-Some.reply k w) number (subst (λ x. HasEnded v inv x (number_in v.known.local.word + 1) w) reply h.2), tt)
