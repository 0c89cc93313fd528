use Rattle.uni_small.proofs.Vocabulary.{List, ap, arith, first_held, first_image, length, refl, spell, sym, ℕ, ◌++◌, ◌∙◌, ◌≡◌}
use Rattle.uni_small.proofs.Opening.{held_length}
use Rattle.uni_small.proofs.log.open.buffers.Goals as goal

pub returns-clause-held : goal.returns-clause-held
returns-clause-held g c =
    let sizes = c.args.sizes.now in
    let object = (g.O.SmallObject.meaning c.args.object.now).object in
    let first : c.deref.result.now ≡ spell (first_image object sizes) = c.deref.ensures.value ∙ c.in_ok-first.ensures in
    let held : c.extend_from_slice.new.self.items ≡ first_held object sizes = c.in_ok-extend_from_slice.ensures.items ∙ (λ k. c.in_ok-held.ensures k ++ first k) in
    record {
      spare = refl;
      which = omega arith;
      held = sym held;
      long = ap (λ (ws : List ℕ). length ws) held ∙ held_length object sizes c.requires.few.0 c.requires.wide;
    }
