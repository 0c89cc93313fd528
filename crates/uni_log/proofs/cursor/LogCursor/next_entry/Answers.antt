use Rattle.uni_log.proofs.Vocabulary.{Anchor, arith, entry_shown, refl, seq_of, sym, true, world_of, ◌+◌, ◌≡◌}
use Rattle.uni_log.proofs.Along.{along-number, cursor-call, cursor-end, cursor-entry, cursor-next}
use Rattle.uni_log.proofs.cursor.LogCursor.next_entry.Goals as goal

pub returns-in_default-clause-entry : goal.returns-in_default-clause-entry
returns-in_default-clause-entry g c =
    rw (← c.self.view_is) (cursor-end (g.O.SeqObject.sequential c.self.inside.world.now.object) (world_of c.self.inside.world.now) c.shape.ensures.sound c.shape.ensures.fits
    c.self.inside.passed _ c.self.invariant.1 (sym c.in_default.ensures.link))

pub overflow_add-seq : goal.overflow_add-seq
overflow_add-seq g c =
    let seq : c.seq.result ≡ seq_of (world_of c.self.inside.world.now).memory Anchor = rw c.anchor.ensures at c.seq.ensures in
    let low = along-number (g.O.SeqObject.sequential c.self.inside.world.now.object) (world_of c.self.inside.world.now) c.shape.ensures.sound c.shape.ensures.fits
    c.self.inside.passed _ c.self.invariant.1 in
    omega arith

pub overflow_add-seq-2 : goal.overflow_add-seq-2
overflow_add-seq-2 g c =
    let seq : c.seq.result ≡ seq_of (world_of c.self.inside.world.now).memory Anchor = rw c.anchor.ensures at c.seq.ensures in
    let low = along-number (g.O.SeqObject.sequential c.self.inside.world.now.object) (world_of c.self.inside.world.now) c.shape.ensures.sound c.shape.ensures.fits
    c.self.inside.passed _ c.self.invariant.1 in
    omega arith

pub entry_at-requires-clause-call : goal.entry_at-requires-clause-call
entry_at-requires-clause-call g c =
    let call = cursor-call (g.O.SeqObject.sequential c.self.inside.world.now.object) (world_of c.self.inside.world.now) c.shape.ensures.sound c.shape.ensures.fits
    c.self.inside.passed _ c.self.invariant.1 _ (sym c.in-Some.ensures.link) in
    rw call.1 (refl {a = true})

pub invariant_of-self : goal.invariant_of-self
invariant_of-self g c = (
  c.in-Some.ensures.there,
  cursor-next (g.O.SeqObject.sequential c.self.inside.world.now.object) (world_of c.self.inside.world.now) c.shape.ensures.sound c.shape.ensures.fits
      c.self.inside.passed _ c.self.invariant.1 _ (sym c.in-Some.ensures.link),
)

pub returns-clause-entry : goal.returns-clause-entry
returns-clause-entry g c =
    let seq : c.seq.result ≡ seq_of (world_of c.self.inside.world.now).memory Anchor = rw c.anchor.ensures at c.seq.ensures in
    let number : (entry_shown c.in_ok-entry.entry).number ≡ seq_of (world_of c.self.inside.world.now).memory Anchor + c.self.inside.passed + 1 =
    rw seq at c.in_ok-entry.ensures.seq in
    rw (← c.self.view_is) (cursor-entry (g.O.SeqObject.sequential c.self.inside.world.now.object) (world_of c.self.inside.world.now) c.shape.ensures.sound c.shape.ensures.fits
    c.self.inside.passed _ c.self.invariant.1 _ (sym c.in-Some.ensures.link) (entry_shown c.in_ok-entry.entry) number c.in_ok-entry.ensures.call c.in_ok-entry.ensures.reply)
