use Rattle.std.specs.Prelude.{IfSome}
use Rattle.uni_small.proofs.Vocabulary.{read_steps, ◌≤◌, Me, Option, Read, ReadsWithin, Seen, Some, View, ap, arith, buffer_words, local_of, subst, sym, ℕ, ◌+◌, ◌∷◌, [], ◌≡◌}
use Rattle.uni_small.specs.Final.{IsVersion}
use Rattle.uni_small.proofs.Going.{reads_after, recalled_no}
use Rattle.uni_small.proofs.log.SmallShared.find_present.Goals.{in-Some+else-recall-version, in_default}
use Rattle.uni_small.proofs.log.SmallShared.find_present.Goals as goal

pub returns-then-recall-version-clause-told : goal.returns-then-recall-version-clause-told
returns-then-recall-version-clause-told g c =
    let object = (g.O.SmallObject.meaning c.args.self.now.setup.object).object in
    let l = local_of c.args.seat.now.me in
    let state = c.args.room.now.state.items in
    let had = subst (λ (r : Option ℕ). IfSome r (λ version. l.read ≡ Some (record { version = version; state = state }))) c.in-Some.is c.requires.read in
    subst (λ (r : Option ℕ). IfSome r (λ version. IsVersion object c.args.self.now.setup.sizes.processes (record { process = c.args.p; calls = l.own } ∷ []) version state)) (sym c.in-Some.is)
    (c.recall.ensures.told (record { version = c.in-Some.version; state = state }) had c.if-recall-version.true)

pub returns-clause-ends : goal.returns-clause-ends
returns-clause-ends g c =
    let me = c.args.seat.now.me in
    let me2 = c.copy_present.new.seat.me in
    let state = c.copy_present.new.room.state.items in
    let most = buffer_words c.args.self.now.setup.sizes + 2 in
    let from : (seat : _) → c.match-read.seat ≡ seat → ReadsWithin most seat.me c.copy_present.result state me2 = λ seat is.
    subst (λ (m : Me Seen (View _)). ReadsWithin most m c.copy_present.result state me2) (ap (λ (s : _). s.me) is) c.copy_present.ensures.ends in
    let wider : (less : ℕ) → less ≤ read_steps c.args.self.now.setup.sizes → ReadsWithin less me c.copy_present.result state me2 → ReadsWithin (read_steps c.args.self.now.setup.sizes) me c.copy_present.result state me2 =
    λ less few h. (h.0, h.1, (let within = h.2 in omega arith), h.3) in
    elim c.match-read.branch [
      | in-Some+else-recall-version w ↦ wider (most + 1) (omega arith) (reads_after me w.recall.new.seat.me me2 most c.copy_present.result state
          (recalled_no me w.recall.new.seat.me w.in-Some.version w.recall.result w.recall.ensures.left w.if-recall-version.false) (from w.recall.new.seat w.seat-is))
      | in_default w ↦ wider most (omega arith) (from c.args.seat.now w.seat-is)
    ]
