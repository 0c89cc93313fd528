use Rattle.program_object.proofs.Vocabulary.{Instruction, Some, ap, gets, machine_of, slice_index, step, sym, wrapped, ◌∙◌, ℕ}
use Rattle.program_object.proofs.step.Frame.step.Goals as goal

pub returns-in-Set : goal.returns-in-Set
returns-in-Set c =
    c.get.ensures c.args.state.now c.args.reply.now
    ∙ ap (λ (i : Instruction). step (machine_of c.args.self.now c.args.state.now c.args.reply.now) c.args.invocation.now i) (sym c.in-Set.is)

pub returns-in-Wrap : goal.returns-in-Wrap
returns-in-Wrap c =
    let m = machine_of c.args.self.now c.args.state.now c.args.reply.now in
    c.get-in-Wrap.ensures c.args.state.now c.args.reply.now
    ∙ ap (λ (x : ℕ). gets m c.in-Wrap.to (Some x) 0)
    (c.wrapped.ensures
    ∙ ap (λ (x : ℕ). wrapped c.in-Wrap.by x c.has-in-Wrap-2.result) c.has-in-Wrap.ensures
    ∙ ap (λ (x : ℕ). wrapped c.in-Wrap.by (slice_index c.args.self.now.registers c.in-Wrap.left) x) c.has-in-Wrap-2.ensures)
    ∙ ap (λ (i : Instruction). step m c.args.invocation.now i) (sym c.in-Wrap.is)
