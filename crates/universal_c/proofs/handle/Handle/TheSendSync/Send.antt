-- A handle may go to another thread: what it owns is a box of what may, and the right to free it by any thread.
use mir.Raw.{raw as bare}
use Rattle.universal_c.proofs.Vocabulary.{AllSend, Global, IsSend, Keyless, Option, Ptr, RattleType, block_ptr, exits_of, full_share, lone, null_ptr, owned, owning_send, part_keyless, quiet, sendable, struct_send}
use denote.Struct.Owning.{fields, shape, to}
use Rattle.std.proofs.alloc.Global.TheSendSync as global
use Rattle.std.proofs.Crossing.{frees}
use Rattle.universal_c.proofs.Sent.{held_send}
use Rattle.universal_c.specs.contracts.handle.Handle.{the_row, the_type}

owned_keyless : (R : RattleType) → IsSend R → (heap : Global) (p : Ptr) (value : Option R.Denot) → Keyless (owned R heap p value)
owned_keyless R s heap null_ptr value = λ _. tt
owned_keyless R s heap (block_ptr b o) value = λ x. ((λ _. tt), (part_keyless R s full_share x b o, frees.frees heap (bare (lone R.mir)) (block_ptr b o)))

pub send : IsSend the_row
send =
    let all : AllSend (fields the_type) = (search sendable, (global.the_field_send, tt)) in
    owning_send the_type all (λ d. owned_keyless _ held_send d.heap d.at d.value) (λ k. quiet (to the_type) (exits_of k (fields the_type)) ((struct_send (shape the_type) all).leaving k))
