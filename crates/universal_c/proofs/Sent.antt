-- What a handle holds may go to another thread, also the words of a closed log: rows of numbers, and the rights to free them by any thread.
use Rattle.universal_c.proofs.Vocabulary.{AllSend, Bool, Fml, IsSend, Keyless, List, Ptr, RattleType, Ty, [], block_ptr, enum_send, exits_of, false, ghosts, in_block, lies, null_ptr, owning_send, quiet, recorded_send, room_for, sendable, struct_send, true, u64, u8, ◌+ₚ◌, ◌∷◌}
use denote.Enum.Declared as enum
use denote.Struct.Declared as declared
use denote.Struct.Owning as owning
use Rattle.core.specs.Mem.Slots.Ownership.{bytes_of, slots}
use Rattle.core.specs.contracts.slots.Slots as Slots
use Rattle.core.specs.contracts.slots.Lease as Lease
use Rattle.std.proofs.Crossing as crossing
use Rattle.std.proofs.alloc.Global.TheSendSync as heap
use Rattle.std.specs.contracts.alloc.Global as Heap
use Rattle.atomic_table.specs.contracts.owned.Closed as Closed
use Rattle.uni_words.specs.contracts.read.WordEntry as WordEntry
use Rattle.uni_words.specs.contracts.words.Words as Words
use Rattle.uni_words.proofs.read.WordEntry.TheSendSync as entry
use Rattle.universal_c.specs.contracts.held.Held as Held
use Rattle.universal_c.proofs.held.Opened.TheSendSync as opened
use Rattle.universal_c.proofs.held.Seated.TheSendSync as seated
use Rattle.universal_c.proofs.held.SmallOpened.TheSendSync as small
use Rattle.universal_c.proofs.held.SmallPlace.TheSendSync as place
use Rattle.universal_c.proofs.held.SmallLeft.TheSendSync as left

room : (τ : Ty) (p : Ptr) → Keyless (room_for τ p)
room τ (block_ptr b o) = tt
room τ null_ptr = tt

inside : (p : Ptr) (F : Fml) → Keyless F → Keyless (in_block p F)
inside (block_ptr b o) F k = k
inside null_ptr F k = tt

module _ (R : RattleType) (s : IsSend R) where
  places_keyless : (p : Ptr) (xs : List R.Denot) (fs : List Bool) → Keyless (slots R p xs fs)
  places_keyless p [] fs = tt
  places_keyless p (x ∷ xs) [] = tt
  places_keyless p (x ∷ xs) (true ∷ fs) = (lies R s p x, places_keyless (p +ₚ bytes_of R) xs fs)
  places_keyless p (x ∷ xs) (false ∷ fs) = (room _ p, places_keyless (p +ₚ bytes_of R) xs fs)

  slots_send : IsSend (Slots.the_row R)
  slots_send = let O = Slots.the_type R in let all : AllSend (owning.fields O) = (search sendable, (search sendable, tt)) in
      owning_send O all (λ d. (tt, inside d.ptr _ (places_keyless d.ptr d.items d.filled))) (λ k. quiet (owning.to O) (exits_of k (owning.fields O)) ((struct_send (owning.shape O) all).leaving k))

  lease_send : IsSend (Lease.the_row R Heap.the_row ghosts)
  lease_send = let O = Lease.the_type R Heap.the_row ghosts in let all : AllSend (owning.fields O) = (search sendable, (search sendable, (search sendable, tt))) in
      owning_send O all (λ d. crossing.frees.frees _ _ _) (λ k. quiet (owning.to O) (exits_of k (owning.fields O)) ((struct_send (owning.shape O) all).leaving k))

closed_send : IsSend (Closed.the_field u8 Heap.the_row ghosts).row
closed_send = let numbers : IsSend u64 = search sendable in let bytes : IsSend u8 = search sendable in
    struct_send (declared.shape (Closed.the_type u8 Heap.the_row ghosts))
    (slots_send u64 numbers, (slots_send u8 bytes, (lease_send u64 numbers, (lease_send u8 bytes, (heap.the_send, tt)))))

words_send : IsSend (Words.the_field).row
words_send = struct_send (declared.shape Words.the_type) (search sendable, (search sendable, (closed_send, tt)))

pub held_send : IsSend Held.the_row
held_send = recorded_send (Held.the_field).row _ _ (Held.the_type).to_one (enum_send (enum.shape Held.the_type) (
  (opened.the_field_send, tt),
  ((seated.the_field_send, tt), ((words_send, tt), ((crossing.Vec-send WordEntry.the_row entry.the_send, tt), ((small.the_field_send, tt), ((place.the_field_send, tt), ((left.the_field_send, tt), (tt, tt))))))),
))
