-- Seats without an owner.
use Rattle.std.specs.Prelude.{◌≡◌, refl, true, ℕ, ◌+◌, ◌*◌, ◌<◌, List, [], ◌∷◌, ◌++◌, Option, Some, None}
use Rattle.uni_small.specs.Image.{buffer_words, counter_sizes}
use Rattle.uni_small.specs.View.{Returned}
use Rattle.uni_small.specs.Plays.{has_begun}
use Rattle.uni_small.specs.Standing.{IsOf, attempt_steps, local_of}
use Rattle.uni_small.specs.declared.log.SmallShared.{SmallShared}
use Rattle.uni_small.specs.declared.orphan.SmallOrphan.{SmallOrphan}
use Rattle.uni_small.specs.declared.sizes.Sizes.{Sizes}

-- the orphan is one of this object's; of where it stands its field `told` alone says something: a call of it that has
-- begun was announced
pub record IsOrphanOf {O : Type 0} (shared : SmallShared O) (orphan : SmallOrphan O) : Type 0 where
  pub table : orphan.seat.table_id ≡ shared.table.shared.table_id
  pub inside : orphan.p < shared.setup.sizes.processes
  pub of : IsOf shared.setup.object shared.setup.sizes orphan.p orphan.seat.me

-- its process, its calls that have returned, and how many word steps it has taken
abbrev pub orphan_process : {O : Type 0} → SmallOrphan O → ℕ
orphan_process orphan = orphan.p

abbrev pub calls_before : {O : Type 0} → SmallOrphan O → List Returned
calls_before orphan = (local_of orphan.seat.me).own

abbrev pub orphan_steps : {O : Type 0} → SmallOrphan O → ℕ
orphan_steps orphan = (local_of orphan.seat.me).steps

-- a call of it was announced and has not returned (no orphan is in a direct call that took effect: `told` of
-- `SmallOrphan`)
abbrev pub IsInCall : {O : Type 0} → SmallOrphan O → Type 0
IsInCall orphan = has_begun (local_of orphan.seat.me).stage (local_of orphan.seat.me).direct ≡ true

-- its calls once it is taken over: with the one that it was in, which has returned with this reply, in this version
abbrev pub calls_after : {O : Type 0} → SmallOrphan O → (reply : List ℕ) → (version : Option ℕ) → List Returned
calls_after orphan reply None = calls_before orphan
calls_after orphan reply (Some version) =
    let l = local_of orphan.seat.me in
    calls_before orphan ++ record { inv = l.inv; reply = reply; after = l.after; version = version } ∷ []

-- how many word steps it takes at most to take over a seat: its announcement and both buffers are loaded, and its call
-- begins again
abbrev pub take_over_steps : Sizes → ℕ
take_over_steps sizes = 2 * buffer_words sizes + 2 * attempt_steps sizes + sizes.reply + 3

-- two processes on a counter of one word; a call takes at most 55 there
sample_take_over : take_over_steps (counter_sizes 2) ≡ 48
sample_take_over = refl
