-- Executions on a counter of one word: a call of one process from its first step to its last, announced and attempted directly; and two
-- processes whose calls overlap.
use Rattle.uni_small.proofs.Vocabulary.{AreWhole, List, Option, ap, drop, take, sym, ◌∙◌, None, most_calls, inl, inr, Invoke, Linearize, Respond, Sizes, Some, [], arith, refl, suc, zero, ℕ, ◌<◌, ◌∷◌, ◌≡◌, read_image, slice_index, held_place}
use Rattle.std.proofs.lemmas.List.{get_or-drop, get_or-take}
use Rattle.uni_model.specs.Executions.Execution.{Ends, Takes}
use Rattle.uni_small.specs.Image.{counter_sizes, sample_counter}
use Rattle.uni_small.specs.Execution.{Execution, goes_on, all_acts, last_moment, opened_moment}
use Rattle.uni_small.specs.Execution.Next.{Store, Announce, TryDirectly, Start, Copy, Look, Ask, Check, CheckOwn, Write, Bring, BringOwn, Recount, Reply, Restart}
use Rattle.uni_small.specs.Progress.{steps_of_call}
use Rattle.uni_small.proofs.Progressing.{whole_none, whole_push}

abbrev sizes : Sizes
sizes = counter_sizes 1

whole : AreWhole sizes (Some (5 ∷ []) ∷ [])
whole = whole_push sizes [] (Some (5 ∷ [])) (whole_none sizes) (λ inv e. grind arith)

written : (i : ℕ) → i < 3 → slice_index (0 ∷ 0 ∷ 0 ∷ 1 ∷ 0 ∷ 5 ∷ []) (held_place sizes 1 i) ≡ slice_index (1 ∷ 0 ∷ 5 ∷ []) i
written zero below = refl
written (suc zero) below = refl
written (suc (suc zero)) below = refl
written (suc (suc (suc i))) below = absurd (omega arith)

one : 0 < 1
one = omega arith

room : 0 < most_calls
room = omega arith

none_below : 0 < 3
none_below = omega arith

two_below : 2 < 3
two_below = omega arith

-- once the count is stored, the words before the sum are as they are to be
before_sum : (i : ℕ) → i < 2 → slice_index (0 ∷ 0 ∷ 0 ∷ 1 ∷ 0 ∷ 0 ∷ []) (held_place sizes 1 i) ≡ slice_index (1 ∷ 0 ∷ 5 ∷ []) i
before_sum zero below = refl
before_sum (suc zero) below = refl
before_sum (suc (suc i)) below = absurd (omega arith)

-- up to the exchange by which it takes effect, where a process may stop for good
abbrev stopped_call : Execution sample_counter sizes (opened_moment sample_counter sizes)
stopped_call =
    Takes 0 one (Store [] 5 refl one room) (
    Takes 0 one (Announce (5 ∷ []) refl refl (omega arith)) (
    Takes 0 one (Start 0 refl (omega arith)) (
    Takes 0 one (Look 0 0 (0 ∷ 0 ∷ 0 ∷ []) [] refl refl (whole_none sizes) one) (
    Takes 0 one (Ask 0 0 (0 ∷ 0 ∷ 0 ∷ []) [] [] refl one one) (
    Takes 0 one (Check 0 0 (0 ∷ 0 ∷ 0 ∷ []) (Some (5 ∷ []) ∷ []) refl refl whole refl refl) (
    Takes 0 one (Write 0 0 (read_image sizes (0 ∷ 0 ∷ 0 ∷ [])) (Some (5 ∷ []) ∷ []) (Some (5 ∷ []) ∷ []) 0 0 refl (inl (refl, refl), omega arith, λ i below. absurd (omega arith)) none_below) (
    Takes 0 one (Write 0 0 (read_image sizes (0 ∷ 0 ∷ 0 ∷ [])) (Some (5 ∷ []) ∷ []) (Some (5 ∷ []) ∷ []) 1 2 refl (inl (refl, refl), omega arith, before_sum) two_below) (
    Takes 0 one (Bring 0 0 (read_image sizes (0 ∷ 0 ∷ 0 ∷ [])) (Some (5 ∷ []) ∷ []) 3 refl written refl) Ends))))))))

one_call : Execution sample_counter sizes (opened_moment sample_counter sizes)
one_call = goes_on sample_counter sizes stopped_call (Takes 0 one (Reply 129 [] refl refl) Ends)

sample_acts : all_acts sample_counter sizes one_call
    ≡ Invoke 0 0 (5 ∷ []) ∷ Linearize (record { process = 0; nth = 0; inv = 5 ∷ [] }) ∷ Respond 0 0 (0 ∷ []) ∷ []
unfolding one_call
sample_acts = refl

-- it takes 10 of the 37 steps that it may take at most
sample_steps : steps_of_call sample_counter sizes 0 0 one_call ≡ 10
unfolding one_call
sample_steps = refl

-- S names version 1 and buffer 1 then, whose last word is the sum
sample_words : (last_moment sample_counter sizes one_call).words ≡ 129 ∷ 1 ∷ 5 ∷ 0 ∷ 0 ∷ 0 ∷ 1 ∷ 0 ∷ 5 ∷ []
unfolding one_call
sample_words = refl

none_whole : AreWhole sizes (None ∷ [])
none_whole = whole_push sizes [] None (whole_none sizes) (λ inv e. absurd (cc))

-- Its seat is taken over: the announcement tells one call, so it begins again, finds that it is in, and is answered the same.
taken_over : Execution sample_counter sizes (opened_moment sample_counter sizes)
taken_over = goes_on sample_counter sizes stopped_call (
    Takes 0 one Recount (
    Takes 0 one Restart (
    Takes 0 one (Start 0 refl (omega arith)) (
    Takes 0 one (Look 0 129 (1 ∷ 0 ∷ 5 ∷ []) [] refl refl (whole_none sizes) one) (
    Takes 0 one (Check 0 129 (1 ∷ 0 ∷ 5 ∷ []) (None ∷ []) refl refl none_whole refl refl) (
    Takes 0 one (Reply 129 [] refl refl) Ends))))))

taken_over_acts : all_acts sample_counter sizes taken_over
    ≡ Invoke 0 0 (5 ∷ []) ∷ Linearize (record { process = 0; nth = 0; inv = 5 ∷ [] }) ∷ Respond 0 0 (0 ∷ []) ∷ []
unfolding taken_over
taken_over_acts = refl

-- a call that is attempted directly
direct_call : Execution sample_counter sizes (opened_moment sample_counter sizes)
direct_call =
    Takes 0 one (TryDirectly refl refl room) (
    Takes 0 one (Look 0 0 (0 ∷ 0 ∷ 0 ∷ []) [] refl refl (whole_none sizes) one) (
    Takes 0 one (CheckOwn 0 (0 ∷ 0 ∷ 0 ∷ []) (None ∷ []) refl refl none_whole refl refl) (
    Takes 0 one (Write 0 0 (read_image sizes (0 ∷ 0 ∷ 0 ∷ [])) (None ∷ []) (Some (5 ∷ []) ∷ []) 0 0 refl (inr (refl, 5 ∷ [], refl, refl), omega arith, λ i below. absurd (omega arith)) none_below) (
    Takes 0 one (Write 0 0 (read_image sizes (0 ∷ 0 ∷ 0 ∷ [])) (None ∷ []) (Some (5 ∷ []) ∷ []) 1 2 refl (inr (refl, 5 ∷ [], refl, refl), omega arith, before_sum) two_below) (
    Takes 0 one (BringOwn 0 (read_image sizes (0 ∷ 0 ∷ 0 ∷ [])) (None ∷ []) 3 (5 ∷ []) refl written refl refl room) (
    Takes 0 one (Reply 129 [] refl refl) Ends))))))

direct_acts : all_acts sample_counter sizes direct_call
    ≡ Invoke 0 0 (5 ∷ []) ∷ Linearize (record { process = 0; nth = 0; inv = 5 ∷ [] }) ∷ Respond 0 0 (0 ∷ []) ∷ []
unfolding direct_call
direct_acts = refl

-- it takes 7 steps, and stores no announcement
direct_steps : steps_of_call sample_counter sizes 0 0 direct_call ≡ 7
unfolding direct_call
direct_steps = refl

direct_words : (last_moment sample_counter sizes direct_call).words ≡ 129 ∷ 0 ∷ 0 ∷ 0 ∷ 0 ∷ 0 ∷ 1 ∷ 0 ∷ 5 ∷ []
unfolding direct_call
direct_words = refl

-- Two processes whose calls overlap: process 1 announces an add of 3 and takes no step for a while. Process 0 attempts an add of 5
-- directly, sees the announced call, and brings both in. Then process 1 finds that its call is in.
abbrev pair : Sizes
pair = counter_sizes 2

abbrev start : List ℕ
start = 0 ∷ 0 ∷ 0 ∷ 0 ∷ 0 ∷ []

abbrev both : List (Option (List ℕ))
both = Some (5 ∷ []) ∷ Some (3 ∷ []) ∷ []

abbrev seen_one : List (Option (List ℕ))
seen_one = None ∷ Some (3 ∷ []) ∷ []

one_seen_whole : AreWhole pair seen_one
one_seen_whole = whole_push pair (None ∷ []) (Some (3 ∷ [])) (whole_push pair [] None (whole_none pair) (λ inv e. absurd (cc))) (λ inv e. grind arith)

none_seen_whole : AreWhole pair (None ∷ [])
none_seen_whole = whole_push pair [] None (whole_none pair) (λ inv e. absurd (cc))

nobody_whole : AreWhole pair (None ∷ None ∷ [])
nobody_whole = whole_push pair (None ∷ []) None none_seen_whole (λ inv e. absurd (cc))

-- the words of its spare buffer that process 0 has written, of the five that it is to have
agree : (held : List ℕ) (k : ℕ) → take k (drop 5 held) ≡ take k (1 ∷ 1 ∷ 0 ∷ 5 ∷ 8 ∷ []) → (i : ℕ) → i < k → slice_index held (held_place pair 1 i) ≡ slice_index (1 ∷ 1 ∷ 0 ∷ 5 ∷ 8 ∷ []) i
agree held k same i below =
    sym (get_or-drop 5 held i 0) ∙ sym (get_or-take k (drop 5 held) i 0 below) ∙ ap (λ (xs : List ℕ). slice_index xs i) same ∙ get_or-take k (1 ∷ 1 ∷ 0 ∷ 5 ∷ 8 ∷ []) i 0 below

two_calls : Execution sample_counter pair (opened_moment sample_counter pair)
two_calls =
    Takes 1 (omega arith) (Store [] 3 refl (omega arith) room) (
    Takes 1 (omega arith) (Announce (3 ∷ []) refl refl room) (
    Takes 0 (omega arith) (TryDirectly refl refl room) (
    Takes 0 (omega arith) (Look 0 0 start [] refl refl (whole_none pair) (omega arith)) (
    Takes 0 (omega arith) (Look 0 0 start (None ∷ []) refl refl none_seen_whole (omega arith)) (
    Takes 0 (omega arith) (Ask 0 0 start (None ∷ []) [] refl (omega arith) (omega arith)) (
    Takes 0 (omega arith) (CheckOwn 0 start seen_one refl refl one_seen_whole refl refl) (
    Takes 0 (omega arith) (Write 0 0 (read_image pair start) seen_one both 0 0 refl (inr (refl, 5 ∷ [], refl, refl), omega arith, agree (0 ∷ 0 ∷ 0 ∷ 0 ∷ 0 ∷ 0 ∷ 0 ∷ 0 ∷ 0 ∷ 0 ∷ []) 0 refl) (omega arith)) (
    Takes 0 (omega arith) (Write 0 0 (read_image pair start) seen_one both 1 1 refl (inr (refl, 5 ∷ [], refl, refl), omega arith, agree (0 ∷ 0 ∷ 0 ∷ 0 ∷ 0 ∷ 1 ∷ 0 ∷ 0 ∷ 0 ∷ 0 ∷ []) 1 refl) (omega arith)) (
    Takes 0 (omega arith) (Write 0 0 (read_image pair start) seen_one both 2 3 refl (inr (refl, 5 ∷ [], refl, refl), omega arith, agree (0 ∷ 0 ∷ 0 ∷ 0 ∷ 0 ∷ 1 ∷ 1 ∷ 0 ∷ 0 ∷ 0 ∷ []) 3 refl) (omega arith)) (
    Takes 0 (omega arith) (Write 0 0 (read_image pair start) seen_one both 4 4 refl (inr (refl, 5 ∷ [], refl, refl), omega arith, agree (0 ∷ 0 ∷ 0 ∷ 0 ∷ 0 ∷ 1 ∷ 1 ∷ 0 ∷ 5 ∷ 0 ∷ []) 4 refl) (omega arith)) (
    Takes 0 (omega arith) (BringOwn 0 (read_image pair start) seen_one 5 (5 ∷ []) refl (agree (0 ∷ 0 ∷ 0 ∷ 0 ∷ 0 ∷ 1 ∷ 1 ∷ 0 ∷ 5 ∷ 8 ∷ []) 5 refl) refl refl room) (
    Takes 0 (omega arith) (Reply 129 [] refl refl) (
    Takes 1 (omega arith) (Start 0 refl (omega arith)) (
    Takes 1 (omega arith) (Copy 0 129 [] refl (omega arith)) (
    Takes 1 (omega arith) (Copy 0 129 (1 ∷ []) refl (omega arith)) (
    Takes 1 (omega arith) (Copy 0 129 (1 ∷ 1 ∷ []) refl (omega arith)) (
    Takes 1 (omega arith) (Copy 0 129 (1 ∷ 1 ∷ 0 ∷ []) refl (omega arith)) (
    Takes 1 (omega arith) (Copy 0 129 (1 ∷ 1 ∷ 0 ∷ 5 ∷ []) refl (omega arith)) (
    Takes 1 (omega arith) (Look 0 129 (1 ∷ 1 ∷ 0 ∷ 5 ∷ 8 ∷ []) [] refl refl (whole_none pair) (omega arith)) (
    Takes 1 (omega arith) (Look 0 129 (1 ∷ 1 ∷ 0 ∷ 5 ∷ 8 ∷ []) (None ∷ []) refl refl none_seen_whole (omega arith)) (
    Takes 1 (omega arith) (Check 0 129 (1 ∷ 1 ∷ 0 ∷ 5 ∷ 8 ∷ []) (None ∷ None ∷ []) refl refl nobody_whole refl refl) (
    Takes 1 (omega arith) (Reply 129 [] refl refl) Ends))))))))))))))))))))))

-- the call of process 1 was invoked first, and takes effect second: it is answered the 5 of process 0
two_acts : all_acts sample_counter pair two_calls
    ≡ Invoke 1 0 (3 ∷ []) ∷ Invoke 0 0 (5 ∷ []) ∷ Linearize (record { process = 0; nth = 0; inv = 5 ∷ [] }) ∷ Linearize (record { process = 1; nth = 0; inv = 3 ∷ [] })
    ∷ Respond 0 0 (0 ∷ []) ∷ Respond 1 0 (5 ∷ []) ∷ []
unfolding two_calls
two_acts = refl

-- in 11 steps of process 0 and 12 of process 1, of at most 55
two_steps : steps_of_call sample_counter pair 0 0 two_calls ≡ 11
unfolding two_calls
two_steps = refl

two_steps_later : steps_of_call sample_counter pair 1 0 two_calls ≡ 12
unfolding two_calls
two_steps_later = refl

pub seen_it : Execution sample_counter (counter_sizes 1) (opened_moment sample_counter (counter_sizes 1))
seen_it = one_call
