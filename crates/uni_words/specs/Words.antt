-- The shared places as words of one table: announce, the heads, and five columns over the cells.
use Rattle.std.specs.Prelude.{◌≡◌, ℕ, zero, suc, ◌+◌, ◌-◌, ◌*◌, ◌/◌, ◌%◌, ◌^◌, List, [], ◌∷◌}
use Rattle.std.specs.Prelude.{◌&&◌, Option, None, Some, option_map, if◌then◌else◌, nat_lt, slice_index}
use Rattle.std.specs.Prelude.{slice_set, replicate}
use Rattle.std.specs.Prelude.{refl}
use Rattle.std.specs.Option.{option_map_or}
use Rattle.uni_model.specs.Places.{Name, Place, Content, Memory}
use Rattle.uni_model.specs.Places.Name.{Anchor, Of}
use Rattle.uni_model.specs.Places.Place.{Announced, HeadOf, InvOf, SeqOf, AfterOf, NewOf, BeforeOf}
use Rattle.uni_model.specs.Indices.{index_of, name_of}
use Rattle.uni_model.specs.Places.Content.{CellName, Invocation, Number, Link, Settled}

-- how many cells there are, where each of n processes can make so many calls
abbrev pub cells_of : (n row : ℕ) → ℕ
cells_of n row = n * row + 1

-- the index of a cell, where there is room for it
abbrev pub index_in : (n row : ℕ) → Name → Option ℕ
index_in n row Anchor = Some 0
index_in n row (Of p k) = if nat_lt p n && nat_lt k row then Some (index_of n p k) else None

-- the columns of the table, from the first on: announce, the heads, and of each cell inv, seq, before, after, new
abbrev pub column_of : Place → ℕ
column_of (Announced p) = 0
column_of (HeadOf p) = 1
column_of (InvOf x) = 2
column_of (SeqOf x) = 3
column_of (BeforeOf x) = 4
column_of (AfterOf x) = 5
column_of (NewOf x) = 6

-- where a column begins
abbrev pub start_of : (n row column : ℕ) → ℕ
start_of n row zero = 0
start_of n row (suc zero) = n
start_of n row (suc (suc f)) = 2 * n + f * cells_of n row

-- where a place stands in its column
abbrev pub offset_of : (n row : ℕ) → Place → Option ℕ
offset_of n row (Announced p) = if nat_lt p n then Some p else None
offset_of n row (HeadOf p) = if nat_lt p n then Some p else None
offset_of n row (InvOf x) = index_in n row x
offset_of n row (SeqOf x) = index_in n row x
offset_of n row (BeforeOf x) = index_in n row x
offset_of n row (AfterOf x) = index_in n row x
offset_of n row (NewOf x) = index_in n row x

-- the word that a place is
abbrev pub word_of : (n row : ℕ) → Place → Option ℕ
word_of n row place = option_map (λ j. start_of n row (column_of place) + j) (offset_of n row place)

abbrev pub words_of : (n row : ℕ) → ℕ
words_of n row = 2 * n + 5 * cells_of n row

-- a link: 0 for none, and the index plus 1 otherwise
abbrev pub link_of : (n word : ℕ) → Option Name
link_of n zero = None
link_of n (suc i) = Some (name_of n i)

-- what is settled in `new`: 0 for nothing, and 1 + 2 * reply + 2^32 * state otherwise
abbrev pub settled_word : (state reply : ℕ) → ℕ
settled_word s r = 1 + 2 * r + 4294967296 * s

abbrev pub state_in : ℕ → ℕ
state_in word = word / 4294967296

abbrev pub reply_in : ℕ → ℕ
reply_in word = (word % 4294967296) / 2

-- the anchor has no reply
abbrev pub reply_at : Name → ℕ → Option ℕ
reply_at Anchor r = None
reply_at (Of p k) r = Some r

abbrev pub settled_at : Name → (word : ℕ) → Option (ℕ × Option ℕ)
settled_at x zero = None
settled_at x (suc w) = Some (state_in (suc w), reply_at x (reply_in (suc w)))

-- what a word is at its place
abbrev pub content_of : (n : ℕ) → Place → (word : ℕ) → Content ℕ ℕ ℕ
content_of n (Announced p) v = CellName (name_of n v)
content_of n (HeadOf p) v = CellName (name_of n v)
content_of n (InvOf x) v = Invocation (Some v)
content_of n (SeqOf x) v = Number v
content_of n (AfterOf x) v = Link (link_of n v)
content_of n (BeforeOf x) v = Link (link_of n v)
content_of n (NewOf x) v = Settled (settled_at x v)

-- the word of a place; 0 where the table has none
abbrev pub word_at : (n row : ℕ) → List ℕ → Place → ℕ
word_at n row words place = option_map_or (slice_index words) (word_of n row place) 0

-- the words of a table that is made: the anchor's number is 1, and its state the start state
abbrev pub first_words : (n row start : ℕ) → List ℕ
first_words n row start =
    slice_set (slice_set (replicate (words_of n row) 0) (start_of n row 3) 1) (start_of n row 6) (settled_word start 0)

-- the invocation of a call is there once the call has begun
abbrev pub inv_at : (n row : ℕ) → List ℕ → (begun : ℕ → ℕ) → Name → Option ℕ
inv_at n row words begun Anchor = None
inv_at n row words begun (Of p k) = if nat_lt k (begun p) then Some (word_at n row words (InvOf (Of p k))) else None

-- what the shared places contain
abbrev pub memory_of : (n row : ℕ) → List ℕ → (begun : ℕ → ℕ) → Memory ℕ ℕ ℕ
memory_of n row words begun (InvOf x) = Invocation (inv_at n row words begun x)
memory_of n row words begun place = content_of n place (word_at n row words place)

-- the places that steps touch: all but invocations
abbrev pub IsShared : Place → Type 0
IsShared (InvOf x) = ⊥
IsShared _ = Unit {0}

-- two processes with rows of three calls: the `new` of the second call of process 1
sample_new : word_of 2 3 (NewOf (Of 1 1)) ≡ Some 36
sample_new = refl

sample_settled : settled_at (Of 0 0) (settled_word 5 7) ≡ Some (5, Some 7)
sample_settled = refl

-- of one process with rows of one call: the words of a log in which its call has the invocation 5
sample_words : List ℕ
sample_words = 1 ∷ 1 ∷ 0 ∷ 5 ∷ 1 ∷ 2 ∷ 0 ∷ 1 ∷ 2 ∷ 0 ∷ 1 ∷ 21474836481 ∷ []

sample_first : first_words 1 1 3 ≡ 0 ∷ 0 ∷ 0 ∷ 0 ∷ 1 ∷ 0 ∷ 0 ∷ 0 ∷ 0 ∷ 0 ∷ 12884901889 ∷ 0 ∷ []
sample_first = refl

sample_count : words_of 1 1 ≡ 12
sample_count = refl

sample_after : memory_of 1 1 sample_words (λ p. 1) (AfterOf Anchor) ≡ Link (Some (Of 0 0))
unfolding sample_words
sample_after = refl

sample_inv : memory_of 1 1 sample_words (λ p. 1) (InvOf (Of 0 0)) ≡ Invocation (Some 5)
unfolding sample_words
sample_inv = refl

sample_settled_state : memory_of 1 1 sample_words (λ p. 1) (NewOf (Of 0 0)) ≡ Settled (Some (5, Some 0))
unfolding sample_words
sample_settled_state = refl

-- the last cell of a table of two processes with rows of three calls, and the first process and the first call that it
-- has no room for
last_cell_is_there : index_in 2 3 (Of 1 2) ≡ Some 6
last_cell_is_there = refl

third_process_has_no_cell : index_in 2 3 (Of 2 0) ≡ None
third_process_has_no_cell = refl

fourth_call_has_no_cell : index_in 2 3 (Of 1 3) ≡ None
fourth_call_has_no_cell = refl

last_process_has_a_head : word_of 2 3 (HeadOf 1) ≡ Some 3
last_process_has_a_head = refl

third_process_has_no_head : word_of 2 3 (HeadOf 2) ≡ None
third_process_has_no_head = refl

third_process_is_not_announced : word_of 2 3 (Announced 2) ≡ None
third_process_is_not_announced = refl

-- it is the last of 39 words
last_word : word_of 2 3 (NewOf (Of 1 2)) ≡ Some 38
last_word = refl

count_of_words : words_of 2 3 ≡ 39
count_of_words = refl

-- the greatest table
most_words : words_of 64 4096 ≡ 1310853
most_words = refl

last_of_most_words : word_of 64 4096 (NewOf (Of 63 4095)) ≡ Some 1310852
last_of_most_words = refl

-- a link to nothing, and one to the anchor
link_of_0 : link_of 2 0 ≡ None
link_of_0 = refl

link_of_1 : link_of 2 1 ≡ Some Anchor
link_of_1 = refl

-- the least state and reply, and the greatest, which fill 63 bits
least_settled : settled_at (Of 0 0) (settled_word 0 0) ≡ Some (0, Some 0)
least_settled = refl

greatest_settled : settled_at (Of 0 0) (settled_word 2147483647 2147483647) ≡ Some (2147483647, Some 2147483647)
greatest_settled = refl

greatest_settled_word : settled_word 2147483647 2147483647 ≡ 2 ^ 63 - 1
greatest_settled_word = refl

nothing_settled : settled_at (Of 0 0) 0 ≡ None
nothing_settled = refl
