-- The words after a store are those of the board after it.
use Rattle.uni_small.proofs.Vocabulary.{AreWords, Board, List, Sizes, announce_word, ap, argument_word, arith, buffer_word, buffer_words, current_word, get_or-set_other, get_or-set_same, held_place, inl, inr, length, length-set, lt_cases, mul-le-mul_right, number_cases, reply_place, set_at, set_at-cases, slice_index, slice_set, suc, suc-mul, sym, words_of, ℕ, ◌*◌, ◌+◌, ◌<◌, ◌∙◌, ◌≡◌, ◌≢◌, ◌≤◌, ◌⊎◌, AreBuffers, Buffers, Local}

module _ (sizes : Sizes) where
  -- a buffer's words end where the next one's begin
  further : (a b wide : ℕ) → a < b → a * wide + wide ≤ b * wide
  further a b wide less = let h : suc a * wide ≤ b * wide = mul-le-mul_right wide less in let s : suc a * wide ≡ a * wide + wide = suc-mul a wide in omega arith

  pub buffer_inside : (b i : ℕ) → b < 2 * sizes.processes → i < buffer_words sizes → buffer_word sizes b i < words_of sizes
  buffer_inside b i inside below = let h = further b (2 * sizes.processes) (buffer_words sizes) inside in omega arith

  -- so do those of an argument, and all of them before the buffers
  argument_inside : (p k : ℕ) → p < sizes.processes → k < sizes.invocation → p * sizes.invocation + k < sizes.processes * sizes.invocation
  argument_inside p k inside below = let h = further p sizes.processes sizes.invocation inside in omega arith

  pub argument_in_table : (p k : ℕ) → p < sizes.processes → k < sizes.invocation → argument_word sizes p k < words_of sizes
  argument_in_table p k inside below = let h = argument_inside p k inside below in omega arith

  pub reply_in_table : (b r k : ℕ) → b < 2 * sizes.processes → r < sizes.processes → k < sizes.reply → buffer_word sizes b (reply_place sizes r k) < words_of sizes
  reply_in_table b r k inside below room = buffer_inside b (reply_place sizes r k) inside (let h = further r sizes.processes sizes.reply below in omega arith)

  -- each word of an argument is one word of the table
  apart_arguments : (p j q k : ℕ) → j < sizes.invocation → k < sizes.invocation → p ≢ q → argument_word sizes p j ≢ argument_word sizes q k
  apart_arguments p j q k first second apart same = elim (lt_cases p q) [
    | inl less ↦ (let h = further p q sizes.invocation less.0 in omega arith)
    | inr more ↦ (let h = further q p sizes.invocation (let m = more.0 in omega (arith, apart)) in omega arith)
  ]

  argument_apart : (p j q k : ℕ) → j < sizes.invocation → k < sizes.invocation → (p ≢ q) ⊎ (j ≢ k) → argument_word sizes p j ≢ argument_word sizes q k
  argument_apart p j q k first second (inl apart) same = apart_arguments p j q k first second apart same
  argument_apart p j q k first second (inr apart) same = elim (number_cases p q) [
    | inl here ↦ apart (let e : p * sizes.invocation ≡ q * sizes.invocation = ap (λ i. i * sizes.invocation) here.0 in omega arith)
    | inr other ↦ apart_arguments p j q k first second other.0 same
  ]

  -- and each word of a buffer
  apart_buffers : (b i c j : ℕ) → i < buffer_words sizes → j < buffer_words sizes → b ≢ c → buffer_word sizes b i ≢ buffer_word sizes c j
  apart_buffers b i c j first second apart same = elim (lt_cases b c) [
    | inl less ↦ (let h = further b c (buffer_words sizes) less.0 in omega arith)
    | inr more ↦ (let h = further c b (buffer_words sizes) (let m = more.0 in omega (arith, apart)) in omega arith)
  ]

  pub buffer_apart : (b i c j : ℕ) → i < buffer_words sizes → j < buffer_words sizes → (b ≢ c) ⊎ (i ≢ j) → buffer_word sizes b i ≢ buffer_word sizes c j
  buffer_apart b i c j first second (inl apart) same = apart_buffers b i c j first second apart same
  buffer_apart b i c j first second (inr apart) same = elim (number_cases b c) [
    | inl here ↦ apart (let e : b * buffer_words sizes ≡ c * buffer_words sizes = ap (λ k. k * buffer_words sizes) here.0 in omega arith)
    | inr other ↦ apart_buffers b i c j first second other.0 same
  ]

  -- the words of a process's two buffers
  pub held_inside : (which i : ℕ) → which ≤ 1 → i < buffer_words sizes → held_place sizes which i < 2 * buffer_words sizes
  held_inside which i either below = let h = further which 2 (buffer_words sizes) (omega arith) in omega arith

  pub held_room : (l : Local) (own : Buffers) → AreBuffers sizes l own → (from most : ℕ) → from + most ≤ buffer_words sizes → held_place sizes l.spare from + most ≤ length l.held
  held_room l own are from most room =
      let h = further own.spare 2 (buffer_words sizes) (let w = are.which in omega (arith, w)) in
      let s : l.spare * buffer_words sizes ≡ own.spare * buffer_words sizes = ap (λ k. k * buffer_words sizes) are.spare in
      let long : length l.held ≡ 2 * buffer_words sizes = ap (λ (xs : List ℕ). length xs) are.held ∙ are.long in
      omega (arith, h, s, long, room)

  pub held_apart : (which i spare j : ℕ) → i < buffer_words sizes → j < buffer_words sizes → (which ≢ spare) ⊎ (i ≢ j) → held_place sizes which i ≢ held_place sizes spare j
  held_apart which i spare j first second apart same = buffer_apart which i spare j first second apart (omega arith)

  module _ (g g' : Board) (ws : List ℕ) (are : AreWords sizes g ws) where
    -- S
    pub words_current : g'.told ≡ g.told → g'.argument ≡ g.argument → g'.buffer ≡ g.buffer → (x : ℕ) → x ≡ current_word g'.version g'.current → AreWords sizes g' (slice_set ws 0 x)
    words_current a b c x is = record {
      wide = length-set ws 0 x ∙ are.wide;
      current = get_or-set_same ws 0 x 0 (let w = are.wide in omega arith) ∙ is;
      announced = λ p inside. get_or-set_other ws 0 (announce_word p) x 0 (λ (e : announce_word p ≡ 0). omega arith) ∙ are.announced p inside ∙ ap (λ f. f p) (sym a);
      argument = λ p k inside below. get_or-set_other ws 0 (argument_word sizes p k) x 0 (λ (e : argument_word sizes p k ≡ 0). omega arith) ∙ are.argument p k inside below ∙ ap (λ f. slice_index (f p) k) (sym b);
      buffer = λ d i inside below. get_or-set_other ws 0 (buffer_word sizes d i) x 0 (λ (e : buffer_word sizes d i ≡ 0). omega arith) ∙ are.buffer d i inside below ∙ ap (λ f. f d i) (sym c);
    }

    module _ (version : g'.version ≡ g.version) (current : g'.current ≡ g.current) where
      current_same : current_word g.version g.current ≡ current_word g'.version g'.current
      current_same = λ k. current_word (sym version k) (sym current k)

      pub words_announced : (p x : ℕ) → p < sizes.processes → g'.told ≡ set_at g.told p x → g'.argument ≡ g.argument → g'.buffer ≡ g.buffer → AreWords sizes g' (slice_set ws (announce_word p) x)
      words_announced p x at a b c = record {
        wide = length-set ws (announce_word p) x ∙ are.wide;
        current = get_or-set_other ws (announce_word p) 0 x 0 (λ (e : 0 ≡ announce_word p). omega arith) ∙ are.current ∙ current_same;
        announced = λ q inside. elim (set_at-cases g.told p x q) [
          | inl here ↦ ap (λ k. slice_index (slice_set ws (announce_word p) x) (announce_word k)) here.0 ∙ get_or-set_same ws (announce_word p) x 0 (let w = are.wide in omega arith) ∙ sym here.1 ∙ ap (λ f. f q) (sym a)
          | inr other ↦ get_or-set_other ws (announce_word p) (announce_word q) x 0 (λ (e : announce_word q ≡ announce_word p). other.0 (omega arith)) ∙ are.announced q inside ∙ sym other.1 ∙ ap (λ f. f q) (sym a)
        ];
        argument = λ q k inside below. get_or-set_other ws (announce_word p) (argument_word sizes q k) x 0 (λ (e : argument_word sizes q k ≡ announce_word p). omega arith) ∙ are.argument q k inside below ∙ ap (λ f. slice_index (f q) k) (sym b);
        buffer = λ d i inside below. get_or-set_other ws (announce_word p) (buffer_word sizes d i) x 0 (λ (e : buffer_word sizes d i ≡ announce_word p). omega arith) ∙ are.buffer d i inside below ∙ ap (λ f. f d i) (sym c);
      }

      pub words_argument : (p k x : ℕ) → p < sizes.processes → k < sizes.invocation → length (g.argument p) ≡ sizes.invocation → g'.told ≡ g.told
          → g'.argument ≡ set_at g.argument p (slice_set (g.argument p) k x) → g'.buffer ≡ g.buffer → AreWords sizes g' (slice_set ws (argument_word sizes p k) x)
      words_argument p k x at room long a b c = record {
        wide = length-set ws (argument_word sizes p k) x ∙ are.wide;
        current = get_or-set_other ws (argument_word sizes p k) 0 x 0 (λ (e : 0 ≡ argument_word sizes p k). omega arith) ∙ are.current ∙ current_same;
        announced = λ q inside. get_or-set_other ws (argument_word sizes p k) (announce_word q) x 0 (λ (e : announce_word q ≡ argument_word sizes p k). omega arith) ∙ are.announced q inside ∙ ap (λ f. f q) (sym a);
        argument = λ q j inside below. elim (set_at-cases g.argument p (slice_set (g.argument p) k x) q) [
          | inl here ↦ elim (number_cases j k) [
            | inl there ↦ ap (slice_index (slice_set ws (argument_word sizes p k) x)) (λ i. argument_word sizes (here.0 i) (there.0 i))
                ∙ get_or-set_same ws (argument_word sizes p k) x 0 (let w = are.wide in let h = argument_in_table p k at room in omega arith)
                ∙ sym (get_or-set_same (g.argument p) k x 0 (omega arith)) ∙ ap (slice_index (slice_set (g.argument p) k x)) (sym there.0)
                ∙ ap (λ ws. slice_index ws j) (sym here.1) ∙ ap (λ f. slice_index (f q) j) (sym b)
            | inr other ↦ get_or-set_other ws (argument_word sizes p k) (argument_word sizes q j) x 0 (argument_apart q j p k below room (inr other.0)) ∙ are.argument q j inside below
                ∙ ap (λ i. slice_index (g.argument i) j) here.0 ∙ sym (get_or-set_other (g.argument p) k j x 0 other.0)
                ∙ ap (λ ws. slice_index ws j) (sym here.1) ∙ ap (λ f. slice_index (f q) j) (sym b)
          ]
          | inr other ↦ get_or-set_other ws (argument_word sizes p k) (argument_word sizes q j) x 0 (argument_apart q j p k below room (inl other.0)) ∙ are.argument q j inside below
              ∙ ap (λ ws. slice_index ws j) (sym other.1) ∙ ap (λ f. slice_index (f q) j) (sym b)
        ];
        buffer = λ d i inside below. get_or-set_other ws (argument_word sizes p k) (buffer_word sizes d i) x 0 (λ (e : buffer_word sizes d i ≡ argument_word sizes p k). let h = argument_inside p k at room in omega arith)
            ∙ are.buffer d i inside below ∙ ap (λ f. f d i) (sym c);
      }

      pub words_buffer : (b k x : ℕ) → b < 2 * sizes.processes → k < buffer_words sizes → g'.told ≡ g.told → g'.argument ≡ g.argument → g'.buffer ≡ set_at g.buffer b (set_at (g.buffer b) k x)
          → AreWords sizes g' (slice_set ws (buffer_word sizes b k) x)
      words_buffer b k x at room a e c = record {
        wide = length-set ws (buffer_word sizes b k) x ∙ are.wide;
        current = get_or-set_other ws (buffer_word sizes b k) 0 x 0 (λ (d : 0 ≡ buffer_word sizes b k). omega arith) ∙ are.current ∙ current_same;
        announced = λ q inside. get_or-set_other ws (buffer_word sizes b k) (announce_word q) x 0 (λ (d : announce_word q ≡ buffer_word sizes b k). omega arith) ∙ are.announced q inside ∙ ap (λ f. f q) (sym a);
        argument = λ q j inside below. get_or-set_other ws (buffer_word sizes b k) (argument_word sizes q j) x 0 (λ (d : argument_word sizes q j ≡ buffer_word sizes b k). let h = argument_inside q j inside below in omega arith)
            ∙ are.argument q j inside below ∙ ap (λ f. slice_index (f q) j) (sym e);
        buffer = λ d i inside below. elim (set_at-cases g.buffer b (set_at (g.buffer b) k x) d) [
          | inl here ↦ elim (set_at-cases (g.buffer b) k x i) [
            | inl there ↦ ap (slice_index (slice_set ws (buffer_word sizes b k) x)) (λ j. buffer_word sizes (here.0 j) (there.0 j))
                ∙ get_or-set_same ws (buffer_word sizes b k) x 0 (let w = are.wide in let h = buffer_inside b k at room in omega arith) ∙ sym there.1 ∙ ap (λ f. f i) (sym here.1) ∙ ap (λ f. f d i) (sym c)
            | inr other ↦ get_or-set_other ws (buffer_word sizes b k) (buffer_word sizes d i) x 0 (buffer_apart d i b k below room (inr other.0)) ∙ are.buffer d i inside below
                ∙ ap (λ q. g.buffer q i) here.0 ∙ sym other.1 ∙ ap (λ f. f i) (sym here.1) ∙ ap (λ f. f d i) (sym c)
          ]
          | inr other ↦ get_or-set_other ws (buffer_word sizes b k) (buffer_word sizes d i) x 0 (buffer_apart d i b k below room (inl other.0)) ∙ are.buffer d i inside below
              ∙ ap (λ f. f i) (sym other.1) ∙ ap (λ f. f d i) (sym c)
        ];
      }
