-- The table that is made shows the board that is opened.
use Rattle.uni_small.proofs.Vocabulary.{AreHeld, AreWidths, AreWords, HasRows, IsBoard, IsSound, List, Meaning, Seen, Sequential, ShowsBoard, Sizes, Tells, View, [], ap, append-nil, append_assoc, argument_word, arith, at_rest, buffer_word, buffer_words, first_held, first_image, first_view, get_elem?, get_or-append-add, get_or-replicate, get_or_append_left, held_place, joined, length, length-append, length-replicate, opened, opening, refl, replicate, replicate-append-replicate, slice_get_within, slice_index, some, some-injective, some-ne-none, spell, subst, suc, suc-mul, sym, words_before, words_of, zero, ℕ, ◌*◌, ◌++◌, ◌+◌, ◌<◌, ◌∙◌, ◌∷◌, ◌≡◌, ◌≤◌, None, Some}
use Rattle.uni_model.specs.Executions.Execution.{Ends}
use Rattle.uni_small.proofs.Images.{spell-length, spell-reply}
use Rattle.uni_small.proofs.Rows.{later}

pub zeros : (k i : ℕ) → slice_index (replicate k 0) i ≡ 0
zeros zero i = refl
zeros (suc k) zero = refl
zeros (suc k) (suc i) = zeros k i

length_zeros : (k : ℕ) → length {A = ℕ} (replicate k 0) ≡ k
length_zeros k = length-replicate k 0

-- rows of zeros are zeros
joined_zeros : (count wide : ℕ) → joined (replicate count (replicate wide 0)) ≡ replicate (count * wide) 0
joined_zeros zero wide = ap (λ k. replicate k 0) (let e : 0 ≡ 0 * wide = omega arith in e)
joined_zeros (suc count) wide =
    let more : suc count * wide ≡ count * wide + wide = suc-mul count wide in
    ap (λ l. replicate wide 0 ++ l) (joined_zeros count wide) ∙ replicate-append-replicate wide (count * wide) 0
    ∙ ap (λ k. replicate k 0) (let e : wide + count * wide ≡ suc count * wide = omega arith in e)

-- the words of a buffer at the start
pub spell_first : (object : Sequential (List ℕ) (List ℕ) (List ℕ)) (sizes : Sizes)
    → spell (first_image object sizes) ≡ replicate (sizes.processes + sizes.processes * sizes.reply) 0 ++ object.initial
spell_first object sizes =
    ap (λ l. replicate sizes.processes 0 ++ (l ++ object.initial)) (joined_zeros sizes.processes sizes.reply)
    ∙ sym (append_assoc (replicate sizes.processes 0) (replicate (sizes.processes * sizes.reply) 0) object.initial)
    ∙ ap (λ l. l ++ object.initial) (replicate-append-replicate sizes.processes (sizes.processes * sizes.reply) 0)

-- so many buffers of the same words, and one of them
pub copies_index : (words : List ℕ) (count b i : ℕ) → b < count → i < length words → slice_index (joined (replicate count words)) (b * length words + i) ≡ slice_index words i
copies_index words zero b i inside below = absurd (omega arith)
copies_index words (suc count) zero i inside below =
    ap (slice_index (words ++ joined (replicate count words))) (let e : 0 * length words + i ≡ i = omega arith in e) ∙ get_or_append_left words (joined (replicate count words)) 0 i below
copies_index words (suc count) (suc b) i inside below =
    let more : suc b * length words ≡ b * length words + length words = suc-mul b (length words) in
    ap (slice_index (words ++ joined (replicate count words))) (let e : suc b * length words + i ≡ length words + (b * length words + i) = omega arith in e)
    ∙ get_or-append-add words (joined (replicate count words)) (b * length words + i) 0 ∙ copies_index words count b i (omega arith) below

copies_length : (words : List ℕ) (count : ℕ) → length (joined (replicate count words)) ≡ count * length words
copies_length words zero = let e : 0 * length words ≡ 0 = omega arith in sym e
copies_length words (suc count) =
    let more : suc count * length words ≡ count * length words + length words = suc-mul count (length words) in
    let a = length-append words (joined (replicate count words)) in let b = copies_length words count in omega arith

-- one more of them
pub copies_more : (words : List ℕ) (count : ℕ) → joined (replicate count words) ++ words ≡ joined (replicate (suc count) words)
copies_more words zero = sym (append-nil words)
copies_more words (suc count) = append_assoc words (joined (replicate count words)) words ∙ ap (λ l. words ++ l) (copies_more words count)

-- the words of a table that is made
abbrev pub made_words : Sizes → (first : List ℕ) → List ℕ
made_words sizes first = replicate (words_before sizes) 0 ++ joined (replicate (2 * sizes.processes) first)

module _ (object : Sequential (List ℕ) (List ℕ) (List ℕ)) (sizes : Sizes) (few : 1 ≤ sizes.processes) (wide : length object.initial ≡ sizes.state) where
  abbrev first : List ℕ
  first = spell (first_image object sizes)

  abbrev words : List ℕ
  words = made_words sizes first

  before : (i : ℕ) → i < words_before sizes → slice_index words i ≡ 0
  before i below = get_or_append_left (replicate (words_before sizes) 0) (joined (replicate (2 * sizes.processes) first)) 0 i (let l = length_zeros (words_before sizes) in omega arith) ∙ zeros (words_before sizes) i

  rows : HasRows sizes (first_image object sizes)
  rows = record {
    applied = length-replicate sizes.processes 0;
    reply = length-replicate sizes.processes (replicate sizes.reply 0);
    replies = λ r below. ap (λ (ws : List ℕ). length ws) (get_or-replicate sizes.processes r (replicate sizes.reply 0) [] below) ∙ length-replicate sizes.reply 0;
    state = wide;
  }

  first_length : length first ≡ buffer_words sizes
  first_length = spell-length sizes (first_image object sizes) rows

  buffers : (b i : ℕ) → b < 2 * sizes.processes → i < buffer_words sizes → slice_index words (buffer_word sizes b i) ≡ slice_index first i
  buffers b i inside below =
      let at : buffer_word sizes b i ≡ length {A = ℕ} (replicate (words_before sizes) 0) + (b * buffer_words sizes + i) = (let l = length_zeros (words_before sizes) in omega arith) in
      ap (slice_index words) at ∙ get_or-append-add (replicate (words_before sizes) 0) (joined (replicate (2 * sizes.processes) first)) (b * buffer_words sizes + i) 0
      ∙ ap (λ w. slice_index (joined (replicate (2 * sizes.processes) first)) (b * w + i)) (sym first_length)
      ∙ copies_index first (2 * sizes.processes) b i inside (let l = first_length in omega arith)

  pub made_length : length words ≡ words_of sizes
  made_length = length-append (replicate (words_before sizes) 0) (joined (replicate (2 * sizes.processes) first))
      ∙ (λ k. length_zeros (words_before sizes) k + copies_length first (2 * sizes.processes) k) ∙ ap (λ w. words_before sizes + 2 * sizes.processes * w) first_length

  pub words_are : AreWords sizes (opened object sizes) words
  words_are = record {
    wide = made_length;
    current = before 0 (omega arith);
    announced = λ p below. before (1 + p) (omega arith);
    argument = λ p k below small. before (argument_word sizes p k) (let h = later p sizes.processes sizes.invocation below in omega arith) ∙ sym (zeros sizes.invocation k);
    buffer = buffers;
  }

  pub held_length : length (first_held object sizes) ≡ 2 * buffer_words sizes
  held_length = length-append first first ∙ (let l = first_length in omega arith)

  -- what the buffers of a process hold
  held : (p : ℕ) → AreHeld object sizes (opened object sizes) p (first_held object sizes)
  held p = record {
    long = held_length;
    words = λ which i either below. sym (by_half which i either below);
  } where
    by_half : (which i : ℕ) → which ≤ 1 → i < buffer_words sizes → slice_index (first ++ first) (held_place sizes which i) ≡ slice_index first i
    by_half zero i either below = ap (slice_index (first ++ first)) (let e : held_place sizes 0 i ≡ i = omega arith in e) ∙ get_or_append_left first first 0 i (let l = first_length in omega arith)
    by_half (suc zero) i either below = ap (slice_index (first ++ first)) (let e : held_place sizes 1 i ≡ length first + i = (let l = first_length in omega arith) in e) ∙ get_or-append-add first first i 0
    by_half (suc (suc w)) i either below = absurd (omega arith)

  board : IsBoard object sizes (opened object sizes)
  board = record {
    current = omega arith;
    image = refl;
    rows = rows;
    exact = λ i below. refl;
    marked = λ b r below. omega arith;
    at_current = λ r below. (let z = zeros sizes.processes r in omega arith);
    kept = λ b r k below small inside waits least. spell-reply sizes (first_image object sizes) rows r k small inside;
    arguments = λ r below. length-replicate sizes.invocation 0;
    in_most = λ r below. (let z = zeros sizes.processes r in omega arith);
    told_most = λ r below. omega arith;
    told_due = λ r below due. absurd (let z = zeros sizes.processes r in omega (arith, due));
    begun = λ r below. omega arith;
    soon = λ r below late. absurd (omega arith);
    versions = omega arith;
    room = λ r below. omega arith;
    agreed = λ c has. absurd (let h = has.1 in omega arith);
    counted = λ v late. refl;
    rising = λ v w below. omega arith;
    start = refl;
    history = refl;
  }

  pub sound : IsSound object sizes (opened object sizes) (λ p. at_rest (first_held object sizes))
  sound = record {
    board = board;
    each = λ p below. record {
      spare = omega arith;
      apart = λ e. omega (arith, e);
      held = held p;
      told = refl;
      call = (record { none_open = refl; next = refl; announced = refl; in_is = zeros sizes.processes p; acts = refl }, refl);
      attempt = tt;
      ordered = record {
        reached = omega arith;
        later = λ c place at own from. absurd (let h = slice_get_within [] place c at in omega arith);
        known = λ k call at. absurd (let h = slice_get_within [] k call at in omega arith);
        stand = λ k call at. absurd (let h = slice_get_within [] k call at in omega arith);
      };
      read = λ read e. absurd (let none : None ≡ Some read = e in cc);
    };
  }

pub opening_shows : {O : Type 0} (meaning : O → Meaning) (o : O) (sizes : Sizes) → AreWidths (meaning o) sizes → 1 ≤ sizes.processes → length (meaning o).object.initial ≡ sizes.state
    → ShowsBoard meaning o sizes (opening {S = Seen} (made_words sizes (spell (first_image (meaning o).object sizes))) [] (first_view meaning o sizes))
opening_shows {O} meaning o sizes widths few wide = (
  opened (meaning o).object sizes,
  (
    (λ p. at_rest (first_held (meaning o).object sizes)),
    (
      (λ p. 0),
      record {
        widths = widths;
        words = words_are (meaning o).object sizes few wide;
        seats = seats;
        sound = sound (meaning o).object sizes few wide;
      },
      (Ends, record { words_are = refl; locals_are = λ p inside. refl; acts_are = refl }),
    ),
  ),
) where
  seats : (id : ℕ) (v : View O) → get_elem? (first_view meaning o sizes ∷ []) id ≡ some v → Tells sizes o (λ p. at_rest (first_held (meaning o).object sizes)) (λ p. 0) id v
  seats zero v e = subst (λ (u : View O). Tells sizes o (λ p. at_rest (first_held (meaning o).object sizes)) (λ p. 0) 0 u) (some-injective _ _ e) (record {
    object = λ some. refl;
    processes = λ some. refl;
    each = λ p from below. (omega arith, refl, refl);
    taken = λ its has. absurd (let h = has.1 in omega arith);
  })
  seats (suc id) v e = absurd (some-ne-none v (sym e))
