-- What is written of some bytes, write by write.
use Rattle.uni_script.proofs.Vocabulary.{Appends, Appends-nil, Appends-trans, AppendsPrefix, IsWritten, List, Option, [], ap, append-nil, append_assoc, drop, refl, sym, take, take-append-drop, ℕ, ◌++◌, ◌∙◌, ◌≡◌}

-- before the first write all bytes are left
pub IsWritten-start : (a : Option (List ℕ)) (bytes : List ℕ) → IsWritten a a bytes bytes
IsWritten-start a bytes = record { prefix = []; cut = refl; taken = Appends-nil a }

-- a write takes the first n of the bytes that are left
pub IsWritten-write : (a b c : Option (List ℕ)) (bytes rest left : List ℕ) (n : ℕ) → IsWritten a b bytes rest → Appends b c (take n rest) → left ≡ drop n rest → IsWritten a c bytes left
IsWritten-write a b c bytes rest left n so_far write is_left = record {
  prefix = so_far.prefix ++ take n rest;
  cut =
      so_far.cut ∙ ap (λ l. so_far.prefix ++ l) (sym (take-append-drop n rest))
      ∙ sym (append_assoc so_far.prefix (take n rest) (drop n rest)) ∙ ap (λ l. (so_far.prefix ++ take n rest) ++ l) (sym is_left);
  taken = Appends-trans a b c so_far.prefix (take n rest) so_far.taken write;
}

-- all of some bytes are a prefix of them
pub AppendsPrefix-all : (a b : Option (List ℕ)) (bytes : List ℕ) → Appends a b bytes → AppendsPrefix a b bytes
AppendsPrefix-all a b bytes all = ([], record { prefix = bytes; cut = sym (append-nil bytes); taken = all })

-- a prefix of some bytes is one of more bytes
pub AppendsPrefix-more : (a b : Option (List ℕ)) (bytes more : List ℕ) → AppendsPrefix a b bytes → AppendsPrefix a b (bytes ++ more)
AppendsPrefix-more a b bytes more f = (f.0 ++ more, record { prefix = f.1.prefix; cut = ap (λ t. t ++ more) f.1.cut ∙ append_assoc f.1.prefix f.0 more; taken = f.1.taken })

-- some bytes are written, and then a prefix of others
pub AppendsPrefix-after : (a b c : Option (List ℕ)) (bytes more : List ℕ) → Appends a b bytes → AppendsPrefix b c more → AppendsPrefix a c (bytes ++ more)
AppendsPrefix-after a b c bytes more all f = (
  f.0,
  record {
    prefix = bytes ++ f.1.prefix;
    cut = ap (λ t. bytes ++ t) f.1.cut ∙ sym (append_assoc bytes f.1.prefix f.0);
    taken = Appends-trans a b c bytes f.1.prefix all f.1.taken;
  },
)

-- nothing is a prefix of any bytes
pub AppendsPrefix-nil : (a : Option (List ℕ)) (bytes : List ℕ) → AppendsPrefix a a bytes
AppendsPrefix-nil a bytes = (bytes, IsWritten-start a bytes)
