-- The directory's words, read.
use Rattle.ready_objects.proofs.Vocabulary.{At, Del, Get, List, None, Option, Put, Size, Some, [], and_from, and_parts, ap, arith, bytes_eq, cases_Bool, codes, cond-true, decimal, directory_inv_of_words, directory_words, inl, inr, length, list_all, nat_le, nat_lt, nat_tests, not, number_below, number_of_word, option_and_then, option_map, put_of, refl, sym, true, ℕ, ◌&&◌, ◌==◌, ◌∙◌, ◌∷◌, ◌≡◌, ◌≤◌}
use Rattle.ready_objects.specs.declared.directory.DirectoryInv.{DirectoryInv}
use Rattle.ready_objects.specs.Name.{is_name_byte, is_name, name_of_word}
use Rattle.ready_objects.proofs.Numbers.{number_of_word-decimal, decimal-number_of_word, decimal-number_below}
use Rattle.ready_objects.proofs.Words.{lacks_space, named}

-- a name is read back
pub name_of_word-name : (name : List ℕ) → is_name name ≡ true → name_of_word name ≡ Some name
name_of_word-name name is = cond-true (is_name name) (Some name) None is

-- and so is a put
pub put_of-decimal : (name : List ℕ) (v : ℕ) → is_name name ≡ true → v ≤ 999999999999 → put_of name (decimal v) ≡ Some (Put name v)
put_of-decimal name v is amount = rw (name_of_word-name name is) (rw (number_of_word-decimal v amount) refl)

-- a name has no space
lacks_space-name_bytes : (name : List ℕ) → list_all is_name_byte name ≡ true → lacks_space name ≡ true
lacks_space-name_bytes [] bytes = refl
lacks_space-name_bytes (b ∷ name) bytes =
    let parts = and_parts (is_name_byte b) (list_all is_name_byte name) bytes in
    let head : not (b == 32) ≡ true = grind (arith, nat_tests) in
    and_from (not (b == 32)) (lacks_space name) head (lacks_space-name_bytes name parts.1)

pub lacks_space-name : (name : List ℕ) → is_name name ≡ true → lacks_space name ≡ true
lacks_space-name name is =
    let parts = and_parts (nat_lt 0 (length name) && nat_le (length name) 16) (list_all is_name_byte name) is in
    lacks_space-name_bytes name parts.1

-- a word that is read as a name is that name
name-name_of_word : (word name : List ℕ) → name_of_word word ≡ Some name → name ≡ word
name-name_of_word word name read =
    elim (cases_Bool (is_name word)) [
      | inl is ↦ let r : Some word ≡ Some name = rw is at read in cc
      | inr other ↦ let r = rw other at read in cc
    ]

-- an invocation of one argument that was read
record IsRead {A : Type 0} (operation : A → DirectoryInv) (o : Option A) (i : DirectoryInv) : Type 0 where
  argument : A
  is : operation argument ≡ i
  read : o ≡ Some argument

IsRead-from : {A : Type 0} (operation : A → DirectoryInv) (o : Option A) (i : DirectoryInv) → option_map operation o ≡ Some i → IsRead operation o i
IsRead-from operation None i read = cc
IsRead-from operation (Some a) i read = record { argument = a; is = cc; read = refl }

-- a put that was read
record IsPut (m : Option (List ℕ)) (n : Option ℕ) (i : DirectoryInv) : Type 0 where
  name : List ℕ
  value : ℕ
  is : Put name value ≡ i
  name_read : m ≡ Some name
  value_read : n ≡ Some value

IsPut-from : (m : Option (List ℕ)) (n : Option ℕ) (i : DirectoryInv) → option_and_then (λ name. option_map (λ value. Put name value) n) m ≡ Some i → IsPut m n i
IsPut-from None n i read = cc
IsPut-from (Some name) None i read = cc
IsPut-from (Some name) (Some v) i read = record { name = name; value = v; is = cc; name_read = refl; value_read = refl }

-- an invocation of a name has its words
at_name : (operation : List ℕ → DirectoryInv) (text word : List ℕ) (i : DirectoryInv) → ((name : List ℕ) → directory_words (operation name) ≡ text ∷ name ∷ [])
    → option_map operation (name_of_word word) ≡ Some i → directory_words i ≡ text ∷ word ∷ []
at_name operation text word i words read =
    let r = IsRead-from operation (name_of_word word) i read in
    ap directory_words (sym r.is) ∙ words r.argument ∙ ap (λ w. text ∷ w ∷ []) (name-name_of_word word r.argument r.read)

at_place : (word : List ℕ) (i : DirectoryInv) → option_map At (number_below 256 word) ≡ Some i → directory_words i ≡ codes "at" ∷ word ∷ []
at_place word i read =
    let r = IsRead-from At (number_below 256 word) i read in
    ap directory_words (sym r.is) ∙ ap (λ w. codes "at" ∷ w ∷ []) (decimal-number_below 256 word r.argument r.read)

at_pair : (name v : List ℕ) (i : DirectoryInv) → put_of name v ≡ Some i → directory_words i ≡ codes "put" ∷ name ∷ v ∷ []
at_pair name v i read =
    let r = IsPut-from (name_of_word name) (number_of_word v) i read in
    ap directory_words (sym r.is)
    ∙ ap (λ w. codes "put" ∷ w ∷ decimal r.value ∷ []) (name-name_of_word name r.name r.name_read)
    ∙ ap (λ w. codes "put" ∷ name ∷ w ∷ []) (decimal-number_of_word v r.value r.value_read)

-- words are read as the invocation that has them
pub directory_words-directory_inv_of_words : (words : List (List ℕ)) (i : DirectoryInv) → directory_inv_of_words words ≡ Some i → directory_words i ≡ words
directory_words-directory_inv_of_words [] i read = cc
directory_words-directory_inv_of_words (operation ∷ []) i read =
    elim (cases_Bool (bytes_eq operation (codes "size"))) [
      | inl size ↦
          let r : Some Size ≡ Some i = rw size at read in
          let same : Size ≡ i = cc in
          ap directory_words (sym same) ∙ ap (λ w. w ∷ []) (named operation (codes "size") size)
      | inr other ↦ let r = rw other at read in cc
    ]
directory_words-directory_inv_of_words (operation ∷ word ∷ []) i read =
    elim (cases_Bool (bytes_eq operation (codes "get"))) [
      | inl get ↦ at_name Get (codes "get") word i (λ name. refl) (rw get at read) ∙ ap (λ w. w ∷ word ∷ []) (named operation (codes "get") get)
      | inr not_get ↦ elim (cases_Bool (bytes_eq operation (codes "del"))) [
        | inl del ↦ at_name Del (codes "del") word i (λ name. refl) (rw (not_get, del) at read) ∙ ap (λ w. w ∷ word ∷ []) (named operation (codes "del") del)
        | inr not_del ↦ elim (cases_Bool (bytes_eq operation (codes "at"))) [
          | inl at_it ↦ at_place word i (rw (not_get, not_del, at_it) at read) ∙ ap (λ w. w ∷ word ∷ []) (named operation (codes "at") at_it)
          | inr other ↦ let r = rw (not_get, not_del, other) at read in cc
        ]
      ]
    ]
directory_words-directory_inv_of_words (operation ∷ name ∷ v ∷ []) i read =
    elim (cases_Bool (bytes_eq operation (codes "put"))) [
      | inl put ↦ at_pair name v i (rw put at read) ∙ ap (λ w. w ∷ name ∷ v ∷ []) (named operation (codes "put") put)
      | inr other ↦ let r = rw other at read in cc
    ]
directory_words-directory_inv_of_words (a ∷ b ∷ c ∷ d ∷ words) i read = cc
