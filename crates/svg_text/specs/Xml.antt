-- Trees of XML and their texts, for texts of the bytes from 32 to 126.
use Rattle.std.specs.Prelude.{◌≡◌, ◌≢◌, ℕ, ◌==◌, ◌&&◌, ◌||◌, not, nat_le, Bool, true, false, if◌then◌else◌}
use Rattle.std.specs.Prelude.{Option, Some, None, List, [], ◌∷◌, ◌++◌, codes, refl}
use Rattle.std.specs.List.{flat_map}

-- a byte of a text as XML has it: each `<`, `>`, `&` and quote has a name
abbrev pub escaped_byte : ℕ → List ℕ
escaped_byte b =
    if b == 60 then codes "&lt;"
    else if b == 62 then codes "&gt;"
    else if b == 38 then codes "&amp;"
    else if b == 34 then codes "&quot;"
    else if b == 39 then codes "&apos;"
    else b ∷ []

abbrev pub escaped : List ℕ → List ℕ
escaped text = flat_map escaped_byte text

-- an attribute of an element
pub record Attribute : Type 0 where
  pub name : List ℕ
  pub value : List ℕ

-- an element, with its attributes and what stands within it, or words
mutual
  pub data Node : Type 0 where
    Element : (name : List ℕ) → List Attribute → Nodes → Node
    Words : List ℕ → Node

  pub data Nodes : Type 0 where
    End : Nodes
    Then : Node → Nodes → Nodes

abbrev pub nodes : List Node → Nodes
nodes [] = End
nodes (node ∷ more) = Then node (nodes more)

-- ---- the text of a tree, and what comes after it

-- the attributes, each value escaped
abbrev pub attributes_onto : List Attribute → (rest : List ℕ) → List ℕ
attributes_onto [] rest = rest
attributes_onto (a ∷ more) rest = codes " " ++ (a.name ++ (codes "=\"" ++ (escaped a.value ++ (codes "\"" ++ attributes_onto more rest))))

-- an element with nothing within it closes itself, and words are escaped
abbrev mutual
  pub node_onto : Node → (rest : List ℕ) → List ℕ
  node_onto (Element name attributes End) rest = codes "<" ++ (name ++ attributes_onto attributes (codes "/>" ++ rest))
  node_onto (Element name attributes (Then node more)) rest =
      codes "<" ++ (name ++ attributes_onto attributes (codes ">" ++ node_onto node (nodes_onto more (codes "</" ++ (name ++ (codes ">" ++ rest))))))
  node_onto (Words text) rest = escaped text ++ rest

  pub nodes_onto : Nodes → (rest : List ℕ) → List ℕ
  nodes_onto End rest = rest
  nodes_onto (Then node more) rest = node_onto node (nodes_onto more rest)

abbrev pub node_text : Node → List ℕ
node_text node = node_onto node []

-- ---- which names a tree may have

abbrev pub is_letter : ℕ → Bool
is_letter b = (nat_le 65 b && nat_le b 90) || (nat_le 97 b && nat_le b 122)

abbrev pub is_digit : ℕ → Bool
is_digit b = nat_le 48 b && nat_le b 57

-- letters, digits and `-`
abbrev pub is_rest_of_name : List ℕ → Bool
is_rest_of_name [] = true
is_rest_of_name (b ∷ bs) = (is_letter b || is_digit b || b == 45) && is_rest_of_name bs

-- a letter, and the rest
abbrev pub is_name : List ℕ → Bool
is_name [] = false
is_name (b ∷ bs) = is_letter b && is_rest_of_name bs

abbrev pub same_name : (a b : List ℕ) → Bool
same_name [] [] = true
same_name [] (c ∷ b) = false
same_name (x ∷ a) [] = false
same_name (x ∷ a) (c ∷ b) = x == c && same_name a b

abbrev pub has_attribute : List ℕ → List Attribute → Bool
has_attribute name [] = false
has_attribute name (a ∷ more) = same_name name a.name || has_attribute name more

-- each attribute has a name, and no two have the same
abbrev pub are_attributes : List Attribute → Bool
are_attributes [] = true
are_attributes (a ∷ more) = is_name a.name && not (has_attribute a.name more) && are_attributes more

-- each element of a tree has a name, and good attributes
abbrev mutual
  pub is_well_named : Node → Bool
  is_well_named (Element name attributes within) = is_name name && are_attributes attributes && are_well_named within
  is_well_named (Words text) = true

  pub are_well_named : Nodes → Bool
  are_well_named End = true
  are_well_named (Then node more) = is_well_named node && are_well_named more

-- ---- what is escaped can be read

-- the byte that has a name
abbrev pub byte_named : List ℕ → ℕ
byte_named name =
    if same_name name (codes "lt") then 60
    else if same_name name (codes "gt") then 62
    else if same_name name (codes "amp") then 38
    else if same_name name (codes "quot") then 34
    else 39

-- what is read: between names, and in the middle of one, of which the letters so far are given
abbrev pub read_on : Option (List ℕ) → List ℕ → List ℕ
read_on state [] = []
read_on None (b ∷ bs) = if b == 38 then read_on (Some []) bs else b ∷ read_on None bs
read_on (Some name) (b ∷ bs) = if b == 59 then byte_named name ∷ read_on None bs else read_on (Some (name ++ b ∷ [])) bs

-- a text as it was before it was escaped: each name from `&` to `;` is the byte that has it
abbrev pub unescaped : List ℕ → List ℕ
unescaped text = read_on None text

-- a byte that begins no tag, ends none, and ends no attribute
pub record IsNoMarkup (b : ℕ) : Type 0 where
  pub begins_no_tag : b ≢ 60
  pub ends_no_tag : b ≢ 62
  pub no_quote : b ≢ 34
  pub no_apostrophe : b ≢ 39

-- a label that would end its element
escaped_label : escaped (codes "<a & \"b\">") ≡ codes "&lt;a &amp; &quot;b&quot;&gt;"
escaped_label = refl

tree_of_words : node_text (Element (codes "a") (record { name = codes "b"; value = codes "\"" } ∷ []) (nodes (Words (codes "<") ∷ Element (codes "c") [] End ∷ []))) ≡ codes "<a b=\"&quot;\">&lt;<c/></a>"
tree_of_words = refl

read_names : unescaped (codes "&lt;a &amp; &quot;b&quot;&gt;") ≡ codes "<a & \"b\">"
read_names = refl
