-- What a picture of marks shows, and the picture of a script.
use Rattle.std.specs.Prelude.{◌≡◌, ℕ, [], List, map, take, drop, Option}
use Rattle.run_picture.specs.Vocabulary.{flat_map, Drawing, svg_text, Places, AreApart, AreClear, AreFrom, AreHighEnough, AreInSight, AreShown, AreWithin, Fills, Meaning, outline_of, PlacedRemark, RunMarks, signs_of, title_text, Kind, scripts_of, Range, chosen, chosen_remarks, marks_of_session, IsSubjectOf}
use Rattle.run_picture.specs.Parts.{parts_of, eras_from}

-- the strip of a picture has these shapes, each once and in order, in the columns of its events and the lanes of its processes, and
-- no other that tells something; none is hidden or passes its edges. The views show all of it, one part after the other, each as high as
-- what it shows; and what is drawn after a view lies below it.
pub record IsStripOf (places : Places) (parts : List Meaning) (picture : Drawing) : Type 0 where
  pub apart : AreApart places
  pub shown : AreShown places parts (map outline_of picture.strip.items)
  pub in_sight : AreInSight picture.strip.items
  pub within : AreWithin places.width places.height picture.strip.items
  pub start : ℕ
  pub inside : AreFrom start picture.strip.items
  pub rows : Fills start places.width picture.shapes.items
  pub high : AreHighEnough picture.strip.items picture.shapes.items
  pub clear : AreClear picture.shapes.items

-- these shapes stand in it below the rows, one after the other
pub record HasBoxes (parts : List Meaning) (picture : Drawing) : Type 0 where
  pub from : ℕ
  pub count : ℕ
  pub shown : AreShown (record { columns = []; lanes = []; width = picture.width; height = picture.height }) parts
      (map outline_of (take count (drop from picture.shapes.items)))

-- a picture of marks, with what is told beside them: its strip shows the signs of both, and its boxes the cells; no shape is hidden or
-- passes its edges
pub record IsDrawingOf (marks : RunMarks) (remarks : List PlacedRemark) (picture : Drawing) : Type 0 where
  pub title : picture.title.items ≡ title_text marks
  pub places : Places
  pub strip : IsStripOf places (flat_map parts_of (signs_of marks remarks)) picture
  pub boxes : HasBoxes (eras_from marks.dots 0 marks.eras) picture
  pub in_sight : AreInSight picture.shapes.items
  pub within : AreWithin picture.width picture.height picture.shapes.items

-- the text of such a picture
pub record IsSvgOf (marks : RunMarks) (remarks : List PlacedRemark) (svg : List ℕ) : Type 0 where
  pub picture : Drawing
  pub drawn : IsDrawingOf marks remarks picture
  pub text : svg ≡ svg_text picture

-- ---- the picture of a script

-- the reader had a script that can be drawn, and this is the text of a drawing of its marks and of what it tells, where these events are
-- chosen
pub record IsPictureOf {B : Type 0} (kind : Kind B) (marks_in : B → RunMarks) (range : Range) (left : Option (List ℕ))
    (svg : List ℕ) : Type 0 where
  pub marks : RunMarks
  pub remarks : List PlacedRemark
  pub subject : IsSubjectOf kind marks_in range left marks remarks
  pub drawn : IsSvgOf (chosen range marks) (chosen_remarks range remarks) svg

-- the same of a script over the named objects
abbrev pub IsPicture : Range → (left : Option (List ℕ)) (svg : List ℕ) → Type 0
IsPicture range left svg = IsPictureOf (scripts_of 1048576) marks_of_session range left svg
