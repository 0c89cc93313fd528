-- What stops the program.
use Rattle.std.specs.Prelude.{ℕ}
use Rattle.history_picture.specs.declared.scene.PictureError.{PictureError}
use Rattle.history_picture.specs.declared.scene.PictureError.TheVariants as of_picture
use Rattle.unicheck_run.specs.declared.stop.Stop.{Stop}
use Rattle.unicheck_run.specs.declared.stop.Stop.TheVariants.{Refused, Input, Output, Memory, TooManyCalls, Misdrawn}

-- the status that it ends with then
abbrev pub status_of_stop : Stop → ℕ
status_of_stop (Refused fault) = 2
status_of_stop TooManyCalls = 2
status_of_stop Input = 3
status_of_stop Output = 3
status_of_stop Misdrawn = 3
status_of_stop Memory = 4

-- where there is no picture
abbrev pub stop_of : PictureError → Stop
stop_of of_picture.TooManyCalls = TooManyCalls
stop_of of_picture.Disorderly = Misdrawn
stop_of of_picture.Misdrawn = Misdrawn
stop_of of_picture.Memory = Memory
