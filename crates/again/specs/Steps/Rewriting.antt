-- A file that is read and written again into a room. For this crate alone. Assumes nothing.
use Rattle.std.specs.Prelude.{◌≡◌, List, ◌++◌, length, drop, ℕ, Ok, Err}
use Rattle.jobfile.specs.Reader.{FileAnswer, Judged}

-- a good file stands in front of the room, and a refused one leaves the room as it was
unfoldable pub room_again : FileAnswer → List ℕ → List ℕ → List ℕ
room_again (Ok good) file room = file ++ drop (length file) room
room_again (Err fault) file room = room

pub record Rewritten (file room : List ℕ) (answer : FileAnswer) (after : List ℕ) : Type 0 where
  pub judged : Judged file answer
  pub same : after ≡ room_again answer file room
