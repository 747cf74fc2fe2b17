-- Rooms for bytes that go out.
use Rattle.std.specs.Prelude.{ℕ, ◌++◌, List, length, drop}

-- bytes at the front of a room, and after them what was there
abbrev pub put_front : (room bytes : List ℕ) → List ℕ
put_front room bytes = bytes ++ drop (length bytes) room
