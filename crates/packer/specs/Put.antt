-- Writing into a buffer with a pen.
use Rattle.std.specs.Prelude.{◌≡◌, ℕ, ◌+◌, ◌≤◌, List, ◌++◌, length, take, drop}
use Rattle.packer.specs.declared.pen.Pen.{Pen}

-- a pen stands at the front of a buffer
pub record AtFront (buffer : List ℕ) (pen : Pen) : Type 0 where
  pub at : pen.at ≡ 0
  pub holds : pen.buffer.now ≡ buffer

-- behind the pen there is room for so many bytes
abbrev pub Room : Pen → ℕ → Type 0
Room pen n = pen.at + n ≤ length pen.buffer.now

-- what a pen has written: the bytes before it
abbrev pub written : Pen → List ℕ
written pen = take pen.at pen.buffer.now

-- a pen put some bytes behind what it had written, and left those behind them and the length of its buffer as they were
pub record Put (bytes : List ℕ) (before after : Pen) : Type 0 where
  pub room : Room before (length bytes)
  pub at : after.at ≡ before.at + length bytes
  pub written : written after ≡ written before ++ bytes
  pub kept : drop after.at after.buffer.now ≡ drop after.at before.buffer.now
  pub long : length after.buffer.now ≡ length before.buffer.now
  pub same : after.buffer.ghost_name ≡ before.buffer.ghost_name
