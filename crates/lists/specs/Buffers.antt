-- A text in a buffer.
-- Assumes nothing.
use Rattle.std.specs.Prelude.{List, ◌++◌, ℕ, ◌+◌, length, take, drop}

module _ {A : Type 0} where
  -- the buffer with the text from the place `at` on, and all else as it was
  unfoldable pub written : List A → ℕ → List A → List A
  written out at text = take at out ++ (text ++ drop (at + length text) out)
