-- A linked node that is freed.
-- Assumes nothing.
use Rattle.std.specs.Prelude.{List, ℕ, ◌<◌, length}
use Rattle.rows.specs.Rows.{heights}
use Rattle.levels.specs.Stitch.{unstitched, Unstitchable}
use Rattle.places.specs.Places.{Sized, free_of}
use Rattle.places.specs.Changes.{released}

-- n is taken out of its levels, and is free
unfoldable pub freed : List ℕ → ℕ → ℕ → List ℕ
freed rows cap n = released (unstitched rows n (heights rows n)) cap n

-- what freeing relies on
pub record Freeable (rows : List ℕ) (cap n : ℕ) : Type 0 where
  pub sized : Sized rows cap
  pub node : n < cap
  pub linked : Unstitchable rows n (heights rows n)
  pub room : length (free_of rows cap) < cap
