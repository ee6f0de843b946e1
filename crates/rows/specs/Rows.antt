-- The node memory: 32 cells for each row, by columns. A column is a function of the node.
-- Columns 0 to 7 are the fields, and from 8 on the links: on the level l the node after in 8 + l * 2, the node before in 8 + l * 2 + 1.
-- Assumes nothing.
use Rattle.std.specs.Prelude.{cond, List, ℕ, ◌+◌, ◌*◌, ◌-◌, ◌/◌, length, get_or, set, eqb, ltb}

-- where the cell of the row n in the column f stands, of c rows: four columns first, then the rows of the fields and the links up to level 5, then those of the levels above
unfoldable pub address : ℕ → ℕ → ℕ → ℕ
address c n f =
    cond (ltb f 3) (c * 4 + n * 16 + f)
    (cond (ltb f 4) (c * 3 + n)
    (cond (ltb f 6) (c * 4 + n * 16 + (f - 1))
    (cond (ltb f 7) (c * 2 + n)
    (cond (ltb f 8) (c + n)
    (cond (ltb f 9) n
    (cond (ltb f 20) (c * 4 + n * 16 + (f - 4))
    (c * 20 + n * 12 + (f - 20))))))))

-- what stands in the column f, by the node; 0 where there is no such row
unfoldable pub column : List ℕ → ℕ → ℕ → ℕ
column rows f n = cond (ltb n (length rows / 32)) (get_or rows (address (length rows / 32) n f) 0) 0

-- the rows with v in the column f of the row n
unfoldable pub put : List ℕ → ℕ → ℕ → ℕ → List ℕ
put rows n f v = cond (ltb n (length rows / 32)) (set rows (address (length rows / 32) n f) v) rows

-- the function g, but v at n
unfoldable pub upd : (ℕ → ℕ) → ℕ → ℕ → ℕ → ℕ
upd g n v m = cond (eqb m n) v (g m)

-- the fields
abbrev pub heights : List ℕ → ℕ → ℕ
heights rows = column rows 0

abbrev pub insertions : List ℕ → ℕ → ℕ
insertions rows = column rows 1

abbrev pub removals : List ℕ → ℕ → ℕ
removals rows = column rows 2

abbrev pub places : List ℕ → ℕ → ℕ
places rows = column rows 3

abbrev pub seats : List ℕ → ℕ → ℕ
seats rows = column rows 4

abbrev pub chains : List ℕ → ℕ → ℕ
chains rows = column rows 5

-- the i-th entry of the free stack stands in row i, and so for the ring of retired nodes; the sentinels' rows hold the counts
abbrev pub frees : List ℕ → ℕ → ℕ
frees rows = column rows 6

abbrev pub rings : List ℕ → ℕ → ℕ
rings rows = column rows 7

-- the column of the links on the level l in the direction d: 0 after, 1 before
abbrev pub link_column : ℕ → ℕ → ℕ
link_column l d = 8 + l * 2 + d

abbrev pub links : List ℕ → ℕ → ℕ → ℕ → ℕ
links rows l d = column rows (link_column l d)
