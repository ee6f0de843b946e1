-- The situations P1 to P10 of the document, its listing and further ones that pin single lines, as one table: what is present, each call with its answer, and the heights of the linked nodes afterwards.
-- Assumes nothing.
use Rattle.std.specs.Prelude.{◌≡◌, true, List, [], ◌∷◌, ◌++◌, map, ℕ, suc, ℤ, pos, negsuc}
use Rattle.lists.specs.Filters.{count, maybe}
use Rattle.model.specs.Plain.{Pair}
use Rattle.model.specs.Calls.{Call, lookup, insert, remove, hand_over, ceil, floor, succ, pred, fast, «open», step, close, sweep, tally, code, Answer, refused, printed, found, node, handed, nearest, ranged, opened, stepped, made_due, swept, counts}
use Rattle.model.specs.Model.{Node, State, after, history, set_up}

-- the capacity and the start version, the pairs that are inserted first, the calls with their answers, the heights
pub record Situation : Type 0 where
  pub capacity : ℕ
  pub start : ℕ
  pub before : List Pair
  pub calls : List (Call × Answer)
  pub heights : List ℕ

-- at capacity 64
abbrev pub situation : ℕ → List Pair → List (Call × Answer) → List ℕ → Situation
situation start before calls heights = record { capacity = 64; start = start; before = before; calls = calls; heights = heights }

-- at another capacity, from the version 0 on
abbrev pub sized : ℕ → List Pair → List (Call × Answer) → List ℕ → Situation
sized capacity before calls heights = record { capacity = capacity; start = 0; before = before; calls = calls; heights = heights }

abbrev pub pair : ℕ → ℕ → Pair
pair k v = (pos k, pos v)

abbrev pub three : List Pair
three = pair 10 1 ∷ pair 20 2 ∷ pair 30 3 ∷ []

abbrev pub top : ℤ
top = pos 9223372036854775807

abbrev pub bottom : ℤ
bottom = negsuc 9223372036854775807

abbrev pub ends : List Pair
ends = (bottom, pos 1) ∷ (top, pos 2) ∷ []

abbrev pub opens : Call
opens = «open» (pos 10) (pos 30)

abbrev pub p1 : Situation
p1 =
    situation 0 three
    ((opens, opened 1) ∷ (remove (pos 20), node 1) ∷ (succ (pos 10), nearest (pos 30)) ∷ (pred (pos 30), nearest (pos 10)) ∷ []) (1 ∷ 1 ∷ 1 ∷ [])

abbrev pub p2 : Situation
p2 =
    situation 0 three
    ((opens, opened 1)
    ∷ (remove (pos 20), node 1)
    ∷ (hand_over 1, handed 0)
    ∷ (insert (pos 20) (pos 9) 0, node 3)
    ∷ (insert (pos 25) (pos 5) 0, node 4)
    ∷ (step 1 8, stepped three true)
    ∷ (fast (pos 10) (pos 30) 64, ranged (pair 10 1 ∷ pair 20 9 ∷ pair 25 5 ∷ pair 30 3 ∷ []))
    ∷ []) (1 ∷ 1 ∷ 1 ∷ 1 ∷ 1 ∷ [])

abbrev pub p3 : Situation
p3 =
    situation 0 three
    ((remove (pos 20), node 1) ∷ (opens, opened 1) ∷ (hand_over 1, handed 0) ∷ (step 1 8, stepped (pair 10 1 ∷ pair 30 3 ∷ []) true) ∷ (close 1, made_due 1) ∷ [])
    (1 ∷ 1 ∷ 1 ∷ [])

abbrev pub p4 : Situation
p4 =
    situation 0 three
    ((opens, opened 1) ∷ (opens, opened 2) ∷ (remove (pos 20), node 1) ∷ (hand_over 1, handed 0) ∷ (close 2, made_due 0) ∷ (close 1, made_due 1) ∷ [])
    (1 ∷ 1 ∷ 1 ∷ [])

abbrev pub p5 : Situation
p5 =
    situation 0 three
    ((opens, opened 1) ∷ (opens, opened 2) ∷ (remove (pos 20), node 1) ∷ (hand_over 1, handed 0) ∷ (close 1, made_due 0) ∷ (close 2, made_due 1) ∷ [])
    (1 ∷ 1 ∷ 1 ∷ [])

abbrev pub p6 : Situation
p6 =
    situation 0 three
    ((opens, opened 1) ∷ (insert (pos 25) (pos 5) 0, node 3) ∷ (remove (pos 25), node 3) ∷ (hand_over 3, handed 1) ∷ []) (1 ∷ 1 ∷ 1 ∷ [])

abbrev pub p7 : Situation
p7 =
    situation 0 ends
    ((«open» bottom top, opened 1) ∷ (step 1 8, stepped ends true) ∷ (fast bottom top 64, ranged ends) ∷ (succ top, refused 13) ∷ []) (1 ∷ 1 ∷ [])

abbrev pub p8 : Situation
p8 = situation 4294967294 three ((opens, opened 4294967295) ∷ (opens, refused 10) ∷ []) (1 ∷ 1 ∷ 1 ∷ [])

abbrev pub p9 : Situation
p9 =
    situation 0 three
    (map (λ (v : ℕ). (opens, opened v)) (count 1 16) ++ ((opens, refused 9) ∷ (close 1, made_due 0) ∷ (opens, opened 17) ∷ [])) (1 ∷ 1 ∷ 1 ∷ [])

abbrev pub p10 : Situation
p10 =
    situation 0 three ((insert (pos 40) (pos 4) 0, node 3) ∷ (insert (pos 50) (pos 5) 0xffff_ffff_ffff_ffff, node 4) ∷ [])
    (1 ∷ 1 ∷ 1 ∷ 1 ∷ 6 ∷ [])

abbrev pub listing : Situation
listing =
    situation 0 []
    ((insert (pos 10) (pos 1) 0, node 0)
    ∷ (insert (pos 20) (pos 2) 0, node 1)
    ∷ («open» (pos 10) (pos 20), opened 1)
    ∷ (remove (pos 20), node 1)
    ∷ (hand_over 1, handed 0)
    ∷ (insert (pos 20) (negsuc 6) 0, node 2)
    ∷ (step 1 8, stepped (pair 10 1 ∷ pair 20 2 ∷ []) true)
    ∷ (fast (pos 10) (pos 20) 64, ranged (pair 10 1 ∷ (pos 20, negsuc 6) ∷ []))
    ∷ (close 1, made_due 1)
    ∷ (sweep, swept 1 0)
    ∷ (lookup (pos 21), refused 4)
    ∷ []) (1 ∷ 1 ∷ [])

-- ---- further situations

-- keys outside the bounds, on both sides; bounds below 0
abbrev pub outside : Situation
outside =
    situation 0 three
    ((«open» (pos 15) (pos 25), opened 1)
    ∷ (step 1 1, stepped (pair 20 2 ∷ []) true)
    ∷ (step 1 1, stepped [] true)
    ∷ (fast (pos 15) (pos 25) 1, ranged (pair 20 2 ∷ []))
    ∷ (fast (pos 20) (pos 20) 1, ranged (pair 20 2 ∷ []))
    ∷ (fast (pos 21) (pos 29) 1, ranged [])
    ∷ (fast (negsuc 29) (negsuc 19) 1, ranged [])
    ∷ []) (1 ∷ 1 ∷ 1 ∷ [])

-- the calls that only ask: ceil, floor, succ and pred of a key that is present and of keys that are not
abbrev pub asking : Situation
asking =
    situation 0 three
    ((lookup (pos 20), found (pos 2))
    ∷ (ceil (pos 20), nearest (pos 20))
    ∷ (floor (pos 20), nearest (pos 20))
    ∷ (succ (pos 20), nearest (pos 30))
    ∷ (pred (pos 20), nearest (pos 10))
    ∷ (tally, counts 3 0 61)
    ∷ (ceil (pos 11), nearest (pos 20))
    ∷ (floor (pos 29), nearest (pos 20))
    ∷ []) (1 ∷ 1 ∷ 1 ∷ [])

-- each refusal that no other situation has, and which comes first
abbrev pub refusing : Situation
refusing =
    situation 0 three
    ((insert (pos 20) (pos 9) 0, refused 3)
    ∷ (remove (pos 21), refused 4)
    ∷ (fast (pos 30) (pos 10) 0, refused 6)
    ∷ («open» (pos 30) (pos 10), refused 6)
    ∷ (fast (pos 10) (pos 30) 2, refused 8)
    ∷ (step 1 0, refused 11)
    ∷ (close 1, refused 11)
    ∷ (opens, opened 1)
    ∷ (step 1 0, refused 8)
    ∷ (hand_over 1, refused 12)
    ∷ (hand_over 3, refused 12)
    ∷ (ceil (pos 31), refused 13)
    ∷ (floor (pos 9), refused 13)
    ∷ (pred (pos 10), refused 13)
    ∷ []) (1 ∷ 1 ∷ 1 ∷ [])

-- n pairs, of the keys from 1 on
abbrev pub many : ℕ → List Pair
many n = map (λ (k : ℕ). pair k k) (count 1 n)

-- the heights of n nodes of one level
abbrev pub low : ℕ → List ℕ
low n = map (λ (k : ℕ). 1) (count 1 n)

-- a fast range hands out 64 pairs, and no more
abbrev pub fastest : Situation
fastest =
    sized 128 (many 65)
    ((fast (pos 1) (pos 64) 64, ranged (many 64)) ∷ (fast (pos 1) (pos 64) 63, refused 8) ∷ (fast (pos 1) (pos 65) 64, refused 7) ∷ []) (low 65)

-- a fresh table uses the nodes 0 to 63, in this order; then a key that is present is refused before the want of a node
abbrev pub filled : Situation
filled =
    situation 0 []
    (map (λ (i : ℕ). (insert (pos i) (pos i) 0, node i)) (count 0 64)
    ++ ((insert (pos 64) (pos 64) 0, refused 5) ∷ (insert (pos 63) (pos 64) 0, refused 3) ∷ [])) (low 64)

-- a coin of all ones
abbrev pub ones : ℕ
ones = 0xffff_ffff_ffff_ffff

-- the height is 1 plus the number of trailing one bits, at most the level count
abbrev pub tall : ℕ → ℕ → Situation
tall capacity levels =
    sized capacity [] ((insert (pos 10) (pos 1) 5, node 0) ∷ (insert (pos 20) (pos 2) 7, node 1) ∷ (insert (pos 30) (pos 3) ones, node 2) ∷ [])
    (2 ∷ 4 ∷ levels ∷ [])

abbrev pub table : List Situation
table =
    p1 ∷ p2 ∷ p3 ∷ p4 ∷ p5 ∷ p6 ∷ p7 ∷ p8 ∷ p9 ∷ p10 ∷ listing
    ∷ outside ∷ asking ∷ refusing ∷ fastest ∷ filled ∷ tall 128 7 ∷ tall 4096 12 ∷ []

-- what the model gives: the calls with its answers, and the heights
abbrev pub Played : Type 0
Played = List (Call × Answer) × List ℕ

unfoldable pub played : Situation → State → Played
played w s =
    let t : State = after s (map (λ (p : Pair). insert p.0 p.1 0) w.before) in
    let cs : List Call = map (λ (c : Call × Answer). c.0) w.calls in
    (history t cs, map (λ (n : Node). n.height) (after t cs).order)

unfoldable pub actual : Situation → Played
actual w = maybe ([], []) (played w) (set_up w.capacity w.start)

unfoldable pub expected : Situation → Played
expected w = (w.calls, w.heights)

-- the one statement: the model gives the whole table
abbrev pub Situations : Type 0
Situations = map actual table ≡ map expected table

-- ---- the codes

-- the fourteen calls have the codes 0 to 13, in the document's order
abbrev pub Coded : Type 0
Coded =
    (k x : ℤ) (n m : ℕ)
    → map code
    (lookup k
    ∷ insert k x n
    ∷ remove k
    ∷ hand_over n
    ∷ ceil k
    ∷ floor k
    ∷ succ k
    ∷ pred k
    ∷ fast k x n
    ∷ «open» k x
    ∷ step n m
    ∷ close n
    ∷ sweep
    ∷ tally
    ∷ [])
    ≡ count 0 14

-- ---- the lines of the listing and of the calls that only ask

-- one line for each transaction: its number, its code, and what is printed of its answer
unfoldable pub lines : ℕ → List (Call × Answer) → List (List ℤ)
lines n [] = []
lines n (h ∷ hs) = (pos n ∷ pos (code h.0) ∷ printed h.1) ∷ lines (suc n) hs

abbrev pub numbers : List ℕ → List ℤ
numbers ns = map pos ns

abbrev pub Listed : Type 0
Listed =
    lines 1 listing.calls
    ≡ numbers (1 ∷ 1 ∷ 0 ∷ 0 ∷ [])
    ∷ numbers (2 ∷ 1 ∷ 0 ∷ 1 ∷ [])
    ∷ numbers (3 ∷ 9 ∷ 0 ∷ 1 ∷ [])
    ∷ numbers (4 ∷ 2 ∷ 0 ∷ 1 ∷ [])
    ∷ numbers (5 ∷ 3 ∷ 0 ∷ 0 ∷ [])
    ∷ numbers (6 ∷ 1 ∷ 0 ∷ 2 ∷ [])
    ∷ numbers (7 ∷ 10 ∷ 0 ∷ 2 ∷ 1 ∷ 10 ∷ 1 ∷ 20 ∷ 2 ∷ [])
    ∷ (numbers (8 ∷ 8 ∷ 0 ∷ 2 ∷ 10 ∷ 1 ∷ 20 ∷ []) ++ (negsuc 6 ∷ []))
    ∷ numbers (9 ∷ 11 ∷ 0 ∷ 1 ∷ [])
    ∷ numbers (10 ∷ 12 ∷ 0 ∷ 1 ∷ 0 ∷ [])
    ∷ numbers (11 ∷ 0 ∷ 4 ∷ [])
    ∷ []

abbrev pub Asked : Type 0
Asked =
    lines 1 asking.calls
    ≡ numbers (1 ∷ 0 ∷ 0 ∷ 2 ∷ [])
    ∷ numbers (2 ∷ 4 ∷ 0 ∷ 20 ∷ [])
    ∷ numbers (3 ∷ 5 ∷ 0 ∷ 20 ∷ [])
    ∷ numbers (4 ∷ 6 ∷ 0 ∷ 30 ∷ [])
    ∷ numbers (5 ∷ 7 ∷ 0 ∷ 10 ∷ [])
    ∷ numbers (6 ∷ 13 ∷ 0 ∷ 3 ∷ 0 ∷ 61 ∷ [])
    ∷ numbers (7 ∷ 4 ∷ 0 ∷ 20 ∷ [])
    ∷ numbers (8 ∷ 5 ∷ 0 ∷ 20 ∷ [])
    ∷ []
