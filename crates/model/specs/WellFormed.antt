-- What holds of every state that calls can produce from set-up.
-- Assumes nothing.
use Rattle.std.specs.Prelude.{◌≡◌, Bool, true, false, cond, List, [], ◌∷◌, ℕ, ◌+◌, ◌≤◌, ◌<◌, length, eqb}
use Rattle.std.specs.Int.Signed.{le_z, lt_z}
use Rattle.lists.specs.Holds.{All, Pairwise}
use Rattle.lists.specs.Filters.{filter, empty}
use Rattle.model.specs.Model.{Place, present, pending, retired, Node, is_present, lasts, is, Range, State, Stop, ahead, rest_at, due_list, range_lists, held_in, tickets}

-- keys rise, and a present node is the last of its key
abbrev pub Before : Node → Node → Type 0
Before n m = cond (is_present n) (lt_z n.key m.key) (le_z n.key m.key) ≡ true

abbrev pub Apart : Node → Node → Type 0
Apart n m = eqb n.number m.number ≡ false

abbrev pub Differ : ℕ → ℕ → Type 0
Differ i j = eqb i j ≡ false

abbrev pub Aged : ℕ → Place → Type 0
Aged c present = Unit {0}
Aged c (pending r) = r ≤ c
Aged c (retired r) = r ≤ c

-- versions no greater than the counter
pub record Dated (c : ℕ) (n : Node) : Type 0 where
  pub born : n.inserted ≤ c
  pub aged : Aged c n.place

pub record Tall (levels : ℕ) (n : Node) : Type 0 where
  pub least : 1 ≤ n.height
  pub most : n.height ≤ levels

abbrev pub over : Place → Bool
over present = false
over (pending r) = false
over (retired r) = true

abbrev pub is_retired : Node → Bool
is_retired n = over n.place

-- P holds of each node of that number
abbrev pub At : ℕ → (Node → Type 0) → List Node → Type 0
At i P ns = All (λ (n : Node). is i n ≡ true → P n) ns

abbrev pub linked : ℕ → List Node → Type 0
linked i ns = empty (filter (is i) ns) ≡ false

-- the node of that number was removed before version v
abbrev pub Gone : List Node → ℕ → ℕ → Type 0
Gone ns v i = At i (λ (n : Node). lasts v n.place ≡ false) ns

-- the nodes due, then the list of each open range: each node was removed before the version of the range whose list comes next
abbrev pub Behind : List Node → List ℕ → List (ℕ × List ℕ) → Type 0
Behind ns xs [] = Unit {0}
Behind ns xs (l ∷ ls) = All (Gone ns l.0) xs × Behind ns l.1 ls

abbrev pub Earlier : Range → Range → Type 0
Earlier r q = r.version < q.version

-- the range rests on a node that it may rest on, or on the tail, and nothing from there on is below its bounds
pub record Rested (ns : List Node) (r : Range) : Type 0 where
  pub found : rest_at (ahead r ns) ≡ r.rest
  pub above : All (λ (x : Stop). le_z r.low x.1.0 ≡ true) (ahead r ns)

pub record WellFormed (s : State) : Type 0 where
  -- the linked nodes
  pub sorted : Pairwise Before s.order
  pub apart : Pairwise Apart s.order
  pub dated : All (Dated s.counter) s.order
  pub tall : All (Tall s.levels) s.order
  pub bounded : All (λ (n : Node). n.number < s.capacity) s.order
  -- the free nodes: each other node, once
  pub spare : Pairwise Differ s.free
  pub unlinked : All (λ (i : ℕ). All (λ (n : Node). is i n ≡ false) s.order) s.free
  pub below : All (λ (i : ℕ). i < s.capacity) s.free
  pub full : length s.order + length s.free ≡ s.capacity
  -- the queue: each retired node, once; and the lists in it
  pub queued : All (λ (i : ℕ). At i (λ (n : Node). is_retired n ≡ true) s.order) s.queue
  pub single : Pairwise Differ s.queue
  pub there : All (λ (i : ℕ). linked i s.order) s.queue
  pub whole : length (filter is_retired s.order) ≡ length s.queue
  pub listed : s.due + held_in s.ranges ≡ length s.queue
  pub behind : Behind s.order (due_list s) (range_lists s)
  -- the open ranges
  pub rising : Pairwise Earlier s.ranges
  pub past : All (λ (r : Range). r.version ≤ s.counter) s.ranges
  pub rested : All (Rested s.order) s.ranges
  pub few : length s.ranges ≤ tickets
  pub grown : 1 ≤ s.levels
