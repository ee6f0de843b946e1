-- What demands 2 and 3 say of the model, after every history of calls from set-up.
-- Assumes nothing.
use Rattle.std.specs.Prelude.{◌≡◌, Bool, true, false, cond, ◌&&◌, ◌||◌, List, [], ◌∷◌, ◌++◌, map, ℕ, suc, ◌≤◌, ◌+◌, ◌-◌, min, length, take, drop, get_or, ℤ, ltb, eqb}
use Rattle.std.proofs.Math.Option.{none, some}
use Rattle.std.specs.Int.Signed.{lt_z}
use Rattle.lists.specs.Holds.{All, Pairwise}
use Rattle.lists.specs.Filters.{empty, filter}
use Rattle.model.specs.Keys.{eq_z, within}
use Rattle.model.specs.Plain.{Pair, get, put, del, ceil_of, floor_of, succ_of, pred_of, between}
use Rattle.model.specs.Calls.{Call, lookup, insert, remove, hand_over, ceil, floor, succ, pred, fast, «open», step, close, sweep, tally, written, code, names, Answer, refused, accepted, pairs_in, number, found, node, handed, nearest, ranged, opened, stepped, made_due, swept, counts}
use Rattle.model.specs.Model.{Node, pair_of, is_present, waits, is, Range, State, plain, due_list, range_lists, fast_limit, found_in, nearest_in, held_in, apply, next, answer, after, history, refusal, stops, inside, pairs_of, set_up}
use Rattle.model.specs.WellFormed.{WellFormed}

-- P holds of every state that calls can produce from set-up
abbrev pub Always : (State → Type 0) → Type 0
Always P = (capacity start : ℕ) (s : State) → set_up capacity start ≡ some s → (calls : List Call) → P (after s calls)

abbrev pub Kept : Type 0
Kept = Always WellFormed

-- a call of none of these codes
abbrev pub NoneOf : List ℕ → Call → Type 0
NoneOf ns c = All (λ (n : ℕ). eqb (code c) n ≡ false) ns

-- ---- Demand 2: the plain map

-- a key before a later one
abbrev pub Below : Pair → Pair → Type 0
Below p q = lt_z p.0 q.0 ≡ true

pub record Plainly (s : State) : Type 0 where
  -- the map has rising keys, each once
  pub rising : Pairwise Below (plain s)
  -- a call is refused exactly by its tests, in their order, and a refusal changes nothing
  pub refuses : (c : Call) (n : ℕ) → refusal s c ≡ some n → apply s c ≡ (s, refused n)
  pub accepts : (c : Call) → refusal s c ≡ none → accepted (answer s c) ≡ true
  -- a call that asks the map answers as the plain map does
  pub lookups : (k : ℤ) → answer s (lookup k) ≡ found_in (get k (plain s))
  pub ceils : (k : ℤ) → answer s (ceil k) ≡ nearest_in (ceil_of k (plain s))
  pub floors : (k : ℤ) → answer s (floor k) ≡ nearest_in (floor_of k (plain s))
  pub succs : (k : ℤ) → answer s (succ k) ≡ nearest_in (succ_of k (plain s))
  pub preds : (k : ℤ) → answer s (pred k) ≡ nearest_in (pred_of k (plain s))
  pub fasts : (l h : ℤ) (room : ℕ) → refusal s (fast l h room) ≡ none → answer s (fast l h room) ≡ ranged (between l h (plain s))
  -- the map changes by put and del alone
  pub puts : (k v : ℤ) (coin : ℕ) → refusal s (insert k v coin) ≡ none → plain (next s (insert k v coin)) ≡ put k v (plain s)
  pub dels : (k : ℤ) → refusal s (remove k) ≡ none → plain (next s (remove k)) ≡ del k (plain s)
  pub others : (c : Call) → NoneOf (1 ∷ 2 ∷ []) c → plain (next s c) ≡ plain s
  -- the counts that tally and sweep answer
  pub tallies : answer s tally ≡ counts (length (plain s)) (held_in s.ranges) (length s.free)
  pub sweeps : answer s sweep ≡ swept (min 1 s.due) (s.due - 1)

-- ---- Demand 2: each call's answer is one of its own kind

-- an answer of a kind, whatever it carries
abbrev pub OfKind : {A : Type 0} → (A → Answer) → Answer → Type 0
OfKind {A} kind a = (x : A) × (a ≡ kind x)

-- the kind of each call's answer, where it is not refused
abbrev pub Kind : Call → Answer → Type 0
Kind (lookup k) a = OfKind found a
Kind (insert k v coin) a = OfKind node a
Kind (remove k) a = OfKind node a
Kind (hand_over i) a = OfKind (λ (freed : Bool). handed (cond freed 1 0)) a
Kind (ceil k) a = OfKind nearest a
Kind (floor k) a = OfKind nearest a
Kind (succ k) a = OfKind nearest a
Kind (pred k) a = OfKind nearest a
Kind (fast l h room) a = OfKind ranged a
Kind («open» l h) a = OfKind opened a
Kind (step v room) a = OfKind (λ (x : List Pair × Bool). stepped x.0 x.1) a
Kind (close v) a = OfKind made_due a
Kind sweep a = OfKind (λ (x : ℕ × ℕ). swept x.0 x.1) a
Kind tally a = OfKind (λ (x : ℕ × ℕ × ℕ). counts x.0 x.1 x.2) a

abbrev pub Kinds : State → Type 0
Kinds s = (c : Call) → refusal s c ≡ none → Kind c (answer s c)

-- ---- Demand 2: the counts, by the history of calls

-- a number of each call and its answer, added up
abbrev pub total : (Call → Answer → ℕ) → List (Call × Answer) → ℕ
total f [] = 0
total f (h ∷ hs) = f h.0 h.1 + total f hs

-- how often a call of that code was accepted
abbrev pub times : ℕ → List (Call × Answer) → ℕ
times n hs = total (λ (c : Call) (a : Answer). cond (eqb (code c) n && accepted a) 1 0) hs

-- the first numbers that calls of that code answered, added up
abbrev pub sum : ℕ → List (Call × Answer) → ℕ
sum n hs = total (λ (c : Call) (a : Answer). cond (eqb (code c) n) (number 0 a) 0) hs

-- codes: 1 insert, 2 remove, 3 hand over (answers how many it freed), 9 open, 11 close (how many it made due), 12 sweep (how many it freed)
pub record Counted (capacity start : ℕ) (s : State) (hs : List (Call × Answer)) : Type 0 where
  pub present : length (plain s) + times 2 hs ≡ times 1 hs
  pub held : held_in s.ranges + sum 3 hs + sum 11 hs ≡ times 3 hs
  pub due : s.due + sum 12 hs ≡ sum 11 hs
  pub free : length s.free + times 1 hs ≡ capacity + sum 3 hs + sum 12 hs
  pub version : s.counter ≡ start + times 9 hs

abbrev pub Counts : Type 0
Counts =
    (capacity start : ℕ) (s : State) → set_up capacity start ≡ some s
    → (calls : List Call) → Counted capacity start (after s calls) (history s calls)

-- ---- Demand 2: the document's lists, in the one queue; node numbers and versions

-- the free nodes, the next to be used first; the nodes due; each open range's version and list, oldest first
abbrev pub Lists : Type 0
Lists = List ℕ × List ℕ × List (ℕ × List ℕ)

abbrev pub lists_of : State → Lists
lists_of s = (s.free, due_list s, range_lists s)

-- a node at the end of the latest range's list
abbrev pub joined : ℕ → List (ℕ × List ℕ) → List (ℕ × List ℕ)
joined i [] = []
joined i (l ∷ []) = (l.0, l.1 ++ (i ∷ [])) ∷ []
joined i (l ∷ m ∷ ls) = l ∷ joined i (m ∷ ls)

-- the list of version v goes to the end of the one before it: that of the next older range, or the nodes due
abbrev pub closed : ℕ → List ℕ → List (ℕ × List ℕ) → List ℕ × List (ℕ × List ℕ)
closed v xs [] = (xs, [])
closed v xs (l ∷ ls) =
    cond (eqb l.0 v) (xs ++ l.1, ls) (xs, (l.0, (closed v l.1 ls).0) ∷ (closed v l.1 ls).1)

pub record OneQueue (s : State) : Type 0 where
  -- insert: the node was the first free one
  pub takes : (k v : ℤ) (coin i : ℕ) → answer s (insert k v coin) ≡ node i → lists_of (next s (insert k v coin)) ≡ (drop 1 s.free, due_list s, range_lists s)
  pub first : (k v : ℤ) (coin i : ℕ) → answer s (insert k v coin) ≡ node i → take 1 s.free ≡ i ∷ []
  -- hand over: a pending node is free, and the next to be used, if no open range is later than its insertion; else it joins the latest range's list at its end
  pub rule :
      (i : ℕ) (n : Node) → filter (is i) s.order ≡ n ∷ [] → waits n.place ≡ true
      → answer s (hand_over i) ≡ handed (cond (empty (filter (λ (r : Range). ltb n.inserted r.version) s.ranges)) 1 0)
  pub joins : (i : ℕ) → answer s (hand_over i) ≡ handed 0 → lists_of (next s (hand_over i)) ≡ (s.free, due_list s, joined i (range_lists s))
  pub frees : (i : ℕ) → answer s (hand_over i) ≡ handed 1 → lists_of (next s (hand_over i)) ≡ (i ∷ s.free, due_list s, range_lists s)
  -- open: one more version, with an empty list
  pub opens : (l h : ℤ) (v : ℕ) → answer s («open» l h) ≡ opened v → lists_of (next s («open» l h)) ≡ (s.free, due_list s, range_lists s ++ ((v, []) ∷ []))
  pub version : (l h : ℤ) (v : ℕ) → answer s («open» l h) ≡ opened v → v ≡ suc s.counter
  -- close: its list moves, and it answers by how many the nodes due grow
  pub closes : (v n : ℕ) → answer s (close v) ≡ made_due n → lists_of (next s (close v)) ≡ (s.free, (closed v (due_list s) (range_lists s)).0, (closed v (due_list s) (range_lists s)).1)
  pub grows : (v n : ℕ) → answer s (close v) ≡ made_due n → length (due_list (next s (close v))) ≡ length (due_list s) + n
  -- sweep: the first node due, if any, is free and the next to be used
  pub sweeps : lists_of (next s sweep) ≡ (take 1 (due_list s) ++ s.free, drop 1 (due_list s), range_lists s)
  pub others : (c : Call) → NoneOf (1 ∷ 3 ∷ 9 ∷ 11 ∷ 12 ∷ []) c → lists_of (next s c) ≡ lists_of s

-- an insertion of that key
abbrev pub inserts : ℤ → Call → Bool
inserts k c = eqb (code c) 1 && eq_z (get_or (written c).1 0 k) k

-- the node that the last accepted insertion of a key answered, i where there was none
abbrev pub inserted_at : ℤ → ℕ → List (Call × Answer) → ℕ
inserted_at k i [] = i
inserted_at k i (h ∷ hs) = inserted_at k (cond (inserts k h.0 && accepted h.1) (number 0 h.1) i) hs

-- a removal answers that node
abbrev pub Removes : Type 0
Removes =
    (capacity start : ℕ) (s : State) → set_up capacity start ≡ some s
    → (calls : List Call) (k : ℤ) (i : ℕ) → answer (after s calls) (remove k) ≡ node i → inserted_at k 0 (history s calls) ≡ i

pub record Demand2 : Type 0 where
  pub plainly : Always Plainly
  pub kinds : Always Kinds
  pub counts : Counts
  pub queue : Always OneQueue
  pub removes : Removes

-- ---- Demand 3

-- a step, a close of the range of that version
abbrev pub steps : ℕ → Call → Bool
steps v c = eqb (code c) 10 && eqb (names c) v

abbrev pub closes : ℕ → Call → Bool
closes v c = eqb (code c) 11 && eqb (names c) v

-- all that the steps of that range handed out, in order
abbrev pub handed_out : ℕ → List (Call × Answer) → List Pair
handed_out v [] = []
handed_out v (h ∷ hs) = cond (steps v h.0) (pairs_in h.1) [] ++ handed_out v hs

-- one of its steps answered finished
abbrev pub finished_in : ℕ → List (Call × Answer) → Bool
finished_in v [] = false
finished_in v (h ∷ hs) = (steps v h.0 && eqb (number 1 h.1) 1) || finished_in v hs

-- a range of version v is opened at s with the bounds l and h, which leads to t, and calls follow, none of which closes it
module _ (s : State) (l h : ℤ) (v : ℕ) (t : State) (calls : List Call) where
  -- the map's pairs within its bounds at its opening; what its steps handed out, and what is left
  abbrev pub list : List Pair
  list = between l h (plain s)

  abbrev pub so_far : List Pair
  so_far = handed_out v (history t calls)

  abbrev pub to_come : List Pair
  to_come = drop (length so_far) list

  pub record Promise : Type 0 where
    -- what was handed out is the first part of the list, each pair once; all of it at finished
    pub first_part : so_far ++ to_come ≡ list
    pub once : Pairwise Below list
    pub finished : finished_in v (history t calls) ≡ true → so_far ≡ list
    -- a further step hands out the next pairs, and says finished exactly when none is left then
    pub further : (room : ℕ) → 1 ≤ room → answer (after t calls) (step v room) ≡ stepped (take room to_come) (empty (drop room to_come))
    pub no_room : answer (after t calls) (step v 0) ≡ refused 8
    -- a fast range at the opening gives the list
    pub fastly : (room : ℕ) → length list ≤ fast_limit → length list ≤ room → answer s (fast l h room) ≡ ranged list
    -- no node of the list is unlinked: they are there in their order, and each is linked once, with its pair
    pub nodes : pairs_of (inside l h (stops v s.order)) ≡ list
    pub order : inside l h (stops v (after t calls).order) ≡ inside l h (stops v s.order)
    pub linked :
        All (λ (n : Node). is_present n ≡ true → within l h n.key ≡ true → map pair_of (filter (is n.number) (after t calls).order) ≡ pair_of n ∷ [])
        s.order

abbrev pub Demand3 : Type 0
Demand3 =
    Always
    (λ (s : State). (l h : ℤ) (v : ℕ) → answer s («open» l h) ≡ opened v
    → (calls : List Call) → All (λ (c : Call). closes v c ≡ false) calls → Promise s l h v (next s («open» l h)) calls)
