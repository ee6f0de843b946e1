-- What each call does: the model that contracts and theorems cite. A state has no memory, links, levels or buckets.
-- Assumes nothing.
use Rattle.std.specs.Prelude.{Bool, true, false, not, cond, ◌&&◌, List, [], ◌∷◌, ◌++◌, map, ℕ, zero, suc, ◌+◌, ◌/◌, ◌%◌, min, length, take, drop, leb, ltb, eqb, ℤ, Option as Optional, Some, None}
use Rattle.std.proofs.Math.Option.{Option, none, some}
use Rattle.std.specs.Int.Signed.{le_z, lt_z}
use Rattle.lists.specs.Filters.{filter, first, last, empty, lacks, maybe, count}
use Rattle.sizes.specs.declared.Size.{Size}
use Rattle.sizes.specs.Sizes.{size_of}
use Rattle.model.specs.Keys.{eq_z, within}
use Rattle.model.specs.Plain.{Pair, Map, get, ceil_of, floor_of, succ_of, pred_of, between}
use Rattle.model.specs.Calls.{Call, lookup, insert, remove, hand_over, ceil, floor, succ, pred, fast, «open», step, close, sweep, tally, Answer, refused, told, found, node, handed, nearest, ranged, opened, stepped, made_due, swept, counts}

-- ---- nodes

-- not removed; removed at that version and not handed over; removed at that version and handed over
pub data Place : Type 0 where
  present : Place
  pending : ℕ → Place
  retired : ℕ → Place

pub record Node : Type 0 where
  pub number : ℕ
  pub key : ℤ
  pub value : ℤ
  pub height : ℕ
  pub inserted : ℕ
  pub place : Place

abbrev pub pair_of : Node → Pair
pair_of n = (n.key, n.value)

abbrev pub moved : Place → Node → Node
moved p n =
    record { number = n.number; key = n.key; value = n.value; height = n.height; inserted = n.inserted; place = p }

-- those that pass the test, at another place
abbrev pub change : (Node → Bool) → Place → List Node → List Node
change t p ns = map (λ (n : Node). cond (t n) (moved p n) n) ns

abbrev pub here : Place → Bool
here present = true
here (pending r) = false
here (retired r) = false

abbrev pub waits : Place → Bool
waits present = false
waits (pending r) = true
waits (retired r) = false

abbrev pub is_present : Node → Bool
is_present n = here n.place

abbrev pub is : ℕ → Node → Bool
is i n = eqb n.number i

-- the present node of a key
abbrev pub holds : ℤ → Node → Bool
holds k n = is_present n && eq_z n.key k

-- not removed, or the removal version is at least v
abbrev pub lasts : ℕ → Place → Bool
lasts v present = true
lasts v (pending r) = leb v r
lasts v (retired r) = leb v r

-- a range of version v may rest on the node, and needs it if its key is within the bounds
abbrev pub may_rest : ℕ → Node → Bool
may_rest v n = ltb n.inserted v && lasts v n.place

-- the map that linked nodes show
abbrev pub shown : List Node → Map
shown ns = map pair_of (filter is_present ns)

-- ---- states

-- a node, or the tail
pub data Rest : Type 0 where
  on : ℕ → Rest
  tail : Rest

-- an open range: its ticket, and how many nodes are on its list
pub record Range : Type 0 where
  pub version : ℕ
  pub low : ℤ
  pub high : ℤ
  pub rest : Rest
  pub held : ℕ

-- `order`: every linked node, as the lowest level has them. `free`: the node freed last is first. `ranges`: the open ones, oldest first.
-- `queue`: the nodes handed over and not yet free: the first `due` are due, and behind them stand the lists of the open ranges, oldest first.
pub record State : Type 0 where
  pub capacity : ℕ
  pub levels : ℕ
  pub counter : ℕ
  pub order : List Node
  pub free : List ℕ
  pub queue : List ℕ
  pub due : ℕ
  pub ranges : List Range

abbrev pub plain : State → Map
plain s = shown s.order

-- the nodes due, and each open range's version with its list
abbrev pub lists : List ℕ → List Range → List (ℕ × List ℕ)
lists q [] = []
lists q (r ∷ rs) = (r.version, take r.held q) ∷ lists (drop r.held q) rs

abbrev pub due_list : State → List ℕ
due_list s = take s.due s.queue

abbrev pub range_lists : State → List (ℕ × List ℕ)
range_lists s = lists (drop s.due s.queue) s.ranges

-- the state with other parts than its size
abbrev pub with : State → ℕ → List Node → List ℕ → List ℕ → ℕ → List Range → State
with s counter order free queue due ranges =
    record {
      capacity = s.capacity;
      levels = s.levels;
      counter = counter;
      order = order;
      free = free;
      queue = queue;
      due = due;
      ranges = ranges;
    }

abbrev pub with_counter : ℕ → State → State
with_counter c s = with s c s.order s.free s.queue s.due s.ranges

abbrev pub with_order : List Node → State → State
with_order ns s = with s s.counter ns s.free s.queue s.due s.ranges

abbrev pub with_free : List ℕ → State → State
with_free is s = with s s.counter s.order is s.queue s.due s.ranges

abbrev pub with_queue : List ℕ → State → State
with_queue q s = with s s.counter s.order s.free q s.due s.ranges

abbrev pub with_due : ℕ → State → State
with_due d s = with s s.counter s.order s.free s.queue d s.ranges

abbrev pub with_ranges : List Range → State → State
with_ranges rs s = with s s.counter s.order s.free s.queue s.due rs

abbrev pub fast_limit : ℕ
fast_limit = 64

abbrev pub tickets : ℕ
tickets = 16

abbrev pub last_version : ℕ
last_version = 4294967295

abbrev pub Outcome : Type 0
Outcome = State × Answer

-- a test that refuses with its number, or else goes on
abbrev pub unless : Bool → ℕ → State → Outcome → Outcome
unless true n s o = (s, refused n)
unless false n s o = o

-- ---- lookup; ceil, floor, succ and pred

abbrev pub found_in : Option Pair → Answer
found_in o = maybe (refused 4) (λ (p : Pair). found p.1) o

abbrev pub nearest_in : Option Pair → Answer
nearest_in o = maybe (refused 13) (λ (p : Pair). nearest p.0) o

-- ---- insert

-- how many of the lowest bits, at most k, are ones from the lowest on
abbrev pub trailing_ones : ℕ → ℕ → ℕ
trailing_ones zero c = 0
trailing_ones (suc k) c = cond (eqb (c % 2) 1) (suc (trailing_ones k (c / 2))) 0

abbrev pub height_of : ℕ → ℕ → ℕ
height_of levels coin = min levels (1 + trailing_ones 64 coin)

-- behind every node whose key is not above its own
abbrev pub stitch : Node → List Node → List Node
stitch n [] = n ∷ []
stitch n (m ∷ ms) = cond (lt_z n.key m.key) (n ∷ m ∷ ms) (m ∷ stitch n ms)

abbrev pub new_node : State → ℕ → ℤ → ℤ → ℕ → Node
new_node s i k v coin =
    record { number = i; key = k; value = v; height = height_of s.levels coin; inserted = s.counter; place = present }

abbrev pub linking : State → ℤ → ℤ → ℕ → ℕ → List ℕ → Outcome
linking s k v coin i is = (with_order (stitch (new_node s i k v coin) s.order) (with_free is s), node i)

unfoldable pub inserting : State → ℤ → ℤ → ℕ → List ℕ → Outcome
inserting s k v coin [] = (s, refused 5)
inserting s k v coin (i ∷ is) = linking s k v coin i is

-- ---- remove

-- the present node of a key becomes pending
abbrev pub leave : ℕ → ℤ → List Node → List Node
leave c k ns = change (holds k) (pending c) ns

abbrev pub leaving : State → ℤ → ℕ → Outcome
leaving s k i = (with_order (leave s.counter k s.order) s, node i)

-- ---- hand over

abbrev pub unstitch : ℕ → List Node → List Node
unstitch i ns = filter (λ (n : Node). not (is i n)) ns

abbrev pub retire : ℕ → ℕ → List Node → List Node
retire i r ns = change (is i) (retired r) ns

-- the range, with more nodes on its list
abbrev pub gain : ℕ → Range → Range
gain h r = record { version = r.version; low = r.low; high = r.high; rest = r.rest; held = r.held + h }

-- one more node on the list of the latest range
abbrev pub hold : List Range → List Range
hold [] = []
hold (r ∷ []) = gain 1 r ∷ []
hold (r ∷ q ∷ rs) = r ∷ hold (q ∷ rs)

-- no range is open, or the insertion version is at least that of the latest
abbrev pub unseen : ℕ → Option Range → Bool
unseen i none = true
unseen i (some r) = leb r.version i

-- node i, removed at version r: free, or at the end of the latest range's list
abbrev pub handing : State → ℕ → ℕ → Bool → Outcome
handing s i r true = (with_order (unstitch i s.order) (with_free (i ∷ s.free) s), handed 1)
handing s i r false = (with_order (retire i r s.order) (with_queue (s.queue ++ (i ∷ [])) (with_ranges (hold s.ranges) s)), handed 0)

-- node i, inserted at version t, by its place
unfoldable pub hand_place : State → ℕ → ℕ → Place → Outcome
hand_place s i t present = (s, refused 12)
hand_place s i t (retired r) = (s, refused 12)
hand_place s i t (pending r) = handing s i r (unseen t (last s.ranges))

-- ---- fast range

unfoldable pub ranging : State → ℤ → ℤ → ℕ → List Pair → Outcome
ranging s l h room ps =
    unless (lt_z h l) 6 s (unless (ltb fast_limit (length ps)) 7 s (unless (ltb room (length ps)) 8 s (s, ranged ps)))

-- ---- open

-- a node that a range may rest on: its number and its pair
abbrev pub Stop : Type 0
Stop = ℕ × Pair

-- all of them, for version v: the same from the opening to the close
abbrev pub stops : ℕ → List Node → List Stop
stops v ns = map (λ (n : Node). (n.number, pair_of n)) (filter (may_rest v) ns)

-- a range rests on the first of what is ahead of it
abbrev pub rest_at : List Stop → Rest
rest_at [] = tail
rest_at (x ∷ xs) = on x.0

abbrev pub new_range : ℕ → ℤ → ℤ → List Node → Range
new_range v l h ns =
    record {
      version = v;
      low = l;
      high = h;
      rest = rest_at (filter (λ (x : Stop). le_z l x.1.0) (stops v ns));
      held = 0;
    }

abbrev pub opening : State → ℕ → ℤ → ℤ → Outcome
opening s v l h = (with_counter v (with_ranges (s.ranges ++ (new_range v l h s.order ∷ [])) s), opened v)

-- ---- step

abbrev pub named : ℕ → Range → Bool
named v r = eqb r.version v

abbrev pub range : ℕ → List Range → Option Range
range v rs = first (filter (named v) rs)

abbrev pub from : Rest → List Stop → List Stop
from tail xs = []
from (on i) [] = []
from (on i) (x ∷ xs) = cond (eqb x.0 i) (x ∷ xs) (from (on i) xs)

-- from where the range rests: all that it may rest on, and of these what it needs
abbrev pub ahead : Range → List Node → List Stop
ahead r ns = from r.rest (stops r.version ns)

abbrev pub inside : ℤ → ℤ → List Stop → List Stop
inside l h xs = filter (λ (x : Stop). within l h x.1.0) xs

abbrev pub left : Range → List Node → List Stop
left r ns = inside r.low r.high (ahead r ns)

abbrev pub pairs_of : List Stop → List Pair
pairs_of xs = map (λ (x : Stop). x.1) xs

abbrev pub rested : Rest → Range → Range
rested x r = record { version = r.version; low = r.low; high = r.high; rest = x; held = r.held }

abbrev pub move_on : ℕ → Rest → List Range → List Range
move_on v x rs = map (λ (r : Range). cond (named v r) (rested x r) r) rs

-- xs are ahead of a range, and of these it needs some: behind the first of those, as many as there is room for
abbrev pub rest_after : ℕ → List Stop → List Stop → Rest
rest_after room xs needed = rest_at (drop (length (take room needed)) xs)

abbrev pub stepping : State → ℕ → ℕ → List Stop → List Stop → Outcome
stepping s v room xs needed = (
  with_ranges (move_on v (rest_after room xs needed) s.ranges) s,
  stepped (pairs_of (take room needed)) (empty (drop room needed)),
)

-- ---- close

-- p is the range before; its list takes that of the range closed
abbrev pub shut : ℕ → Range → List Range → List Range
shut v p [] = p ∷ []
shut v p (r ∷ rs) = cond (named v r) (gain r.held p ∷ rs) (p ∷ shut v r rs)

-- r is the oldest range: the one closed, or not
abbrev pub closing : State → ℕ → Range → List Range → Bool → Outcome
closing s v r rs true = (with_due (s.due + r.held) (with_ranges rs s), made_due r.held)
closing s v r rs false = (with_ranges (shut v r rs) s, made_due 0)

unfoldable pub close_from : State → ℕ → List Range → Outcome
close_from s v [] = (s, refused 11)
close_from s v (r ∷ rs) = unless (lacks (range v (r ∷ rs))) 11 s (closing s v r rs (named v r))

-- ---- sweep

abbrev pub freeing : State → ℕ → ℕ → List ℕ → Outcome
freeing s d i q = (with_order (unstitch i s.order) (with_free (i ∷ s.free) (with_queue q (with_due d s))), swept 1 d)

unfoldable pub sweeping : State → ℕ → List ℕ → Outcome
sweeping s zero q = (s, swept 0 0)
sweeping s (suc d) [] = (s, swept 0 (suc d))
sweeping s (suc d) (i ∷ q) = freeing s d i q

-- ---- tally

abbrev pub held_in : List Range → ℕ
held_in [] = 0
held_in (r ∷ rs) = r.held + held_in rs

-- ---- every call

unfoldable pub apply : State → Call → Outcome
apply s (lookup k) = (s, found_in (get k (plain s)))
apply s (insert k v coin) = unless (not (lacks (get k (plain s)))) 3 s (inserting s k v coin s.free)
apply s (remove k) = maybe (s, refused 4) (λ (n : Node). leaving s k n.number) (first (filter (holds k) s.order))
apply s (hand_over i) =
    maybe (s, refused 12) (λ (n : Node). hand_place s i n.inserted n.place) (first (filter (is i) s.order))
apply s (ceil k) = (s, nearest_in (ceil_of k (plain s)))
apply s (floor k) = (s, nearest_in (floor_of k (plain s)))
apply s (succ k) = (s, nearest_in (succ_of k (plain s)))
apply s (pred k) = (s, nearest_in (pred_of k (plain s)))
apply s (fast l h room) = ranging s l h room (between l h (plain s))
apply s («open» l h) =
    unless (lt_z h l) 6 s
    (unless (leb tickets (length s.ranges)) 9 s
    (unless (leb last_version s.counter) 10 s (opening s (suc s.counter) l h)))
apply s (step v room) =
    maybe (s, refused 11) (λ (r : Range). unless (eqb room 0) 8 s (stepping s v room (ahead r s.order) (left r s.order)))
    (range v s.ranges)
apply s (close v) = close_from s v s.ranges
apply s sweep = sweeping s s.due s.queue
apply s tally = (s, counts (length (filter is_present s.order)) (held_in s.ranges) (length s.free))

abbrev pub next : State → Call → State
next s c = (apply s c).0

abbrev pub answer : State → Call → Answer
answer s c = (apply s c).1

-- many calls, one after another: the state after them, and each call with its answer
unfoldable pub after : State → List Call → State
after s [] = s
after s (c ∷ cs) = after (next s c) cs

unfoldable pub history : State → List Call → List (Call × Answer)
history s [] = []
history s (c ∷ cs) = (c, answer s c) ∷ history (next s c) cs

abbrev pub run : State → List Call → State × List Answer
run s cs = (after s cs, map (λ (h : Call × Answer). h.1) (history s cs))

-- ---- the refusals

-- the tests of each call, in order, with their numbers
abbrev pub tests : State → Call → List (Bool × ℕ)
tests s (lookup k) = (lacks (get k (plain s)), 4) ∷ []
tests s (insert k v coin) = (not (lacks (get k (plain s))), 3) ∷ (empty s.free, 5) ∷ []
tests s (remove k) = (lacks (get k (plain s)), 4) ∷ []
tests s (hand_over i) = (not (maybe false (λ (n : Node). waits n.place) (first (filter (is i) s.order))), 12) ∷ []
tests s (ceil k) = (lacks (ceil_of k (plain s)), 13) ∷ []
tests s (floor k) = (lacks (floor_of k (plain s)), 13) ∷ []
tests s (succ k) = (lacks (succ_of k (plain s)), 13) ∷ []
tests s (pred k) = (lacks (pred_of k (plain s)), 13) ∷ []
tests s (fast l h room) =
    (lt_z h l, 6) ∷ (ltb fast_limit (length (between l h (plain s))), 7) ∷ (ltb room (length (between l h (plain s))), 8) ∷ []
tests s («open» l h) = (lt_z h l, 6) ∷ (leb tickets (length s.ranges), 9) ∷ (leb last_version s.counter, 10) ∷ []
tests s (step v room) = (lacks (range v s.ranges), 11) ∷ (eqb room 0, 8) ∷ []
tests s (close v) = (lacks (range v s.ranges), 11) ∷ []
tests s sweep = []
tests s tally = []

abbrev pub first_of : List (Bool × ℕ) → Option ℕ
first_of [] = none
first_of (t ∷ ts) = cond t.0 (some t.1) (first_of ts)

-- the number of the first test that holds
abbrev pub refusal : State → Call → Option ℕ
refusal s c = first_of (tests s c)

-- ---- set-up

-- an empty map, no open range, every node free
unfoldable pub fresh : ℕ → ℕ → ℕ → State
fresh capacity levels start =
    record {
      capacity = capacity;
      levels = levels;
      counter = start;
      order = [];
      free = count 0 capacity;
      queue = [];
      due = 0;
      ranges = [];
    }

abbrev pub fresh_of : ℕ → Optional Size → Option State
fresh_of start (Some s) = some (fresh s.capacity s.levels start)
fresh_of start None = none

-- of a capacity that the table has; else it is refused with 2
unfoldable pub set_up : ℕ → ℕ → Option State
set_up capacity start = fresh_of start (size_of capacity)

abbrev pub set_up_answer : Option State → Answer
set_up_answer o = maybe (refused 2) (λ (s : State). told []) o
