-- What is printed of the transactions of a file is determined by the file and the state of the map.
-- Assumes nothing.
use Rattle.std.specs.Prelude.{Result, Ok, Err}
use mathlib.Core.Path.{◌≡◌, refl, sym, ap, ap₂, ◌∙◌, subst}
use mathlib.Core.Bool.{Bool, true, false, true≢false}
use mathlib.Core.List.{List, [], ◌∷◌, ◌++◌, map, append_assoc}
use Prim.Native.Nat.{ℕ, ◌+◌, ◌≤◌}
use native.Mathlib.Omega.{arith}
use lib.ListN.{length, drop, length-append}
use lib.Seq.{take_at, drop_at}
use Rattle.lists.specs.Holds.{All}
use Rattle.transactions.specs.declared.Call.{Call}
use Rattle.transactions.specs.declared.Halt.{Halt}
use Rattle.transactions.specs.declared.Halt.TheVariants.{Stop, More}
use Rattle.transactions.specs.Sequences.{bytes_of}
use Rattle.transactions.specs.Calls.{numbers_of, WrittenCall}
use Rattle.transactions.specs.Readings.{CallRead}
use Rattle.transactions.proofs.Trips.{call_read_same}
use Rattle.model.specs.Model.{State, history}
use Rattle.batch.specs.Turns.{room, meant}
use Rattle.batch.specs.Lists.{bytes_in}
use Rattle.batch.proofs.Listing.{call_some}
use Rattle.lines.specs.Lines.{lines_behind}
use Rattle.lines.specs.Files.{stop_line, Last, ended, stopped, Prints}

-- a call's written form, and that it is one
abbrev bytes : Call → List ℕ
bytes c = bytes_of (numbers_of c)

abbrev Well : Call → Type 0
Well c = WrittenCall c (bytes c)

-- ---- readings

-- a call and its length, or why reading goes no further
abbrev Reading : Type 0
Reading = Result (Call × ℕ) Halt

-- what a reading answers where a call stands first
reads : (c : Call) (rest : List ℕ) (place : ℕ) → Well c → CallRead (bytes c ++ rest) place false (Ok (c, length (bytes c)))
reads c rest place w =
    record { inside = omega (arith, length-append (bytes c) rest); written = subst (WrittenCall c) (sym (take_at (bytes c) rest (length (bytes c)) refl)) w }

-- the parts of a reading: its call, or c; whether it is one; the place where it stops, or 0
call_in : Call → Reading → Call
call_in c (Ok next) = next.0
call_in c (Err halt) = c

is_call : Reading → Bool
is_call (Ok next) = true
is_call (Err halt) = false

place_in : Reading → ℕ
place_in (Ok next) = 0
place_in (Err (Stop place)) = place
place_in (Err More) = 0

-- the first calls of the same bytes are the same
first_same : (c d : Call) (r q : List ℕ) → Well c → Well d → bytes c ++ r ≡ bytes d ++ q → c ≡ d
unfolding call_in
first_same c d r q v w e =
    ap (call_in c)
    (call_read_same (bytes d ++ q) 0 false (Ok (c, length (bytes c))) (Ok (d, length (bytes d)))
    (subst (λ z. CallRead z 0 false (Ok (c, length (bytes c)))) e (reads c r 0 v)) (reads d q 0 w))

-- ---- the last line

-- where a call stands first, there is none
no_last : (c : Call) (rest : List ℕ) (place : ℕ) (m : List ℕ) → Well c → Last (bytes c ++ rest) place m → ⊥
unfolding is_call
no_last c rest place m w (ended e) =
    let n : 1 ≤ length (bytes c ++ rest) = omega (arith, call_some c, length-append (bytes c) rest) in
    let z : length (bytes c ++ rest) ≡ 0 = ap length e in
    omega arith
no_last c rest place m w (stopped offset s t) =
    true≢false (ap is_call (call_read_same (bytes c ++ rest) place false (Ok (c, length (bytes c))) (Err (Stop offset)) (reads c rest place w) t))

last_once : (rest : List ℕ) (place : ℕ) (l m : List ℕ) → Last rest place l → Last rest place m → l ≡ m
unfolding place_in
last_once rest place l m (ended e) (ended f) = refl
last_once rest place l m (ended e) (stopped offset s t) = let z : length rest ≡ 0 = ap length e in absurd (omega arith)
last_once rest place l m (stopped offset s t) (ended f) = let z : length rest ≡ 0 = ap length f in absurd (omega arith)
last_once rest place l m (stopped a s t) (stopped b u v) =
    ap stop_line (ap place_in (call_read_same rest place false (Err (Stop a)) (Err (Stop b)) t v))

-- ---- all lines

-- behind a call the place is further on by its length
place_behind : (place : ℕ) (c : Call) (cs : List Call) → place + length (bytes_in (c ∷ cs)) ≡ place + length (bytes c) + length (bytes_in cs)
place_behind place c cs = omega (arith, length-append (bytes c) (bytes_in cs))

-- the same bytes hold the same calls, and the last line is the same
calls_once : (cs ds : List Call) (r q : List ℕ) (place : ℕ) (l m : List ℕ) → All Well cs → All Well ds → bytes_in cs ++ r ≡ bytes_in ds ++ q
    → Last r (place + length (bytes_in cs)) l → Last q (place + length (bytes_in ds)) m → (cs ≡ ds) × (l ≡ m)
calls_once [] [] r q place l m a b e x y = (refl, last_once q (place + 0) l m (subst (λ z. Last z (place + 0) l) e x) y)
calls_once [] (d ∷ ds) r q place l m a b e x y =
    absurd (no_last d (bytes_in ds ++ q) (place + 0) l b.0 (subst (λ z. Last z (place + 0) l) (e ∙ append_assoc (bytes d) (bytes_in ds) q) x))
calls_once (c ∷ cs) [] r q place l m a b e x y =
    absurd (no_last c (bytes_in cs ++ r) (place + 0) m a.0 (subst (λ z. Last z (place + 0) m) (sym e ∙ append_assoc (bytes c) (bytes_in cs) r) y))
calls_once (c ∷ cs) (d ∷ ds) r q place l m a b e x y =
    let f : bytes c ++ (bytes_in cs ++ r) ≡ bytes d ++ (bytes_in ds ++ q) = sym (append_assoc (bytes c) (bytes_in cs) r) ∙ (e ∙ append_assoc (bytes d) (bytes_in ds) q) in
    let g : d ≡ c = sym (first_same c d (bytes_in cs ++ r) (bytes_in ds ++ q) a.0 b.0 f) in
    let n : length (bytes d) ≡ length (bytes c) = ap (λ z. length (bytes z)) g in
    let h : bytes_in cs ++ r ≡ bytes_in ds ++ q =
    sym (drop_at (bytes c) (bytes_in cs ++ r) (length (bytes c)) refl) ∙ (ap (drop (length (bytes c))) f ∙ drop_at (bytes d) (bytes_in ds ++ q) (length (bytes c)) n) in
    let i =
    calls_once cs ds r q (place + length (bytes c)) l m a.1 b.1 h (subst (λ z. Last r z l) (place_behind place c cs) x)
    (subst (λ z. Last q z m) (place_behind place d ds ∙ ap (λ k. place + k + length (bytes_in ds)) n) y) in
    (ap₂ {C = List Call} (λ z zs. z ∷ zs) (sym g) i.0, i.1)

-- LAW: two outputs that a file's transactions may print are equal
pub prints_once : (s : State) (before place : ℕ) (file out out' : List ℕ) → Prints s before place file out → Prints s before place file out' → out ≡ out'
prints_once s before place file out out' p q =
    let i = calls_once p.calls q.calls p.rest q.rest place p.last q.last p.written q.written (sym p.whole ∙ q.whole) p.ends q.ends in
    p.is ∙ (ap₂ (λ cs l. lines_behind before (history s (map (meant room) cs)) ++ l) i.0 i.1 ∙ sym q.is)
