-- What is printed of a file is determined by its bytes.
-- Assumes nothing.
use Rattle.std.specs.Prelude.{Ok, Err}
use mathlib.Core.Path.{◌≡◌, refl, sym, ap, ap₂, ◌∙◌, subst}
use mathlib.Core.Bool.{false}
use mathlib.Core.List.{List, [], ◌∷◌, ◌++◌, map, append_assoc}
use mathlib.Core.Option.{some}
use Prim.Native.Nat.{ℕ, ◌+◌}
use native.Mathlib.Omega.{arith}
use lib.ListN.{length, drop, length-append}
use lib.Seq.{take-append_seam, drop-append_seam}
use Rattle.lists.specs.Holds.{All}
use Rattle.transactions.specs.declared.Call.{Call}
use Rattle.transactions.specs.declared.Header.{Header}
use Rattle.transactions.specs.declared.Halt.{Halt}
use Rattle.transactions.specs.Sequences.{bytes_of}
use Rattle.transactions.specs.Calls.{numbers_of, WrittenCall}
use Rattle.transactions.specs.Readings.{WholeCall, HeaderRead}
use Rattle.transactions.proofs.Trips.{call_read_same, header_read_same}
use Rattle.model.specs.Model.{State, set_up, history}
use Rattle.batch.specs.Turns.{room, meant}
use Rattle.batch.specs.Lists.{bytes_in}
use Rattle.batch.proofs.Listing.{call_some}
use Rattle.lines.specs.Lines.{lines_behind}
use Rattle.lines.specs.Files.{end_line, stop_line, Last, Prints}
use Rattle.lines.specs.Files as F
use Rattle.schedule.specs.SetUps.{set_up_result}
use Rattle.schedule.specs.Turns.{set_up_line}
use Rattle.schedule.specs.Files.{PrintsFile}
use Rattle.schedule.specs.Files as S

-- ---- the calls in the bytes

abbrev AllWritten : List Call → Type 0
AllWritten cs = All (λ (c : Call). WrittenCall c (bytes_of (numbers_of c))) cs

-- a call stands in front
in_front : (c : Call) (rest : List ℕ) → WrittenCall c (bytes_of (numbers_of c)) → WholeCall (bytes_of (numbers_of c) ++ rest) c (length (bytes_of (numbers_of c)))
in_front c rest w = record { inside = omega (arith, length-append (bytes_of (numbers_of c)) rest); written = rw (take-append_seam (bytes_of (numbers_of c)) rest) w }

-- where the last line follows, no call does
no_call : {rest last : List ℕ} {place : ℕ} (c : Call) (more : List ℕ) → Last rest place last → rest ≡ bytes_of (numbers_of c) ++ more → WrittenCall c (bytes_of (numbers_of c)) → ⊥
no_call c more (F.ended e) q w = let n = ap length (sym e ∙ q) in omega (arith, length-append (bytes_of (numbers_of c)) more, call_some c)
no_call {rest} {place = place} c more (F.stopped offset l s) q w =
    let v : WholeCall rest c (length (bytes_of (numbers_of c))) = subst (λ (x : List ℕ). WholeCall x c (length (bytes_of (numbers_of c)))) (sym q) (in_front c more w) in
    let x = call_read_same rest place false (Err (Halt.Stop offset)) (Ok (c, length (bytes_of (numbers_of c)))) s v in
    cc

calls_same : (cs ds : List Call) (r q : List ℕ) {k n : ℕ} {x y : List ℕ} → AllWritten cs → AllWritten ds → bytes_in cs ++ r ≡ bytes_in ds ++ q → Last r k x → Last q n y → (cs ≡ ds) × (r ≡ q)
calls_same [] [] r q a b e l m = (refl, e)
calls_same [] (d ∷ ds) r q a b e l m = absurd (no_call d (bytes_in ds ++ q) l (e ∙ append_assoc (bytes_of (numbers_of d)) (bytes_in ds) q) b.0)
calls_same (c ∷ cs) [] r q a b e l m = absurd (no_call c (bytes_in cs ++ r) m (sym e ∙ append_assoc (bytes_of (numbers_of c)) (bytes_in cs) r) a.0)
calls_same (c ∷ cs) (d ∷ ds) r q a b e l m =
    let u = bytes_of (numbers_of c) in
    let v = bytes_of (numbers_of d) in
    let f : u ++ (bytes_in cs ++ r) ≡ v ++ (bytes_in ds ++ q) = sym (append_assoc u (bytes_in cs) r) ∙ (e ∙ append_assoc v (bytes_in ds) q) in
    let g =
    call_read_same (u ++ (bytes_in cs ++ r)) 0 false (Ok (c, length u)) (Ok (d, length v)) (in_front c (bytes_in cs ++ r) a.0)
    (subst (λ (x : List ℕ). WholeCall x d (length v)) (sym f) (in_front d (bytes_in ds ++ q) b.0)) in
    let k : ◌≡◌ {A = Call × ℕ} (c, length u) (d, length v) = cc in
    let h = ap (λ (x : Call × ℕ). x.0) k in
    let i : length u ≡ length v = ap (λ (x : Call). length (bytes_of (numbers_of x))) h in
    let j : bytes_in cs ++ r ≡ bytes_in ds ++ q =
    sym (drop-append_seam u (bytes_in cs ++ r)) ∙ (ap (drop (length u)) f ∙ (ap (λ n. drop n (v ++ (bytes_in ds ++ q))) i ∙ drop-append_seam v (bytes_in ds ++ q))) in
    let t = calls_same cs ds r q a.1 b.1 j l m in
    (ap₂ {C = List Call} (λ (x : Call) (xs : List Call). x ∷ xs) h t.0, t.1)

last_same : {rest x y : List ℕ} {place : ℕ} → Last rest place x → Last rest place y → x ≡ y
last_same (F.ended e) (F.ended f) = refl
last_same (F.ended e) (F.stopped offset l s) = absurd (omega (arith, ap length e))
last_same (F.stopped offset l s) (F.ended f) = absurd (omega (arith, ap length f))
last_same {rest} {place = place} (F.stopped o l s) (F.stopped p m t) =
    let g = call_read_same rest place false (Err (Halt.Stop o)) (Err (Halt.Stop p)) s t in
    let h : o ≡ p = cc in
    ap stop_line h

prints_same : {s : State} {before place : ℕ} {bytes x y : List ℕ} → Prints s before place bytes x → Prints s before place bytes y → x ≡ y
prints_same {s} {before} {place} {bytes} {x} {y} p q =
    let c = calls_same p.calls q.calls p.rest q.rest p.written q.written (sym p.whole ∙ q.whole) p.ends q.ends in
    let e : Last q.rest (place + length (bytes_in q.calls)) p.last =
    subst (λ (z : List Call). Last q.rest (place + length (bytes_in z)) p.last) c.0 (subst (λ (z : List ℕ). Last z (place + length (bytes_in p.calls)) p.last) c.1 p.ends) in
    p.is
    ∙ (ap₂ (λ (cs : List Call) (l : List ℕ). lines_behind before (history s (map (meant room) cs)) ++ l) c.0 (last_same e q.ends) ∙ sym q.is)

-- ---- the whole file

heads_same : {bytes : List ℕ} {a b : Header} {l m : ℕ} → HeaderRead bytes false (Ok (a, l)) → HeaderRead bytes false (Ok (b, m)) → (a ≡ b) × (l ≡ m)
heads_same {bytes} {a} {b} {l} {m} v w =
    let g = header_read_same bytes false (Ok (a, l)) (Ok (b, m)) v w in
    let e : ◌≡◌ {A = Header × ℕ} (a, l) (b, m) = cc in
    (ap (λ (x : Header × ℕ). x.0) e, ap (λ (x : Header × ℕ). x.1) e)

head_stops : {bytes : List ℕ} {a : Header} {l o : ℕ} {P : Type 0} → HeaderRead bytes false (Ok (a, l)) → HeaderRead bytes false (Err (Halt.Stop o)) → P
head_stops {bytes} {a} {l} {o} v w =
    let g = header_read_same bytes false (Ok (a, l)) (Err (Halt.Stop o)) v w in
    cc

abbrev line_of : Header → List ℕ
line_of h = set_up_line (set_up_result h.capacity)

-- LAW: two texts that are printed of a file are the same
pub file_same : {bytes x y : List ℕ} → PrintsFile bytes x → PrintsFile bytes y → x ≡ y
file_same {bytes} (S.stopped o v) (S.stopped p w) =
    let g = header_read_same bytes false (Err (Halt.Stop o)) (Err (Halt.Stop p)) v w in
    let h : o ≡ p = cc in
    ap stop_line h
file_same (S.stopped o v) (S.refused b m w n) = head_stops w v
file_same (S.stopped o v) (S.ran b m s x w z e q) = head_stops w v
file_same (S.refused a l v n) (S.stopped o w) = head_stops v w
file_same (S.refused a l v n) (S.refused b m w k) = ap line_of (heads_same v w).0
file_same (S.refused a l v n) (S.ran b m s x w z e q) = absurd (n (ap (λ (h : Header). set_up_result h.capacity) (heads_same v w).0 ∙ z))
file_same (S.ran a l s x v z e p) (S.stopped o w) = head_stops v w
file_same (S.ran a l s x v z e p) (S.refused b m w n) = absurd (n (sym (ap (λ (h : Header). set_up_result h.capacity) (heads_same v w).0) ∙ z))
file_same {bytes} (S.ran a l s x v z e p) (S.ran b m t y w u f q) =
    let h = heads_same v w in
    let g : some s ≡ some t = sym e ∙ (ap (λ (k : Header). set_up k.capacity k.start.0) h.0 ∙ f) in
    let i : s ≡ t = cc in
    let r : Prints t 0 m (drop m bytes) x = subst (λ (k : State). Prints k 0 m (drop m bytes) x) i (subst (λ (n : ℕ). Prints s 0 n (drop n bytes) x) h.1 p) in
    ap₂ (λ (k : Header) (out : List ℕ). line_of k ++ out) h.0 (prints_same r q)
