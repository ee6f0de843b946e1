-- Laws of written numbers: what bytes are worth, no written form is the beginning of another, and a number has one written form.
-- Assumes nothing.
use Prim.Native.Nat.{ℕ, zero, suc, ◌+◌, ◌*◌, ◌%◌, ◌^◌, ◌≤◌, ◌<◌}
use mathlib.Core.Path.{◌≡◌, refl, sym, ap, ap₂, ◌∙◌}
use mathlib.Core.Logic.{◌⊎◌, ◌≢◌, inl, inr, ⊎_elim}
use mathlib.Core.List.{List, [], ◌∷◌, ◌++◌, append_assoc}
use native.Mathlib.Omega.{arith}
use native.Mathlib.Nat.{pow-succ', mul_left_comm}
use lib.ListN.{length, get_or, take, drop, take-append-drop, length-append}
use lib.Seq.{length-take-le}
use Rattle.lists.specs.Holds.{All}
use Rattle.lists.proofs.Holding.{all_at}
use Rattle.std.specs.Prelude.{Result, Ok, Err}
use Rattle.groups.specs.declared.Unread.{Unread}
use Rattle.groups.specs.declared.Unread.TheVariants.{CutOff, Malformed}
use Rattle.groups.specs.Groups.{worth, High, Written, Begun, Stands, Reads}

pub worth_lt : (bs : List ℕ) → worth bs < 128 ^ length bs
worth_lt [] = omega arith
worth_lt (b ∷ bs) = omega (arith, worth_lt bs, pow-succ' 128 (length bs))

-- one more group
pub worth_snoc : (xs : List ℕ) (b : ℕ) → worth (xs ++ b ∷ []) ≡ worth xs + b % 128 * 128 ^ length xs
worth_snoc [] b = omega arith
worth_snoc (x ∷ xs) b =
    let e : b % 128 * 128 ^ suc (length xs) ≡ 128 * (b % 128 * 128 ^ length xs) = ap (λ p. b % 128 * p) (pow-succ' 128 (length xs)) ∙ mul_left_comm (b % 128) 128 (128 ^ length xs) in
    omega (arith, worth_snoc xs b)

-- the first byte whose high bit is not set ends a number
pub same_end : (f g : List ℕ) (l m : ℕ) (s t : List ℕ) → All High f → All High g → l < 128 → m < 128 → f ++ l ∷ s ≡ g ++ m ∷ t → (f ≡ g) × (l ≡ m)
same_end [] [] l m s t hf hg hl hm e = let q : l ≡ m = cc in (refl, q)
same_end [] (x ∷ g) l m s t hf hg hl hm e = absurd (let q : l ≡ x = cc in omega (arith, hg.0.set))
same_end (x ∷ f) [] l m s t hf hg hl hm e = absurd (let q : x ≡ m = cc in omega (arith, hf.0.set))
same_end (x ∷ f) (y ∷ g) l m s t hf hg hl hm e =
    let r : f ++ l ∷ s ≡ g ++ m ∷ t = cc in
    let ih = same_end f g l m s t hf.1 hg.1 hl hm r in
    (cc, ih.1)

-- the bytes left, at the end of the number that stands there
pub opened : {rest : List ℕ} {n len : ℕ} (w : Stands rest n len) → rest ≡ w.written.front ++ w.written.last ∷ drop len rest
opened {rest} {n} {len} w = sym (take-append-drop len rest) ∙ ap (λ (l : List ℕ). l ++ drop len rest) w.written.whole ∙ append_assoc w.written.front (w.written.last ∷ []) (drop len rest)

-- it has a byte
pub stands_some : {rest : List ℕ} {n len : ℕ} → Stands rest n len → 1 ≤ len
stands_some {rest} {n} {len} w = omega (arith, length-take-le len rest w.inside, simp length-append at (ap length w.written.whole))

same_bytes : {rest : List ℕ} {n m a b : ℕ} → Stands rest n a → Stands rest m b → take a rest ≡ take b rest
same_bytes {rest} {n} {m} {a} {b} v w =
    let f = v.written in
    let g = w.written in
    let e = same_end f.front g.front f.last g.last (drop a rest) (drop b rest) f.high g.high f.low g.low (sym (opened v) ∙ opened w) in
    f.whole ∙ ap₂ (λ (x : List ℕ) (y : ℕ). x ++ y ∷ []) e.0 e.1 ∙ sym g.whole

-- LAW: the bytes left begin with at most one written number: no written form is the beginning of another
pub stands_same : {rest : List ℕ} {n m a b : ℕ} → Stands rest n a → Stands rest m b → (n ≡ m) × (a ≡ b)
stands_same {rest} {n} {m} {a} {b} v w =
    let e = same_bytes v w in (
      sym v.written.value ∙ ap worth e ∙ w.written.value,
      sym (length-take-le a rest v.inside) ∙ ap length e ∙ length-take-le b rest w.inside,
    )

-- LAW: what is only the beginning of a number has no number at its beginning
pub stands_begun : {rest : List ℕ} {n len : ℕ} → Stands rest n len → Begun rest → ⊥
stands_begun {rest} {n} {len} w b =
    let h = all_at High w.written.front w.written.last (drop len rest) (rw (opened w) at b.high) in
    omega (arith, h.set, w.written.low)

-- LAW: two answers that reading may give are equal
pub reads_same : (rest : List ℕ) (a b : Result (ℕ × ℕ) Unread) → Reads rest a → Reads rest b → a ≡ b
reads_same rest (Ok (n, k)) (Ok (m, l)) v w = let e = stands_same v w in let f : n ≡ m = e.0 in let g : k ≡ l = e.1 in cc
reads_same rest (Ok (n, k)) (Err CutOff) v w = absurd (stands_begun v w)
reads_same rest (Ok (n, k)) (Err Malformed) v w = absurd (w.none n k v)
reads_same rest (Err CutOff) (Ok (m, l)) v w = absurd (stands_begun w v)
reads_same rest (Err CutOff) (Err CutOff) v w = refl
reads_same rest (Err CutOff) (Err Malformed) v w = absurd (w.over v)
reads_same rest (Err Malformed) (Ok (m, l)) v w = absurd (v.none m l w)
reads_same rest (Err Malformed) (Err CutOff) v w = absurd (v.over w)
reads_same rest (Err Malformed) (Err Malformed) v w = refl

-- a form that is not the shortest one of one byte is worth 1 and more
worth_pos : (f : List ℕ) (l : ℕ) → l < 128 → l ≢ 0 → 1 ≤ worth (f ++ l ∷ [])
worth_pos [] l h n = omega arith
worth_pos (x ∷ f) l h n = omega (arith, worth_pos f l h n)

shorter : {x l : ℕ} {f : List ℕ} → (x ∷ f ≡ []) ⊎ (l ≢ 0) → l ≢ 0
shorter s = ⊎_elim (λ e. absurd (let z : ◌≡◌ {A = ℕ} 0 1 = cc in omega arith)) (λ n. n) s

same_worth : (f g : List ℕ) (l m : ℕ) → All High f → All High g → l < 128 → m < 128 → (f ≡ []) ⊎ (l ≢ 0) → (g ≡ []) ⊎ (m ≢ 0) → worth (f ++ l ∷ []) ≡ worth (g ++ m ∷ []) → f ++ l ∷ [] ≡ g ++ m ∷ []
same_worth [] [] l m hf hg hl hm sf sg e = let q : l ≡ m = omega arith in ap {B = List ℕ} (λ x. x ∷ []) q
same_worth [] (y ∷ g) l m hf hg hl hm sf sg e = absurd (omega (arith, worth_pos g m hm (shorter sg)))
same_worth (x ∷ f) [] l m hf hg hl hm sf sg e = absurd (omega (arith, worth_pos f l hl (shorter sf)))
same_worth (x ∷ f) (y ∷ g) l m hf hg hl hm sf sg e =
    let q : x ≡ y = omega (arith, hf.0, hg.0) in
    let r : worth (f ++ l ∷ []) ≡ worth (g ++ m ∷ []) = omega arith in
    let ih = same_worth f g l m hf.1 hg.1 hl hm (inr (shorter sf)) (inr (shorter sg)) r in
    cc

-- LAW: a number has one written form
pub written_same : {n : ℕ} {a b : List ℕ} → Written n a → Written n b → a ≡ b
written_same {n} {a} {b} v w =
    let e : worth (v.front ++ v.last ∷ []) ≡ worth (w.front ++ w.last ∷ []) = sym (ap worth v.whole) ∙ v.value ∙ sym w.value ∙ ap worth w.whole in
    v.whole ∙ same_worth v.front w.front v.last w.last v.high w.high v.low w.low v.shortest w.shortest e ∙ sym w.whole

first_byte : (rest : List ℕ) (len n : ℕ) → take len rest ≡ n ∷ [] → get_or rest 0 0 ≡ n
first_byte [] zero n e = absurd (let z : ◌≡◌ {A = ℕ} 0 1 = ap length e in omega arith)
first_byte [] (suc k) n e = absurd (let z : ◌≡◌ {A = ℕ} 0 1 = ap length e in omega arith)
first_byte (b ∷ rest) zero n e = absurd (let z : ◌≡◌ {A = ℕ} 0 1 = ap length e in omega arith)
first_byte (b ∷ rest) (suc k) n e = cc

-- LAW: a number below 128 is its own first byte
pub stands_first : {rest : List ℕ} {n len : ℕ} → n < 128 → Stands rest n len → get_or rest 0 0 ≡ n
stands_first {rest} {n} {len} low s =
    first_byte rest len n (written_same s.written (record {
      front = [];
      last = n;
      whole = refl;
      high = tt;
      low = low;
      shortest = inl refl;
      short = omega arith;
      value = omega arith;
      below = omega arith;
    }))
